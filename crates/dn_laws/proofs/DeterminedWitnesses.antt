-- The laws that determine the emulator at an Advance to 5 ns, and at a history that tells it as a command.
use Rattle.dn_laws.proofs.Words.{[], refl, ◌∷◌, ◌≡◌, ◌≢◌}
use Rattle.dn_laws.proofs.LawWords.{Advance, Entry, Reply, Advanced, Configured, Ordered, Emulator, ObeysTheLaws, emulated}
use Rattle.dn_laws.proofs.Determines.{laws-determine}
use Rattle.dn_laws.proofs.LawsHold.{laws-hold, laws-give-the-replies, histories-by-the-laws, false-by-the-laws}

abbrev told-as : Reply → Entry
told-as r = record { caller = 0; call = Advance 5; reply = r }

module _ (e : Emulator) (obeys : ObeysTheLaws Ordered e) where
  as-the-definitions : e.told [] (Advance 5) ≡ (emulated Ordered).told [] (Advance 5)
  as-the-definitions = laws-determine Ordered e (emulated Ordered) obeys (laws-hold Ordered) [] (Advance 5)

  advances : e.told [] (Advance 5) ≡ Advanced 5
  advances = laws-give-the-replies Ordered e obeys [] (Advance 5)

  tells-the-lawful : Advanced 5 ≡ e.told [] (Advance 5)
  tells-the-lawful = ((histories-by-the-laws Ordered e obeys (told-as (Advanced 5) ∷ [])).0 (refl, tt)).0

  tells-no-false : Configured ≢ e.told [] (Advance 5)
  tells-no-false = (false-by-the-laws Ordered e obeys [] (told-as Configured) tt (λ (same : Configured ≡ Advanced 5). absurd cc)).1
