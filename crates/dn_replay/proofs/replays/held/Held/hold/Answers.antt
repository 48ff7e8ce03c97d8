use Rattle.dn_replay.proofs.Words.{on_ok_weaker, refl, ◌∷◌}
use Rattle.dn_replay.proofs.replays.held.Held.hold.Goals as goal

pub returns-in-Entries : goal.returns-in-Entries
returns-in-Entries c =
    on_ok_weaker c.add_entry.result (λ added calls unheld.
    let (stands, history, said, has) = rw c.in-Entries.is at unheld in
    rw c.in-Entries.is (refl, (added calls stands history said, has))) c.add_entry.ensures

pub returns-in-Given : goal.returns-in-Given
returns-in-Given c =
    on_ok_weaker c.collect_in_passing.result (λ passes calls unheld.
    rw c.in-Given.is (
      refl,
      λ few.
          let (can, has) = (rw c.in-Given.is at unheld) few in
          (passes (c.args.call ∷ calls) can, has),
    )) c.collect_in_passing.ensures
