-- A `config` line from what its options say.
use Rattle.dn_config.proofs.Vocabulary.{Command, Err, Kind, LineFault, List, Ok, Options, Result, Setting, command_with, config_at, defaults, filled, group_settings, groups, read_options, refl, sym, ℕ}
use Rattle.dn_config.proofs.Vocabulary.{◌+◌, ◌∙◌, ◌≡◌}
use Rattle.dn_config.specs.Groups.{◌>>=◌}

module _ (k : Kind) (at n : ℕ) where
  then_command : (r : Result (List Setting) LineFault)
      → ◌>>=◌ {B = Command} r (λ ss. command_with k at n (filled defaults ss))
      ≡ ◌>>=◌ {B = Command} (◌>>=◌ {B = Options} r (λ ss. Ok (filled defaults ss))) (λ o. command_with k at n o)
  then_command (Ok ss) = refl
  then_command (Err x) = refl

  config_is : (place : ℕ) (ws : List (List ℕ)) → place ≡ at + 3 → config_at k at n ws ≡ ◌>>=◌ {B = Command} (read_options k defaults place ws) (λ o. command_with k at n o)
  unfolding read_options
  config_is place ws e = rw e (then_command (group_settings k (groups (at + 3) ws)))

  pub config_ok : (place : ℕ) (ws : List (List ℕ)) (o : Options) → place ≡ at + 3 → Ok o ≡ read_options k defaults place ws → command_with k at n o ≡ config_at k at n ws
  config_ok place ws o e h = sym (config_is place ws e ∙ rw (← h) refl)

  pub config_err : (place : ℕ) (ws : List (List ℕ)) (x : LineFault) → place ≡ at + 3 → Err x ≡ read_options k defaults place ws → Err x ≡ config_at k at n ws
  config_err place ws x e h = sym (config_is place ws e ∙ rw (← h) refl)
