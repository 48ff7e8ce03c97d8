-- What is kept for a report stays over the calls of a configuration, since they submit no packet.
use Rattle.dn_replay.proofs.Words.{Call, Command, Configure, Err, HasKept, Kept, List, None, Ok, Option, Ordered, ReplayFault, Result, Some, [], applied, command_at, configured_by}
use Rattle.dn_replay.proofs.Words.{configured_from, lines_of, refusal, reply, subst, unless, ℕ, ◌+◌, ◌>>=◌, ◌∷◌, ◌≡◌}
use Rattle.dn_replay.proofs.KeptSteps.{kept-configured}

-- What follows calls that were accepted is what follows them.
accepted : (why : Option ReplayFault) (calls : List Call) (behind : List Call → Result (List Call) ReplayFault) (after : List Call) → (unless why calls >>= behind) ≡ Ok after → behind calls ≡ Ok after
accepted None calls behind after e = e
accepted (Some fault) calls behind after e = cc

-- What stays over a command, line by line.
module _ (Holds : List Call → Type 0) (stays : (calls : List Call) (command : Command) → Holds calls → Holds (Configure command ∷ calls)) where
  line_stays : (calls : List Call) (number : ℕ) (said : Result (Option Command) ReplayFault) (behind : List Call → Result (List Call) ReplayFault) (after : List Call)
      → ((next : List Call) → behind next ≡ Ok after → Holds next → Holds after) → (said >>= λ command. applied number calls command >>= behind) ≡ Ok after
      → Holds calls → Holds after
  line_stays calls number (Err fault) behind after rest e h = cc
  line_stays calls number (Ok None) behind after rest e h = rest calls e h
  line_stays calls number (Ok (Some command)) behind after rest e h =
      rest (Configure command ∷ calls) (accepted (refusal number (reply Ordered calls (Configure command))) (Configure command ∷ calls) behind after e) (stays calls command h)

  lines_stay : (calls : List Call) (number : ℕ) (lines : List (List ℕ)) (after : List Call) → configured_from calls number lines ≡ Ok after → Holds calls → Holds after
  unfolding configured_from
  lines_stay calls number [] after e h = let same : calls ≡ after = cc in subst Holds same h
  lines_stay calls number (line ∷ lines) after e h =
      line_stays calls number (command_at number line) (λ next. configured_from next (number + 1) lines) after (λ next f k. lines_stay next (number + 1) lines after f k) e h

pub kept-configuration : (kept : Kept) (text : List ℕ) (calls : List Call) → configured_by text ≡ Ok calls → HasKept kept [] → HasKept kept calls
kept-configuration kept text calls e h = lines_stay (HasKept kept) (kept-configured kept) [] 1 (lines_of text) calls e h
