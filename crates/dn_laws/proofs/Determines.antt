-- The laws determine the emulator.
use Rattle.dn_laws.proofs.Words.{List, Option, [], arith, leb_tells, length, refl, subst, sym, ℕ, ⊎_elim, ◌<◌, ◌^◌, ◌∙◌, ◌∷◌, ◌≡◌}
use Rattle.dn_laws.proofs.LawWords.{Emulator, Readings, AnswersOneMore, ObeysTheLaws, pipe_under, IsBy, AreStarts, Settles, Link, Accepted, Start, Event, Call, Advance, Command, Rule, ToPipe}
use Rattle.dn_laws.proofs.SameCalls.{agree, told-one}
use Rattle.dn_laws.proofs.SameReadings.{same-readings}

-- At first nothing waits: an Advance would have to start it, and no pipe is in force.
none-waits : (rule : Rule) (e : Emulator) (E : ObeysTheLaws rule e) (link : Link) (flow : ℕ) → E.readings.queue link flow [] ≡ []
none-waits rule e E link flow = by settled.starts settled.are_starts (E.readings.queue link flow []) refl
  where
    settled : Settles E.readings (e.in_force []) link (e.clock (Advance 0 ∷ [])) [] (e.happened (Advance 0 ∷ []) link)
    settled = subst (λ (before : List Event). Settles E.readings (e.in_force []) link (e.clock (Advance 0 ∷ [])) before (e.happened (Advance 0 ∷ []) link))
        (E.nothing_happened link) ((E.one_more [] (omega arith)).links.settles 0 link)

    by : (starts : List Start) → AreStarts E.readings (e.in_force []) link (e.clock (Advance 0 ∷ [])) starts [] → (queue : List Accepted) →
        E.readings.queue link flow [] ≡ queue → queue ≡ []
    by starts h [] is = refl
    by [] h (p ∷ behind) is =
        let late : e.clock (Advance 0 ∷ []) < E.readings.free link [] = h flow p behind is in
        let free = E.are_readings.free_begins link in
        absurd (omega (arith, late, free))
    by (s ∷ starts) h (p ∷ behind) is = absurd (subst (λ (o : Option Command). IsBy o s) (E.force_begins (ToPipe (pipe_under link))) h.0.by_command)

pub laws-determine : (rule : Rule) (e f : Emulator) → ObeysTheLaws rule e → ObeysTheLaws rule f → (calls : List Call) (c : Call) → e.told calls c ≡ f.told calls c
laws-determine rule e f E F calls c = ⊎_elim (λ over. E.limit calls c over.1 ∙ sym (F.limit calls c over.1)) (λ under. few under.1) (leb_tells (2 ^ 62) (length calls))
  where
    readings : E.readings ≡ F.readings
    readings = same-readings rule E.readings F.readings E.are_readings F.are_readings (λ link flow. none-waits rule e E link flow ∙ sym (none-waits rule f F link flow))

    its : (calls : List Call) → length calls < 2 ^ 62 → AnswersOneMore rule E.readings f calls
    its calls lt = subst (λ (r : Readings). AnswersOneMore rule r f calls) (sym readings) (F.one_more calls lt)

    few : length calls < 2 ^ 62 → e.told calls c ≡ f.told calls c
    few lt = told-one rule E.readings e f E F E.one_more its calls lt (agree rule E.readings e f E F E.one_more its calls (omega (arith, lt))) c
