-- The report of a run is that of what is kept of it.
use Rattle.dn_replay.proofs.Words.{All-filter, All-nil, AreKnown, Bool, Call, CanReport, Collect, Delivery, Exhausted, Fate, Kept, List, Ordered, Refused, ReportLine, [], accepted_count}
use Rattle.dn_replay.proofs.Words.{accepted_row, all_untargeted, ap, append-nil, are_untargeted, arith, call_limit, cond, counted_reply, delivered, deliveries, delivery_line, effective_moment}
use Rattle.dn_replay.proofs.Words.{entry_after, false, fate_lines, filter, gives-in-order, gives-once, history_of, is_other, is_out, is_row, is_untargeted, kept_lines, lacks_target, length}
use Rattle.dn_replay.proofs.Words.{line_fields, lines_after, list_any, map, max, nat_eq, nat_le, nat_tests, not, outs_in_order, refl, refused_row, reply, report, report_header, row_number}
use Rattle.dn_replay.proofs.Words.{rows_kept, settings, settled, sorted_by, submit_lines, suc, sym, text_of, trace-proper, trace_of, true, undelivered-below, ℕ, ◌&&◌, ◌++◌, ◌+◌, ◌<◌, ◌==◌, ◌^◌}
use Rattle.dn_replay.proofs.Words.{◌||◌, ◌∙◌, ◌∷◌, ◌≡◌, ◌≤◌}
use Rattle.dn_types.specs.Deliveries.{given as given_at, undelivered}
use Rattle.dn_replay.specs.declared.report.fate.Fate.TheVariants.{Accepted}
use Rattle.dn_replay.proofs.Deliveries.{deliveries-append}
use Rattle.dn_replay.proofs.KeptOrder.{AreGiven, others-by-row, outs-as-given}
use Rattle.dn_replay.proofs.KeptSteps.{lines-push, other-row}
use Rattle.dn_replay.proofs.Accepting.{settled-accepts}

nothing-given : (n : ℕ) (given : List Delivery) → given ≡ [] → AreGiven n given
nothing-given n given none = rw none (record { numbers = All-nil (λ d. d.packet < n); once = λ packet. omega arith; in_order = tt })

-- What a Collect after the calls gives: packets that the calls accepted, each once, in order.
module _ (calls : List Call) (moment : ℕ) where
  pub counted-given : (n : ℕ) → accepted_count (trace_of calls) ≡ n
      → AreGiven n (given_at Ordered (max (effective_moment calls) moment) (settled (settings calls) (max (effective_moment calls) moment) (trace_of calls)))
  counted-given n count =
      let at = max (effective_moment calls) moment in
      let trace = settled (settings calls) (max (effective_moment calls) moment) (trace_of calls) in
      let few : accepted_count (settled (settings calls) (max (effective_moment calls) moment) (trace_of calls)) ≤ n =
      (let same = settled-accepts (settings calls) (max (effective_moment calls) moment) (trace_of calls) in omega (arith, same, count)) in
      record {
        numbers = All-filter (λ d. nat_le d.due at) (λ d. d.packet < n) (undelivered Ordered trace) (undelivered-below n Ordered trace (trace-proper (Collect moment ∷ calls)) few);
        once = λ packet. (let all = gives-once Ordered packet (Collect moment ∷ calls) in omega (arith, all));
        in_order = gives-in-order Ordered at trace;
      }

  pub reply-given : (n : ℕ) (given : List Delivery) → (length calls ≤ call_limit → accepted_count (trace_of calls) ≡ n) → given ≡ delivered (reply Ordered calls (Collect moment)) → AreGiven n given
  reply-given n given count is = by (nat_le call_limit (length calls)) refl is
    where
      by : (b : Bool) → nat_le call_limit (length calls) ≡ b → given ≡ delivered (cond b Exhausted (counted_reply Ordered calls (Collect moment))) → AreGiven n given
      by true e is = nothing-given n given is
      by false e is =
          let few : length calls ≤ call_limit = grind (arith, nat_tests) in
          rw is (counted-given n (count few))

-- ---- Rows without a target

with-target : (row : ℕ) (fates : List Fate)
    → list_any (λ f. not (is_untargeted f)) fates
    ≡ not (length (rows_kept accepted_row row fates) == 0) || list_any (λ r. not (lacks_target r.why)) (rows_kept refused_row row fates)
unfolding rows_kept
with-target row [] = refl
with-target row (Accepted flow at ∷ fates) = let more : nat_eq (suc (length (rows_kept accepted_row (row + 1) fates))) 0 ≡ false = grind (arith, nat_tests) in rw more refl
with-target row (Refused why ∷ fates) = rw (with-target (row + 1) fates) (turn (not (lacks_target why)) _ _)
  where
    turn : (a b c : Bool) → a || (b || c) ≡ b || (a || c)
    turn true true c = refl
    turn true false c = refl
    turn false b c = refl

without-target : (row : ℕ) (fates : List Fate) → list_any is_untargeted fates ≡ list_any (λ r. lacks_target r.why) (rows_kept refused_row row fates)
unfolding rows_kept
without-target row [] = refl
without-target row (Accepted flow at ∷ fates) = without-target (row + 1) fates
without-target row (Refused why ∷ fates) = ap (λ (b : Bool). lacks_target why || b) (without-target (row + 1) fates)

untargeted-rows : (fates : List Fate)
    → (not (list_any (λ f. not (is_untargeted f)) fates) && list_any is_untargeted fates)
    ≡ ((length (rows_kept accepted_row 1 fates) == 0)
    && (not (list_any (λ r. not (lacks_target r.why)) (rows_kept refused_row 1 fates)) && list_any (λ r. lacks_target r.why) (rows_kept refused_row 1 fates)))
untargeted-rows fates =
    rw (with-target 1 fates, without-target 1 fates)
    (parts (length (rows_kept accepted_row 1 fates) == 0) (list_any (λ r. not (lacks_target r.why)) (rows_kept refused_row 1 fates)) _)
  where
    parts : (a b c : Bool) → (not (not a || b) && c) ≡ (a && (not b && c))
    parts true b c = refl
    parts false b c = refl

-- The last Collect has no line.
last-line : (calls : List Call) (ds : List Delivery) → lines_after 1 ds [] (history_of (Collect (2 ^ 62) ∷ calls)) ≡ lines_after 1 ds [] (history_of calls)
unfolding history_of
last-line calls ds = lines-push 1 ds [] (history_of calls) (entry_after calls (Collect (2 ^ 62))) ∙ append-nil (lines_after 1 ds [] (history_of calls))

module _ (kept : Kept) (given : List Delivery) (calls : List Call) (h : CanReport kept given calls) where
  pub are-given : AreGiven (length kept.accepted.items) given
  are-given = reply-given calls (2 ^ 62) (length kept.accepted.items) given h.kept_is.numbers h.given_is

  pub are-known : AreKnown kept given
  are-known = are-given.numbers

  all-deliveries : deliveries (history_of (Collect (2 ^ 62) ∷ calls)) ≡ given
  unfolding history_of
  all-deliveries = deliveries-append (history_of calls) (entry_after calls (Collect (2 ^ 62))) ∙ rw (h.kept_is.undelivered) (sym h.given_is)

  -- The lines of a run are those of what is kept.
  all-lines : submit_lines 1 (history_of (Collect (2 ^ 62) ∷ calls)) ≡ fate_lines 1 0 given h.kept_is.fates
  all-lines =
      ap (λ (ds : List Delivery). lines_after 1 ds [] (history_of (Collect (2 ^ 62) ∷ calls))) all-deliveries
      ∙ last-line calls given
      ∙ h.kept_is.lines given

  pub report-is-kept : report 1 (history_of (Collect (2 ^ 62) ∷ calls)) ≡ text_of (report_header ∷ map line_fields (kept_lines kept h.kept_is.fates given))
  unfolding report
  report-is-kept =
      let outs = outs-as-given kept.accepted.items h.kept_is.fates given h.kept_is.is_of.accepted are-given in
      let others = others-by-row given h.kept_is.fates in
      ap (λ (ls : List ReportLine). text_of (report_header ∷ map line_fields (outs_in_order (filter is_out ls) ++ sorted_by row_number (filter is_other ls)))) all-lines
      ∙ ap (λ (ls : List ReportLine). text_of (report_header ∷ map line_fields (ls ++ sorted_by row_number (filter is_other (fate_lines 1 0 given h.kept_is.fates))))) outs
      ∙ ap (λ (ls : List ReportLine). text_of (report_header ∷ map line_fields (map (delivery_line kept.accepted.items) given ++ ls))) others

  -- Whether no row has a target is told by what is kept.
  pub untargeted-is-kept : all_untargeted (history_of (Collect (2 ^ 62) ∷ calls)) ≡ are_untargeted kept
  unfolding history_of
  untargeted-is-kept =
      rw (row (λ f. not (is_untargeted f)), row is_untargeted) (untargeted-rows h.kept_is.fates ∙ rw (h.kept_is.is_of.accepted, h.kept_is.is_of.refused) refl)
    where
      row : (test : Fate → Bool) → list_any (is_row test) (history_of (Collect (2 ^ 62) ∷ calls)) ≡ list_any test h.kept_is.fates
      row test = other-row test (history_of calls) (entry_after calls (Collect (2 ^ 62))) refl ∙ h.kept_is.rows test
