use Rattle.dn_replay.proofs.Words.{All, AreCallersOf, Entry, [], ap, arith, calls_given, calls_of, length, rules, subst, sym, ◌<◌, ◌∙◌, ◌≡◌}
use Rattle.dn_replay.proofs.EachCaller.{callers_calls, callers_new, callers_of, new_length, nobody_absent}
use Rattle.dn_replay.proofs.callers.replay.history.Goals as goal

pub run_callers-requires : goal.run_callers-requires
run_callers-requires g c =
    let size : length c.args.opened.1.items ≡ c.args.n = ap length c.requires.callers ∙ new_length c.args.opened.0 0 c.args.n in
    let some = c.requires.count.0 in
    let some_callers : 0 < length c.args.opened.1.items = omega (arith, size, some) in
    search rules

pub close-requires : goal.close-requires
close-requires g c =
    let first : AreCallersOf c.args.opened.0 (λ _. []) 0 c.args.opened.1.items = subst (AreCallersOf c.args.opened.0 (λ _. []) 0) (sym c.requires.callers) (callers_new c.args.opened.0 0 c.args.n) in
    callers_of c.args.opened.0 _ 0 c.in_ok-callers.callers.items (c.in_ok-callers.ensures c.args.opened.0 first).1

pub unreachable-requires : goal.unreachable-requires
unreachable-requires g c =
    let first : AreCallersOf c.args.opened.0 (λ _. []) 0 c.args.opened.1.items = subst (AreCallersOf c.args.opened.0 (λ _. []) 0) (sym c.requires.callers) (callers_new c.args.opened.0 0 c.args.n) in
    let left = c.in_ok-callers.ensures c.args.opened.0 first in
    nobody_absent c.args.opened.0 (calls_given c.args.n (calls_of c.args.config.now) c.args.rows.now) c.in_ok-callers.callers.items left.1
    (left.0 ∙ (ap length c.requires.callers ∙ (new_length c.args.opened.0 0 c.args.n ∙ sym c.requires.count.1))) c.in_default.field-0.fault c.in_default.ensures.fault

pub returns : goal.returns
returns g c =
    let first : AreCallersOf c.args.opened.0 (λ _. []) 0 c.args.opened.1.items = subst (AreCallersOf c.args.opened.0 (λ _. []) 0) (sym c.requires.callers) (callers_new c.args.opened.0 0 c.args.n) in
    let left = c.in_ok-callers.ensures c.args.opened.0 first in
    let size : length c.in_ok-callers.callers.items ≡ c.args.n = left.0 ∙ (ap length c.requires.callers ∙ new_length c.args.opened.0 0 c.args.n) in
    let closes = c.in-Ok.ensures.ok in
    record {
      lawful = closes.lawful;
      callers = subst (λ n. All (λ (e : Entry). e.caller < n) c.in-Ok.closed.history.items) c.requires.count.1 closes.below;
      own = λ k lt. callers_calls c.args.opened.0
          (calls_given c.args.n (calls_of c.args.config.now) c.args.rows.now) c.in-Ok.closed.history.items 0 c.in_ok-callers.callers.items closes.accounts left.1 k (omega arith)
          (omega (arith, size, lt));
    }
