use Rattle.dn_replay.proofs.Words.{arith, calls_of, length, length-set, rules, set, ◌<◌, ◌≡◌}
use Rattle.dn_replay.proofs.EachCaller.{all_length, callers_done}
use Rattle.dn_replay.proofs.callers.calls.run_callers.Goals as goal

pub returns : goal.returns
returns g c =
    let callers = c.args.callers.items in
    let left = c.in_ok-callers.callers.items in
    let some_callers : 0 < length callers = search rules in
    let size : length left ≡ length (set callers 0 c.repeat.new.caller) = all_length c.args.n c.args.rows.now (set callers 0 c.repeat.new.caller) left c.in_ok-callers.ensures in
    let kept = length-set callers 0 c.repeat.new.caller in
    let some_left : 0 < length left = omega (arith, some_callers, size, kept) in
    callers_done c.args.n (calls_of c.args.config.now) c.args.rows.now callers left _ c.repeat.new.caller _ c.collect.new.caller
    c.index_mut.ensures.value c.repeat.ensures.same c.in_ok-repeat.ensures.calls c.in_ok-callers.ensures c.index_mut-2.ensures.value c.collect.ensures.same c.in_ok-collect.ensures.calls
    some_callers some_left
