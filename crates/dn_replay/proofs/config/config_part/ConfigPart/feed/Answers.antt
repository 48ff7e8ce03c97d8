use Rattle.dn_replay.proofs.Words.{IsConfigSoFar, List, ap, drop, joined_parts, subst, take, take_rest, ℕ, ◌++◌, ◌+◌, ◌∙◌}
use Rattle.std.proofs.lemmas.List as L
use Rattle.dn_replay.proofs.ConfigCuts.{at_byte, byte_more}
use Rattle.dn_replay.proofs.config.config_part.ConfigPart.feed.Goals as goal

pub returns-then-branch : goal.returns-then-branch
returns-then-branch c = λ text so_far more.
    let part = c.args.part.now in
    let i = c.loop-i.i in
    rw (take_rest part (i + 1)) (ap joined_parts (at_byte text part more i c.loop-i-test.true)
    ∙ c.in_ok-take_byte.ensures.marked c.if-branch.true (text ++ take i part) (c.loop-i.invariant text so_far) (drop (i + 1) part ++ more))

pub loop-i-preserved : goal.loop-i-preserved
loop-i-preserved c = λ text so_far.
    let part = c.args.part.now in
    let i = c.loop-i.i in
    subst (λ (t : List ℕ). IsConfigSoFar c.take_byte.new.self t) (byte_more text part i c.loop-i-test.true)
    (c.in_ok-take_byte.ensures.goes_on c.if-branch.false (text ++ take i part) (c.loop-i.invariant text so_far))

pub returns : goal.returns
returns c = λ text so_far.
    subst (λ (t : List ℕ). IsConfigSoFar c.loop-i.self (text ++ t)) (L.take_all c.loop-i.i c.args.part.now c.loop-i-test.false) (c.loop-i.invariant text so_far)
