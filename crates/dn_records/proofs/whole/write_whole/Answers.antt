use Rattle.dn_records.proofs.Words.{Appends-trans, List, Some, arith, drop, false, length-drop, refl, suc, take-add, take_rest, write_fails, zero, ℕ, ◌<◌, ◌∙◌, ◌≡◌}
use Rattle.dn_records.proofs.whole.write_whole.Goals as goal

took : (n : ℕ) (buf : List ℕ) → 0 < n → write_fails (Some n) buf ≡ false
took zero buf h = absurd (omega arith)
took (suc n) buf h = refl

pub loop-at-preserved : goal.loop-at-preserved
loop-at-preserved g c =
    let at = c.loop-at.at in
    let text = c.args.text.now in
    let count = c.in-Some.count in
    let taken = rw (take_rest text at) at c.in-Some.ensures.bytes in
    let fine : write_fails (Some count) (drop at text) ≡ false = took count (drop at text) c.if-count-gt0.true in
    record {
      within = omega (arith, length-drop at text, c.loop-at-test.true, taken.0);
      sound = rw (take_rest text at) at c.in-Some.ensures.failed ∙ rw (c.loop-at.invariant.sound) fine;
      written = rw (take-add at count text) (Appends-trans _ _ _ _ _ c.loop-at.invariant.written taken.1);
    }
