use Rattle.dn_replay.proofs.Words.{Bool, Fate, IsKeptOf, Kept, List, Option, Refusal, ap, arith, cond, drop, false, fate_line, get_or, is_accepted, is_none, is_some, length, not, on_err}
use Rattle.dn_replay.proofs.Words.{other_text, refl, subst, sym, true, ℕ, ◌++◌, ◌+◌, ◌<◌, ◌∙◌, ◌∷◌, ◌≡◌, ◌≤◌}
use Rattle.dn_replay.specs.declared.report.fate.Fate.TheVariants.{Accepted}
use Rattle.dn_replay.proofs.OtherSteps.{AreLeft, all-left, fewer-left, next-accepted, next-fate, no-more-fates, number-of, row-more, rows-end, text_from}
use Rattle.dn_replay.proofs.PartSteps.{line-added, same-text}
use Rattle.dn_replay.proofs.report.others.write_others.Goals as goal

-- The rows from a place on, of which the first is a fate.
left-at : (kept : Kept) (fates : List Fate) (place packet : ℕ) → IsKeptOf kept fates → place < length kept.accepted.items + length kept.refused.items
    → AreLeft kept place packet (drop place fates) → AreLeft kept place packet (get_or fates place (Accepted 0 0) ∷ drop (place + 1) fates)
left-at kept fates place packet is lt left = subst (AreLeft kept place packet) ((next-fate kept fates place (Accepted 0 0) is lt).1) left

pub add_other-requires : goal.add_other-requires
add_other-requires g c =
    let kept = c.args.kept.now in
    let (fates, is) = c.requires.kept in
    let lt = rw c.rows-rows.ensures at c.loop-place-test.true in
    let left = left-at kept fates c.loop-place.place c.loop-place.packet is lt (c.loop-place.invariant.left fates is) in
    let fate = get_or fates c.loop-place.place (Accepted 0 0) in
    let behind = drop (c.loop-place.place + 1) fates in
    record {
      room = omega (arith, c.loop-place.invariant.room, c.loop-place.invariant.short);
      numbered = λ none. (let said = rw c.as_slice-refused.ensures.value at (c.refusal_of-refusal.ensures fate behind) in
          rw c.as_slice-accepted.ensures.value
          (next-accepted kept.accepted.items c.loop-place.packet (c.loop-place.place + 1) fate behind (sym (said left.refused) ∙ none) left.accepted).0);
    }

pub next_number-packet-requires : goal.next_number-packet-requires
next_number-packet-requires g c = let numbered = c.loop-place.invariant.numbered in omega (arith, numbered, c.loop-place-test.true)

pub loop-place-init : goal.loop-place-init
loop-place-init g c = record {
  under_way = λ start before given fates is marks h. (before, h, refl);
  left = λ fates is. all-left c.args.kept.now fates is;
  numbered = omega arith;
  room = c.requires.room;
  short = c.requires.short;
  sound = c.requires.sound;
}

none-is : (o : Option Refusal) (b : Bool) → is_some o ≡ not b → b ≡ is_none o
none-is o true e = sym (ap not e)
none-is o false e = sym (ap not e)

no-further : (b : Bool) (packet place next : ℕ) → next ≡ cond b (packet + 1) packet → packet ≤ place → next ≤ place + 1
no-further true packet place next is le = omega (arith, is, le)
no-further false packet place next is le = omega (arith, is, le)

pub loop-place-preserved : goal.loop-place-preserved
loop-place-preserved g c =
    let kept = c.args.kept.now in
    let place = c.loop-place.place in
    let packet = c.loop-place.packet in
    let lt = rw c.rows-rows.ensures at c.loop-place-test.true in
    record {
      under_way = λ start before given fates is marks h.
          let so_far = c.loop-place.invariant.under_way start before given fates is marks h in
          let fate = get_or fates c.loop-place.place (Accepted 0 0) in
          let behind = drop (c.loop-place.place + 1) fates in
          let left = left-at kept fates place packet is lt (c.loop-place.invariant.left fates is) in
          let said = (rw c.as_slice-refused.ensures.value at (c.refusal_of-refusal.ensures fate behind)) left.refused in
          let items = (rw c.as_slice-accepted.ensures.value at (c.add_other.ensures.items given fate behind)) marks said left.accepted in
          let one = other_text (fate_line (c.loop-place.place + 1) c.loop-place.packet given fate) in
          let added = line-added start (g.O.Outlet.contents c.loop-place.out) c.loop-place.text.items c.add_other.new.text.items so_far.0 one items so_far.1 in
          let next = rw (none-is c.refusal_of-refusal.result c.is_none.result c.is_none.ensures, said) at c.next_number-packet.ensures ∙ number-of fate packet in (
            so_far.0 ++ one,
            c.in_ok-write_full_part.ensures.ok start (so_far.0 ++ one) added,
            rw next (row-more so_far.0 (before ++ text_from 0 0 given fates) place packet given fates (Accepted 0 0) (next-fate kept fates place (Accepted 0 0) is lt).0 so_far.2),
          );
      left = λ fates is.
          let fate = get_or fates c.loop-place.place (Accepted 0 0) in
          let behind = drop (c.loop-place.place + 1) fates in
          let left = left-at kept fates place packet is lt (c.loop-place.invariant.left fates is) in
          let said = (rw c.as_slice-refused.ensures.value at (c.refusal_of-refusal.ensures fate behind)) left.refused in
          let next = rw (none-is c.refusal_of-refusal.result c.is_none.result c.is_none.ensures, said) at c.next_number-packet.ensures in
          rw next (fewer-left kept place packet fate behind c.loop-place.invariant.numbered left);
      numbered = no-further _ packet place _ c.next_number-packet.ensures c.loop-place.invariant.numbered;
      room = omega (arith, c.loop-place.invariant.room, c.add_other.ensures.capacity, c.in_ok-write_full_part.ensures.capacity);
      short = c.in_ok-write_full_part.ensures.short;
      sound = c.in_ok-write_full_part.ensures.sound;
    }

pub returns-clause-ok : goal.returns-clause-ok
returns-clause-ok g c = λ start before given fates is marks h.
    let so_far = c.loop-place.invariant.under_way start before given fates is marks h in
    let past = rw c.rows-rows.ensures at c.loop-place-test.false in
    same-text start (g.O.Outlet.contents c.loop-place.out) c.loop-place.text.items so_far.0 (before ++ text_from 0 0 given fates)
    (rows-end so_far.0 (before ++ text_from 0 0 given fates) c.loop-place.place c.loop-place.packet given fates (no-more-fates c.args.kept.now fates c.loop-place.place is past) so_far.2) so_far.1

pub returns-in_err-write_full_part-clause-part : goal.returns-in_err-write_full_part-clause-part
returns-in_err-write_full_part-clause-part g c = on_err c.from_residual.result (λ start before given fates is marks h.
    let kept = c.args.kept.now in
    let place = c.loop-place.place in
    let packet = c.loop-place.packet in
    let lt = rw c.rows-rows.ensures at c.loop-place-test.true in
    let so_far = c.loop-place.invariant.under_way start before given fates is marks h in
    let fate = get_or fates c.loop-place.place (Accepted 0 0) in
    let behind = drop (c.loop-place.place + 1) fates in
    let left = left-at kept fates place packet is lt (c.loop-place.invariant.left fates is) in
    let said = (rw c.as_slice-refused.ensures.value at (c.refusal_of-refusal.ensures fate behind)) left.refused in
    let items = (rw c.as_slice-accepted.ensures.value at (c.add_other.ensures.items given fate behind)) marks said left.accepted in
    let one = other_text (fate_line (c.loop-place.place + 1) c.loop-place.packet given fate) in
    let added = line-added start (g.O.Outlet.contents c.loop-place.out) c.loop-place.text.items c.add_other.new.text.items so_far.0 one items so_far.1 in
    let failed = c.in_err-write_full_part.ensures.part start (so_far.0 ++ one) (text_from (place + 1) (cond (is_accepted fate) (packet + 1) packet) given fates) added in
    rw (row-more so_far.0 (before ++ text_from 0 0 given fates) place packet given fates (Accepted 0 0) (next-fate kept fates place (Accepted 0 0) is lt).0 so_far.2) at failed)
