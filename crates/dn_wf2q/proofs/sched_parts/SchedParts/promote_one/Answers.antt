use Rattle.dn_wf2q.proofs.Words.{All-contains, RankView, ap, arith, false, is_lt, length_permutation, rank_cmp, ◌≡◌}
use Rattle.dn_wf2q.proofs.Ranks.{not_before}
use Rattle.dn_wf2q.proofs.Promoted.{free, listed, has_room, moved, numbered, tag_fits}
use Rattle.dn_wf2q.proofs.sched_parts.SchedParts.promote_one.Goals as goal

pub index-requires : goal.index-requires
index-requires c =
    let l = listed c.args.self.now c.requires.kept c.in-Some-pop.first c.slot-slot.result c.slot-slot.ensures.value c.pop.new.self c.in-Some-pop.ensures.keys in
    omega (arith, c.args.self.now.flows.ok.0)

-- A finish tag fits a key.
pub new-requires-clause-tag : goal.new-requires-clause-tag
new-requires-clause-tag c =
    tag_fits c.args.self.now c.requires.kept c.in-Some-pop.first c.slot-slot.result c.slot-slot.ensures.value c.pop.new.self c.in-Some-pop.ensures.keys
    c.index.result.now c.index.ensures c.finish_tag-finish_tag.result c.finish_tag-finish_tag.ensures.value

pub push_reserved-requires-clause-reserved : goal.push_reserved-requires-clause-reserved
push_reserved-requires-clause-reserved c = has_room c.args.self.now c.requires.kept c.in-Some-pop.first c.slot-slot.result c.slot-slot.ensures.value c.pop.new.self c.in-Some-pop.ensures.keys

pub push_reserved-requires-clause-numbered : goal.push_reserved-requires-clause-numbered
push_reserved-requires-clause-numbered c =
    rw c.new.ensures.value (numbered c.args.self.now c.requires.kept c.in-Some-pop.first c.slot-slot.result c.slot-slot.ensures.value c.pop.new.self c.in-Some-pop.ensures.keys)

pub push_reserved-requires-clause-free : goal.push_reserved-requires-clause-free
push_reserved-requires-clause-free c =
    rw c.new.ensures.value (free c.args.self.now c.requires.kept c.in-Some-pop.first c.slot-slot.result c.slot-slot.ensures.value c.pop.new.self c.in-Some-pop.ensures.keys)

-- The key that left is not above the one that was looked at.
pub returns-in-Some-pop-clause-kept : goal.returns-in-Some-pop-clause-kept
returns-in-Some-pop-clause-kept c =
    let k = c.in-Some-pop.first in
    let top = c.in-Some.top.now in
    let low = (not_before k top (All-contains (λ y. is_lt (rank_cmp y k) ≡ false) c.args.self.now.waiting.keys top c.in-Some-pop.ensures.least c.in-Some.ensures.held)).0 in
    let tag = c.tag.ensures.value in
    let e = c.new.ensures.value in
    moved c.args.self.now c.requires.kept k c.slot-slot.result c.slot-slot.ensures.value c.pop.new.self c.in-Some-pop.ensures.keys
    c.index.result.now c.index.ensures c.finish_tag-finish_tag.result c.new.result c.push_reserved.new.self c.finish_tag-finish_tag.ensures.value
    (omega arith) (ap (λ (x : RankView). x.slot) e) (ap (λ (x : RankView). x.tag) e) c.push_reserved.ensures.keys
    c.push_reserved.ensures.room c.push_reserved.ensures.moves c.in-Some-pop.ensures.room c.pop.ensures.keeps_moves

pub returns-in-Some-pop-clause-fewer : goal.returns-in-Some-pop-clause-fewer
returns-in-Some-pop-clause-fewer c = λ e. let l = length_permutation _ _ c.in-Some-pop.ensures.keys in omega (arith, l)
