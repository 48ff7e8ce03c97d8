-- The link at the place is shared, and the flow takes its next slot.
use Rattle.dn_shaper.proofs.Words.{KeepsAt, LinkView, List, map, refl, shared, slice_get, subst, sym, view_of}
use Rattle.dn_flows.proofs.Places.{map-set}
use Rattle.dn_shaper.proofs.Reserving.{link-reserved}
use Rattle.dn_shaper.proofs.Sharing.{on-err, read-name, read-view}
use Rattle.dn_shaper.proofs.room.make.share_link.Goals as goal

pub take_slot-requires : goal.take_slot-requires
take_slot-requires c =
    let is = c.requires.is_shared in
    record { is_shared = (is.0, is.1, read-name is.0 c.args.links.now.items c.args.place (shared is.1) c.index_mut.result.now is.2 c.index_mut.ensures.value) }

pub returns-clause-shares : goal.returns-clause-shares
returns-clause-shares c queues =
    let is = c.requires.is_shared in
    record {
      view = view_of queues c.index_mut.result.now;
      view' = view_of queues c.take_slot.new.link;
      there = read-view is.0 c.args.links.now.items c.args.place (shared is.1) c.index_mut.result.now is.2 c.index_mut.ensures.value queues;
      views_are = map-set (view_of queues) c.args.links.now.items c.args.place c.take_slot.new.link;
      takes = c.in_ok-slot.ensures.takes queues;
      place_is = refl;
      slot_is = c.in_ok-slot.ensures.slot queues;
    }

pub returns-in_err-slot-clause-err : goal.returns-in_err-slot-clause-err
returns-in_err-slot-clause-err c queues =
    let is = c.requires.is_shared in
    on-err c.from_residual.result (λ place.
    subst (λ (vs : List LinkView). KeepsAt (slice_get (map (view_of queues) c.args.links.now.items) place) (slice_get vs place))
    (sym (map-set (view_of queues) c.args.links.now.items c.args.place c.take_slot.new.link))
    (link-reserved (map (view_of queues) c.args.links.now.items) c.args.place (view_of queues c.index_mut.result.now) (view_of queues c.take_slot.new.link)
    (read-view is.0 c.args.links.now.items c.args.place (shared is.1) c.index_mut.result.now is.2 c.index_mut.ensures.value queues) (c.in_err-slot.ensures.err queues) place))
