-- The link that is noted for the key is a shared one, and where none is noted the flow gets a new link.
use Rattle.dn_shaper.proofs.Words.{map, place_for, refl, sym, view_of, ◌∙◌}
use Rattle.dn_shaper.proofs.Sharing.{both-ok, houses-none, houses-some, if-ok}
use Rattle.dn_shaper.proofs.room.make.find_home.Goals as goal

pub share_link-requires : goal.share_link-requires
share_link-requires c = record { is_shared = (c.requires.noted.0, c.args.key.now.pipe, c.requires.noted.1 c.in-Some.place (sym c.place_for.ensures ∙ c.in-Some.is)) }

pub returns-in-Some-clause-houses : goal.returns-in-Some-clause-houses
returns-in-Some-clause-houses c queues none =
    if-ok c.share_link.result
    (λ home shares. houses-some c.args.key.now c.args.flow home (map (view_of queues) c.args.links.now.items)
    (map (view_of queues) c.share_link.new.links.items) c.args.heap.now c.args.shared.now c.args.shared.now
    (place_for c.args.key.now c.args.shared.now) c.in-Some.place (sym c.place_for.ensures ∙ c.in-Some.is) shares refl)
    (c.share_link.ensures.shares queues)

pub returns-in-None-clause-houses : goal.returns-in-None-clause-houses
returns-in-None-clause-houses c queues none =
    both-ok c.make_link.result
    (λ home opens notes. houses-none c.args.key.now c.args.flow home (map (view_of queues) c.args.links.now.items)
    (map (view_of queues) c.make_link.new.links.items) c.make_link.new.heap c.args.shared.now c.make_link.new.shared
    (place_for c.args.key.now c.args.shared.now) (sym c.place_for.ensures ∙ c.in-None.is) opens notes)
    (c.make_link.ensures.opens queues none) c.make_link.ensures.notes
