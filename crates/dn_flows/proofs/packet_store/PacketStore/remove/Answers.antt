use Rattle.dn_flows.proofs.Words.{AreFree, List, Packets, ap, arith, length, subst, sym, ℕ, ◌-◌, ◌≡◌}
use Rattle.dn_flows.proofs.Free.{IsUsed, fewer-than-places, is-used, no-more-than-places, one-more-free, read-used}
use Rattle.dn_flows.proofs.packet_store.PacketStore.remove.Goals.{After-push_reserved}
use Rattle.dn_flows.proofs.packet_store.PacketStore.remove.Goals as goal

-- the place isn't free, so there are fewer free ones than places
pub push_reserved-requires : goal.push_reserved-requires
push_reserved-requires c =
    let here = is-used c.self.inside.free.items c.self.inside.places.items c.args.key (rw (← c.self.view_is) at c.requires) in
    let fewer = fewer-than-places c.self.inside.free.items c.args.key (length c.self.inside.places.items) c.self.invariant.0 here.within here.used in
    omega arith

-- A packet lies under the key.
here : (c : After-push_reserved) → IsUsed c.self.inside.free.items c.self.inside.places.items c.args.key
here c = is-used c.self.inside.free.items c.self.inside.places.items c.args.key (rw (← c.self.view_is) at c.requires)

pub index-requires : goal.index-requires
index-requires c =
    let within = (here (goal.at.index-requires c).After-push_reserved).within in
    omega arith

pub invariant_of-self : goal.invariant_of-self
invariant_of-self c =
    let used = here (goal.at.invariant_of-self c).After-push_reserved in
    let are =
    subst (λ (l : List ℕ). AreFree l (length c.self.inside.places.items)) (sym c.push_reserved.ensures.items)
    (one-more-free c.self.inside.free.items c.args.key (length c.self.inside.places.items) c.self.invariant.0 used.within used.used) in
    let fewer = no-more-than-places c.push_reserved.new.self.items (length c.self.inside.places.items) are in
    (are, fewer, omega arith, omega arith, omega arith, omega arith)

pub returns-clause-value : goal.returns-clause-value
returns-clause-value c =
    rw (← c.self.view_is) (read-used c.self.inside.free.items c.self.inside.places.items c.args.key c.index.result.now
    (here (goal.at.returns-clause-value c).After-push_reserved) c.index.ensures)

pub returns-clause-len : goal.returns-clause-len
returns-clause-len c =
    let used = here (goal.at.returns-clause-len c).After-push_reserved in
    let fewer = fewer-than-places c.self.inside.free.items c.args.key (length c.self.inside.places.items) c.self.invariant.0 used.within used.used in
    let len : c.args.self.now.len ≡ length c.self.inside.places.items - length c.self.inside.free.items = ap (λ (s : Packets). s.len) (sym c.self.view_is) in
    omega arith
