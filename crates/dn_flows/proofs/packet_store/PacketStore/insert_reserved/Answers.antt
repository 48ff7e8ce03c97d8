use Rattle.dn_flows.proofs.Words.{AreFree, List, StoredPacket, [], ap, arith, length, length-set, slice_get, subst, sym, ℕ, ◌∙◌, ◌≡◌}
use Rattle.dn_flows.proofs.Free.{under, same-but, under-all, there, not-free-now, still-free, put-here, put-elsewhere, none-at-end, none-left, other-than-last}
use Rattle.dn_flows.proofs.Places.{get-last}
use Rattle.dn_flows.proofs.packet_store.PacketStore.insert_reserved.Goals.{After-len-key}
use Rattle.dn_flows.proofs.packet_store.PacketStore.insert_reserved.Goals as goal

-- the last of the free keys is that of a place
pub index_mut-requires : goal.index_mut-requires
index_mut-requires c =
    let below =
    there c.pop.new.self.items c.in-Some.key (length c.self.inside.places.items)
    (subst (λ (l : List ℕ). AreFree l (length c.self.inside.places.items)) c.in-Some.ensures.items c.self.invariant.0) in
    omega arith

pub invariant_of-self : goal.invariant_of-self
invariant_of-self c =
    let are =
    still-free c.pop.new.self.items c.in-Some.key (length c.self.inside.places.items)
    (subst (λ (l : List ℕ). AreFree l (length c.self.inside.places.items)) c.in-Some.ensures.items c.self.invariant.0) in
    let same = length-set c.self.inside.places.items c.in-Some.key c.args.stored in
    (subst (AreFree c.pop.new.self.items) (sym same) are, omega arith, omega arith, omega arith, omega arith, omega arith)

pub returns-in-Some-clause-updates : goal.returns-in-Some-clause-updates
returns-in-Some-clause-updates c =
    let are = subst (λ (l : List ℕ). AreFree l (length c.self.inside.places.items)) c.in-Some.ensures.items c.self.invariant.0 in
    rw (← c.self.view_is) (record {
      changed =
          put-here c.pop.new.self.items c.self.inside.places.items c.in-Some.key c.args.stored
          (not-free-now c.pop.new.self.items c.in-Some.key (length c.self.inside.places.items) are)
          (there c.pop.new.self.items c.in-Some.key (length c.self.inside.places.items) are);
      others = λ other ne.
          put-elsewhere c.pop.new.self.items c.self.inside.places.items c.in-Some.key other c.args.stored ne
          ∙ sym (ap (λ (l : List ℕ). under l c.self.inside.places.items other) c.in-Some.ensures.items ∙ same-but c.pop.new.self.items c.self.inside.places.items c.in-Some.key other ne);
    })

-- No place is free, so the packet lies at a new one.
none : (c : After-len-key) → c.self.inside.free.items ≡ []
none c = none-left c.self.inside.free.items (omega (arith, c.in_default.ensures.cases, c.self.inside.free.ok.0))

place : (c : After-len-key) → c.len-key.result ≡ length c.self.inside.places.items
place c = omega (arith, c.len-key.ensures, c.self.inside.places.ok.0)

pub returns-clause-was_free : goal.returns-clause-was_free
returns-clause-was_free c =
    let w = (goal.at.returns-clause-was_free c).After-len-key in
    rw (← c.self.view_is)
    (under-all c.self.inside.free.items c.self.inside.places.items c.len-key.result (none w) ∙ ap (slice_get c.self.inside.places.items) (place w) ∙ none-at-end c.self.inside.places.items)

pub returns-clause-updates : goal.returns-clause-updates
returns-clause-updates c =
    let w = (goal.at.returns-clause-updates c).After-len-key in
    let none_now = none-left c.pop.new.self.items (omega (arith, c.in_default.ensures.cases, c.pop.new.self.ok.0)) in
    rw (← c.self.view_is) (record {
      changed =
          under-all c.pop.new.self.items c.push_reserved.new.self.items c.len-key.result none_now
          ∙ (λ i. slice_get (c.push_reserved.ensures.items i) (place w i))
          ∙ get-last c.self.inside.places.items c.args.stored;
      others = λ other ne.
          under-all c.pop.new.self.items c.push_reserved.new.self.items other none_now
          ∙ ap (λ (l : List StoredPacket). slice_get l other) c.push_reserved.ensures.items
          ∙ other-than-last c.self.inside.places.items c.args.stored other (λ e. ne (e ∙ sym (place w)))
          ∙ sym (under-all c.self.inside.free.items c.self.inside.places.items other (none w));
    })
