use Rattle.dn_flows.proofs.Words.{FlowQueue, Packets, Some, ap, arith, cond, false, get, inl, inr, is_some, option_map, sym, true, with_next, ◌+◌, ◌<◌, ◌∙◌, ◌≡◌}
use Rattle.dn_flows.proofs.Places.{eq-yes, eq-no}
use Rattle.dn_flows.proofs.flow_queue.FlowQueue.push_back.Goals as goal
use Rattle.dn_flows.proofs.flow_queue.FlowQueue.push_back.Goals.{then-self-eq0, else-self-eq0}

-- The packet is the first of its queue, or the last one names it.
pub returns-clause-appends : goal.returns-clause-appends
returns-clause-appends c = elim c.if-self-eq0.branch [
  | then-self-eq0 w ↦ record {
    key = c.insert_reserved-key.result;
    next = 0;
    free = c.insert_reserved-key.ensures.was_free;
    put = ap (λ (s : Packets). get s c.insert_reserved-key.result) w.store-is ∙ c.insert_reserved-key.ensures.updates.changed ∙ ap Some c.new.ensures;
    named = λ n some ne. let none = w.if-self-eq0.true in absurd (omega arith);
    others = λ other ne at. ap (λ (s : Packets). get s other) w.store-is ∙ c.insert_reserved-key.ensures.updates.others other ne;
    queue_is = λ i. record {
      front = (ap (λ (q : FlowQueue). q.front) w.self-is ∙ sym (ap (λ b. cond b c.insert_reserved-key.result c.args.self.now.front) (eq-yes c.args.self.now.len 0 w.if-self-eq0.true))) i;
      back = c.insert_reserved-key.result;
      len = (w.self-is i).len + 1;
      bytes = (w.self-is i).bytes + (c.from-bytes.ensures ∙ c.get.ensures.value) i;
      reserved = false;
      active = true;
      on_pipe = (w.self-is i).on_pipe;
      of_queue = (w.self-is i).of_queue;
      started = (w.self-is i).started;
      home = (w.self-is i).home;
    };
  }
  | else-self-eq0 w ↦ record {
    key = c.insert_reserved-key.result;
    next = 0;
    free = c.insert_reserved-key.ensures.was_free;
    put =
        ap (λ (s : Packets). get s c.insert_reserved-key.result) w.store-is
        ∙ w.name_next.ensures.others c.insert_reserved-key.result (λ e.
        let some : 0 < c.args.self.now.len = (let ne = w.if-self-eq0.false in omega arith) in
        let z : false ≡ true = sym (ap is_some c.insert_reserved-key.ensures.was_free) ∙ ap (λ k. is_some (get c.args.store.now k)) e ∙ c.requires.held some in
        absurd cc)
        ∙ c.insert_reserved-key.ensures.updates.changed
        ∙ ap Some c.new.ensures;
    named =
        λ n some ne. ap (λ (s : Packets). get s c.args.self.now.back) w.store-is ∙ w.name_next.ensures.named
        ∙ ap (option_map (with_next c.insert_reserved-key.result)) (c.insert_reserved-key.ensures.updates.others c.args.self.now.back ne);
    others = λ other ne at. ap (λ (s : Packets). get s other) w.store-is ∙ w.name_next.ensures.others other (elim at [
      | inl none ↦ absurd (w.if-self-eq0.false none)
      | inr elsewhere ↦ elsewhere
    ]) ∙ c.insert_reserved-key.ensures.updates.others other ne;
    queue_is = λ i. record {
      front = (ap (λ (q : FlowQueue). q.front) w.self-is ∙ sym (ap (λ b. cond b c.insert_reserved-key.result c.args.self.now.front) (eq-no c.args.self.now.len 0 w.if-self-eq0.false))) i;
      back = c.insert_reserved-key.result;
      len = (w.self-is i).len + 1;
      bytes = (w.self-is i).bytes + (c.from-bytes.ensures ∙ c.get.ensures.value) i;
      reserved = false;
      active = true;
      on_pipe = (w.self-is i).on_pipe;
      of_queue = (w.self-is i).of_queue;
      started = (w.self-is i).started;
      home = (w.self-is i).home;
    };
  }
]
