-- The link is the flow's own, or one that it shares alone so far.
use Rattle.dn_shaper.proofs.Words.{Carries, IsNewLink, List, OnlyRoom, Schedule, SharedLink, Target, [], ap, length, link_of, room_at, subst, sym, view_of, ℕ, ◌++◌, ◌<◌, ◌∙◌, ◌∷◌, ◌≡◌}
use Rattle.dn_shaper.proofs.Linked.{own-new, shared-new}
use Rattle.dn_shaper.proofs.room.make.new_link.Goals as goal
use Rattle.dn_shaper.proofs.room.make.new_link.Goals.{in-Pipe, in-Queue+in_ok-take_slot-in-Queue+in_ok-new-in-Queue}

pub returns : goal.returns
returns c queues none =
    let flow = c.args.flow in
    let pipe = c.args.key.now.pipe in
    let times = c.new-2.result in
    elim c.match-key.branch [
      | in-Pipe w ↦
          subst (λ (x : Target × Carries). IsNewLink (link_of x.0 flow pipe) flow (view_of queues (record { pipe = pipe; times = times; carries = x.1 })))
          (λ i. (sym w.in-Pipe.is i, sym w.carries-is i))
          (own-new queues flow pipe times c.new-2.ensures.free c.new-2.ensures.last_due none)
      | in-Queue+in_ok-take_slot-in-Queue+in_ok-new-in-Queue w ↦
          let block = w.in_ok-new-in-Queue.field-0 in
          let is : block.value ≡ w.take_slot.new.self = w.in_ok-new-in-Queue.ensures.ok in
          let took = w.in_ok-take_slot-in-Queue.ensures in
          let empty = w.new-shared.ensures.flows in
          let slots = ap (λ (s : SharedLink). s.flows.items) is ∙ took.flows ∙ ap (λ (fs : List ℕ). fs ++ flow ∷ []) empty in
          let only = subst (λ (x : Schedule × SharedLink). OnlyRoom x.0 x.1.sched) (λ i. (w.new-shared.ensures.sched i, sym is i)) took.only in
          let room = subst (λ (x : SharedLink × List ℕ). 0 < room_at x.0.sched.room (length x.1)) (λ i. (sym is i, empty i)) took.room in
          subst (λ (x : Target × Carries). IsNewLink (link_of x.0 flow pipe) flow (view_of queues (record { pipe = pipe; times = times; carries = x.1 })))
          (λ i. (sym w.in-Queue.is i, sym w.carries-is i))
          (shared-new queues flow pipe times c.new-2.ensures.free c.new-2.ensures.last_due block slots only room)
    ]
