-- Short lists of calls, each for a slip in the rules of flows and deletes that no worked example shows. The prover
-- computes the replies; those expected are of an independent reference.
use Rattle.dn_types.proofs.Words.{Collect, Configure, Configured, DeleteQueue, Deleted, Delivered, Lost, None, Ordered, Pipe, Queue, Queued, Show, Slots, Status, Submit, [], refl, ◌∷◌}
use Rattle.dn_types.proofs.ExampleWords.{Answers, ◌⇒◌, delivery, key, mask, no_mask, packet, pipe, queue, status, ten, to_pipe, to_queue, tuple, worded}
use Rattle.dn_types.specs.declared.target.Target.TheVariants.{Pipe as ToPipe, Queue as ToQueue}

-- A packet that is lost and would find a full queue is lost.
loss_before_limit : Answers Ordered (
    (pipe 1 8000000 0 ⇒ Configured) ∷
    (Configure (Queue 1 1 1 (Slots 1) 1073741824 None no_mask) ⇒ Configured) ∷
    (Submit (ToQueue 1) (worded 4294967295) 0 ⇒ Queued 0 0 0) ∷
    (Submit (ToQueue 1) (worded 3285235162) 0 ⇒ Queued 0 0 1) ∷
    (to_queue 1 0 ⇒ Lost 0 0) ∷
    [])
loss_before_limit = refl

-- A delete leaves the due moment that later packets of the link come after.
a_delete_keeps_the_last_due_moment : Answers Ordered (
    (pipe 1 8000000 20 ⇒ Configured) ∷
    (queue 3 1 1 ⇒ Configured) ∷
    (to_queue 3 0 ⇒ Queued 0 0 0) ∷
    (pipe 1 8000000 0 ⇒ Configured) ∷
    (queue 1 1 1 ⇒ Configured) ∷
    (Configure (DeleteQueue 3) ⇒ Deleted) ∷
    (to_queue 1 0 ⇒ Queued 0 1 1) ∷
    (Collect 4611686018427387904 ⇒ Delivered 4611686018427387904 (delivery 0 0 0 21000000 ∷ delivery 1 1 1000000 21000000 ∷ [])) ∷
    [])
a_delete_keeps_the_last_due_moment = refl

-- A delete leaves the moment at which the link is free again.
a_delete_keeps_the_link_busy : Answers Ordered (
    (pipe 1 8000000 0 ⇒ Configured) ∷
    (queue 3 1 1 ⇒ Configured) ∷
    (to_queue 3 0 ⇒ Queued 0 0 0) ∷
    (Configure (DeleteQueue 3) ⇒ Deleted) ∷
    (queue 3 1 1 ⇒ Configured) ∷
    (to_queue 3 0 ⇒ Queued 0 0 1) ∷
    (Show ⇒ Status (status 0 (key (ToQueue 3) 1 no_mask (tuple 0 0 0 0 0)) 1 1000 0 0 1 0 ∷ [])) ∷
    [])
a_delete_keeps_the_link_busy = refl

-- A queue's delete reaches its flows on the pipe that it had before.
a_delete_reaches_the_flows_of_a_moved_queue : Answers Ordered (
    (pipe 2 8000000 0 ⇒ Configured) ∷
    (queue 3 2 1 ⇒ Configured) ∷
    (pipe 1 8000000 0 ⇒ Configured) ∷
    (to_queue 3 0 ⇒ Queued 0 0 0) ∷
    (to_queue 3 0 ⇒ Queued 0 0 1) ∷
    (queue 3 1 1 ⇒ Configured) ∷
    (Configure (DeleteQueue 3) ⇒ Deleted) ∷
    (Collect 26000005 ⇒ Delivered 26000005 (delivery 0 0 0 1000000 ∷ [])) ∷
    [])
a_delete_reaches_the_flows_of_a_moved_queue = refl

-- The mask in force tells flows apart, also where the masked bits are the same.
a_new_mask_makes_a_new_flow : Answers Ordered (
    (pipe 1 8000000 0 ⇒ Configured) ∷
    (to_pipe 1 0 ⇒ Queued 0 0 0) ∷
    (Configure (Pipe 1 8000000 0 (Slots 50) 0 None (mask 0 3 0 0 0)) ⇒ Configured) ∷
    (Submit (ToPipe 1) (packet (tuple (ten 0 1) (ten 0 4) 17 1001 2000) 1000 0) 0 ⇒ Queued 0 1 1) ∷
    [])
a_new_mask_makes_a_new_flow = refl

-- A packet to a queue that has moved to another pipe is of a new flow.
a_moved_queue_makes_a_new_flow : Answers Ordered (
    (pipe 1 8000000 0 ⇒ Configured) ∷
    (pipe 2 8000000 0 ⇒ Configured) ∷
    (queue 1 1 1 ⇒ Configured) ∷
    (to_queue 1 0 ⇒ Queued 0 0 0) ∷
    (queue 1 2 1 ⇒ Configured) ∷
    (to_queue 1 0 ⇒ Queued 0 1 1) ∷
    [])
a_moved_queue_makes_a_new_flow = refl

-- A packet to a queue is not judged by the loss rate of the pipe.
a_queue_is_judged_by_itself : Answers Ordered (
    (Configure (Pipe 1 8000000 0 (Slots 50) 1073741824 None no_mask) ⇒ Configured) ∷
    (queue 2 1 1 ⇒ Configured) ∷
    (to_queue 2 0 ⇒ Queued 0 0 0) ∷
    [])
a_queue_is_judged_by_itself = refl
