-- Worked examples: deletes. The prover computes the replies.
use Rattle.dn_types.proofs.Words.{Advance, Advanced, Call, Collect, Configure, Configured, DeletePipe, DeleteQueue, Deleted, Delivered, FlowKey, List, NoSuchPipe, NoSuchQueue, NoTarget, Ordered}
use Rattle.dn_types.proofs.Words.{PipeHasQueues, Queued, Show, Status, [], map, refl, shared, trace_of, virtual_time, ℕ, ◌++◌, ◌∷◌, ◌≡◌}
use Rattle.dn_types.proofs.ExampleWords.{Answered, Answers, ◌⇒◌, call_of, delivery, key, no_mask, pipe, queue, status, to_pipe, to_queue, tuple}
use Rattle.dn_types.specs.declared.target.Target.TheVariants.{Queue as ToQueue}
use mathlib.Core.List.{reverse}

abbrev delete_pipe : ℕ → Call
delete_pipe number = Configure (DeletePipe number)

abbrev delete_queue : ℕ → Call
delete_queue number = Configure (DeleteQueue number)

-- The key of the one flow of a queue on a pipe.
abbrev queue_key : ℕ → ℕ → FlowKey
queue_key number on = key (ToQueue number) on no_mask (tuple 0 0 0 0 0)

-- A deleted queue's packets never start, and its finish tag is forgotten: with it, the last packet would go before the
-- one ahead of it.
a_deleted_queue : Answers Ordered (
    (pipe 1 8000000 0 ⇒ Configured) ∷
    (queue 1 1 1 ⇒ Configured) ∷
    (queue 2 1 1 ⇒ Configured) ∷
    (to_queue 1 0 ⇒ Queued 0 0 0) ∷
    (to_queue 1 0 ⇒ Queued 0 0 1) ∷
    (to_queue 2 0 ⇒ Queued 0 1 2) ∷
    (to_queue 2 0 ⇒ Queued 0 1 3) ∷
    (delete_pipe 1 ⇒ PipeHasQueues) ∷
    (delete_queue 2 ⇒ Deleted) ∷
    (Show ⇒ Status (status 0 (queue_key 1 1) 1 1000 0 0 1 0 ∷ status 1 (queue_key 2 1) 0 0 0 0 0 2 ∷ [])) ∷
    (to_queue 2 0 ⇒ NoTarget 0) ∷
    (queue 2 1 1 ⇒ Configured) ∷
    (to_queue 2 0 ⇒ Queued 0 1 4) ∷
    (to_queue 1 0 ⇒ Queued 0 0 5) ∷
    (Collect 4000000 ⇒ Delivered 4000000 (delivery 0 0 0 1000000 ∷ delivery 1 0 1000000 2000000 ∷ delivery 4 1 2000000 3000000 ∷ delivery 5 0 3000000 4000000 ∷ [])) ∷
    [])
a_deleted_queue = refl

-- A packet under way is not discarded with its pipe.
a_deleted_pipe : Answers Ordered (
    (delete_pipe 2 ⇒ NoSuchPipe) ∷
    (delete_queue 9 ⇒ NoSuchQueue) ∷
    (pipe 1 8000000 0 ⇒ Configured) ∷
    (to_pipe 1 0 ⇒ Queued 0 0 0) ∷
    (to_pipe 1 0 ⇒ Queued 0 0 1) ∷
    (delete_pipe 1 ⇒ Deleted) ∷
    (Collect 5000000 ⇒ Delivered 5000000 (delivery 0 0 0 1000000 ∷ [])) ∷
    (pipe 1 8000000 0 ⇒ Configured) ∷
    (to_pipe 1 5000000 ⇒ Queued 5000000 0 2) ∷
    [])
a_deleted_pipe = refl

-- A queue's delete reaches its flow on the present pipe, and the one that it left on the pipe before.
a_delete_of_a_moved_queue : Answers Ordered (
    (pipe 1 8000000 0 ⇒ Configured) ∷
    (pipe 2 8000000 0 ⇒ Configured) ∷
    (queue 3 2 1 ⇒ Configured) ∷
    (to_queue 3 0 ⇒ Queued 0 0 0) ∷
    (to_queue 3 0 ⇒ Queued 0 0 1) ∷
    (queue 3 1 1 ⇒ Configured) ∷
    (to_queue 3 0 ⇒ Queued 0 1 2) ∷
    (to_queue 3 0 ⇒ Queued 0 1 3) ∷
    (delete_queue 3 ⇒ Deleted) ∷
    (Show ⇒ Status (status 0 (queue_key 3 2) 0 0 0 0 1 1 ∷ status 1 (queue_key 3 1) 0 0 0 0 1 1 ∷ [])) ∷
    [])
a_delete_of_a_moved_queue = refl

-- A pipe that a queue has left can be deleted, and the queue's older flow is discarded with it.
a_delete_of_a_pipe_that_a_queue_left : Answers Ordered (
    (pipe 1 8000000 0 ⇒ Configured) ∷
    (pipe 2 8000000 0 ⇒ Configured) ∷
    (queue 3 2 1 ⇒ Configured) ∷
    (to_queue 3 0 ⇒ Queued 0 0 0) ∷
    (to_queue 3 0 ⇒ Queued 0 0 1) ∷
    (delete_pipe 2 ⇒ PipeHasQueues) ∷
    (queue 3 1 1 ⇒ Configured) ∷
    (to_queue 3 0 ⇒ Queued 0 1 2) ∷
    (to_queue 3 0 ⇒ Queued 0 1 3) ∷
    (delete_pipe 2 ⇒ Deleted) ∷
    (Collect 4000000 ⇒ Delivered 4000000 (delivery 0 0 0 1000000 ∷ delivery 2 1 0 1000000 ∷ delivery 3 1 1000000 2000000 ∷ [])) ∷
    [])
a_delete_of_a_pipe_that_a_queue_left = refl

-- At 2.5 ms a delete takes the last packet that waits for the link, which sends until 3 ms.
abbrev emptied : List Answered
emptied =
    (pipe 1 8000000 0 ⇒ Configured) ∷
    (queue 1 1 9 ⇒ Configured) ∷
    (queue 2 1 1 ⇒ Configured) ∷
    (to_queue 1 0 ⇒ Queued 0 0 0) ∷
    (to_queue 2 0 ⇒ Queued 0 1 1) ∷
    (to_queue 1 0 ⇒ Queued 0 0 2) ∷
    (to_queue 1 0 ⇒ Queued 0 0 3) ∷
    (Advance 2500000 ⇒ Advanced 2500000) ∷
    (delete_queue 1 ⇒ Deleted) ∷
    []

abbrev filled_again : List Answered
filled_again = emptied ++
    (queue 1 1 9 ⇒ Configured) ∷
    (queue 2 1 100 ⇒ Configured) ∷
    (to_queue 2 2500000 ⇒ Queued 2500000 1 4) ∷
    (to_queue 1 2500000 ⇒ Queued 2500000 0 5) ∷
    []

-- No busy period begins, so the finish tag of the other queue still counts: its packet, with the greater weight and the
-- lesser cost, isn't eligible at 3 ms.
a_delete_that_empties_a_link_that_sends : Answers Ordered (filled_again ++
    (Collect 9000000 ⇒ Delivered 9000000 (delivery 0 0 0 1000000 ∷ delivery 2 0 1000000 2000000 ∷ delivery 1 1 2000000 3000000 ∷ delivery 5 0 3000000 4000000 ∷ delivery 4 1 4000000 5000000 ∷ [])) ∷
    [])
a_delete_that_empties_a_link_that_sends = refl

-- Virtual time after a list, settled up to 3 ms.
abbrev virtual_time_after : List Answered → ℕ
virtual_time_after rows = virtual_time (shared 1) (trace_of (Advance 3000000 ∷ reverse (map call_of rows)))

-- And virtual time goes on from where it stood.
virtual_time_goes_on : map virtual_time_after (emptied ∷ filled_again ∷ []) ≡ 20388977 ∷ 20990224 ∷ []
virtual_time_goes_on = refl
