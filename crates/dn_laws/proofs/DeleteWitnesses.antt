-- The laws of deletes, of commands and of isolation at an example: two packets to a queue of weight 4, one of which waits.
use Rattle.dn_laws.proofs.Words.{List, None, Some, [], arith, is_some, key, no_mask, pipe, queue, refl, slice_get, to_pipe, to_queue, true, worded, ◌∷◌, ◌≡◌}
use Rattle.dn_laws.proofs.LawWords.{trace_of, settings, kept_by, keys, free, reply, last_finish_tag, own, shared, backlog, Call, Configure, Advance, Queue, DeletePipe, DeleteQueue, Slots, NoTarget}
use Rattle.dn_laws.proofs.LawWords.{Configured, Deleted, PipeHasQueues, Ordered, ToPipe, ToQueue}
use Rattle.dn_laws.proofs.DropLaws.{none-unconfigured}
use Rattle.dn_laws.proofs.Elsewhere.{other-pipes-change-nothing}
use Rattle.dn_types.proofs.ExampleWords.{tuple}
use Rattle.dn_laws.proofs.Isolation.{pipe-delete-empties, queue-delete-spares, pipe-delete-spares, commands-move-nothing, commands-count, only-commands-count, queues-have-pipes}
use Rattle.dn_laws.proofs.Masks.{flows-have-their-keys}
use Rattle.dn_laws.proofs.Resets.{pipe-delete-resets}

abbrev weighted : List Call
weighted = queue 1 1 4 ∷ pipe 1 8000000 0 ∷ []

abbrev queued : List Call
queued = to_queue 1 0 ∷ to_queue 1 0 ∷ weighted

no_target : reply Ordered [] (to_pipe 1 0) ≡ NoTarget 0
no_target = none-unconfigured Ordered [] (ToPipe 1) (worded 0) 0 (omega arith) refl

its_key : slice_get (keys (to_queue 1 0 ∷ weighted)) 0 ≡ Some (key (ToQueue 1) 1 no_mask (kept_by no_mask (worded 0).tuple))
its_key = flows-have-their-keys Ordered weighted (ToQueue 1) (worded 0) 0 (Queue 1 1 4 (Slots 50) 0 None no_mask) no_mask 1 0 refl (refl, refl) refl

moves_nothing : free (shared 1) (trace_of (Configure (DeleteQueue 1) ∷ queued)) ≡ free (shared 1) (trace_of queued)
moves_nothing = (commands-move-nothing Ordered queued (DeleteQueue 1) (shared 1)).0

no_more_in_force : settings (Configure (DeleteQueue 1) ∷ queued) (ToQueue 1) ≡ None
no_more_in_force = (commands-count queued (DeleteQueue 1)).1 refl

-- The pipe can't be deleted under its queue.
still_in_force : settings (Configure (DeletePipe 1) ∷ queued) (ToPipe 1) ≡ settings queued (ToPipe 1)
still_in_force = (commands-count queued (DeletePipe 1)).2 (λ (e : PipeHasQueues ≡ Configured). absurd cc) (λ (e : PipeHasQueues ≡ Deleted). absurd cc)

-- A settling leaves the queue's command in force.
left_in_force : settings (Advance 5000000 ∷ queued) (ToQueue 1) ≡ Some (Queue 1 1 4 (Slots 50) 0 None no_mask)
left_in_force = only-commands-count queued (Advance 5000000) (ToQueue 1) (λ command (e : Advance 5000000 ≡ Configure command). absurd cc)

its_pipe : is_some (settings queued (ToPipe 1)) ≡ true
its_pipe = queues-have-pipes queued (ToQueue 1) 1 1 4 (Slots 50) 0 None no_mask refl

abbrev on_its_own : List Call
on_its_own = to_pipe 1 0 ∷ to_pipe 1 0 ∷ pipe 1 8000000 0 ∷ []

pipe_emptied : backlog (own 1 0) 0 (trace_of (Configure (DeletePipe 1) ∷ on_its_own)) ≡ []
pipe_emptied = pipe-delete-empties on_its_own 1 (own 1 0) 0 refl refl

pipe_forgotten : last_finish_tag (own 1 0) 0 (trace_of (Configure (DeletePipe 1) ∷ on_its_own)) ≡ 0
pipe_forgotten = pipe-delete-resets on_its_own 1 (own 1 0) [] [] (key (ToPipe 1) 1 no_mask (tuple 0 0 0 0 0)) refl refl refl

queue_spared : backlog (shared 1) 0 (trace_of (Configure (DeleteQueue 2) ∷ queued)) ≡ backlog (shared 1) 0 (trace_of queued)
queue_spared = queue-delete-spares queued 2 (shared 1) [] [] (key (ToQueue 1) 1 no_mask (tuple 0 0 0 0 0)) refl (λ (e : ToQueue 1 ≡ ToQueue 2). absurd cc)

pipe_spared : backlog (shared 1) 0 (trace_of (Configure (DeletePipe 2) ∷ queued)) ≡ backlog (shared 1) 0 (trace_of queued)
pipe_spared = pipe-delete-spares queued 2 (shared 1) [] [] (key (ToQueue 1) 1 no_mask (tuple 0 0 0 0 0)) refl (λ (e : 1 ≡ 2). absurd (omega arith))

by_the_clock : free (shared 1) (trace_of (Advance 5000000 ∷ pipe 2 8000000 0 ∷ queued)) ≡ free (shared 1) (trace_of (Advance 5000000 ∷ queued))
by_the_clock = (other-pipes-change-nothing Ordered (Advance 5000000 ∷ pipe 2 8000000 0 ∷ []) queued (shared 1) (tt, ((λ (e : 2 ≡ 1). absurd (omega arith)), tt))).1

-- And the queue's flow keeps the finish tag of its second packet.
its_tag : last_finish_tag (shared 1) 0 (trace_of (Advance 5000000 ∷ pipe 2 8000000 0 ∷ queued)) ≡ 32768000
its_tag =
    (other-pipes-change-nothing Ordered (Advance 5000000 ∷ pipe 2 8000000 0 ∷ []) queued (shared 1) (tt, ((λ (e : 2 ≡ 1). absurd (omega arith)), tt))).4 0
    (key (ToQueue 1) 1 no_mask (tuple 0 0 0 0 0)) refl refl
