-- Which replies have a list: those to a Collect and to a Show alone.
use Rattle.dn_service.proofs.Words.{Advance, Bool, Call, Collect, Command, Configure, Configured, DeletePipe, DeleteQueue, Deleted, Event, Exhausted, FitsRoom, IsRoomFor, List, NoSuchPipe}
use Rattle.dn_service.proofs.Words.{NoSuchQueue, Pipe, PipeHasQueues, Queue, Reply, Rule, Settings, Show, Submit, Verdict, arith, call_limit, command_reply, cond, counted_reply, effective_moment}
use Rattle.dn_service.proofs.Words.{false, has_queues, is_some, items_in, length, loses, max, nat_le, no_target, queue_numbers, refuses, reply, reply_to_verdict, settings, settled, trace_of, true}
use Rattle.dn_service.proofs.Words.{verdict, ℕ, ◌≤◌}
use Rattle.dn_types.specs.Calls.{takes}
use Rattle.dn_types.specs.declared.target.Target.TheVariants.{Pipe as ToPipe, Queue as ToQueue}

either_has : (P : Reply → Type 0) (b : Bool) (r s : Reply) → P r → P s → P (cond b r s)
either_has P true r s p q = p
either_has P false r s p q = q

module _ (d s : ℕ) where
  abbrev Has : Reply → Type 0
  Has = FitsRoom d s

  after_command : (in_force : Settings) (queues : List ℕ) (command : Command) → Has (command_reply in_force queues command)
  after_command in_force queues (Pipe number bw delay limit loss buckets mask) = tt
  after_command in_force queues (Queue number pipe weight limit loss buckets mask) = either_has Has (is_some (in_force (ToPipe pipe))) Configured NoSuchPipe tt tt
  after_command in_force queues (DeletePipe number) =
      let answered : Reply = cond (has_queues in_force queues number) PipeHasQueues Deleted in
      either_has Has (is_some (in_force (ToPipe number))) answered NoSuchPipe (either_has Has (has_queues in_force queues number) PipeHasQueues Deleted tt tt) tt
  after_command in_force queues (DeleteQueue number) = either_has Has (is_some (in_force (ToQueue number))) Deleted NoSuchQueue tt tt

  after_submit : (at : ℕ) (v : Verdict) (trace : List Event) → Has (reply_to_verdict at v trace)
  after_submit at no_target trace = tt
  after_submit at (loses link flow) trace = tt
  after_submit at (refuses link flow) trace = tt
  after_submit at (takes link flow how) trace = tt

  exhausted_or : (n : ℕ) (b : Bool) (r : Reply) → (items_in r ≤ n → Has r) → items_in (cond b Exhausted r) ≤ n → Has (cond b Exhausted r)
  exhausted_or n true r has few = tt
  exhausted_or n false r has few = has few

within : (m n d : ℕ) → m ≤ n → n ≤ d → m ≤ d
within m n d few room = omega arith

-- Where there is room for the items that the call may be answered with, there is room for its reply.
pub room_for : (rule : Rule) (calls : List Call) (c : Call) (n d s : ℕ) → items_in (reply rule calls c) ≤ n → IsRoomFor c n d s → FitsRoom d s (reply rule calls c)
room_for rule calls (Configure command) n d s few room =
    exhausted_or d s n (nat_le call_limit (length calls)) (counted_reply rule calls (Configure command)) (λ _. after_command d s (settings calls) (queue_numbers calls) command) few
room_for rule calls (Submit target packet moment) n d s few room =
    let at : ℕ = max (effective_moment calls) moment in
    let trace : List Event = settled (settings calls) at (trace_of calls) in
    exhausted_or d s n (nat_le call_limit (length calls)) (counted_reply rule calls (Submit target packet moment)) (λ _. after_submit d s at (verdict calls target packet trace) trace) few
room_for rule calls (Advance moment) n d s few room = exhausted_or d s n (nat_le call_limit (length calls)) (counted_reply rule calls (Advance moment)) (λ _. tt) few
room_for rule calls (Collect moment) n d s few room = exhausted_or d s n (nat_le call_limit (length calls)) (counted_reply rule calls (Collect moment)) (λ k. within _ n d k room) few
room_for rule calls Show n d s few room = exhausted_or d s n (nat_le call_limit (length calls)) (counted_reply rule calls Show) (λ k. within _ n s k room) few
