-- The words of libraries and of specs/ that the proofs of this crate use.
pub use Rattle.atomic_table.proofs.Lists.{at_last, at_longer, at_set, set_again, set_else}
pub use Rattle.atomic_table.specs.Seated.{TableId}
pub use Rattle.atomic_table.specs.Table.{Allows, Enters, Joins, Splits, State, gives, keeps, opening, rest, step, stepped}
pub use Rattle.dn_service.specs.Accounts.{Account, Each, Has, faced_in, faces, front_in, lost_in, met_by, new_account, new_accounts, note, own_in, times, up_to_date}
pub use Rattle.dn_service.specs.Callers.{Answered, CallerView, Closes, IsAccountedFor, IsFaced, IsOf, IsSameCaller, KeepsSeen, ServiceView, accounts_of, has_number, having_faced, having_lost}
pub use Rattle.dn_service.specs.Callers.{lost_to, new_caller, new_callers}
pub use Rattle.dn_service.specs.Histories.{AreBelow, StartsWith, entry_of}
pub use Rattle.dn_service.specs.Lasting.{LastingView, Learns, SeenView, Takes, caller_at}
pub use Rattle.dn_service.specs.Pasts.{BookView, IsCount, Keeps, Past, all_shed, no_past, with_entry}
pub use Rattle.dn_service.specs.Rooms.{FitsRoom, IsRoomFor}
pub use Rattle.dn_service.specs.Rule.{Faces, Follows, IsHome, SeatFits, SeatRule, Sits}
pub use Rattle.dn_service.specs.Seats.{IsCallerSeat, IsKeeperOf, SeatState, SeatView, Slot, first_seat, joined, keeping, met_in_all, only_first, seat_with, shed_in, sitting, spent, with_faced}
pub use Rattle.dn_service.specs.Seats.{with_history, with_loss, with_shed, with_taken, without_first}
pub use Rattle.dn_service.specs.Steps.{Knows, emptied, learnt, published, read, returned, tried, vacant}
pub use Rattle.dn_service.specs.Tokens.{as_it_was, having_seen, learned, longer, told_of, witness, witness_of}
pub use Rattle.dn_service.specs.Wakes.{IsWakeOf, Wakes}
pub use Rattle.dn_service.specs.declared.book.Pages.{Pages}
pub use Rattle.dn_shaper.specs.Shaper.{StandsAfter, items_in}
pub use Rattle.dn_types.proofs.Histories.{calls_of-more, lawful-more}
pub use Rattle.dn_types.specs.Calls.{Verdict, loses, no_target, refuses, trace_of, verdict}
pub use Rattle.dn_types.specs.Clock.{call_limit, effective_moment}
pub use Rattle.dn_types.specs.Configuration.{Settings, command_reply, has_queues, queue_numbers, settings}
pub use Rattle.dn_types.specs.History.{IsLawful, calls_of, own_entries}
pub use Rattle.dn_types.specs.Replies.{counted_reply, reply, reply_to_verdict}
pub use Rattle.dn_types.specs.Starts.{settled}
pub use Rattle.dn_types.specs.Trace.{Event}
pub use Rattle.dn_types.specs.declared.call.Call.{Call}
pub use Rattle.dn_types.specs.declared.call.Call.TheVariants.{Advance, Collect, Configure, Show, Submit}
pub use Rattle.dn_types.specs.declared.command.Command.{Command}
pub use Rattle.dn_types.specs.declared.command.Command.TheVariants.{DeletePipe, DeleteQueue, Pipe, Queue}
pub use Rattle.dn_types.specs.declared.entry.Entry.{Entry}
pub use Rattle.dn_types.specs.declared.reply.Reply.{Reply}
pub use Rattle.dn_types.specs.declared.reply.Reply.TheVariants.{Configured, Deleted, Exhausted, NoSuchPipe, NoSuchQueue, PipeHasQueues}
pub use Rattle.dn_types.specs.declared.rule.Rule.{Rule}
pub use Rattle.dn_types.specs.declared.rule.Rule.TheVariants.{Ordered}
pub use Rattle.std.proofs.Common.{All, Bool, Err, List, None, Ok, OnErr, Option, Result, Some, [], ap, append-nil, append_assoc, arith, cond, drop, eq-eqb, eqb, false, get_or, get_or-set_same}
pub use Rattle.std.proofs.Common.{inl, inr, is_some, length, length-append, length-set, map, max, nat_le, ne_eqb, refl, rules, set, subst, suc, sym, take, true, vec_capacity, vec_len, zero, ℕ}
pub use Rattle.std.proofs.Common.{⊎_elim, ◌++◌, ◌+◌, ◌-◌, ◌<◌, ◌^◌, ◌∙◌, ◌∷◌, ◌≡◌, ◌≢◌, ◌≤◌, ◌⊎◌}
pub use Rattle.std.proofs.Math.Seq.{get_or-append_seam}
pub use Rattle.std.proofs.lemmas.Bool.Decides.{nat_tests}
pub use Rattle.std.proofs.lemmas.List.{map-append}
pub use Rattle.std.proofs.lemmas.List.Elements.{All-append, All-cons, All-nil, filter-append}
pub use Rattle.std.specs.Prelude.{nat_eq}
