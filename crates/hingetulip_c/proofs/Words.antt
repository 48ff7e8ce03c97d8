-- The words of libraries and of specs/ that the proofs of this crate use.
pub use Rattle.dn_files.proofs.ChunkRows.{left_behind, left_whole, none_used, told}
pub use Rattle.dn_files.proofs.Inputs.{carried}
pub use Rattle.dn_files.proofs.PacketParts.{begins_shorter}
pub use Rattle.dn_files.proofs.QuotedRows.{row_reads}
pub use Rattle.dn_files.specs.InChunks.{BeginsWith}
pub use Rattle.dn_files.specs.PacketParts.{rows_left}
pub use Rattle.dn_files.specs.QuotedRow.{row_at_front}
pub use Rattle.dn_files.specs.Reading.{IsFaultOf, ◌>>=◌}
pub use Rattle.dn_files.specs.declared.replay_fault.ReplayFault.{ReplayFault}
pub use Rattle.dn_files.specs.declared.replay_fault.ReplayFault.TheVariants.{BadRecord, OutOfMemory, TooLong}
pub use Rattle.dn_files.specs.declared.row.Row.{Row}
pub use Rattle.dn_history.specs.FileAudit.{HasCome, HasVerdict, IsUnfed}
pub use Rattle.dn_history.specs.HistoryFile.{history_in}
pub use Rattle.dn_history.specs.HistoryText.{entry_records, part_text}
pub use Rattle.dn_history.specs.declared.file_audit.file_audit.FileAudit.{FileAudit}
pub use Rattle.dn_records.proofs.TextSteps.{text-none, texts-more}
unfoldable pub use Rattle.dn_records.specs.Records.{text_of}
pub use Rattle.dn_service.proofs.Handing.{one_more_caller}
pub use Rattle.dn_service.specs.Callers.{CallerView, ServiceView, having_faced, having_lost, new_caller, new_callers}
pub use Rattle.dn_service.specs.Histories.{entry_of}
pub use Rattle.dn_service.specs.Lasting.{LastingView}
pub use Rattle.dn_shaper.specs.Refinement.Settings.{settings_of}
pub use Rattle.dn_shaper.specs.Room.{HasRoomBy, HasRoomFor, KeepsRoom, LeavesRoom}
pub use Rattle.dn_shaper.specs.Shaper.{items_in}
pub use Rattle.dn_shaper.specs.declared.state.State.{State}
pub use Rattle.dn_types.specs.Calls.{loses, no_target, refuses, takes}
pub use Rattle.dn_types.specs.Clock.{call_limit}
pub use Rattle.dn_types.specs.Flows.{Treatment, key_of, treatment}
pub use Rattle.dn_types.specs.History.{IsLawful, IsLawfulAfter}
pub use Rattle.dn_types.specs.Replies.{counted_reply, reply, reply_to_verdict}
pub use Rattle.dn_types.specs.Trace.{Event}
pub use Rattle.dn_types.specs.declared.call.Call.{Call}
pub use Rattle.dn_types.specs.declared.call.Call.TheVariants.{Advance, Collect, Show, Submit}
pub use Rattle.dn_types.specs.declared.entry.Entry.{Entry}
pub use Rattle.dn_types.specs.declared.five_tuple.FiveTuple.{FiveTuple}
pub use Rattle.dn_types.specs.declared.reply.Reply.{Reply}
pub use Rattle.dn_types.specs.declared.reply.Reply.TheVariants.{Exhausted}
pub use Rattle.dn_types.specs.declared.rule.Rule.{Rule}
pub use Rattle.dn_types.specs.declared.rule.Rule.TheVariants.{Ordered}
pub use Rattle.dn_types.specs.declared.target.Target.{Target}
pub use Rattle.dn_types.specs.declared.target.Target.TheVariants.{Pipe, Queue}
pub use Rattle.hingetulip_c.specs.Audits.{HoldsText, IsFound, c_verdict, unfed_status}
pub use Rattle.hingetulip_c.specs.Clients.{AnsweredBy, IsAnswered, RefusedBy, last_reply}
pub use Rattle.hingetulip_c.specs.Entries.{IsHistory, Lists, lists_in, nothing, sizes, with_entries}
pub use Rattle.hingetulip_c.specs.Handles.{After, AnswersHeld, CanLackMemory, HeldAfter, Holds, HoldsBoth, freed, owned_by}
pub use Rattle.hingetulip_c.specs.Lists.{c_delivery, c_flow, deliveries_of, flows_of}
pub use Rattle.hingetulip_c.specs.Many.{AreTold, reply_at, sent}
pub use Rattle.hingetulip_c.specs.Reasons.{statuses}
pub use Rattle.hingetulip_c.specs.Room.{AreAlike, HoldsRoomFor, IsOfNewFlow, StillRoomy}
pub use Rattle.hingetulip_c.specs.Rows.{HasCount, HasRead, c_packet}
pub use Rattle.hingetulip_c.specs.Services.{NotTaken, Opened, all_held, held_new, next_text, waiting}
pub use Rattle.hingetulip_c.specs.Statuses.{answered, collect_count, collect_status, list_count, list_status, show_count, show_status}
pub use Rattle.hingetulip_c.specs.Submits.{Faulty, InRange, fate_of, fate_status, submit_of}
pub use Rattle.hingetulip_c.specs.declared.caller_handle.CallerHandle.{CallerHandle}
pub use Rattle.hingetulip_c.specs.declared.client.Client.{Client}
pub use Rattle.hingetulip_c.specs.declared.ledger.Ledger.{Ledger}
pub use Rattle.hingetulip_c.specs.declared.records.c_delivery.CDelivery.{CDelivery}
pub use Rattle.hingetulip_c.specs.declared.records.c_entry.CEntry.{CEntry}
pub use Rattle.hingetulip_c.specs.declared.records.c_fate.CFate.{CFate}
pub use Rattle.hingetulip_c.specs.declared.records.c_flow.CFlow.{CFlow}
pub use Rattle.hingetulip_c.specs.declared.records.c_history.CHistory.{CHistory}
pub use Rattle.hingetulip_c.specs.declared.records.c_packet.CPacket.{CPacket}
pub use Rattle.hingetulip_c.specs.declared.records.c_verdict.CVerdict.{CVerdict}
pub use Rattle.std.proofs.Common.{Bool, Err, IsOk, List, None, Ok, Option, Result, Some, [], ap, arith, cond, drop, false, get_or, inl, inr, length, lit<, map, min, nat_eq, nat_le, refl}
pub use Rattle.std.proofs.Common.{replicate, reverse, rules, set, subst, suc, sym, take, true, true≢false, vec_len, zero, ℕ, ⊎_elim, ◌++◌, ◌+◌, ◌<◌, ◌==◌, ◌∙◌, ◌∷◌, ◌≡◌, ◌≢◌, ◌≤◌, ◌⊎◌}
pub use Rattle.std.proofs.Math.Seq.{take-length}
pub use Rattle.std.proofs.alloc.Calls.{Al, handle_tells}
pub use Rattle.std.proofs.cell.Inside.{Good}
pub use Rattle.std.proofs.lemmas.Bool.{cases_eq}
pub use Rattle.std.proofs.lemmas.Bool.Decides.{nat_tests}
pub use Rattle.std.proofs.lemmas.Grind.{common_steps, replicate_next}
pub use Rattle.std.proofs.lemmas.List.{drop-drop, drop-map, drop-set-lt, drop_all, drop_at, drop_min, get_or-drop, get_or-set_other, get_or-set_same, get_or_default, get_or_past, length-set}
pub use Rattle.std.proofs.lemmas.List.{length-take, length-take-le, length_push, map-append, reverse-append, take-map, take_at, take_min, take_more, take_more_set}
pub use Rattle.std.specs.Prelude.{MatchOption}
pub use Rattle.std.specs.Result.{is_ok}
pub use Rattle.std.specs.declared.alloc.Allocator.{Ghosts}
pub use Rattle.std_alloc.proofs.ResultValues.{and_tt}
pub use Rattle.std_alloc.specs.Box.Ownership.{box_owns}
