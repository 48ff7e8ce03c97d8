-- The words of the definition and of the laws that several proofs here use, passed on so that a proof imports them from one place.
-- Each line says which file defines its words. Lemmas, the library's words, and words of a single proof are imported from their own files.
pub use Rattle.dn_laws.specs.ConfiguredLaws.{StaysInForce}
pub use Rattle.dn_laws.specs.Determined.Emulators.{AreReadings, Emulator, GrowsBy, Has, IsFirst, IsOf, IsRaised, Readings, answers, weights}
pub use Rattle.dn_laws.specs.Determined.Laws.{AnswersOneMore, IsWeight, ObeysTheLaws, about, key_by}
pub use Rattle.dn_laws.specs.Determined.Links.{AreStarts, IsBy, IsPick, IsStart, IsTaggedBy, IsTransmission, Joins, Settles, discards, pipe_under}
pub use Rattle.dn_laws.specs.Determined.Reports.{ComeInOrder, ComesBefore, GivesNot, IsGivenBy, IsStateBy, link_to, starts_of}
pub use Rattle.dn_laws.specs.Divided.{AreDivided, IsOfOnePart, links_of, own_of}
pub use Rattle.dn_laws.specs.Emulated.{emulated, is_on, on_link}
pub use Rattle.dn_laws.specs.Explained.{IsAtBandwidth, IsAtLimit, IsDeliveryOf, IsDueBy, IsExplained, IsJudgedBy, IsStartBy, IsTagged, sent}
pub use Rattle.dn_laws.specs.FlowLaws.{AgreeUnder, IsMaskedBy, flow_told, kept_by}
pub use Rattle.dn_laws.specs.KeptLaws.{IsApart, IsNoOpening, IsNoStart}
pub use Rattle.dn_laws.specs.KeptLaws.{AreElsewhere, IsCommandElsewhere, IsElsewhere}
pub use Rattle.dn_laws.specs.PacketLaws.{IsAccepted, IsDelete}
pub use Rattle.dn_laws.specs.PartLaws.{IsTimed}
pub use Rattle.dn_laws.specs.Parts.{Choice, calls_on, is_carried, is_flow_of, is_flow_on, is_key_on, is_link_on, is_packet_on, is_some_key_on, of_pipe, part, part_of, place}
pub use Rattle.dn_laws.specs.Replays.{AreCommands, own_calls}
pub use Rattle.dn_laws.specs.ReplyLaws.{HasStarted, IsDelivered, IsStateOf, IsToldBy}
pub use Rattle.dn_laws.specs.ReplyParts.{is_told, reply_by, reply_on}
pub use Rattle.dn_laws.specs.TimeLaws.{IsDelayed}
pub use Rattle.dn_laws.specs.Told.{HasQueue, IsCarriedBy, IsThere, is_arrival_of, is_full_of, is_lost_of, is_queued, is_queued_of, moment_told, times_in, times_told}
pub use Rattle.dn_laws.specs.WaitLaws.{IsAtMost, ahead, free_from, sending, starting}
pub use Rattle.dn_types.specs.Bounds.{HasBoundedCounts}
pub use Rattle.dn_types.specs.Calls.{Verdict, accept, after_command, after_verdict, discard_reached, join, link_of, loses, no_target, reaches, refuses, takes, trace_of, verdict, verdict_by}
pub use Rattle.dn_types.specs.Clock.{call_limit, effective_moment, moment_of}
pub use Rattle.dn_types.specs.Configuration.{Settings, command_reply, has_queues, is_queue_of, queue_numbers, reply_to_command, setting_after, settings, subject, target_eq}
pub use Rattle.dn_types.specs.Deliveries.{AreInOrder, delivery_of, given, undelivered}
pub use Rattle.dn_types.specs.Drops.{is_full, is_lost}
pub use Rattle.dn_types.specs.Flows.{Treatment, flow_number, key_eq, key_of, keys, keys_with, treatment, with_key}
pub use Rattle.dn_types.specs.Given.{accepted_since, given_count, is_packet, is_start_with, start_count, started_since}
pub use Rattle.dn_types.specs.History.{IsLawful, calls_of}
pub use Rattle.dn_types.specs.Links.{arrival_time, due_by, free, last_due, transmission_time}
pub use Rattle.dn_types.specs.Replies.{counted_reply, replies, reply, reply_to_verdict, status_of, statuses_from}
pub use Rattle.dn_types.specs.SharedLinks.{last_finish_tag, link_heads, next_packet, opening, virtual_time, waiting}
pub use Rattle.dn_types.specs.Starts.{bandwidth_of, delay_of, first_start, next_start, settle, settled, sooner, start_at, waiting_all}
pub use Rattle.dn_types.specs.Trace.{Accepted, Event, Link, Start, accepted_count, arrived, backlog, collected, discarded, discarded_count, flow_bound, is_arrival, is_loss_of, is_of, is_refusal_of}
pub use Rattle.dn_types.specs.Trace.{is_start_of, link_eq, links, lost, opened, own, pipe_of, refused, shared, started}
pub use Rattle.dn_types.specs.Wf2q.{Stamped, grown, heads, least_start_tag, pick, raised, start_tag_on_arrival, total, weight_sum}
pub use Rattle.dn_types.specs.declared.call.Call.{Call}
pub use Rattle.dn_types.specs.declared.call.Call.TheVariants.{Advance, Collect, Configure, Show, Submit}
pub use Rattle.dn_types.specs.declared.command.Command.{Command}
pub use Rattle.dn_types.specs.declared.command.Command.TheVariants.{DeletePipe, DeleteQueue, Pipe, Queue}
pub use Rattle.dn_types.specs.declared.delivery.Delivery.{Delivery}
pub use Rattle.dn_types.specs.declared.entry.Entry.{Entry}
pub use Rattle.dn_types.specs.declared.five_tuple.FiveTuple.{FiveTuple}
pub use Rattle.dn_types.specs.declared.flow_key.FlowKey.{FlowKey}
pub use Rattle.dn_types.specs.declared.flow_status.FlowStatus.{FlowStatus}
pub use Rattle.dn_types.specs.declared.limit.Limit.{Limit}
pub use Rattle.dn_types.specs.declared.limit.Limit.TheVariants.{Kbytes, Slots}
pub use Rattle.dn_types.specs.declared.mask.Mask.{Mask}
pub use Rattle.dn_types.specs.declared.packet.Packet.{Packet}
pub use Rattle.dn_types.specs.declared.reply.Reply.{Reply}
pub use Rattle.dn_types.specs.declared.reply.Reply.TheVariants.{Advanced, Configured, Deleted, Delivered, Exhausted, Full, Lost, NoSuchPipe, NoSuchQueue, NoTarget, PipeHasQueues, Queued, Status}
pub use Rattle.dn_types.specs.declared.rule.Rule.{Rule}
pub use Rattle.dn_types.specs.declared.rule.Rule.TheVariants.{Free, Ordered}
pub use Rattle.dn_types.specs.declared.target.Target.{Target}
pub use Rattle.dn_types.specs.declared.target.Target.TheVariants.{Pipe as ToPipe, Queue as ToQueue}
