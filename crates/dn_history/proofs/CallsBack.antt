-- The record of a call, read back.
use Rattle.dn_history.proofs.Words.{Call, Command, DeletePipe, DeleteQueue, HistoryVersion, IsCall, IsPacket, IsTarget, IsTyped, Ok, Packet, Some, Target, arith, call_of, call_record, caller_of}
use Rattle.dn_history.proofs.Words.{command_at, command_by, field_at, has_deletes, plain_call, refl, said, submit_of, text, text_back, text_utf8, true, ℕ, ◌<◌, ◌^◌, ◌≡◌, ◌≤◌}
use Rattle.dn_types.specs.declared.call.Call.TheVariants as c
use Rattle.dn_types.specs.declared.command.Command.TheVariants.{Pipe, Queue}
use Rattle.dn_history.proofs.FieldsBack.{HasTuple, number_back, packet_back, target_back}

pub caller_back : (caller : ℕ) (call : Call) → caller < 16 → caller_of (call_record caller call) ≡ Ok caller
unfolding field_at
caller_back caller call l = number_back 2 0 15 caller (call_record caller call) refl (omega (arith, l)) (omega arith) (omega (arith, l))

-- The canonical text of a command is a line with this command.
line_back : (command : Command) → IsTyped command → command_at 1 (text command) ≡ Ok (Some command)
line_back command h = said 1 (text command) (Ok (Some command)) (text_utf8 command h) (text_back command h)

-- In a version that has deletes there may be each command.
allowed : (version : HistoryVersion) (number : ℕ) (command : Command) → has_deletes version ≡ true → command_by version number (Ok (Some command)) ≡ Ok command
allowed version number (Pipe n bw delay limit loss buckets mask) has = refl
allowed version number (Queue n pipe weight limit loss buckets mask) has = refl
allowed version number (DeletePipe n) has = rw has refl
allowed version number (DeleteQueue n) has = rw has refl

submit_back : (caller : ℕ) (target : Target) (packet : Packet) (moment : ℕ) → IsTarget target → IsPacket packet → moment ≤ 2 ^ 62
    → submit_of (call_record caller (c.Submit target packet moment)) ≡ Ok (c.Submit target packet moment)
unfolding submit_of field_at
submit_back caller target packet moment h k l =
    let fields = call_record caller (c.Submit target packet moment) in
    let tuple : HasTuple 6 fields packet.tuple = record { src_at = refl; dst_at = refl; proto_at = refl; sport_at = refl; dport_at = refl } in
    rw (target_back 4 fields target h refl refl, packet_back 6 fields packet k tuple refl refl, number_back 13 0 (2 ^ 62) moment fields refl (omega (arith, l)) (omega arith) l) refl

pub call_back : (version : HistoryVersion) (number caller : ℕ) (call : Call) → has_deletes version ≡ true → IsCall call → call_of version number (call_record caller call) ≡ Ok call
unfolding call_of plain_call field_at
call_back version number caller (c.Configure command) has h = rw (line_back command h, allowed version number command has) refl
call_back version number caller (c.Submit target packet moment) has h = rw (submit_back caller target packet moment h.0 h.1 h.2) refl
call_back version number caller (c.Advance moment) has h = rw (number_back 4 0 (2 ^ 62) moment (call_record caller (c.Advance moment)) refl (omega (arith, h)) (omega arith) h) refl
call_back version number caller (c.Collect moment) has h = rw (number_back 4 0 (2 ^ 62) moment (call_record caller (c.Collect moment)) refl (omega (arith, h)) (omega arith) h) refl
call_back version number caller c.Show has h = refl
