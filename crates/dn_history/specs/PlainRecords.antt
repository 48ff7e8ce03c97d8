-- Records whose lines are written plainly, without quotes, at the front of a text.
use Rattle.std.specs.Prelude.{◌≡◌, ℕ, List, ◌∷◌, Option, Some, Ok, codes}
use Rattle.dn_types.specs.declared.call.Call.{Call}
use Rattle.dn_types.specs.declared.delivery.Delivery.{Delivery}
use Rattle.dn_types.specs.declared.entry.Entry.{Entry}
use Rattle.dn_types.specs.declared.reply.Reply.{Reply}
use Rattle.dn_records.specs.Reading.{BeginsLine}
use Rattle.dn_records.specs.Records.{Fields}
use Rattle.dn_files.specs.Reading.{◌>>=◌}
use Rattle.dn_history.specs.HistoryFile.{call_of, reply_by, reply_from}
use Rattle.dn_history.specs.HistoryItems.{delivery_item}
use Rattle.dn_history.specs.HistoryRecords.{caller_of}
use Rattle.dn_history.specs.RecordsLeft.{Read, Rest}
use Rattle.dn_history.specs.declared.history_version.HistoryVersion.{HistoryVersion}

-- The entry of a call that was read, and of the reply behind it.
abbrev pub answered : HistoryVersion → ℕ → Call → Rest → Read (Option Entry)
answered version caller call rest = do
  reply ← reply_from version rest
  Ok (Some (record { caller = caller; call = call; reply = reply.0 }), reply.1)

-- A text begins with the record of this call, by this caller.
pub record BeginsCall (text : List ℕ) (caller : ℕ) (call : Call) (rest : List ℕ) : Type 0 where
  pub others : Fields
  pub line : BeginsLine text (codes "c" ∷ others) rest
  pub says_caller : caller_of (codes "c" ∷ others) ≡ Ok caller
  pub says_call : (version : HistoryVersion) (number : ℕ) → call_of version number (codes "c" ∷ others) ≡ Ok call

-- A text begins with the record of this reply, which lists nothing.
pub record BeginsReply (text : List ℕ) (reply : Reply) (rest : List ℕ) : Type 0 where
  pub others : Fields
  pub line : BeginsLine text (codes "r" ∷ others) rest
  pub says : (version : HistoryVersion) (number : ℕ) (left : Rest) → reply_by version number (codes "r" ∷ others) left ≡ Ok (reply, left)

-- A text begins with the record of this delivery.
pub record BeginsDelivery (text : List ℕ) (delivery : Delivery) (rest : List ℕ) : Type 0 where
  pub others : Fields
  pub line : BeginsLine text (codes "d" ∷ others) rest
  pub says : delivery_item (codes "d" ∷ others) ≡ Ok delivery
