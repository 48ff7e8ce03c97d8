-- What is said of a bad line.
use Rattle.std.specs.Prelude.{ℕ, List, codes}
use Rattle.dn_config.specs.Faults.{fault_text}
use Rattle.dn_live.specs.declared.cause.Cause.{Cause}
use Rattle.dn_live.specs.declared.cause.Cause.TheVariants.{BadField, NoCommand, NotText, Faulty, NotOneRecord, NoLineFeed}

-- The words for a cause.
abbrev pub cause_text : Cause → List ℕ
cause_text BadField = codes "bad field"
cause_text NoCommand = codes "no command"
cause_text NotText = codes "not UTF-8"
cause_text (Faulty fault) = fault_text fault
cause_text NotOneRecord = codes "not one record"
cause_text NoLineFeed = codes "no line feed"
