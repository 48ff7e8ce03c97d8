-- How a replay by one caller ends: with what is asked for, or with a fault.
use Rattle.std.specs.Prelude.{◌≡◌, ◌<◌, ℕ, Bool, true, false, List, All, Option, Result, IfOk, IfErr}
use Rattle.dn_types.specs.History.{IsLawful}
use Rattle.dn_types.specs.declared.call.Call.{Call}
use Rattle.dn_types.specs.declared.entry.Entry.{Entry}
use Rattle.dn_types.specs.declared.rule.Rule.TheVariants.{Ordered}
use Rattle.dn_files.specs.declared.replay_fault.ReplayFault.{ReplayFault}
use Rattle.dn_files.specs.declared.source.Source.{Source}
use Rattle.dn_replay.specs.OnePass.{IsAnswered}
use Rattle.dn_replay.specs.Replays.{IsReplayed, IsUnanswered, read_of}

-- What is asked for was answered by its history and its report, and the history is a lawful one of caller 0.
pub record ReplaysByOne (entries : List Entry) (Asked : Result (List Call) ReplayFault → Type 0) (old new : Option (List ℕ)) : Type 0 where
  pub replayed : IsReplayed Asked entries old new
  pub lawful : IsLawful Ordered entries
  pub callers : All (λ e. e.caller < 1) entries

-- The same where a history is kept if it is asked for, with whether no row has a target.
pub record AnswersByOne (records : Bool) (entries : List Entry) (untargeted : Bool) (Asked : Result (List Call) ReplayFault → Type 0) (old new : Option (List ℕ)) : Type 0 where
  pub answered : IsAnswered records Asked entries untargeted old new
  pub lawful : records ≡ true → IsLawful Ordered entries
  pub callers : records ≡ true → All (λ e. e.caller < 1) entries

-- A replay answered what is asked for, and no write failed, or it returned a fault. Also, which read failed, if one did.
pub record IsReplay {A : Type 0} (result : Result A ReplayFault) (Answers : A → (Result (List Call) ReplayFault → Type 0) → Option (List ℕ) → Option (List ℕ) → Type 0)
    (Asked : Result (List Call) ReplayFault → Type 0) (ReadFailed : Option Source → Type 0) (old new : Option (List ℕ)) (write_failed : Bool) : Type 0 where
  pub ok : IfOk result (λ answer. Answers answer Asked old new)
  pub inputs : ReadFailed (read_of result)
  pub sound : IfOk result (λ answer. write_failed ≡ false)
  pub err : IfErr result (λ fault. IsUnanswered Asked old new write_failed fault)
