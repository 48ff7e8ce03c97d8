-- Which text has come of a replay, step by step.
use Rattle.dn_replay.proofs.Words.{AreFew, Bool, Call, CanGoOn, Coming, ConfigPart, HasCome, HasFed, HasTaken, Input, IsConfigSoFar, IsFresh, IsLimit, List, None, Ok, Option, Packets, Pass}
use Rattle.dn_replay.proofs.Words.{ReplayFault, Result, Some, Stage, [], arith, calls_of_parts, calls_with, config_calls, has_entries, joined_parts, length, length-append, refl, subst, sym, ℕ}
use Rattle.dn_replay.proofs.Words.{◌++◌, ◌+◌, ◌-◌, ◌≡◌, ◌≤◌}
use Rattle.dn_replay.specs.declared.replays.stage.Stage.TheVariants as at
use Rattle.dn_replay.proofs.FewCalls.{few-asked}
use Rattle.dn_replay.proofs.InputSteps.{asked_within, joined_asks, packets_ask, records-taken}

pub joined_begins : (records : Bool) (part : ConfigPart) (pass : Pass) (limit : ℕ) → IsLimit limit → has_entries pass.held ≡ records → IsConfigSoFar part [] → IsFresh pass
    → HasCome records (record { stage = at.Config part; pass = pass; source = Input; limit = limit; length = 0 }) None []
joined_begins records part pass limit small is so_far fresh = record {
  records_is = is;
  source_is = refl;
  size = refl;
  short = omega arith;
  few = small;
  asked = λ text. calls_of_parts (joined_parts text);
  asks = joined_asks limit;
  taken = (is, fresh, so_far, λ whole. refl);
}

pub behind_begins : (records : Bool) (pass : Pass) (limit : ℕ) (config : List ℕ) (calls : List Call) → IsLimit limit → config_calls config ≡ Ok calls → HasFed records pass calls []
    → HasCome records (record { stage = at.Packets; pass = pass; source = Packets; limit = limit; length = 0 }) (Some config) []
behind_begins records pass limit config calls small accepted fed = record {
  records_is = fed.records_is;
  source_is = refl;
  size = refl;
  short = omega arith;
  few = small;
  asked = calls_with calls;
  asks = packets_ask limit config calls accepted;
  taken = (calls, [], fed, λ more. refl);
}

-- A part more was taken.
pub comes : (records : Bool) (old : Coming) (stage : Stage) (pass : Pass) (config : Option (List ℕ)) (text part : List ℕ) → length part ≤ old.limit - old.length
    → ((asked : List ℕ → Result (List Call) ReplayFault) → HasTaken old.stage records old.pass asked text → HasTaken stage records pass asked (text ++ part))
    → HasCome records old config text
    → HasCome records (record { stage = stage; pass = pass; source = old.source; limit = old.limit; length = old.length + length part }) config (text ++ part)
comes records old stage pass config text part fits more come =
    let taken = more come.asked come.taken in
    let size = come.size in
    let whole = length-append text part in
    let short = come.short in
    record {
      records_is = records-taken stage records pass come.asked (text ++ part) taken;
      source_is = come.source_is;
      size = omega (arith, size, whole);
      short = omega (arith, size, whole, short, fits);
      few = come.few;
      asked = come.asked;
      asks = come.asks;
      taken = taken;
    }

-- So a replay that could go on can go on.
pub goes_on : (old : Coming) {first : Stage} (stage : Stage) (pass : Pass) (part : List ℕ) → first ≡ old.stage → length part ≤ old.limit - old.length
    → ((records : Bool) (asked : List ℕ → Result (List Call) ReplayFault) (text : List ℕ) → HasTaken first records old.pass asked text → HasTaken stage records pass asked (text ++ part))
    → CanGoOn old → CanGoOn (record { stage = stage; pass = pass; source = old.source; limit = old.limit; length = old.length + length part })
goes_on old stage pass part is fits more (records, config, text, come) = (
  records,
  config,
  text ++ part,
  comes records old stage pass config text part fits (λ asked taken. more records asked text (subst (λ s. HasTaken s records old.pass asked text) (sym is) taken)) come,
)

-- What has come asks for few calls.
pub few-taken : (records : Bool) (replay : Coming) (config : Option (List ℕ)) (text : List ℕ) (come : HasCome records replay config text) → AreFew (come.asked text)
few-taken records replay config text come = subst AreFew (asked_within replay.limit config come.asked text come.asks come.short) (few-asked replay.limit config text come.few come.short)
