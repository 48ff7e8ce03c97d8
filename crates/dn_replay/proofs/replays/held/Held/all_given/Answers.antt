use Rattle.dn_replay.proofs.Words.{Collect, ◌^◌}
use Rattle.dn_replay.proofs.PassSteps.{can_report_recorded}
use Rattle.dn_replay.proofs.Runs.{nonempty}
use Rattle.dn_replay.proofs.replays.held.Held.all_given.Goals as goal

pub last_delivered-requires : goal.last_delivered-requires
last_delivered-requires c =
    let (kept, calls, ended) = c.requires in
    let (made, has) = rw c.in-Entries.is at ended in
    rw c.as_slice.ensures.value (nonempty calls (Collect (2 ^ 62)) c.args.run.now.history.items made.1)

pub returns-in-Entries : goal.returns-in-Entries
returns-in-Entries c = λ kept calls ended.
    let (made, has) = rw c.in-Entries.is at ended in
    can_report_recorded kept c.last_delivered.result.now calls c.args.run.now.history.items has made.1 (rw c.as_slice.ensures.value at c.last_delivered.ensures)
