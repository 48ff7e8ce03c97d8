use Rattle.dn_replay.proofs.Words.{IfOk-weaker, length, rules, ◌≡◌}
use Rattle.dn_replay.proofs.EachCaller.{all_back}
use Rattle.dn_replay.proofs.callers.calls.submit_all.Goals as goal

pub returns : goal.returns
returns g c =
    let back = c.in_ok-map_vec.field-0.items in
    let size : length back ≡ length c.args.callers.items = search rules in
    IfOk-weaker c.gathered.result _ _ (λ after same. all_back c.args.n c.args.rows.now c.args.callers.items after.items back same size
    (λ k d lt. let job = (c.in_ok-map_vec.ensures.each k d lt).1 in (job.job, job.job_is, job.call.met))) c.gathered.ensures
