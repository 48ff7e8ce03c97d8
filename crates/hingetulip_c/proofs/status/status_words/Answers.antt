use Rattle.hingetulip_c.proofs.Words.{arith, get_or_past, statuses, ◌≡◌, ◌≤◌}
use Rattle.hingetulip_c.proofs.status.status_words.Goals as goal

pub returns-in_default-clause-none : goal.returns-in_default-clause-none
returns-in_default-clause-none c =
    let many : 25 ≤ c.args.status = omega (arith, c.in_default) in get_or_past statuses _ _ many
