use Rattle.std.proofs.lemmas.Result.{IfOk-weaker}
use Rattle.clap.specs.Words.{with_subcommand}
use Rattle.dummynet.proofs.Forms.{adds_form}
use Rattle.dummynet.specs.Program.{audit_form, bare_form, live_form, replay_form}
use Rattle.dummynet.proofs.form.form.Goals as goal

pub returns : goal.returns
returns c =
    let one = with_subcommand bare_form replay_form.top in
    let first = adds_form c.alone.result c.in_ok-replay.replay c.in_ok-subcommand.field-0 bare_form replay_form c.alone.ensures c.in_ok-replay.ensures
    c.in_ok-subcommand.ensures in
    let second = adds_form c.in_ok-subcommand.field-0 c.in_ok-audit.audit c.in_ok-subcommand-2.field-0 one audit_form first c.in_ok-audit.ensures
    c.in_ok-subcommand-2.ensures in
    IfOk-weaker c.subcommand-3.result _ _ (λ made adds. adds_form c.in_ok-subcommand-2.field-0 c.live.result made
    (with_subcommand one audit_form.top) live_form second c.live.ensures adds) c.subcommand-3.ensures
