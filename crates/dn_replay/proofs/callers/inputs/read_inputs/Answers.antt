use Rattle.dn_replay.proofs.Words.{AskFor, Config, EitherFailed, IfErr-weaker, IfOk-weaker, Packets, config_calls, err_from_is_err_and, packet_file, packet_limit}
use Rattle.dn_replay.proofs.ReplaySteps.{config_fault, packet_fault, unread_input}
use Rattle.dn_replay.proofs.callers.inputs.read_inputs.Goals as goal

pub returns-in_err-configure_from-clause-err : goal.returns-in_err-configure_from-clause-err
returns-in_err-configure_from-clause-err g c =
    let config = g.C.Inlet.remaining c.args.config.now in
    let packets = g.P.Inlet.remaining c.args.packets.now in
    let failed = g.C.Inlet.has_failed c.configure_from.new.config in
    let p = err_from_is_err_and c.from_residual.result c.from_residual.ensures.1 in
    rw (p.1, p.2) (unread_input (EitherFailed config failed (g.P.Inlet.has_failed c.args.packets.now)) (AskFor config packets) Config config_calls config failed _
    (λ f r. config_fault packet_limit config packets f r) (λ sound. (sound, c.requires.packets)) (λ bad. (bad, c.requires.packets)) c.in_err-configure_from.ensures.err)

pub returns-clause-ok : goal.returns-clause-ok
returns-clause-ok g c =
    let (calls, reads, made) = c.in_ok-configure_from.ensures.ok in
    IfOk-weaker c.read_packets.result _ _ (λ rows read. (calls, reads, read, made)) c.read_packets.ensures.ok

pub returns-clause-inputs : goal.returns-clause-inputs
returns-clause-inputs g c = IfOk-weaker c.read_packets.result _ _ (λ rows sound. (c.in_ok-configure_from.ensures.sound, sound)) c.read_packets.ensures.sound

pub returns-clause-err : goal.returns-clause-err
returns-clause-err g c =
    let config = g.C.Inlet.remaining c.args.config.now in
    let packets = g.P.Inlet.remaining c.args.packets.now in
    let failed = g.P.Inlet.has_failed c.read_packets.new.reader in
    let (calls, reads, made) = c.in_ok-configure_from.ensures.ok in
    let whole = c.in_ok-configure_from.ensures.sound in
    IfErr-weaker c.read_packets.result _ _ (λ fault refused. unread_input (EitherFailed config (g.C.Inlet.has_failed c.configure_from.new.config) failed)
    (AskFor config packets) Packets packet_file packets failed fault
    (λ f r. packet_fault config packets calls f reads r) (λ sound. (whole, sound)) (λ bad. (whole, bad, (calls, reads))) refused) c.read_packets.ensures.err
