use Rattle.dn_files.proofs.Words.{IfErr-weaker, IfOk-weaker, Packets, packet_limit, rows_of}
use Rattle.dn_files.proofs.Inputs.{refused}
use Rattle.dn_files.proofs.packets.read_packets.Goals as goal

pub returns-clause-ok : goal.returns-clause-ok
returns-clause-ok g c =
    let text = c.in_ok-text.text.items in
    IfOk-weaker c.all_rows.result _ _ (λ rows read. (text, c.in_ok-text.ensures.text, rw c.in_ok-text.ensures.within (read text c.of_text-packets.ensures.read))) c.all_rows.ensures.ok

pub returns-clause-err : goal.returns-clause-err
returns-clause-err g c =
    let text = c.in_ok-text.text.items in
    IfErr-weaker c.all_rows.result _ _ (λ fault own. refused Packets packet_limit rows_of (g.I.Inlet.remaining c.args.reader.now) (g.I.Inlet.has_failed c.read_input.new.reader) text fault
    c.in_ok-text.ensures.sound c.in_ok-text.ensures.text c.in_ok-text.ensures.within (own text c.of_text-packets.ensures.read)) c.all_rows.ensures.err
