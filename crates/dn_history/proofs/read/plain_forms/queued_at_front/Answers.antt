use Rattle.dn_history.proofs.Words.{Decides-eqb, Some, codes, strip_prefix_is, sym}
use Rattle.dn_history.proofs.PlainForms.{queued_begins}
use Rattle.dn_history.proofs.read.plain_forms.queued_at_front.Goals as goal

pub returns : goal.returns
returns c =
    queued_begins c.args.text.now c.in_ok-text.text.now c.in_ok-at.text.now c.in_ok-flow.text.now c.in_ok-packet.text.now c.in_ok-at.at c.in_ok-flow.flow c.in_ok-packet.packet
    (strip_prefix_is Decides-eqb c.args.text.now (codes "r,queued,") (Some c.in_ok-text.text) c.in_ok-text.ensures.cases)
    (sym c.in_ok-at.ensures.value) (sym c.in_ok-flow.ensures.value) (sym c.in_ok-packet.ensures.value)
