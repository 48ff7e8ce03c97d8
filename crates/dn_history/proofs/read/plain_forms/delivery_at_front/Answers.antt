use Rattle.dn_history.proofs.Words.{Decides-eqb, Some, codes, strip_prefix_is, sym}
use Rattle.dn_history.proofs.PlainForms.{delivery_begins}
use Rattle.dn_history.proofs.read.plain_forms.delivery_at_front.Goals as goal

pub returns : goal.returns
returns c =
    delivery_begins c.args.text.now c.in_ok-text.text.now c.in_ok-packet.text.now c.in_ok-flow.text.now c.in_ok-start.text.now c.in_ok-due.text.now
    c.in_ok-packet.packet c.in_ok-flow.flow c.in_ok-start.start c.in_ok-due.due
    (strip_prefix_is Decides-eqb c.args.text.now (codes "d,") (Some c.in_ok-text.text) c.in_ok-text.ensures.cases)
    (sym c.in_ok-packet.ensures.value) (sym c.in_ok-flow.ensures.value) (sym c.in_ok-start.ensures.value) (sym c.in_ok-due.ensures.value)
