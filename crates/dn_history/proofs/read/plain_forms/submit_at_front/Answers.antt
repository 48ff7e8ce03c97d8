use Rattle.dn_history.proofs.Words.{Decides-eqb, Some, codes, strip_prefix_is, sym, target_read, tuple_read}
use Rattle.dn_history.proofs.PlainForms.{submit_begins}
use Rattle.dn_history.proofs.read.plain_forms.submit_at_front.Goals as goal

pub returns : goal.returns
returns c =
    rw (c.in_ok-new-2.ensures.value, c.in_ok-new.ensures.value)
    (submit_begins c.args.text.now c.in_ok-text.text.now c.in_ok-caller.text.now c.in_ok-text-2.text.now c.in-Some.text.now c.in-Some-tuple_at_front.text.now
    c.in_ok-len.text.now c.in_ok-word.text.now c.in_ok-moment.text.now c.in_ok-caller.caller c.in_ok-len.len c.in_ok-word.word c.in_ok-moment.moment
    c.in-Some.target c.in-Some-tuple_at_front.tuple
    (strip_prefix_is Decides-eqb c.args.text.now (codes "c,") (Some c.in_ok-text.text) c.in_ok-text.ensures.cases) (sym c.in_ok-caller.ensures.value)
    (strip_prefix_is Decides-eqb c.in_ok-caller.text.now (codes "submit,") (Some c.in_ok-text-2.text) c.in_ok-text-2.ensures.cases)
    (target_read c.in_ok-text-2.text.now c.in-Some.text.now c.in-Some.target (sym c.in-Some.ensures))
    (tuple_read c.in-Some.text.now c.in-Some-tuple_at_front.text.now c.in-Some-tuple_at_front.tuple (sym c.in-Some-tuple_at_front.ensures))
    (sym c.in_ok-len.ensures.value) (sym c.in_ok-word.ensures.value) (sym c.in_ok-moment.ensures.value))
