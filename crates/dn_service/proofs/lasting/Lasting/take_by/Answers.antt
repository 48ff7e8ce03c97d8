use Rattle.dn_service.proofs.Words.{[], ap, rules, shed_in, spent, sym, ◌∙◌, ◌≡◌}
use Rattle.dn_service.proofs.Handing.{takes_in}
use Rattle.dn_service.proofs.Lastings.{hands_back}
use Rattle.dn_service.proofs.Tokens.{vacates}
use Rattle.dn_service.proofs.lasting.Lasting.take_by.Goals as goal

pub load_new_seat-vacant-requires : goal.load_new_seat-vacant-requires
load_new_seat-vacant-requires c = (search rules, vacates _ _ (spent, []))

pub join_seat-requires : goal.join_seat-requires
join_seat-requires c =
    let s = c.args.seat.now in let l = c.self.inside.seat in let sits = c.requires.caller.sits in
    let same : c.replace.result ≡ s = c.replace.ensures.value in (
      search rules,
      ap (λ x. x.table_id) same ∙ (c.requires.caller.at_table
          ∙ (sym (ap (λ v. v.service.table) c.self.view_is) ∙ (c.self.invariant.0.at_table ∙ sym (ap (λ d. d.table.shared.table_id) c.deref-desk.ensures)))),
      ap (λ x. x.me.1) same ∙ ap (λ x. x.1) sits,
      search rules,
      takes_in _ _ _ _ s.me.0.count c.args.number (shed_in l.me.0.shed) [] _ _ _ _ _ _ (ap (λ x. x.0) c.self.invariant.0.waits) (ap (λ x. x.me.0) same ∙ ap (λ x. x.0) sits),
    )

pub split_seat-requires : goal.split_seat-requires
split_seat-requires c = (search rules, search rules, hands_back _ _ c.args.number _ c.empty-taken.ensures.seat)
