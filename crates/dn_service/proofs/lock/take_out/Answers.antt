use Rattle.dn_service.proofs.Words.{Some, ap, rest, rules, sym, ◌∙◌, ◌∷◌}
use Rattle.dn_service.proofs.lock.take_out.Goals as goal

pub exchange-requires : goal.exchange-requires
exchange-requires c = let b = c.requires.book in (search rules, (Some b.0, b.1 ∙ ap (λ cs. (0, Some b.0) ∷ rest cs) (sym b.1)))
