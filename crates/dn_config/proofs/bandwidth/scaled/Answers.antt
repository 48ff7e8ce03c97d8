use Rattle.dn_config.proofs.Vocabulary.{arith, err_from_is_err_and, number_of}
use Rattle.dn_config.proofs.Ranges.{units_fault, units_made}
use Rattle.dn_config.proofs.bandwidth.scaled.Goals as goal

pub returns-in_err-count : goal.returns-in_err-count
returns-in_err-count c =
    let p = err_from_is_err_and c.from_residual.result c.from_residual.ensures.1 in
    rw (p.1, p.2) (units_fault c.args.at 1000000000000 c.args.rate _ (number_of c.args.digits.now) c.requires c.in_err-count.ensures.value)

pub returns : goal.returns
returns c =
    units_made c.args.at 1000000000000 c.args.rate c.in_ok-count.count c.saturating_mul.result (number_of c.args.digits.now) c.new.result c.ok_or.result
    c.in_ok-count.ensures.value c.saturating_mul.ensures (omega arith) c.new.ensures.in_range c.new.ensures.value c.ok_or.ensures.value
