use Rattle.dn_config.proofs.Vocabulary.{arith}
use Rattle.dn_config.proofs.Ranges.{kept_none, kept_high, kept_in}
use Rattle.dn_config.proofs.loss.kept_loss.Goals as goal

pub returns-in_default : goal.returns-in_default
returns-in_default c = kept_none c.args.at 1000000000000000000 c.args.rate c.in_default.is

pub returns-then-rate-gt-ONE : goal.returns-then-rate-gt-ONE
returns-then-rate-gt-ONE c = kept_high c.args.at 1000000000000000000 c.in-Some.rate c.args.rate c.in-Some.is (omega arith)

pub returns : goal.returns
returns c = kept_in c.args.at c.in-Some.rate c.args.rate c.new.result c.ok_or.result c.in-Some.is (omega arith) c.new.ensures.in_range c.new.ensures.value c.ok_or.ensures.value
