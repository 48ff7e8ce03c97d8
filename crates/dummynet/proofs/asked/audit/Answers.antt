use Rattle.std.proofs.Common.{codes, rules}
use Rattle.std.specs.Str.Parse.{ExplainsUnsignedError, HasUnsignedDigitsIfOk, ParsesUnsigned}
use Rattle.clap.specs.Words.{found_of}
use Rattle.dummynet.proofs.Readings.{count_read}
use Rattle.dummynet.proofs.asked.audit.Goals as goal

pub returns : goal.returns
returns c = record {
  history = search rules;
  most_history = count_read _ (λ bs r. ParsesUnsigned 64 10 bs r × ExplainsUnsignedError 10 bs r × HasUnsignedDigitsIfOk bs r) (found_of c.args.found.now) (codes "most-history")
      c.get_one.result c.get_one.ensures.none (λ t read. c.get_one.ensures.value t read) (λ t r gives. gives.0);
}
