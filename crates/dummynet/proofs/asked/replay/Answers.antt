use Rattle.std.proofs.Common.{◌∙◌, codes, rules}
use Rattle.std.specs.Str.Parse.{ExplainsUnsignedError, HasUnsignedDigitsIfOk, ParsesUnsigned}
use Rattle.clap.specs.Words.{found_of}
use Rattle.clap.proofs.WalkLemmas.{first_value-rows}
use Rattle.dummynet.proofs.Readings.{count_read}
use Rattle.dummynet.proofs.asked.replay.Goals as goal

pub returns : goal.returns
returns c = record {
  config = search rules;
  packets = search rules;
  callers = count_read _ (λ bs r. ParsesUnsigned 64 10 bs r × ExplainsUnsignedError 10 bs r × HasUnsignedDigitsIfOk bs r) (found_of c.args.found.now) (codes "callers")
      c.get_one.result c.get_one.ensures.none (λ t read. c.get_one.ensures.value t read) (λ t r gives. gives.0);
  history = c.get_str.ensures ∙ first_value-rows (found_of c.args.found.now) (codes "history");
  most_packets = count_read _ (λ bs r. ParsesUnsigned 64 10 bs r × ExplainsUnsignedError 10 bs r × HasUnsignedDigitsIfOk bs r) (found_of c.args.found.now) (codes "most-packets")
      c.get_one-2.result c.get_one-2.ensures.none (λ t read. c.get_one-2.ensures.value t read) (λ t r gives. gives.0);
}
