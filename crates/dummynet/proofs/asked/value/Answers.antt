use Rattle.std.proofs.Common.{rules}
use Rattle.clap.specs.Words.{found_of}
use Rattle.dummynet.proofs.Readings.{value_read}
use Rattle.dummynet.proofs.asked.value.Goals as goal

pub returns : goal.returns
returns c = rw c.unwrap_or.ensures (value_read c.get_str.result _ (found_of c.args.found.now) c.args.name.now c.get_str.ensures (search rules))
