use Rattle.dn_files.proofs.Words.{arith, commands_in, lines_of, sym}
use Rattle.dn_files.proofs.Commands.{no_more, one_more, own_fault}
use Rattle.dn_files.proofs.config.commands_of_text.Goals as goal

pub loop-line-preserved : goal.loop-line-preserved
loop-line-preserved c = record {
  so_far = rw c.in-Ok-keep.ensures.ok (rw c.in-Some.ensures.1
      (one_more c.loop-line.commands.items c.loop-line.lines.number c.in-Some.line.now (lines_of c.in-Some.rest.rest.now) _ c.in-Ok.command
      (commands_in c.args.text.now) c.in-Some.ensures.0 (sym c.in-Ok.ensures.value) c.loop-line.invariant.so_far));
  room = omega (arith, c.loop-line.invariant.room, c.in-Some.ensures.1, c.in-Some.ensures.2);
}

pub returns-in_default-clause-ok : goal.returns-in_default-clause-ok
returns-in_default-clause-ok c = no_more c.loop-line.commands.items c.loop-line.lines.number _ (commands_in c.args.text.now) c.in_default.ensures c.loop-line.invariant.so_far

pub returns-in-Err-clause-err : goal.returns-in-Err-clause-err
returns-in-Err-clause-err c =
    own_fault c.loop-line.commands.items c.loop-line.lines.number c.in-Some.line.now (lines_of c.in-Some.rest.rest.now) _ c.in-Err.fault (commands_in c.args.text.now)
    c.in-Some.ensures.0 (sym c.in-Err.ensures.value) c.in-Err.ensures.err c.loop-line.invariant.so_far
