use Rattle.dn_files.proofs.Words.{Consumes-trans, arith, length-take, refl, rules, take, ◌++◌, ◌∙◌}
use Rattle.dn_files.proofs.Inputs.{refused_behind}
use Rattle.dn_files.proofs.feed.feed_by.Goals as goal

pub returns-in_default-clause-err : goal.returns-in_default-clause-err
returns-in_default-clause-err g c = λ known first.
    let (text, taken, come) = c.loop-count.invariant.come in
    (c.source.ensures known text (come known first), search rules)

pub loop-count-smaller : goal.loop-count-smaller
loop-count-smaller g c = omega (arith, c.in-Ok.ensures.room, length-take c.in-Some.count c.read.new.buf, c.in-Some.ensures.bytes.0, c.if-count-eq0.false)

pub loop-count-preserved : goal.loop-count-preserved
loop-count-preserved g c =
    let (text, taken, come) = c.loop-count.invariant.come in
    let part = take c.in-Some.count c.read.new.buf in
    record {
      sound = c.in-Some.ensures.failed ∙ rw c.loop-count.invariant.sound refl;
      come = (
        text ++ part,
        Consumes-trans (g.I.Inlet.remaining c.args.inlet.now) (g.I.Inlet.remaining c.loop-count.inlet) (g.I.Inlet.remaining c.read.new.self) text part taken c.in-Some.ensures.bytes.1,
        λ known first. c.in-Ok.ensures.ok known text (come known first),
      );
    }

pub returns-in-Err-clause-err : goal.returns-in-Err-clause-err
returns-in-Err-clause-err g c = λ known first.
    let (text, taken, come) = c.loop-count.invariant.come in
    let part = take c.in-Some.count c.read.new.buf in
    let bytes = g.I.Inlet.remaining c.args.inlet.now in
    refused_behind (g.F.Feed.source_of known) (g.F.Feed.reading known) bytes (g.I.Inlet.remaining c.read.new.self) (g.I.Inlet.has_failed c.read.new.self) text part c.in-Err.fault
    (c.in-Some.ensures.failed ∙ rw c.loop-count.invariant.sound refl)
    (Consumes-trans bytes (g.I.Inlet.remaining c.loop-count.inlet) (g.I.Inlet.remaining c.read.new.self) text part taken c.in-Some.ensures.bytes.1)
    (λ more. c.in-Err.ensures.err known text more (come known first))
