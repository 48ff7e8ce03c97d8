-- Each kind of call is answered by its function, below the limit of calls.
use Rattle.dn_shaper.proofs.Words.{Advance, Collect, Configure, Show, Submit, on_err_always}
use Rattle.dn_shaper.proofs.Counting.{exhausted, answers, answers-ok, never-full, refuses, holds-then, holds-ok, needs, same-stands}
use Rattle.dn_shaper.proofs.Needing.{configure-needs, submit-needs}
use Rattle.dn_shaper.proofs.Rooms.{leaves-of}
use Rattle.dn_shaper.proofs.shaper.Shaper.apply.Goals as goal

pub returns-then-self-eq-CALL_LIMIT-clause-ok : goal.returns-then-self-eq-CALL_LIMIT-clause-ok
returns-then-self-eq-CALL_LIMIT-clause-ok c = exhausted c.args.call.now c.self.inside.state c.args.self.now c.self.view_is c.if-self-eq-CALL_LIMIT.true

pub invariant_of-self : goal.invariant_of-self
invariant_of-self c = holds-ok
    (Configure c.in-Configure.command) c.self.inside.state c.configure.new.state c.configure.result c.if-self-eq-CALL_LIMIT.false c.self.invariant
    c.configure.ensures.sound c.configure.ensures.does c.configure.ensures.err

pub invariant_of-self-in-Submit : goal.invariant_of-self-in-Submit
invariant_of-self-in-Submit c = holds-ok
    (Submit c.in-Submit.target c.in-Submit.packet c.in-Submit.moment) c.self.inside.state c.submit.new.state c.submit.result c.if-self-eq-CALL_LIMIT.false
    c.self.invariant c.submit.ensures.sound c.submit.ensures.does c.submit.ensures.err

pub invariant_of-self-in-Advance : goal.invariant_of-self-in-Advance
invariant_of-self-in-Advance c = holds-then
    (Advance c.in-Advance.moment) c.self.inside.state c.advance.new.state c.advance.result c.if-self-eq-CALL_LIMIT.false c.self.invariant c.advance.ensures.sound c.advance.ensures.does

pub invariant_of-self-in-Collect : goal.invariant_of-self-in-Collect
invariant_of-self-in-Collect c = holds-ok
    (Collect c.in-Collect.moment) c.self.inside.state c.collect.new.state c.collect.result c.if-self-eq-CALL_LIMIT.false c.self.invariant c.collect.ensures.sound c.collect.ensures.does
    (same-stands c.self.inside.state c.collect.new.state c.collect.result c.collect.ensures.err)

pub invariant_of-self-in-Show : goal.invariant_of-self-in-Show
invariant_of-self-in-Show c = holds-ok Show c.self.inside.state c.show.new.state c.show.result c.if-self-eq-CALL_LIMIT.false c.self.invariant c.show.ensures.sound c.show.ensures.does
    (same-stands c.self.inside.state c.show.new.state c.show.result c.show.ensures.err)

pub returns-in-Configure-clause-ok : goal.returns-in-Configure-clause-ok
returns-in-Configure-clause-ok c = answers-ok
    (Configure c.in-Configure.command) c.args.call.now c.self.inside.state c.args.self.now c.configure.new.state c.configure.result c.in-Configure.is
    c.self.view_is c.if-self-eq-CALL_LIMIT.false c.configure.ensures.does

pub returns-in-Configure-clause-err : goal.returns-in-Configure-clause-err
returns-in-Configure-clause-err c = refuses c.self.inside.state c.args.self.now c.configure.new.state c.configure.result c.self.view_is c.configure.ensures.err

pub returns-in-Submit-clause-ok : goal.returns-in-Submit-clause-ok
returns-in-Submit-clause-ok c = answers-ok
    (Submit c.in-Submit.target c.in-Submit.packet c.in-Submit.moment) c.args.call.now c.self.inside.state c.args.self.now c.submit.new.state c.submit.result
    c.in-Submit.is c.self.view_is c.if-self-eq-CALL_LIMIT.false c.submit.ensures.does

pub returns-in-Submit-clause-err : goal.returns-in-Submit-clause-err
returns-in-Submit-clause-err c = refuses c.self.inside.state c.args.self.now c.submit.new.state c.submit.result c.self.view_is c.submit.ensures.err

pub returns-in-Advance-clause-ok : goal.returns-in-Advance-clause-ok
returns-in-Advance-clause-ok c = answers
    (Advance c.in-Advance.moment) c.args.call.now c.self.inside.state c.args.self.now c.advance.new.state c.advance.result c.in-Advance.is c.self.view_is
    c.if-self-eq-CALL_LIMIT.false c.advance.ensures.does

pub returns-in-Collect-clause-ok : goal.returns-in-Collect-clause-ok
returns-in-Collect-clause-ok c = answers-ok
    (Collect c.in-Collect.moment) c.args.call.now c.self.inside.state c.args.self.now c.collect.new.state c.collect.result c.in-Collect.is c.self.view_is
    c.if-self-eq-CALL_LIMIT.false c.collect.ensures.does

pub returns-in-Show-clause-ok : goal.returns-in-Show-clause-ok
returns-in-Show-clause-ok c = answers-ok Show c.args.call.now c.self.inside.state c.args.self.now c.show.new.state c.show.result c.in-Show.is c.self.view_is
    c.if-self-eq-CALL_LIMIT.false c.show.ensures.does

pub returns-in-Configure-clause-exhausted : goal.returns-in-Configure-clause-exhausted
returns-in-Configure-clause-exhausted c = never-full c.self.inside.state c.args.self.now c.configure.result c.self.view_is c.if-self-eq-CALL_LIMIT.false

pub returns-in-Submit-clause-exhausted : goal.returns-in-Submit-clause-exhausted
returns-in-Submit-clause-exhausted c = never-full c.self.inside.state c.args.self.now c.submit.result c.self.view_is c.if-self-eq-CALL_LIMIT.false

pub returns-in-Collect-clause-exhausted : goal.returns-in-Collect-clause-exhausted
returns-in-Collect-clause-exhausted c = never-full c.self.inside.state c.args.self.now c.collect.result c.self.view_is c.if-self-eq-CALL_LIMIT.false

pub returns-in-Show-clause-exhausted : goal.returns-in-Show-clause-exhausted
returns-in-Show-clause-exhausted c = never-full c.self.inside.state c.args.self.now c.show.result c.self.view_is c.if-self-eq-CALL_LIMIT.false

pub returns-in-Configure-clause-needs : goal.returns-in-Configure-clause-needs
returns-in-Configure-clause-needs c = needs
    (Configure c.in-Configure.command) c.args.call.now c.self.inside.state c.args.self.now c.configure.result c.in-Configure.is c.self.view_is
    (configure-needs c.in-Configure.command c.self.inside.state c.configure.result c.configure.ensures.only_new c.configure.ensures.only_accepted)

pub returns-in-Submit-clause-needs : goal.returns-in-Submit-clause-needs
returns-in-Submit-clause-needs c = needs
    (Submit c.in-Submit.target c.in-Submit.packet c.in-Submit.moment) c.args.call.now c.self.inside.state c.args.self.now c.submit.result c.in-Submit.is c.self.view_is
    (submit-needs c.in-Submit.target c.in-Submit.packet c.in-Submit.moment c.self.inside.state c.submit.result c.submit.ensures.only_treated)

pub returns-in-Collect-clause-needs : goal.returns-in-Collect-clause-needs
returns-in-Collect-clause-needs c = needs
    (Collect c.in-Collect.moment) c.args.call.now c.self.inside.state c.args.self.now c.collect.result c.in-Collect.is c.self.view_is
    (on_err_always c.collect.result _ (λ rule calls stands. tt))

pub returns-in-Show-clause-needs : goal.returns-in-Show-clause-needs
returns-in-Show-clause-needs c = needs Show c.args.call.now c.self.inside.state c.args.self.now c.show.result c.in-Show.is c.self.view_is (on_err_always c.show.result _ (λ rule calls stands. tt))

pub returns-in-Submit-clause-leaves : goal.returns-in-Submit-clause-leaves
returns-in-Submit-clause-leaves c = leaves-of (Submit c.in-Submit.target c.in-Submit.packet c.in-Submit.moment) c.args.call.now c.self.inside.state c.args.self.now c.submit.new.state
    c.in-Submit.is c.self.view_is c.submit.ensures.leaves

pub returns-in-Advance-clause-leaves : goal.returns-in-Advance-clause-leaves
returns-in-Advance-clause-leaves c = leaves-of (Advance c.in-Advance.moment) c.args.call.now c.self.inside.state c.args.self.now c.advance.new.state
    c.in-Advance.is c.self.view_is c.advance.ensures.leaves

pub returns-in-Collect-clause-leaves : goal.returns-in-Collect-clause-leaves
returns-in-Collect-clause-leaves c = leaves-of (Collect c.in-Collect.moment) c.args.call.now c.self.inside.state c.args.self.now c.collect.new.state
    c.in-Collect.is c.self.view_is c.collect.ensures.leaves

pub returns-in-Show-clause-leaves : goal.returns-in-Show-clause-leaves
returns-in-Show-clause-leaves c = leaves-of Show c.args.call.now c.self.inside.state c.args.self.now c.show.new.state c.in-Show.is c.self.view_is c.show.ensures.leaves
