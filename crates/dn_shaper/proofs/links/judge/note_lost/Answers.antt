-- The parts agree with the event, and one count of the flow is one more.
use Rattle.dn_shaper.proofs.Words.{arith, flow_at, homes_of, lost, one_lost, refl, views_of}
use Rattle.dn_shaper.proofs.Noting.{IsNoted, noted-counts, noted-in-step, noted-keeps, noted-ready, noted-sees}
use Rattle.dn_shaper.proofs.Quiet.{lost-agrees}
use Rattle.dn_shaper.proofs.links.judge.note_lost.Goals as goal

noted : (c : goal.After-note_lost) → IsNoted lost c.args.parts.now c.args.flow (one_lost (flow_at c.args.parts.now.flows.flows c.args.flow)) c.note_lost.new.self
noted c =
    let p = c.args.parts.now in
    record {
      within = c.requires.within;
      seen = c.requires.seen;
      keys = c.note_lost.ensures.keys;
      flows = c.note_lost.ensures.flows;
      placed = refl;
      housed = refl;
      same = refl;
      few = λ n few. let lost = few.0 in let full = few.1 in let packets = few.2 in (omega arith, omega arith, omega arith);
      agrees = λ more trace a made.
          lost-agrees p.rule p.accepted p.flows.keys (homes_of p.flows.flows) (views_of p) p.flows.flows p.line.pending more trace a c.args.flow c.requires.within made;
    }

pub returns-clause-sees : goal.returns-clause-sees
returns-clause-sees c = noted-sees (noted c)

pub returns-clause-within : goal.returns-clause-within
returns-clause-within c = noted-counts (noted c)

pub returns-clause-leaves : goal.returns-clause-leaves
returns-clause-leaves c = noted-ready (noted c)

pub returns-clause-keeps : goal.returns-clause-keeps
returns-clause-keeps c = noted-keeps (noted c)

pub returns-clause-kept : goal.returns-clause-kept
returns-clause-kept c = noted-in-step (noted c) c.requires.few
