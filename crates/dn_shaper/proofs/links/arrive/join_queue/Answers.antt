-- The flow whose queue gets the packet keeps its home.
use Rattle.dn_shaper.proofs.Words.{ap, flow_at, homes_of, pushed, refl, ◌∙◌}
use Rattle.dn_shaper.proofs.HomesOf.{homes-set}
use Rattle.dn_shaper.proofs.links.arrive.join_queue.Goals as goal

pub returns : goal.returns
returns c =
    let old = c.args.parts.now in
    let flows_are = c.push_reserved.ensures.flows in
    record {
      flows_are = flows_are;
      links = refl;
      rule = refl;
      accepted = refl;
      keys = c.push_reserved.ensures.keys;
      homes = ap homes_of flows_are
          ∙ homes-set old.flows.flows c.args.flow (pushed (record { packet = old.accepted; len = c.args.len; weight = c.args.weight }) (flow_at old.flows.flows c.args.flow)) refl;
      line = refl;
      waiting = refl;
    }
