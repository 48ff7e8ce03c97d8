-- The link at the home's place loses the packets.
use Rattle.dn_shaper.proofs.Words.{HoldsCount, LeavesLink, LinkView, ap, arith, emptied, flow_at, get-map, homes_of, queue_lengths, refl, subst, sym, view_of, viewed, views_of, ℕ, ◌∙◌}
use Rattle.dn_shaper.proofs.Alone.{length-now, loses-at, set-seen}
use Rattle.dn_shaper.proofs.HomesOf.{homes-set}
use Rattle.dn_shaper.proofs.links.discard.empty_flow.Goals as goal

pub returns : goal.returns
returns c =
    let old = c.args.parts.now in
    let before = queue_lengths old.flows.flows in
    let after = queue_lengths c.discard.new.self.flows in
    let v = viewed (view_of before) old.links.items c.args.home.place c.index_mut-link.result.now c.requires.at.0 c.requires.at.1 c.index_mut-link.ensures.value in
    let there = get-map (view_of before) old.links.items c.args.home.place c.index_mut-link.result.now v.0 in
    let none = length-now old.flows.flows c.args.flow c.requires.within (emptied (flow_at old.flows.flows c.args.flow)) c.discard.new.self.flows c.discard.ensures.flows in
    let all = c.requires.all in
    let enough = c.requires.waiting in
    let holds = subst (λ (x : LinkView). HoldsCount c.args.home.slot c.args.count x x.link) (sym v.1) c.requires.at.2 in
    let loses = loses-at c.args.flow c.args.home.place (views_of old) c.requires.alone
    (view_of before c.index_mut-link.result.now) there c.args.home.slot c.args.count before after (omega arith)
    (view_of before c.index_mut-link.result.now).link refl holds in
    record {
      view = view_of before c.index_mut-link.result.now;
      view' = view_of after c.leave_link.new.link;
      there = there;
      views_are = set-seen old c.args.flow c.args.home.place c.requires.alone c.requires.within c.discard.new.self.flows
          (emptied (flow_at old.flows.flows c.args.flow)) c.discard.ensures.flows c.leave_link.new.link;
      leaves = subst (λ (n : ℕ). LeavesLink c.args.home.slot n (view_of before c.index_mut-link.result.now) (view_of after c.leave_link.new.link)) all
          (c.leave_link.ensures before after c.args.count loses);
      flows_are = c.discard.ensures.flows;
      rule = refl;
      accepted = refl;
      keys = c.discard.ensures.keys;
      homes = ap homes_of c.discard.ensures.flows ∙ homes-set old.flows.flows c.args.flow (emptied (flow_at old.flows.flows c.args.flow)) refl;
      line = refl;
      waiting = omega arith;
    }
