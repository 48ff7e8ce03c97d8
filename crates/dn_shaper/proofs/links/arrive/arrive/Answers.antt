-- The link at the home's place takes the packet.
use Rattle.dn_shaper.proofs.Words.{CanJoin, LinkView, Some, ap, flow_at, get-map, is_idle, map, pushed, queue_lengths, refl, subst, sym, view_of, viewed, views_of, ◌∙◌, ◌≡◌}
use Rattle.dn_shaper.proofs.Alone.{one-more-at, push-longer, set-seen}
use Rattle.dn_shaper.proofs.links.arrive.arrive.Goals as goal

pub join_link-requires : goal.join_link-requires
join_link-requires c =
    let before = queue_lengths c.args.parts.now.flows.flows in
    let its = viewed (view_of before) c.args.parts.now.links.items c.args.home.place c.index_mut-link.result.now c.requires.can.0 c.requires.can.1 c.index_mut-link.ensures.value in
    record { can = (before, subst (λ (v : LinkView). CanJoin c.args.home.slot v v.link) (sym its.1) c.requires.can.2) }

pub returns : goal.returns
returns c = λ at v at_place busy.
    let before = queue_lengths c.args.parts.now.flows.flows in
    let after = queue_lengths c.join_queue.new.parts.flows.flows in
    let its = viewed (view_of before) c.args.parts.now.links.items c.args.home.place c.index_mut-link.result.now c.requires.can.0 c.requires.can.1 c.index_mut-link.ensures.value in
    let there = get-map (view_of before) c.args.parts.now.links.items c.args.home.place c.index_mut-link.result.now its.0 in
    let both : Some v ≡ Some (view_of before c.index_mut-link.result.now) = sym at_place ∙ there in
    let same : v ≡ view_of before c.index_mut-link.result.now = cc in
    let flows_are = c.join_queue.ensures.flows_are in
    let longer = push-longer c.args.parts.now.flows.flows c.args.flow
    (record { packet = c.args.parts.now.accepted; len = c.args.len; weight = c.args.weight }) c.requires.within c.join_queue.new.parts.flows.flows flows_are in
    record {
      view = view_of before c.index_mut-link.result.now;
      view' = view_of after c.join_link.new.link;
      there = there;
      idle_is = sym busy ∙ ap (is_idle at) same;
      views_are = ap (λ ls. map (view_of after) ls.items) c.join_queue.ensures.links
          ∙ set-seen c.args.parts.now c.args.flow c.args.home.place c.requires.alone c.requires.within c.join_queue.new.parts.flows.flows
          (pushed (record { packet = c.args.parts.now.accepted; len = c.args.len; weight = c.args.weight }) (flow_at c.args.parts.now.flows.flows c.args.flow)) flows_are c.join_link.new.link;
      joins = c.join_link.ensures.joins before after
          (one-more-at c.args.flow c.args.home.place (views_of c.args.parts.now) c.requires.alone
          (view_of before c.index_mut-link.result.now) there before after longer (view_of after c.index_mut-link.result.now).link refl);
      flows_are = flows_are;
      rule = c.join_queue.ensures.rule;
      accepted = c.join_queue.ensures.accepted;
      keys = c.join_queue.ensures.keys;
      homes = c.join_queue.ensures.homes;
      line = c.join_queue.ensures.line;
      waiting = c.join_queue.ensures.waiting;
    }
