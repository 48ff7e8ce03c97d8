-- A flow's home is read, and the link there: both are those that the parts agree on.
use Rattle.dn_shaper.proofs.Words.{Agrees, AgreesWith, Event, Home, IsAlone, IsHomeOf, Link, LinkParts, List, Parts, Some, ap, arith, flow_at, get-below-map, get-map, get_or, home, homes_of}
use Rattle.dn_shaper.proofs.Words.{length, queue_lengths, slice_get, subst, sym, view_of, viewed, views_of, ℕ, ◌<◌, ◌∙◌, ◌≡◌}
use Rattle.dn_shaper.proofs.Alone.{is-alone}
use Rattle.dn_shaper.proofs.HomesOf.{home-get}

-- What stands at the flow's place among the homes is its home.
pub home-of : (p : Parts) {more : List Link} {trace : List Event} → AgreesWith p more trace → {flow : ℕ} → flow < length p.flows.keys → {h : Home} →
    slice_get (homes_of p.flows.flows) flow ≡ Some h → IsHomeOf flow (home p.flows.keys flow) (views_of p) h
home-of p a {flow = flow} within {h = h} at =
    let its = a.homes_are flow within in
    let both : Some its.0 ≡ Some h = sym its.1 ∙ at in
    let same : its.0 ≡ h = cc in
    subst (λ (x : Home). IsHomeOf flow (home p.flows.keys flow) (views_of p) x) same its.2

module _ (p : Parts) (agrees : Agrees p) {flow : ℕ} (within : flow < length p.flows.keys) where
  pub home-there : (h : Home) × (slice_get (homes_of p.flows.flows) flow ≡ Some h) × IsHomeOf flow (home p.flows.keys flow) (views_of p) h
  home-there = agrees.2.homes_are flow within

  pub in-table : flow < length p.flows.flows
  in-table = let m = agrees.2.as_many in omega arith

  module _ {h : Home} (read : h ≡ (flow_at p.flows.flows flow).home) where
    pub at-home : slice_get (homes_of p.flows.flows) flow ≡ Some h
    at-home = home-get p.flows.flows flow in-table ∙ ap Some (sym read)

    pub is-home : IsHomeOf flow (home p.flows.keys flow) (views_of p) h
    is-home = home-of p agrees.2 within at-home

    pub place-below : h.place < length p.links.items
    place-below = get-below-map (view_of (queue_lengths p.flows.flows)) p.links.items h.place is-home.view is-home.there

    pub home-alone : IsAlone flow h.place (views_of p)
    home-alone = is-alone p agrees.0 agrees.1 agrees.2 flow h.place is-home.view is-home.there (sym is-home.link_is)

    pub link-there : {link : LinkParts} → link ≡ get_or p.links.items h.place link → slice_get (views_of p) h.place ≡ Some (view_of (queue_lengths p.flows.flows) link)
    link-there {link = link} read-link =
        get-map (view_of (queue_lengths p.flows.flows)) p.links.items h.place link
        (viewed (view_of (queue_lengths p.flows.flows)) p.links.items h.place link is-home.view is-home.there read-link).0
