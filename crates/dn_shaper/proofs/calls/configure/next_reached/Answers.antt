-- Only a flow's reserved place may be let go.
use Rattle.dn_shaper.proofs.Words.{KeepsAt, LinkView, List, Waiting, ap, arith, length, queue_lengths, refl, slice_get, subst, sym, views_of, ℕ}
use Rattle.dn_shaper.proofs.Alone.{all-seen-same}
use Rattle.dn_shaper.proofs.HomesOf.{homes-each}
use Rattle.dn_shaper.proofs.Reached.{as-active}
use Rattle.dn_shaper.proofs.Reserving.{same-at}
use Rattle.dn_shaper.proofs.calls.configure.next_reached.Goals as goal

pub returns-clause-only : goal.returns-clause-only
returns-clause-only c =
    let old = c.args.parts.now in
    let flows = c.reached.new.flows.flows in
    let seen = all-seen-same old.links.items (queue_lengths old.flows.flows) (queue_lengths flows) (λ f. ap {B = ℕ} (λ (ws : List Waiting). length ws) (c.reached.ensures.flows f).backlog) in
    record {
      rule = refl;
      accepted = refl;
      keys = c.reached.ensures.keys;
      homes = homes-each old.flows.flows flows c.reached.ensures.many (λ f. (c.reached.ensures.flows f).home);
      waiting = refl;
      pending = refl;
      pushed = refl;
      room = omega arith;
      holds = λ h. let fewer = c.reached.ensures.places in omega arith;
      flows = λ f. let s = c.reached.ensures.flows f in record { backlog = s.backlog; lost = s.lost; full = s.full; started = s.started; discarded = s.discarded; active = s.active };
      many = c.reached.ensures.many;
      views = λ place. subst (λ (vs : List LinkView). KeepsAt (slice_get (views_of old) place) (slice_get vs place)) (sym seen) (same-at (slice_get (views_of old) place));
    }

pub returns-clause-count : goal.returns-clause-count
returns-clause-count c = as-active c.args.parts.now.flows.flows c.reached.new.flows.flows c.reached.ensures.many (λ f. (c.reached.ensures.flows f).active)
