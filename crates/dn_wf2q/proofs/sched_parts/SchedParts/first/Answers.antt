use Rattle.dn_wf2q.proofs.Words.{Flow, IfNone, IfSome, IsIdle, List, None, Option, Some, Stamped, filter, first_to_go, flow_at, flows_of, heads_of, is_eligible, length, option_map, pick, raised}
use Rattle.dn_wf2q.proofs.Words.{refl, subst, sym, ℕ, ◌<◌, ◌∙◌, ◌≡◌}
use Rattle.dn_wf2q.proofs.Calm.{flows_same}
use Rattle.dn_wf2q.proofs.Counts.{heads_of_idle, idle_from_heads}
use Rattle.dn_wf2q.proofs.Scan.{pick_none}
use Rattle.dn_wf2q.proofs.Sending.{mapped_none}
use Rattle.dn_wf2q.proofs.sched_parts.SchedParts.first.Goals as goal
use Rattle.dn_wf2q.proofs.sched_parts.SchedParts.first.Goals.{After-first_eligible}

pub returns-then-is_idle-clause-picks : goal.returns-then-is_idle-clause-picks
returns-then-is_idle-clause-picks c = rw (heads_of_idle (flows_of c.args.self.now) (c.is_idle.ensures.idle.0 c.if-is_idle.true)) refl

pub returns-then-is_idle-clause-same : goal.returns-then-is_idle-clause-same
returns-then-is_idle-clause-same c = record {
  flows = refl;
  virtual_time = rw (heads_of_idle (flows_of c.args.self.now) (c.is_idle.ensures.idle.0 c.if-is_idle.true)) refl;
  busy_from = refl;
  arrivals = refl;
  picks = refl;
}

-- The first head that is eligible then.
answer : (c : After-first_eligible) → c.first_eligible.result ≡ option_map (λ h. h.flow) (pick c.args.self.now.virtual_time (heads_of (flows_of c.args.self.now)))
answer c =
    let p = c.args.self.now in
    let v = raised p.virtual_time (heads_of (flows_of p)) in
    let same = c.make_eligible.ensures.same in
    let flows = flows_same (record p { virtual_time = v }) c.make_eligible.new.self same in
    c.first_eligible.ensures.picks ∙ (λ i. option_map (λ (h : Stamped). h.flow) (first_to_go (filter (is_eligible (same.virtual_time i)) (heads_of (flows i)))))

pub returns-clause-picks : goal.returns-clause-picks
returns-clause-picks c = answer c

-- Some packet waits, so the scan finds one.
not_idle : (c : After-first_eligible) → IsIdle (flows_of c.args.self.now) → ⊥
not_idle c i = let t = c.is_idle.ensures.idle.1 i in let f = c.if-is_idle.false in absurd (cc)

idle_then : (c : After-first_eligible) → c.first_eligible.result ≡ None → IsIdle (flows_of c.args.self.now)
idle_then c e =
    let v = c.args.self.now.virtual_time in
    let hs = heads_of (flows_of c.args.self.now) in
    idle_from_heads (flows_of c.args.self.now) (pick_none v hs (mapped_none (pick v hs) (sym (answer c) ∙ e)))

never_none : (r : Option ℕ) (P : Type 0) → (r ≡ None → ⊥) → IfNone r P
never_none None P n = absurd (n refl)
never_none (Some x) P n = tt

pub returns-clause-idle : goal.returns-clause-idle
returns-clause-idle c = (λ e. idle_then c e, λ i. absurd (not_idle c i))

pub returns-clause-none : goal.returns-clause-none
returns-clause-none c = never_none c.first_eligible.result _ (λ e. not_idle c (idle_then c e))

pub returns-clause-waits : goal.returns-clause-waits
returns-clause-waits c =
    let p = c.args.self.now in
    let v = raised p.virtual_time (heads_of (flows_of p)) in
    let flows = flows_same (record p { virtual_time = v }) c.make_eligible.new.self c.make_eligible.ensures.same in
    subst (λ (fs : List Flow). IfSome c.first_eligible.result (λ slot. 0 < length (flow_at fs slot).backlog)) flows c.first_eligible.ensures.waits
