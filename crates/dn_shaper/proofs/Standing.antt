-- A shaper stands after a call more, and stays sound.
use Rattle.dn_shaper.proofs.Words.{Advance, Advanced, AgreesWith, AreInStep, Call, Collect, Delivered, Delivery, Does, Event, Heap, IsSound, Line, Link, List, NextStart, OnlyStarts, Parts, Rule}
use Rattle.dn_shaper.proofs.Words.{Settings, SettlesAll, StandsAt, State, Within, [], ap, arith, collected, count_by-le-length, effective_moment, filter, given, homes_of, length, length-filter}
use Rattle.dn_shaper.proofs.Words.{link_names, max, nat_le, nat_lt, refl, settings, settings_of, settled, subst, trace_of, views_of, ℕ, ◌*◌, ◌+◌, ◌^◌, ◌∙◌, ◌∷◌, ◌≡◌, ◌≤◌}
use Rattle.dn_shaper.proofs.Accepting.{within-more}
use Rattle.dn_shaper.proofs.Noted.{indexed-still}
use Rattle.dn_shaper.proofs.Quiet.{collected-agrees}

-- ---- A timed call settles first

module _ (old : State) (parts : Parts) (heap : Heap NextStart) (at moment : ℕ) (at_is : at ≡ max old.now moment)
    (settles : SettlesAll (settings_of old.configured) at old.parts parts) (only : OnlyStarts old.parts old.heap parts heap) where
  now-is : (rule : Rule) (calls : List Call) → StandsAt rule old calls → at ≡ max (effective_moment calls) moment
  now-is rule calls s = at_is ∙ ap (λ n. max n moment) s.now_is

  settled-then : (rule : Rule) (calls : List Call) → StandsAt rule old calls → AgreesWith parts [] (settled (settings calls) (max (effective_moment calls) moment) (trace_of calls))
  settled-then rule calls s = subst (λ (x : Settings × ℕ). AgreesWith parts [] (settled x.0 x.1 (trace_of calls)))
      (λ i. (s.settings_are i, now-is rule calls s i)) (settles [] (trace_of calls) s.agrees)

  pub advanced : Does (Advance moment) old (record { parts = parts; heap = heap; shared = old.shared; configured = old.configured; now = at; calls = old.calls + 1 }) (Advanced at)
  advanced rule calls s = (
    ap Advanced (now-is rule calls s),
    record {
      rule_is = only.rule ∙ s.rule_is;
      calls_are = let c = s.calls_are in omega arith;
      now_is = now-is rule calls s;
      settings_are = s.settings_are;
      keys_are = only.keys ∙ s.keys_are;
      agrees = settled-then rule calls s;
    },
  )

  module _ (sound : IsSound old) (kept : AreInStep parts heap) (early : moment ≤ 2 ^ 62) where
    at-early : at ≤ 2 ^ 62
    at-early = let e = sound.early in omega (arith, at_is, e, early)

    moves-then : heap.moves + parts.waiting ≤ 2 * (old.calls + 1)
    moves-then = let a = only.moves in let b = sound.moves in omega arith

    pub advanced-sound : IsSound (record { parts = parts; heap = heap; shared = old.shared; configured = old.configured; now = at; calls = old.calls + 1 })
    advanced-sound = record {
      kept = kept;
      within = within-more old.calls (old.calls + 1) parts (omega arith) (only.within old.calls sound.within);
      moves = moves-then;
      early = at-early;
      indexed = indexed-still old _ (link_names (views_of old.parts)) (link_names (views_of parts)) refl only.names sound.indexed;
    }

  -- ---- What a Collect gives

  module _ (line : Line) (rest : line.pending ≡ filter (λ d. nat_lt at d.due) parts.line.pending) (room : parts.line.room ≤ line.room) (pushed : line.pushed ≡ parts.line.pushed) where
    abbrev pub after : Parts
    after = record { rule = parts.rule; accepted = parts.accepted; flows = parts.flows; links = parts.links; waiting = parts.waiting; line = line }

    after-agrees : (more : List Link) (trace : List Event) → AgreesWith parts more trace → AgreesWith after more (collected at ∷ trace)
    after-agrees more trace a = collected-agrees parts.rule parts.accepted parts.flows.keys (homes_of parts.flows.flows) (views_of parts) parts.flows.flows parts.line.pending more trace a at line.pending rest

    pub collects : (list : List Delivery) → list ≡ filter (λ d. nat_le d.due at) parts.line.pending →
        Does (Collect moment) old (record { parts = after; heap = heap; shared = old.shared; configured = old.configured; now = at; calls = old.calls + 1 }) (Delivered at list)
    collects list is rule calls s = (
      reply_is,
      record {
        rule_is = only.rule ∙ s.rule_is;
        calls_are = let c = s.calls_are in omega arith;
        now_is = now-is rule calls s;
        settings_are = s.settings_are;
        keys_are = only.keys ∙ s.keys_are;
        agrees = subst (λ m. AgreesWith after [] (collected m ∷ settled (settings calls) (max (effective_moment calls) moment) (trace_of calls)))
            (now-is rule calls s)
            (after-agrees [] (settled (settings calls) (max (effective_moment calls) moment) (trace_of calls)) (settled-then rule calls s));
      },
    )
      where
        list_is : list ≡ given rule at (settled (settings calls) (max (effective_moment calls) moment) (trace_of calls))
        list_is =
            is
            ∙ ap (λ (ds : List Delivery). filter (λ d. nat_le d.due at) ds) (settled-then rule calls s).pending_is
            ∙ ap (λ (r : Rule). given r at (settled (settings calls) (max (effective_moment calls) moment) (trace_of calls))) (only.rule ∙ s.rule_is)

        reply_is : Delivered at list ≡ Delivered (max (effective_moment calls) moment)
            (given rule (max (effective_moment calls) moment) (settled (settings calls) (max (effective_moment calls) moment) (trace_of calls)))
        reply_is = ap (Delivered at) list_is ∙ ap (λ m. Delivered m (given rule m (settled (settings calls) (max (effective_moment calls) moment) (trace_of calls)))) (now-is rule calls s)

    fewer : (ds : List Delivery) → length (filter (λ d. nat_lt at d.due) ds) ≤ length ds
    fewer ds = let a = length-filter (λ (d : Delivery). nat_lt at d.due) ds in let b = count_by-le-length (λ (d : Delivery). nat_lt at d.due) ds in omega arith

    after-within : (n : ℕ) → Within n parts → Within n after
    after-within n w = record {
      waiting_is = w.waiting_is;
      room = let a = w.room in omega arith;
      pushed = let a = w.pushed in omega arith;
      sums = let a = w.sums in let b = fewer parts.line.pending in let c = ap (λ (ds : List Delivery). length ds) rest in omega arith;
      flows_are = w.flows_are;
      arrivals = w.arrivals;
      accepted = w.accepted;
    }

    pub collects-sound : IsSound old → AreInStep parts heap → moment ≤ 2 ^ 62 →
        IsSound (record { parts = after; heap = heap; shared = old.shared; configured = old.configured; now = at; calls = old.calls + 1 })
    collects-sound sound kept early = record {
      kept = record {
        agrees = let a = kept.agrees in (a.0, collected at ∷ a.1, after-agrees a.0 a.1 a.2);
        within = after-within (2 ^ 62) kept.within;
        held = kept.held;
        places = kept.places;
      };
      within = after-within (old.calls + 1) (within-more old.calls (old.calls + 1) parts (omega arith) (only.within old.calls sound.within));
      moves = moves-then sound kept early;
      early = at-early sound kept early;
      indexed = indexed-still old _ (link_names (views_of old.parts)) (link_names (views_of parts)) refl only.names sound.indexed;
    }
