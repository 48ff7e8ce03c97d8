-- All parts agree with the trace after a new flow got its home, and the shaper stays sound.
use Rattle.dn_shaper.proofs.Words.{AgreesWith, Event, FlowKey, GivesHome, Houses, IsReady, IsSound, KeepsReady, LinkView, List, None, Option, Prepares, Some, State, Table, [], length, place_for}
use Rattle.dn_shaper.proofs.Words.{queue_lengths, refl, subst, sym, views_of, ℕ, ◌≡◌}
use Rattle.dn_shaper.proofs.Alone.{all-seen-same}
use Rattle.dn_shaper.proofs.Preparing.{IsOneMore, lengths-more, with_flows}
use Rattle.dn_shaper.proofs.SharedHome.{shared-leaves, shared-ready, shared-prepares, shared-sound}
use Rattle.dn_shaper.proofs.NewHome.{opened-leaves, opened-ready, opened-prepares, opened-sound}

module _ (new : State) {old : State} {t : Table} {key : FlowKey} (sound : IsSound old) (one : IsOneMore key old.parts.flows t) {trace : List Event} (a : AgreesWith old.parts [] trace) where
  abbrev pub Given : ℕ → Type 0
  Given n = GivesHome key n (with_flows old t) new

  -- The flow that is new has no packet, so the links are seen as they were.
  houses-before : (g : Given (length old.parts.flows.keys)) →
      Houses (place_for key old.shared) key (length old.parts.flows.keys) g.home (views_of old.parts) (views_of new.parts) new.heap old.shared new.shared
  houses-before g =
      subst (λ (vs : List LinkView). Houses (place_for key old.shared) key (length old.parts.flows.keys) g.home vs (views_of new.parts) new.heap old.shared new.shared)
      (all-seen-same old.parts.links.items (queue_lengths old.parts.flows.flows) (queue_lengths t.flows) (lengths-more key old.parts.flows t one))
      g.houses

  given-at : (f : ℕ) → f ≡ length old.parts.flows.keys → Given f → Given (length old.parts.flows.keys)
  given-at f e g = subst Given e g

  pub given-ready : (f : ℕ) → f ≡ length old.parts.flows.keys → Given f → IsReady f new.parts
  given-ready f e given = subst (λ n. IsReady n new.parts) (sym e) (by (place_for key old.shared) refl (houses-before g))
    where
      g : Given (length old.parts.flows.keys)
      g = given-at f e given

      by : (o : Option ℕ) → place_for key old.shared ≡ o →
          Houses o key (length old.parts.flows.keys) g.home (views_of old.parts) (views_of new.parts) new.heap old.shared new.shared →
          IsReady (length old.parts.flows.keys) new.parts
      by (Some place) noted h = shared-ready old new t key one g a.as_many place noted h.0 h.1 sound.indexed a.as_many_homes
      by None noted h = opened-ready old new t key one g a.as_many noted h.0 h.1 sound.indexed a.as_many_homes

  pub given-leaves : (f : ℕ) → f ≡ length old.parts.flows.keys → Given f → KeepsReady old.parts new.parts
  given-leaves f e given = by (place_for key old.shared) refl (houses-before g)
    where
      g : Given (length old.parts.flows.keys)
      g = given-at f e given

      by : (o : Option ℕ) → place_for key old.shared ≡ o →
          Houses o key (length old.parts.flows.keys) g.home (views_of old.parts) (views_of new.parts) new.heap old.shared new.shared → KeepsReady old.parts new.parts
      by (Some place) noted h = shared-leaves old new t key one g a.as_many place noted h.0 h.1 sound.indexed trace a
      by None noted h = opened-leaves old new t key one g a.as_many noted h.0 h.1 sound.indexed trace a

  pub given-prepares : (f : ℕ) → f ≡ length old.parts.flows.keys → Given f → Prepares f old.parts new.parts
  given-prepares f e given = subst (λ n. Prepares n old.parts new.parts) (sym e) (by (place_for key old.shared) refl (houses-before g))
    where
      g : Given (length old.parts.flows.keys)
      g = given-at f e given

      by : (o : Option ℕ) → place_for key old.shared ≡ o →
          Houses o key (length old.parts.flows.keys) g.home (views_of old.parts) (views_of new.parts) new.heap old.shared new.shared →
          Prepares (length old.parts.flows.keys) old.parts new.parts
      by (Some place) noted h = shared-prepares old new t key one g a.as_many place noted h.0 h.1 sound.indexed
      by None noted h = opened-prepares old new t key one g a.as_many noted h.0 h.1 sound.indexed

  pub given-sound : (f : ℕ) → f ≡ length old.parts.flows.keys → Given f → IsSound new
  given-sound f e given = by (place_for key old.shared) refl (houses-before g)
    where
      g : Given (length old.parts.flows.keys)
      g = given-at f e given

      by : (o : Option ℕ) → place_for key old.shared ≡ o → Houses o key (length old.parts.flows.keys) g.home (views_of old.parts) (views_of new.parts) new.heap old.shared new.shared → IsSound new
      by (Some place) noted h = shared-sound old new t key one g a.as_many place noted h.0 h.1 sound.indexed trace a sound
      by None noted h = opened-sound old new t key one g a.as_many noted h.0 h.1 sound.indexed trace a sound
