-- Homes of flows and slots of links stay while one link changes.
use Rattle.dn_shaper.proofs.Words.{AreSlotsAtHome, Ascends, FlowKey, Home, IsHomeOf, Link, LinkView, List, Some, ap, arith, cases_eq, cases_lt, get-set, get-set-other, home, inl, inr, set}
use Rattle.dn_shaper.proofs.Words.{slice_get, sym, ℕ, ⊎_elim, ◌<◌, ◌∙◌, ◌≡◌, ◌≤◌, ◌⊎◌}
use Rattle.dn_shaper.proofs.OnePlace.{each-set}
use Rattle.dn_shaper.proofs.Slots.{flow-at, flows-rise}

-- A flow is at home where it was if the link that is set has it at its slot.
pub home-set : (views : List LinkView) (k : ℕ) (v : LinkView) → slice_get views k ≡ Some v → (v' : LinkView) → v'.link ≡ v.link → {g : ℕ} {l : Link} {h : Home} →
    IsHomeOf g l views h → (slice_get v.slots h.slot ≡ Some g → slice_get v'.slots h.slot ≡ Some g) → IsHomeOf g l (set views k v') h
home-set views k v there v' same_link {g = g} {l = l} {h = h} is kept = by (cases_eq h.place k)
  where
    by : (h.place ≡ k) ⊎ (h.place ≡ k → ⊥) → IsHomeOf g l (set views k v') h
    by (inl same) =
        let both : Some v ≡ Some is.view = sym there ∙ ap (slice_get views) (sym same) ∙ is.there in
        let one : v ≡ is.view = cc in
        record {
          view = v';
          there = ap (slice_get (set views k v')) same ∙ get-set views k v v' there;
          link_is = same_link ∙ ap (λ (x : LinkView). x.link) one ∙ is.link_is;
          slot_is = λ pipe e. kept (ap (λ (x : LinkView). slice_get x.slots h.slot) one ∙ is.slot_is pipe e);
        }
    by (inr ne) = record { view = is.view; there = get-set-other views k h.place v' ne ∙ is.there; link_is = is.link_is; slot_is = is.slot_is }

pub home-after : (keys : List FlowKey) (views : List LinkView) (k : ℕ) (v : LinkView) → slice_get views k ≡ Some v → (v' : LinkView) → v'.link ≡ v.link →
    v'.slots ≡ v.slots → (g : ℕ) (h : Home) → IsHomeOf g (home keys g) views h → IsHomeOf g (home keys g) (set views k v') h
home-after keys views k v there v' same_link same_slots g h is = home-set views k v there v' same_link is (λ at. ap (λ (fs : List ℕ). slice_get fs h.slot) same_slots ∙ at)

-- Different slots have different flows.
pub slots-apart : (slots : List ℕ) → Ascends 0 slots → (i j f g : ℕ) → slice_get slots i ≡ Some f → slice_get slots j ≡ Some g → (i ≡ j → ⊥) → f ≡ g → ⊥
slots-apart slots up i j f g at_i at_j ne same =
    let x = flow-at 0 slots i f at_i in
    let y = flow-at 0 slots j g at_j in
    ⊎_elim (λ below. let r = flows-rise 0 slots i j up below in absurd (omega arith)) (λ above. let r = flows-rise 0 slots j i up (strict above) in absurd (omega arith)) (cases_lt i j)
  where
    strict : j ≤ i → j < i
    strict le = ⊎_elim (λ lt. lt) (λ ge. absurd (ne (omega arith))) (cases_lt j i)

pub slots_home-after : (keys : List FlowKey) (views : List LinkView) (k : ℕ) (v : LinkView) → slice_get views k ≡ Some v → (v' : LinkView) → v'.link ≡ v.link →
    v'.slots ≡ v.slots → AreSlotsAtHome keys views → AreSlotsAtHome keys (set views k v')
slots_home-after keys views k v there v' same_link same_slots h =
    each-set (λ (j : ℕ) (w : LinkView). (slot g : ℕ) → slice_get w.slots slot ≡ Some g → home keys g ≡ w.link) views k v there v'
    (λ slot g at. h k v there slot g (ap (λ (fs : List ℕ). slice_get fs slot) (sym same_slots) ∙ at) ∙ sym same_link)
    (λ j w e ne. h j w e)
