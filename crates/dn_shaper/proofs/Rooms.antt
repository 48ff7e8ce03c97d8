-- Room for a packet of a flow that is known stays where only packets start or are given.
use Rattle.dn_shaper.proofs.Words.{Bool, Call, Err, FiveTuple, FlowKey, HasRoomOf, IfOk, IsNewBy, IsNewFlow, IsOther, IsReady, KeepsOthersReady, KeepsOthersRoom, KeepsReady, LeavesRoom, Line}
use Rattle.dn_shaper.proofs.Words.{List, Ok, Option, Parts, Result, Rule, Some, StandsAfter, StandsAt, State, Target, Treatment, [], ap, arith, call_limit, cond, false, flow_number, is_known}
use Rattle.dn_shaper.proofs.Words.{key_eq, key_eq-true, key_of, length, not, refl, settings_of, subst, sym, treatment, true, with_key, ℕ, ◌++◌, ◌+◌, ◌<◌, ◌^◌, ◌||◌, ◌∙◌, ◌∷◌, ◌≡◌}
use Rattle.dn_shaper.specs.Room.{KeepsRoom}
use Rattle.dn_shaper.proofs.Counting.{all-count}

pub keeps-room : (old new : State) → new.configured ≡ old.configured → new.parts.flows.keys ≡ old.parts.flows.keys
    → KeepsReady old.parts new.parts → KeepsRoom old new
keeps-room old new same keys ready = (
  same,
  λ key has. record {
    known = ap (is_known key) keys ∙ has.known;
    ready = subst (λ (ks : List FlowKey). IsReady (flow_number ks key) new.parts) (sym keys) (ready (flow_number old.parts.flows.keys key) has.ready);
  },
)

-- The delay line is another.
pub with-line : (p : Parts) (line : Line) → KeepsReady p (record { rule = p.rule; accepted = p.accepted; flows = p.flows; links = p.links; waiting = p.waiting; line = line })
with-line p line flow ready = record { place = ready.place; slot = ready.slot }

pub leaves-of : (call named : Call) (old s new : State) → named ≡ call → old ≡ s → LeavesRoom call old new → LeavesRoom named s new
leaves-of call named old s new same is leaves = subst (λ (x : Call × State). LeavesRoom x.0 x.1 new) (λ i. (sym same i, is i)) leaves

-- ---- A packet leaves the room of other flows

-- A flow with another key has another number.
numbers-apart : (a b : FlowKey) (known : List FlowKey) → is_known a known ≡ true → flow_number known a ≡ flow_number known b → a ≡ b
numbers-apart a b [] there same = absurd cc
numbers-apart a b (k ∷ known) there same = by (key_eq a k) (key_eq b k) refl refl (λ its eq. numbers-apart a b known its eq) there same
  where
    by : (x y : Bool) → key_eq a k ≡ x → key_eq b k ≡ y → (is_known a known ≡ true → flow_number known a ≡ flow_number known b → a ≡ b) → (x || is_known a known) ≡ true
        → cond (not x) (1 + flow_number known a) 0 ≡ cond (not y) (1 + flow_number known b) 0 → a ≡ b
    by true true p q rest its eq = key_eq-true a k p ∙ sym (key_eq-true b k q)
    by true false p q rest its eq = absurd (omega arith)
    by false true p q rest its eq = absurd (omega arith)
    by false false p q rest its eq = rest its (omega arith)

-- A flow that is known has the number that it had before one more is.
number-stays : (a key : FlowKey) (known : List FlowKey) → is_known a known ≡ true → (flow_number (known ++ key ∷ []) a ≡ flow_number known a) × (is_known a (known ++ key ∷ []) ≡ true)
number-stays a key [] there = absurd cc
number-stays a key (k ∷ known) there = by (key_eq a k) (λ its. number-stays a key known its) there
  where
    by : (x : Bool) → (is_known a known ≡ true → (flow_number (known ++ key ∷ []) a ≡ flow_number known a) × (is_known a (known ++ key ∷ []) ≡ true)) → (x || is_known a known) ≡ true
        → (cond (not x) (1 + flow_number (known ++ key ∷ []) a) 0 ≡ cond (not x) (1 + flow_number known a) 0) × ((x || is_known a (known ++ key ∷ [])) ≡ true)
    by true rest its = (refl, refl)
    by false rest its = let r = rest its in (ap {B = ℕ} (λ n. 1 + n) r.0, r.1)

number-then : (a key : FlowKey) (known : List FlowKey) → is_known a known ≡ true → (flow_number (with_key key known) a ≡ flow_number known a) × (is_known a (with_key key known) ≡ true)
number-then a key known there = by (is_known key known)
  where
    by : (x : Bool) → (flow_number (cond x known (known ++ key ∷ [])) a ≡ flow_number known a) × (is_known a (cond x known (known ++ key ∷ [])) ≡ true)
    by true = (refl, there)
    by false = number-stays a key known there

pub others-room : (old new : Parts) (key : FlowKey) → new.flows.keys ≡ with_key key old.flows.keys → KeepsOthersReady (flow_number old.flows.keys key) old new
    → (other : FlowKey) → (other ≡ key → ⊥) → HasRoomOf other old → HasRoomOf other new
others-room old new key keys ready other ne has =
    let then = number-then other key old.flows.keys has.known in
    record {
      known = ap (is_known other) keys ∙ then.1;
      ready = subst (λ n. IsReady n new) (sym (ap (λ (ks : List FlowKey). flow_number ks other) keys ∙ then.0))
          (ready (flow_number old.flows.keys other) (λ same. ne (numbers-apart other key old.flows.keys has.known same)) has.ready);
    }

-- The packet is treated so, by what is configured.
pub others-some : (old new : State) (target : Target) (tuple : FiveTuple) (how : Treatment) → Some how ≡ treatment (settings_of old.configured target) → new.configured ≡ old.configured
    → new.parts.flows.keys ≡ with_key (key_of target tuple how) old.parts.flows.keys
    → KeepsOthersReady (flow_number old.parts.flows.keys (key_of target tuple how)) old.parts new.parts → KeepsOthersRoom target tuple old new
others-some old new target tuple how is same keys ready = (
  same,
  subst (λ (o : Option Treatment). (key : FlowKey) → IsOther o target tuple key → HasRoomOf key old.parts → HasRoomOf key new.parts) is
      (λ key other. others-room old.parts new.parts (key_of target tuple how) keys ready key other),
)

pub others-all : (old new : State) (target : Target) (tuple : FiveTuple) → KeepsRoom old new → KeepsOthersRoom target tuple old new
others-all old new target tuple keeps = (keeps.0, λ key other. keeps.1 key)

-- ---- What is said of calls

-- The shaper stands after these calls themselves, of which there are fewer than are answered.
stands-at : (rule : Rule) (t : State) (calls : List Call) → StandsAfter rule t calls → length calls < call_limit → StandsAt rule t calls
stands-at rule t calls stands few = subst (λ (cs : List Call). StandsAt rule t cs) (all-count calls (omega arith)) stands

-- A shaper that stands after fewer calls than are answered isn't at its last.
pub not-full : (rule : Rule) (s t : State) (calls : List Call) → s ≡ t → s.calls ≡ 2 ^ 62 → StandsAfter rule t calls → length calls < call_limit → ⊥
not-full rule s t calls is full stands few =
    let same = ap (λ (x : State). x.calls) is in let now = (stands-at rule t calls stands few).calls_are in omega arith

-- A key that the shaper doesn't have is new after its calls.
new-flow : (rule : Rule) (s t : State) (calls : List Call) (target : Target) (tuple : FiveTuple) → s ≡ t → StandsAfter rule t calls → length calls < call_limit
    → IsNewBy (treatment (settings_of s.configured target)) target tuple s.parts.flows.keys → IsNewFlow target tuple calls
new-flow rule s t calls target tuple is stands few new =
    let at = stands-at rule t calls stands few in
    subst (λ (x : Option Treatment × List FlowKey). IsNewBy x.0 target tuple x.1) (λ i. (treatment (at.settings_are i target), at.keys_are i))
    (subst (λ (x : State). IsNewBy (treatment (settings_of x.configured target)) target tuple x.parts.flows.keys) is new)

module _ {E : Type 0} where
  pub told-new : (s t : State) (target : Target) (tuple : FiveTuple) (result : Result Bool E) → s ≡ t
      → IfOk result (λ there. there ≡ false → IsNewBy (treatment (settings_of s.configured target)) target tuple s.parts.flows.keys)
      → IfOk result (λ there. there ≡ false → (rule : Rule) (calls : List Call) → StandsAfter rule t calls → length calls < call_limit → IsNewFlow target tuple calls)
  told-new s t target tuple (Ok there) is new = λ none rule calls stands few. new-flow rule s t calls target tuple is stands few (new none)
  told-new s t target tuple (Err e) is new = tt
