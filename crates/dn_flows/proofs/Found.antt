-- A flow is the one with a key, where it has that key; a key that no flow has gets the next number.
use Rattle.dn_flows.proofs.Words.{Bool, FlowKey, HasDistinctKeys, List, None, Option, Some, [], ap, arith, cond, false, flow_number, is_known, key_eq, key_eq-true, length, list_any, not}
use Rattle.dn_flows.proofs.Words.{option_map_or, refl, slice_get, suc, sym, true, zero, ℕ, ◌+◌, ◌<◌, ◌||◌, ◌∙◌, ◌∷◌, ◌≡◌}

-- The flow has the number of the key, and the key is known.
pub record HasNumber (key : FlowKey) (keys : List FlowKey) (flow : ℕ) : Type 0 where
  pub number : flow ≡ flow_number keys key
  pub within : flow < length keys
  pub known : is_known key keys ≡ true

-- A flow that has the key has its number, since no other flow has it.
has-number : (key stored : FlowKey) → key_eq key stored ≡ true → (keys : List FlowKey) (place : ℕ) → HasDistinctKeys keys → slice_get keys place ≡ Some stored → HasNumber key keys place
has-number key stored same [] place d s = absurd cc
has-number key stored same (k ∷ keys) zero d s =
    let is : k ≡ stored = cc in
    let here : key_eq key k ≡ true = ap (key_eq key) is ∙ same in
    record { number = λ i. cond (not (sym here i)) (1 + flow_number keys key) 0; within = omega arith; known = λ i. here i || list_any (key_eq key) keys }
has-number key stored same (k ∷ keys) (suc place) d s = by (key_eq key k) refl (has-number key stored same keys place rest s)
  where
    rest : HasDistinctKeys keys
    rest i j l m e f eq = let one : suc i ≡ suc j = d (suc i) (suc j) l m e f eq in omega arith

    by : (b : Bool) → key_eq key k ≡ b → HasNumber key keys place → HasNumber key (k ∷ keys) (suc place)
    by true t is =
        let key_is : key ≡ k = key_eq-true key k t in
        let both : key_eq k stored ≡ true = ap (λ (x : FlowKey). key_eq x stored) (sym key_is) ∙ same in
        let wrong : 0 ≡ suc place = d 0 (suc place) k stored refl s both in
        absurd (omega arith)
    by false other is =
        let number = is.number in
        let more : suc place ≡ 1 + flow_number keys key = omega arith in
        record { number = more ∙ (λ i. cond (not (sym other i)) (1 + flow_number keys key) 0); within = omega arith; known = (λ i. other i || list_any (key_eq key) keys) ∙ is.known }

pub found : (key table_key : FlowKey) → table_key ≡ key → (keys : List FlowKey) (flow : ℕ) → HasDistinctKeys keys
    → option_map_or (key_eq table_key) (slice_get keys flow) false ≡ true → HasNumber key keys flow
found key table_key is keys flow d has = by (slice_get keys flow) refl has
  where
    by : (o : Option FlowKey) → slice_get keys flow ≡ o → option_map_or (key_eq table_key) o false ≡ true → HasNumber key keys flow
    by None e t = absurd cc
    by (Some stored) e t = has-number key stored (ap (λ (k : FlowKey). key_eq k stored) (sym is) ∙ t) keys flow d e

-- A key that no flow has gets the number after all flows.
pub next-number : (key : FlowKey) (keys : List FlowKey) → is_known key keys ≡ false → flow_number keys key ≡ length keys
next-number key [] e = refl
next-number key (k ∷ keys) e = by (key_eq key k) refl e (next-number key keys)
  where
    by : (b : Bool) → key_eq key k ≡ b → (b || is_known key keys) ≡ false → (is_known key keys ≡ false → flow_number keys key ≡ length keys)
        → flow_number (k ∷ keys) key ≡ suc (length keys)
    by true t e rest = absurd cc
    by false t e rest =
        let more : 1 + flow_number keys key ≡ suc (length keys) = omega arith in
        (λ i. cond (not (t i)) (1 + flow_number keys key) 0) ∙ more
