-- Each turn of the loop over packets tells the fate of one packet more.
use Rattle.hingetulip_c.proofs.Words.{AreTold, Bool, CFate, CPacket, Call, Event, Exhausted, List, Reply, Rule, [], answered, ap, arith, call_limit, cases_eq, cond, counted_reply, drop, drop-drop}
use Rattle.hingetulip_c.proofs.Words.{drop-set-lt, false, fate_of, fate_status, get_or, get_or-drop, get_or-set_other, get_or-set_same, get_or_default, length, loses, map, map-append, nat_le}
use Rattle.hingetulip_c.proofs.Words.{nat_tests, no_target, refl, refuses, reply, reply_at, reply_to_verdict, reverse, reverse-append, sent, set, submit_of, subst, sym, take, take_more, takes}
use Rattle.hingetulip_c.proofs.Words.{true, true≢false, ℕ, ⊎_elim, ◌++◌, ◌+◌, ◌<◌, ◌∙◌, ◌∷◌, ◌≡◌, ◌≢◌}
use Rattle.dn_types.specs.Calls.{Verdict}

pub sent-more : (packets : List CPacket) (i : ℕ) (p : CPacket) (calls : List Call) → i < length packets
    → sent (take (i + 1) packets) calls ≡ submit_of (get_or packets i p) ∷ sent (take i packets) calls
sent-more packets i p calls within =
    ap (λ (ps : List CPacket). sent ps calls) (take_more packets i p within)
    ∙ ap (λ (cs : List Call). reverse cs ++ calls) (map-append submit_of (take i packets) (get_or packets i p ∷ []))
    ∙ ap (λ (cs : List Call). cs ++ calls) (reverse-append (map submit_of (take i packets)) (submit_of (get_or packets i p) ∷ []))

-- What isn't written is as it was.
same-at : (old now : List CFate) (i : ℕ) (f : CFate) → drop i now ≡ drop i old → get_or now i f ≡ get_or old i f
same-at old now i f same =
    let none : i + 0 ≡ i = omega arith in
    ap (λ (n : ℕ). get_or now n f) (sym none) ∙ sym (get_or-drop i now 0 f) ∙ ap (λ (fs : List CFate). get_or fs 0 f) same ∙ get_or-drop i old 0 f ∙ ap (λ (n : ℕ). get_or old n f) none

pub others_more : {X : Type 0} (old now : List X) (i : ℕ) (x : X) → drop i now ≡ drop i old → drop (i + 1) (set now i x) ≡ drop (i + 1) old
others_more {X} old now i x same = drop-set-lt (i + 1) now i x (omega arith) ∙ sym (drop-drop 1 i now) ∙ ap (λ (xs : List X). drop 1 xs) same ∙ drop-drop 1 i old

module _ (rule : Rule) (calls : List Call) (packets : List CPacket) (old now : List CFate) (i : ℕ) (fate : CFate) where
  abbrev Told : List CFate → ℕ → CPacket → CFate → Type 0
  Told fates place p f = (fate_status (reply_at rule calls packets place p) ≡ 0) × (get_or fates place f ≡ fate_of (get_or old place f) (reply_at rule calls packets place p))

  -- The packet of this turn, whatever stands for those beyond the end.
  told-now : i < length packets → i < length now → drop i now ≡ drop i old → (status : ℕ) (p' : CPacket) (f' : CFate) → status ≡ 0 → status ≡ fate_status (reply_at rule calls packets i p')
      → fate ≡ fate_of (get_or now i f') (reply_at rule calls packets i p') → (p : CPacket) (f : CFate) → Told (set now i fate) i p f
  told-now within room same status p' f' zero status_is fate_is p f =
      let packet : get_or packets i p' ≡ get_or packets i p = get_or_default packets i p' p within in
      let before : get_or now i f' ≡ get_or old i f = get_or_default now i f' f room ∙ same-at old now i f same in
      let r : reply_at rule calls packets i p' ≡ reply_at rule calls packets i p = λ k. reply rule (sent (take i packets) calls) (submit_of (packet k)) in
      (ap fate_status (sym r) ∙ sym status_is ∙ zero, get_or-set_same now i fate f room ∙ fate_is ∙ (λ k. fate_of (before k) (r k)))

  pub told-more : i < length packets → i < length now → drop i now ≡ drop i old → (status : ℕ) (p' : CPacket) (f' : CFate) → status ≡ 0 → status ≡ fate_status (reply_at rule calls packets i p')
      → fate ≡ fate_of (get_or now i f') (reply_at rule calls packets i p') → AreTold i rule calls packets old now → AreTold (i + 1) rule calls packets old (set now i fate)
  told-more within room same status p' f' zero status_is fate_is so_far place p f less = ⊎_elim
      (λ (here : place ≡ i). subst (λ (n : ℕ). Told (set now i fate) n p f) (sym here) (told-now within room same status p' f' zero status_is fate_is p f))
      (λ (apart : place ≡ i → ⊥). let before : place < i = omega arith in let is = so_far place p f before in (is.0, get_or-set_other now i place fate f apart ∙ is.1))
      (cases_eq place i)

-- A status that is neither of a call that was answered.
pub unanswered : (status : ℕ) → status ≢ 0 → status ≢ 1 → answered status ≡ false
unanswered status some more = grind (arith, nat_tests)

pub is_answered : (status : ℕ) → status ≡ 0 → answered status ≡ true
is_answered status zero = ap answered zero

pub is_answered_last : (status : ℕ) → status ≡ 1 → answered status ≡ true
is_answered_last status one = ap answered one

pub answered_once : {A : Type 0} (status : ℕ) → answered status ≡ true → answered status ≡ false → A
answered_once status was isnt = absurd (true≢false (sym was ∙ isnt))

-- A packet to which no fate is told was answered Exhausted.
verdict_told : (at : ℕ) (v : Verdict) (trace : List Event) → fate_status (reply_to_verdict at v trace) ≡ 0
verdict_told at no_target trace = refl
verdict_told at (loses link flow) trace = refl
verdict_told at (refuses link flow) trace = refl
verdict_told at (takes link flow how) trace = refl

untold_by : (limit : Bool) (r : Reply) → fate_status r ≡ 0 → fate_status (cond limit Exhausted r) ≡ 1 → cond limit Exhausted r ≡ Exhausted
untold_by true r zero one = refl
untold_by false r zero one = let none : ⊥ = omega (arith, zero, one) in absurd none

pub untold : (rule : Rule) (calls : List Call) (p : CPacket) → fate_status (reply rule calls (submit_of p)) ≡ 1 → reply rule calls (submit_of p) ≡ Exhausted
untold rule calls p one = untold_by (nat_le call_limit (length calls)) (counted_reply rule calls (submit_of p)) (verdict_told _ _ _) one
