-- What is taken out of a service that lasts, and what a caller learns from a token.
use Rattle.dn_service.proofs.Words.{Account, Bool, Each, Entry, Follows, IsCallerSeat, IsCount, IsKeeperOf, Joins, Learns, List, SeatRule, SeatState, SeatView, SeenView, Splits, StartsWith}
use Rattle.dn_service.proofs.Words.{TableId, [], ap, arith, as_it_was, caller_at, cond, faced_in, false, front_in, inl, inr, keeping, learned, length, length-append, longer, lost_in, nat_le}
use Rattle.dn_service.proofs.Words.{nat_tests, only_first, own_entries, own_in, refl, shed_in, sitting, spent, subst, sym, told_of, true, with_loss, with_shed, without_first, witness, witness_of}
use Rattle.dn_service.proofs.Words.{ℕ, ◌++◌, ◌+◌, ◌<◌, ◌^◌, ◌∙◌, ◌∷◌, ◌≡◌, ◌≤◌, ◌⊎◌}
use Rattle.dn_service.proofs.HistoryLaws.{starts_all, begins_longer}
use Rattle.dn_service.proofs.Splitting.{splits}
use Rattle.dn_service.proofs.Tokens.{witnesses, tells}

-- the account of the caller k, by its seat
abbrev pub account_of : ℕ → SeatState → Account
account_of k m = record { number = k; front = front_in m.0.accounts; own = own_in m.0.accounts; lost = lost_in m.0.accounts; faced = faced_in m.0.accounts }

-- a seat that stands for one caller and has entries taken out can be split
pub hands_back : (n id k : ℕ) (m : SeatState) → IsKeeperOf k m → Splits (SeatRule n) id m.0 (without_first m.0) (only_first m.0)
hands_back n id k m is =
    subst (λ v. Splits (SeatRule n) id v (without_first v) (only_first v)) (sym (ap (λ x. x.0) is))
    (splits n id m.0.count (shed_in m.0.shed) (account_of k m) [] (λ h. h))

-- one of the two lists begins with the other, and is this one
abbrev pub IsOneOf : List Entry → List Entry → List Entry → Type 0
IsOneOf xs ys l = (StartsWith xs ys × (l ≡ xs)) ⊎ (StartsWith ys xs × (l ≡ ys))

abbrev pub BothBegin : List Entry → List Entry → List Entry → Type 0
BothBegin xs ys l = StartsWith l xs × StartsWith l ys × IsOneOf xs ys l

-- of two that begin one history, the longer begins with both
pub both_begin : (history xs ys : List Entry) → StartsWith history xs → StartsWith history ys
    → BothBegin xs ys (longer xs ys)
both_begin history xs ys p q = by (nat_le (length xs) (length ys)) refl
  where
    by : (b : Bool) → nat_le (length xs) (length ys) ≡ b → BothBegin xs ys (cond b ys xs)
    by true e = let less : length xs ≤ length ys = grind (arith, nat_tests) in let h = begins_longer xs ys p.0 q.0 (sym p.1 ∙ q.1) less in (h, starts_all ys, inr (h, refl))
    by false e = let less : length ys ≤ length xs = grind (arith, nat_tests) in let h = begins_longer ys xs q.0 p.0 (sym q.1 ∙ p.1) less in (starts_all xs, h, inl (h, refl))

-- the seat of a caller after it learned from a token
pub learns_at : (k b : ℕ) (seen : List Entry) (m m' m'' w : SeatState) → m ≡ (sitting m.0.count k (front_in m.0.accounts) (own_in m.0.accounts) (lost_in m.0.accounts) (faced_in m.0.accounts), [])
    → w ≡ (witness b seen, []) → m' ≡ (told_of m.0 w.0, m.1) → m'' ≡ (learned m'.0, m'.1)
    → m'' ≡ (sitting m.0.count k (longer (front_in m.0.accounts) seen) (own_in m.0.accounts) (lost_in m.0.accounts) (faced_in m.0.accounts), [])
learns_at k b seen m m' m'' w sits is did after = after ∙ (λ i. (learned (did i).0, (did i).1)) ∙ (λ i. (learned (told_of (sits i).0 (is i).0), (sits i).1))

pub learned_from : (k b : ℕ) (seen : List Entry) (m m' m'' w : SeatState) (table table' : TableId) (token : SeenView) (history : List Entry)
    → m ≡ (sitting m.0.count k (front_in m.0.accounts) (own_in m.0.accounts) (lost_in m.0.accounts) (faced_in m.0.accounts), []) → w ≡ (witness b seen, [])
    → m' ≡ (told_of m.0 w.0, m.1) → m'' ≡ (learned m'.0, m'.1)
    → Each (Follows history) m'.0.accounts → StartsWith history m'.0.seen → token.front ≡ seen
    → Learns (caller_at table k m) token (caller_at table' k m'')
learned_from k b seen m m' m'' w table table' token history sits is did after follows starts same =
    let now = learns_at k b seen m m' m'' w sits is did after in
    let at : m' ≡ (
      told_of (sitting m.0.count k (front_in m.0.accounts) (own_in m.0.accounts) (lost_in m.0.accounts) (faced_in m.0.accounts)) (witness b seen),
      [],
    ) = did ∙ (λ i. (told_of (sits i).0 (is i).0, (sits i).1)) in
    let f = (subst (λ (z : SeatState). Each (Follows history) z.0.accounts) at follows).0 in
    let g : StartsWith history seen = subst (λ (z : SeatState). StartsWith history z.0.seen) at starts in
    let both = both_begin history (front_in m.0.accounts) seen f.front g in
    let front : front_in m''.0.accounts ≡ longer (front_in m.0.accounts) seen = ap (λ x. front_in x.0.accounts) now in record {
      had = subst (λ h. StartsWith h (front_in m.0.accounts)) (sym front) both.0;
      told = subst (λ h. StartsWith h token.front) (sym front) (subst (StartsWith (longer (front_in m.0.accounts) seen)) (sym same) both.1);
      one = subst (IsOneOf (front_in m.0.accounts) token.front) (sym front)
          (subst (λ t. IsOneOf (front_in m.0.accounts) t (longer (front_in m.0.accounts) seen)) (sym same) both.2);
      own = ap (λ x. own_in x.0.accounts) now;
      lost = ap (λ x. lost_in x.0.accounts) now;
      faced = ap (λ x. faced_in x.0.accounts) now;
    }

-- a caller's seat can be split from a seat that knows of what the caller has seen
pub shows : (n id k : ℕ) (m : SeatState)
    → m ≡ (sitting m.0.count k (front_in m.0.accounts) (own_in m.0.accounts) (lost_in m.0.accounts) (faced_in m.0.accounts), [])
    → Splits (SeatRule n) id m.0 (as_it_was m.0) (witness_of m.0)
shows n id k m is =
    subst (λ v. Splits (SeatRule n) id v (as_it_was v) (witness_of v)) (sym (ap (λ x. x.0) is))
    (witnesses n id m.0.count k (front_in m.0.accounts) (own_in m.0.accounts) (lost_in m.0.accounts) (faced_in m.0.accounts))

-- a seat can be told of what another knows
pub is_told : (n id other b : ℕ) (seen : List Entry) (v : SeatView) (w : SeatState) → w ≡ (witness b seen, []) → Joins (SeatRule n) id v other w.0 (told_of v w.0) spent
is_told n id other b seen v w is = subst (λ u. Joins (SeatRule n) id v other u (told_of v u) spent) (sym (ap (λ x. x.0) is)) (tells n id other b seen v)

-- a seat that is said to be one that stands for one caller is told by its own words
pub is_keeper : (k n : ℕ) (s front own : List Entry) (lost : List ℕ) (faced : ℕ) (m : SeatState)
    → m ≡ (keeping n s (record { number = k; front = front; own = own; lost = lost; faced = faced } ∷ []), []) → IsKeeperOf k m
is_keeper k n s front own lost faced m e = e ∙ (λ i. let z = sym e i in (keeping z.0.count (shed_in z.0.shed) (account_of k z ∷ []), []))

pub is_sitting : (k n : ℕ) (front own : List Entry) (lost : List ℕ) (faced : ℕ) (m : SeatState) → m ≡ (sitting n k front own lost faced, [])
    → m ≡ (sitting m.0.count k (front_in m.0.accounts) (own_in m.0.accounts) (lost_in m.0.accounts) (faced_in m.0.accounts), [])
is_sitting k n front own lost faced m e = e ∙ (λ i. let z = sym e i in (sitting z.0.count k (front_in z.0.accounts) (own_in z.0.accounts) (lost_in z.0.accounts) (faced_in z.0.accounts), []))

-- a caller's seat after a step that leaves the table and the count
pub is_seat : (table seat seat' : TableId) (k : ℕ) (m m' : SeatState) (front own : List Entry) (lost : List ℕ) (faced : ℕ) → IsCallerSeat table k seat m → seat' ≡ seat
    → m' ≡ (sitting m.0.count k front own lost faced, []) → IsCallerSeat table k seat' m'
is_seat table seat seat' k m m' front own lost faced was t now =
    let count : m'.0.count ≡ m.0.count = ap (λ (x : SeatState). x.0.count) now in record {
      at_table = t ∙ was.at_table;
      one_word = ap (λ (z : TableId). z.words) t ∙ was.one_word;
      below = subst (λ n. k < n) (sym count) was.below;
      few = subst (λ n. n ≤ 16) (sym count) was.few;
      sits = is_sitting k m.0.count front own lost faced m' now;
    }

pub is_waiting : (n : ℕ) (s : List Entry) (m : SeatState) → m ≡ (keeping n s [], []) → m ≡ (keeping n (shed_in m.0.shed) [], [])
is_waiting n s m e = e ∙ (λ i. let z = sym e i in (keeping n (shed_in z.0.shed) [], []))

pub empties_keeper : (k : ℕ) (m m' : SeatState) (f : ℕ → ℕ) (h : List Entry) → IsKeeperOf k m → m' ≡ (with_shed m.0 f h, []) → IsKeeperOf k m'
empties_keeper k m m' f h is e = is_keeper k m.0.count h h (own_entries k h) (lost_in m.0.accounts) (f k) m' (e ∙ (λ i. (with_shed (is i).0 f h, [])))

-- the keeper's seat after its try found caller j in a call
pub loses_keeper : (k : ℕ) (m m' : SeatState) (j : ℕ) → IsKeeperOf k m → m' ≡ (with_loss m.0 j, m.1) → IsKeeperOf k m'
loses_keeper k m m' j is e = is_keeper k m.0.count (shed_in m.0.shed) (front_in m.0.accounts) (own_in m.0.accounts) (lost_in m.0.accounts ++ j ∷ []) (faced_in m.0.accounts) m'
    (e ∙ (λ i. (with_loss (is i).0 j, (is i).1)))

-- the greatest count stays the greatest
counts_top : (k gone gone' : ℕ) → IsCount (gone + k) gone' → gone + 1 ≡ 2 ^ 64 → gone' + 1 ≡ 2 ^ 64
counts_top k gone gone' after top = by (nat_le (2 ^ 64) (gone + k)) refl top
  where
    by : (b : Bool) → nat_le (2 ^ 64) (gone + k) ≡ b → gone + 1 ≡ 2 ^ 64 → gone' + 1 ≡ 2 ^ 64
    by true e top = after.1 (grind (arith, nat_tests))
    by false e top = let small : gone + k < 2 ^ 64 = grind (arith, nat_tests) in let now : gone' ≡ gone + k = after.0 small in omega (arith, top, small, now)

-- a count goes on by so many
pub counts_on : (s k gone gone' : ℕ) → IsCount s gone → IsCount (gone + k) gone' → IsCount (s + k) gone'
counts_on s k gone gone' before after = (small, λ many. by (nat_le (2 ^ 64) s) refl many)
  where
    small : s + k < 2 ^ 64 → gone' ≡ s + k
    small few = let was : gone ≡ s = before.0 (omega (arith, few)) in let now : gone' ≡ gone + k = after.0 (omega (arith, few, was)) in omega (arith, was, now)

    by : (b : Bool) → nat_le (2 ^ 64) s ≡ b → 2 ^ 64 ≤ s + k → gone' + 1 ≡ 2 ^ 64
    by true e many = let most : 2 ^ 64 ≤ s = grind (arith, nat_tests) in counts_top k gone gone' after (before.1 most)
    by false e many = let few : s < 2 ^ 64 = grind (arith, nat_tests) in let was : gone ≡ s = before.0 few in after.1 (omega (arith, many, was))

-- how many entries were taken out, once all were
pub gone_all : (history shed kept : List Entry) (gone gone' : ℕ) → history ≡ shed ++ kept → IsCount (length shed) gone
    → IsCount (gone + length kept) gone' → IsCount (length history) gone'
gone_all history shed kept gone gone' whole before after =
    subst (λ n. IsCount n gone') (sym (ap length whole ∙ length-append shed kept)) (counts_on (length shed) (length kept) gone gone' before after)

-- who is ahead of what was called has seen less
pub seen_less : (history front : List Entry) (place after : ℕ) → StartsWith history front → IsCount (length history) place → place < after → after < 2 ^ 64
    → length front < after
seen_less history front place after starts count less few = by (nat_le (2 ^ 64) (length history)) refl (ap length starts.1 ∙ length-append front starts.0) less few
  where
    by : (b : Bool) → nat_le (2 ^ 64) (length history) ≡ b → length history ≡ length front + length starts.0 → place < after → after < 2 ^ 64 → length front < after
    by true e size less few = let most : 2 ^ 64 ≤ length history = grind (arith, nat_tests) in let top : place + 1 ≡ 2 ^ 64 = count.1 most in absurd (omega (arith, top, less, few))
    by false e size less few = let small : length history < 2 ^ 64 = grind (arith, nat_tests) in let same : place ≡ length history = count.0 small in omega (arith, size, same, less)
