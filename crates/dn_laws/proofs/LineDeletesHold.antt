-- The laws of lines that delete, of what stands first in a line, and of what is refused there, hold.
use Rattle.dn_laws.proofs.Words.{AllDigits, BehindKinds, Bool, Command, DeletePipe, DeleteQueue, Deletes, DeletesAreKnown, Err, Has, HeadsAreKnown, Kind, KindsAreKnown, LeftOut, LineFault, List}
use Rattle.dn_laws.proofs.Words.{MissingValue, None, NumberFault, Ok, Option, Options, OutOfRange, Result, Setting, Some, UnknownWord, [], all_digits, and_parts, ap, arith, ascii_digits}
use Rattle.dn_laws.proofs.Words.{behind_ipfw, behind_kind, bytes_eq, bytes_eq-Decides, codes, command_from, command_of, command_with, decimal, decimal-digits_value, decimal_is_IsNumeral, defaults}
use Rattle.dn_laws.proofs.Words.{delete_at, deletes, digit_value, digits_value, eqb-false, false, filled, group_settings, groups, inl, inr, is_query, length, ltb-false, ltb-true, nat_lt}
use Rattle.dn_laws.proofs.Words.{number_of, number_within, numeral_of, numerals_by_value, pipe_or_queue_at, placed, queries, queue_with, ranged_back, refl, slice_index, sym, tells_digits, true}
use Rattle.dn_laws.proofs.Words.{true≢false, verb_at, whole_at, within_ok, ℕ, ⊎_elim, ◌++◌, ◌+◌, ◌<◌, ◌==◌, ◌^◌, ◌∙◌, ◌∷◌, ◌≡◌, ◌≢◌, ◌≤◌, ◌⊎◌}
use Rattle.dn_types.specs.declared.command.Command.TheVariants.{Pipe, Queue}
use Rattle.dn_config.specs.Groups.{◌>>=◌}
use Rattle.dn_config.specs.declared.kind.Kind.TheVariants as kind
use Rattle.dn_laws.proofs.LineLawsHold.{name-of, no-word}
use Rattle.dn_laws.proofs.LineValues.{number-out}

-- ---- What is read as a number is a number's own digits

as-digits : (ds : List ℕ) → all_digits 10 ds ≡ true → AllDigits 10 ds
as-digits [] h = tt
as-digits (d ∷ ds) h = let both = and_parts (nat_lt (digit_value d) 10) (all_digits 10 ds) h in (ltb-true _ _ both.0, as-digits ds both.1)

pub is-decimal : (w : List ℕ) (n : ℕ) → number_of w ≡ Some n → n < 2 ^ 64 → w ≡ decimal n
unfolding number_of numeral_of
is-decimal w n h l = by-tests (nat_lt 1 (length w)) (slice_index w 0 == 48) (nat_lt 0 (length w)) (all_digits 10 w) refl refl refl refl
  where
    by-tests : (a b c d : Bool) → nat_lt 1 (length w) ≡ a → slice_index w 0 == 48 ≡ b → nat_lt 0 (length w) ≡ c → all_digits 10 w ≡ d → w ≡ decimal n
    by-tests true true c d p q r s = let no = rw (p, q) at h in absurd (cc)
    by-tests true false false d p q r s = let no = rw (p, q, r) at h in absurd (cc)
    by-tests true false true false p q r s = let no = rw (p, q, r, s) at h in absurd (cc)
    by-tests true false true true p q r s =
        let is = rw (p, q, r, s) at h in
        let same : digits_value 10 w ≡ n = cc in
        let other = eqb-false _ _ q in
        rw same at (sym (decimal-digits_value (numerals_by_value _ tells_digits) w (as-digits w s) (ltb-true _ _ r) (λ e. absurd (other e)) (rw same l)))
    by-tests false b false d p q r s = let no = rw (p, r) at h in absurd (cc)
    by-tests false b true false p q r s = let no = rw (p, r, s) at h in absurd (cc)
    by-tests false b true true p q r s =
        let is = rw (p, r, s) at h in
        let same : digits_value 10 w ≡ n = cc in
        let short = ltb-false _ _ p in
        let some = ltb-true _ _ r in
        rw same at (sym (decimal-digits_value (numerals_by_value _ tells_digits) w (as-digits w s) some (λ e. omega (arith, short, some)) (rw same l)))

placed-ok : (at n : ℕ) (r : Result ℕ NumberFault) → placed at r ≡ Ok n → Ok n ≡ r
placed-ok at n (Ok m) h = let same : m ≡ n = cc in ap Ok (sym same)
placed-ok at n (Err fault) h = absurd (cc)

number-is : (at n : ℕ) (w : List ℕ) → pipe_or_queue_at at w ≡ Ok n → (w ≡ decimal n) × (1 ≤ n) × (n ≤ 65535)
number-is at n w h =
    let in-range = within_ok 1 65535 n (number_of w) (placed-ok at n (number_within 1 65535 w) h) in
    (is-decimal w n in-range.0 (omega (arith, in-range.2)), in-range.1, in-range.2)

-- ---- A line that is a delete has these words

abbrev is-delete : Command → Bool
is-delete (DeletePipe n) = true
is-delete (DeleteQueue n) = true
is-delete _ = false

with-no : (k : Kind) (at n : ℕ) (o : Options) (c : Command) → command_with k at n o ≡ Ok c → is-delete c ≡ true → ⊥
with-no kind.Pipe at n o (Pipe _ _ _ _ _ _ _) h d = true≢false (sym d)
with-no kind.Pipe at n o (Queue _ _ _ _ _ _ _) h d = true≢false (sym d)
with-no kind.Pipe at n o (DeletePipe m) h d = absurd (cc)
with-no kind.Pipe at n o (DeleteQueue m) h d = absurd (cc)
with-no kind.Queue at n o c h d = by-pipe o.pipe h
  where
    by-pipe : (p : Option ℕ) → queue_with at n o p ≡ Ok c → ⊥
    by-pipe None e = absurd (cc)
    by-pipe (Some p) e = let same : Queue n p o.weight o.limit o.loss o.buckets o.mask ≡ c = cc in true≢false (sym d ∙ sym (ap is-delete same))

config-no : (k : Kind) (at n : ℕ) (r : Result (List Setting) LineFault) (c : Command) → ◌>>=◌ {B = Command} r (λ ss. command_with k at n (filled defaults ss)) ≡ Ok c → is-delete c ≡ true → ⊥
config-no k at n (Ok ss) c h d = with-no k at n (filled defaults ss) c h d
config-no k at n (Err fault) c h d = absurd (cc)

whole-is : (at : ℕ) (ws : List (List ℕ)) (command c : Command) → whole_at at ws command ≡ Ok c → (c ≡ command) × (ws ≡ [])
whole-is at [] command c h = let same : command ≡ c = cc in (sym same, refl)
whole-is at (w ∷ ws) command c h = absurd (cc)

verb-is : (k : Kind) (at n : ℕ) (ws : List (List ℕ)) (c : Command) → verb_at k at n ws ≡ Ok c → is-delete c ≡ true → (c ≡ deletes k n) × (ws ≡ codes "delete" ∷ [])
verb-is k at n [] c h d = absurd (cc)
verb-is k at n (w ∷ ws) c h d = by-word (bytes_eq w (codes "config")) (bytes_eq w (codes "delete")) (is_query w) refl refl refl
  where
    by-word : (a b q : Bool) → bytes_eq w (codes "config") ≡ a → bytes_eq w (codes "delete") ≡ b → is_query w ≡ q → (c ≡ deletes k n) × (w ∷ ws ≡ codes "delete" ∷ [])
    by-word true b q e f g = absurd (config-no k at n (group_settings k (groups (at + 3) ws)) c (rw e at h) d)
    by-word false true q e f g =
        let whole = whole-is (at + 3) ws (deletes k n) c (rw (e, f) at h) in
        let name : w ≡ codes "delete" = (bytes_eq-Decides w (codes "delete")).0 f in
        (whole.0, rw (name, whole.1) refl)
    by-word false false true e f g = let bad = rw (e, f, g) at h in absurd (cc)
    by-word false false false e f g = let bad = rw (e, f, g) at h in absurd (cc)

-- behind the kind: the number and the word in either order
abbrev Told : Kind → Command → List (List ℕ) → Type 0
Told k c ws = (n : ℕ) × (c ≡ deletes k n) × (1 ≤ n) × (n ≤ 65535) × ((ws ≡ codes "delete" ∷ decimal n ∷ []) ⊎ (ws ≡ decimal n ∷ codes "delete" ∷ []))

subject-is : (k : Kind) (at : ℕ) (w : List ℕ) (ws : List (List ℕ)) (c : Command) (r : Result ℕ LineFault) → pipe_or_queue_at (at + 2) w ≡ r
    → ◌>>=◌ {B = Command} r (λ n. whole_at (at + 3) ws (deletes k n)) ≡ Ok c → Told k c (codes "delete" ∷ w ∷ ws)
subject-is k at w ws c (Err fault) e h = absurd (cc)
subject-is k at w ws c (Ok n) e h =
    let is = number-is (at + 2) n w e in
    let whole = whole-is (at + 3) ws (deletes k n) c h in
    (n, whole.0, is.1, is.2, inl (rw (is.0, whole.1) refl))

delete-is : (k : Kind) (at : ℕ) (ws : List (List ℕ)) (c : Command) → delete_at k at ws ≡ Ok c → Told k c (codes "delete" ∷ ws)
delete-is k at [] c h = absurd (cc)
delete-is k at (w ∷ ws) c h = subject-is k at w ws c (pipe_or_queue_at (at + 2) w) refl h

number-first : (k : Kind) (at : ℕ) (w : List ℕ) (ws : List (List ℕ)) (c : Command) (r : Result ℕ LineFault) → pipe_or_queue_at (at + 1) w ≡ r
    → ◌>>=◌ {B = Command} r (λ n. verb_at k at n ws) ≡ Ok c → is-delete c ≡ true → Told k c (w ∷ ws)
number-first k at w ws c (Err fault) e h d = absurd (cc)
number-first k at w ws c (Ok n) e h d =
    let is = number-is (at + 1) n w e in
    let verb = verb-is k at n ws c h d in
    (n, verb.0, is.1, is.2, inr (rw (is.0, verb.1) refl))

kind-is : (k : Kind) (at : ℕ) (ws : List (List ℕ)) (c : Command) → behind_kind k at ws ≡ Ok c → is-delete c ≡ true → Told k c ws
kind-is k at [] c h d = absurd (cc)
kind-is k at (w ∷ ws) c h d = by-word (bytes_eq w (codes "delete")) (is_query w) refl refl
  where
    by-word : (b q : Bool) → bytes_eq w (codes "delete") ≡ b → is_query w ≡ q → Told k c (w ∷ ws)
    by-word true q f g = let name : w ≡ codes "delete" = (bytes_eq-Decides w (codes "delete")).0 f in rw name (delete-is k at ws c (rw f at h))
    by-word false true f g = let bad = rw (f, g) at h in absurd (cc)
    by-word false false f g = number-first k at w ws c (pipe_or_queue_at (at + 1) w) refl (rw (f, g) at h) d

abbrev Spoken : Command → List (List ℕ) → Type 0
Spoken c ws = (k : Kind) × (rest : List (List ℕ)) × (ws ≡ name-of k ∷ rest) × Told k c rest

from-is : (at : ℕ) (ws : List (List ℕ)) (c : Command) → command_from at ws ≡ Ok c → is-delete c ≡ true → Spoken c ws
from-is at [] c h d = absurd (cc)
from-is at (w ∷ ws) c h d = by-word (bytes_eq w (codes "pipe")) (bytes_eq w (codes "queue")) (bytes_eq w (codes "sched")) refl refl refl
  where
    by-word : (a b q : Bool) → bytes_eq w (codes "pipe") ≡ a → bytes_eq w (codes "queue") ≡ b → bytes_eq w (codes "sched") ≡ q → Spoken c (w ∷ ws)
    by-word true b q e f g = (kind.Pipe, ws, ap (λ l. l ∷ ws) ((bytes_eq-Decides w (codes "pipe")).0 e), kind-is kind.Pipe at ws c (rw e at h) d)
    by-word false true q e f g = (kind.Queue, ws, ap (λ l. l ∷ ws) ((bytes_eq-Decides w (codes "queue")).0 f), kind-is kind.Queue at ws c (rw (e, f) at h) d)
    by-word false false true e f g = let bad = rw (e, f, g) at h in absurd (cc)
    by-word false false false e f g = let bad = rw (e, f, g) at h in absurd (cc)

some-is : (r : Result Command LineFault) (c : Command) → ◌>>=◌ {B = Option Command} r (λ c. Ok (Some c)) ≡ Ok (Some c) → r ≡ Ok c
some-is (Ok x) c h = let same : x ≡ c = cc in ap Ok same
some-is (Err fault) c h = absurd (cc)

-- the words before the kind, and those from it on
abbrev Line : Command → List (List ℕ) → Type 0
Line c ws = (before : List (List ℕ)) × Has ([] ∷ (codes "ipfw" ∷ []) ∷ []) before × (rest : List (List ℕ)) × (ws ≡ before ++ rest) × Spoken c rest

line-is : (ws : List (List ℕ)) (c : Command) → command_of ws ≡ Ok (Some c) → is-delete c ≡ true → Line c ws
line-is [] c h d = absurd (cc)
line-is (w ∷ ws) c h d = by-word (bytes_eq w (codes "ipfw")) refl
  where
    behind : (ws : List (List ℕ)) → behind_ipfw ws ≡ Ok c → Spoken c ws
    behind [] e = absurd (cc)
    behind (v ∷ ws) e = from-is 2 (v ∷ ws) c e d

    by-word : (b : Bool) → bytes_eq w (codes "ipfw") ≡ b → Line c (w ∷ ws)
    by-word true e = (codes "ipfw" ∷ [], inr (inl refl), ws, ap (λ l. l ∷ ws) ((bytes_eq-Decides w (codes "ipfw")).0 e), behind ws (some-is (behind_ipfw ws) c (rw e at h)))
    by-word false e = ([], inl refl, w ∷ ws, refl, from-is 1 (w ∷ ws) c (some-is (command_from 1 (w ∷ ws)) c (rw e at h)) d)

as-pipe : (n : ℕ) (ws : List (List ℕ)) → Line (DeletePipe n) ws → Deletes (codes "pipe") n ws
as-pipe n ws (before, has, rest, e, (kind.Queue, more, f, (m, same, low, high, words))) = absurd (cc)
as-pipe n ws (before, has, rest, e, (kind.Pipe, more, f, (m, same, low, high, words))) =
    let number : n ≡ m = cc in (
      before,
      has,
      rw number low,
      rw number high,
      ⊎_elim (λ g. inl (rw (number, ← g, ← f) e)) (λ g. inr (rw (number, ← g, ← f) e)) words,
    )

as-queue : (n : ℕ) (ws : List (List ℕ)) → Line (DeleteQueue n) ws → Deletes (codes "queue") n ws
as-queue n ws (before, has, rest, e, (kind.Pipe, more, f, (m, same, low, high, words))) = absurd (cc)
as-queue n ws (before, has, rest, e, (kind.Queue, more, f, (m, same, low, high, words))) =
    let number : n ≡ m = cc in (
      before,
      has,
      rw number low,
      rw number high,
      ⊎_elim (λ g. inl (rw (number, ← g, ← f) e)) (λ g. inr (rw (number, ← g, ← f) e)) words,
    )

-- ---- And such words delete

module _ (k : Kind) (at n : ℕ) (low : 1 ≤ n) (high : n ≤ 65535) where
  in-words : (place : ℕ) → pipe_or_queue_at place (decimal n) ≡ Ok n
  in-words place = let number = ranged_back 1 65535 n (omega arith) low high in rw number refl

  pub behind-digits : (ws : List (List ℕ)) → behind_kind k at (decimal n ∷ ws) ≡ verb_at k at n ws
  behind-digits ws =
      let digits = ascii_digits (decimal n) (decimal_is_IsNumeral n (omega arith)).0.1 in
      rw (no-word (decimal n) 100 _ (omega arith) digits, no-word (decimal n) 115 _ (omega arith) digits, no-word (decimal n) 108 _ (omega arith) digits, in-words (at + 1)) refl

  pub first-deletes : (ws : List (List ℕ)) → behind_kind k at (codes "delete" ∷ decimal n ∷ ws) ≡ whole_at (at + 3) ws (deletes k n)
  first-deletes ws = rw (in-words (at + 2)) refl

pub at-name : (k : Kind) (at : ℕ) (ws : List (List ℕ)) → command_from at (name-of k ∷ ws) ≡ behind_kind k at ws
at-name kind.Pipe at ws = refl
at-name kind.Queue at ws = refl

-- what is read of the words behind `ipfw`, or of those without it
no-prefix-at : (k : Kind) (ws : List (List ℕ)) (c : Command) → command_from 1 (name-of k ∷ ws) ≡ Ok c → command_of (name-of k ∷ ws) ≡ Ok (Some c)
no-prefix-at kind.Pipe ws c h = rw h refl
no-prefix-at kind.Queue ws c h = rw h refl

prefix-at : (k : Kind) (ws : List (List ℕ)) (c : Command) → command_from 2 (name-of k ∷ ws) ≡ Ok c → command_of (codes "ipfw" ∷ name-of k ∷ ws) ≡ Ok (Some c)
prefix-at k ws c h = rw h refl

does-delete : (k : Kind) (n : ℕ) (ws : List (List ℕ)) → Deletes (name-of k) n ws → command_of ws ≡ Ok (Some (deletes k n))
does-delete k n ws (before, has, low, high, words) =
    ⊎_elim (λ e. ⊎_elim (λ f. rw (f, ← e) (no-prefix-at k (codes "delete" ∷ decimal n ∷ []) (deletes k n) (at-name k 1 (codes "delete" ∷ decimal n ∷ []) ∙ first-deletes k 1 n low high [])))
    (λ f. rw (f, ← e) (no-prefix-at k (decimal n ∷ codes "delete" ∷ []) (deletes k n) (at-name k 1 (decimal n ∷ codes "delete" ∷ []) ∙ behind-digits k 1 n low high (codes "delete" ∷ [])))) words)
    (λ h. ⊎_elim (λ e. ⊎_elim (λ f. rw (f, ← e) (prefix-at k (codes "delete" ∷ decimal n ∷ []) (deletes k n) (at-name k 2 (codes "delete" ∷ decimal n ∷ []) ∙ first-deletes k 2 n low high [])))
    (λ f. rw (f, ← e) (prefix-at k (decimal n ∷ codes "delete" ∷ []) (deletes k n) (at-name k 2 (decimal n ∷ codes "delete" ∷ []) ∙ behind-digits k 2 n low high (codes "delete" ∷ [])))) words) (λ h. absurd h) h) has

pub deletes-are-known : DeletesAreKnown
deletes-are-known n ws = (
  λ h. as-pipe n ws (line-is ws (DeletePipe n) h refl),
  does-delete kind.Pipe n ws,
  λ h. as-queue n ws (line-is ws (DeleteQueue n) h refl),
  does-delete kind.Queue n ws,
)

-- ---- What stands first, second and third

module _ (w : List ℕ) where
  -- a word of a table, or none
  differs : (text : List ℕ) → w ≢ text → bytes_eq w text ≡ false
  differs text h = by-test (bytes_eq w text) refl
    where
      by-test : (b : Bool) → bytes_eq w text ≡ b → bytes_eq w text ≡ false
      by-test false e = e
      by-test true e = absurd (h ((bytes_eq-Decides w text).0 e))

head-unknown : (w : List ℕ) (ws : List (List ℕ)) → (Has (codes "ipfw" ∷ codes "pipe" ∷ codes "queue" ∷ codes "sched" ∷ []) w → ⊥) → command_of (w ∷ ws) ≡ Err (UnknownWord 1)
head-unknown w ws h =
    let a = differs w (codes "ipfw") (λ e. h (inl (sym e))) in
    let b = differs w (codes "pipe") (λ e. h (inr (inl (sym e)))) in
    let c = differs w (codes "queue") (λ e. h (inr (inr (inl (sym e))))) in
    let d = differs w (codes "sched") (λ e. h (inr (inr (inr (inl (sym e)))))) in
    rw (a, b, c, d) refl

pub heads-are-known : HeadsAreKnown
heads-are-known = record { none = refl; sched = λ ws. refl; first = head-unknown }

-- what a line with the kind first answers
said : (k : Kind) (ws : List (List ℕ)) → command_of (name-of k ∷ ws) ≡ ◌>>=◌ {B = Option Command} (behind_kind k 1 ws) (λ c. Ok (Some c))
said kind.Pipe ws = refl
said kind.Queue ws = refl

said-bad : (k : Kind) (ws : List (List ℕ)) (fault : LineFault) → behind_kind k 1 ws ≡ Err fault → command_of (name-of k ∷ ws) ≡ Err fault
said-bad k ws fault e = said k ws ∙ rw e refl

query-is : (w : List ℕ) → Has queries w → (is_query w ≡ true) × (bytes_eq w (codes "delete") ≡ false) × (bytes_eq w (codes "config") ≡ false)
query-is w h = ⊎_elim (λ e. rw (← e) (refl, refl, refl)) (λ h. ⊎_elim (λ e. rw (← e) (refl, refl, refl)) (λ h. absurd h) h) h

out-of-range : (at k : ℕ) → (k < 1) ⊎ (65535 < k) → k < 2 ^ 64 → pipe_or_queue_at at (decimal k) ≡ Err (OutOfRange at)
out-of-range at k out small = number-out k at small 1 65535 out

module _ (k : Kind) (n : ℕ) (low : 1 ≤ n) (high : n ≤ 65535) where
  out-second : (m : ℕ) (ws : List (List ℕ)) → (m < 1) ⊎ (65535 < m) → m < 2 ^ 64 → behind_kind k 1 (decimal m ∷ ws) ≡ Err (OutOfRange 2)
  out-second m ws out small =
      let digits = ascii_digits (decimal m) (decimal_is_IsNumeral m small).0.1 in
      rw (no-word (decimal m) 100 _ (omega arith) digits, no-word (decimal m) 115 _ (omega arith) digits, no-word (decimal m) 108 _ (omega arith) digits, out-of-range 2 m out small) refl

  verb-bad : (w : List ℕ) (ws : List (List ℕ)) → (Has (codes "config" ∷ codes "delete" ∷ queries) w → ⊥) → verb_at k 1 n (w ∷ ws) ≡ Err (UnknownWord 3)
  verb-bad w ws h =
      let a = differs w (codes "config") (λ e. h (inl (sym e))) in
      let b = differs w (codes "delete") (λ e. h (inr (inl (sym e)))) in
      let c = differs w (codes "show") (λ e. h (inr (inr (inl (sym e))))) in
      let d = differs w (codes "list") (λ e. h (inr (inr (inr (inl (sym e)))))) in
      rw (a, b, c, d) refl

  third-left : (w : List ℕ) (ws : List (List ℕ)) → Has queries w → verb_at k 1 n (w ∷ ws) ≡ Err (LeftOut 3)
  third-left w ws h = let is = query-is w h in rw (is.2, is.1, is.0) refl

  second-left : (w : List ℕ) (ws : List (List ℕ)) → Has queries w → behind_kind k 1 (w ∷ ws) ≡ Err (LeftOut 2)
  second-left w ws h = let is = query-is w h in rw (is.1, is.0) refl

  pub behind-kinds : BehindKinds (name-of k) n
  behind-kinds = record {
    no_number = said-bad k [] (MissingValue 1) refl;
    query = λ w ws h. said-bad k (w ∷ ws) (LeftOut 2) (second-left w ws h);
    out = λ m ws out small. said-bad k (decimal m ∷ ws) (OutOfRange 2) (out-second m ws out small);
    no_verb = said-bad k (decimal n ∷ []) (MissingValue 2) (behind-digits k 1 n low high []);
    third = λ w ws h. said-bad k (decimal n ∷ w ∷ ws) (LeftOut 3) (behind-digits k 1 n low high (w ∷ ws) ∙ third-left w ws h);
    verb = λ w ws h. said-bad k (decimal n ∷ w ∷ ws) (UnknownWord 3) (behind-digits k 1 n low high (w ∷ ws) ∙ verb-bad w ws h);
    no_subject = said-bad k (codes "delete" ∷ []) (MissingValue 2) refl;
    more = λ w ws. said-bad k (codes "delete" ∷ decimal n ∷ w ∷ ws) (UnknownWord 4) (first-deletes k 1 n low high (w ∷ ws));
    more_behind = λ w ws. said-bad k (decimal n ∷ codes "delete" ∷ w ∷ ws) (UnknownWord 4) (behind-digits k 1 n low high (codes "delete" ∷ w ∷ ws));
  }

pub kinds-are-known : KindsAreKnown
kinds-are-known name n h low high = ⊎_elim (λ e. rw (← e) (behind-kinds kind.Pipe n low high)) (λ h. ⊎_elim (λ e. rw (← e) (behind-kinds kind.Queue n low high)) (λ h. absurd h) h) h
