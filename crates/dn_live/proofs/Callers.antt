-- A call that a line asks for is by one of 16 callers.
use Rattle.dn_live.proofs.Words.{Asked, Bad, Bool, Call, Calls, Cause, Command, Err, Fields, List, Next, None, Nothing, NumberFault, Ok, Option, Result, Some, [], and_parts, arith, asked}
use Rattle.dn_live.proofs.Words.{asked_by, asked_by_first, asked_of, call_asked, caller_of, codes, column, command_in, cond, configure_asked, false, is_asking, is_call, is_comment, is_form}
use Rattle.dn_live.proofs.Words.{is_name, nat_le, nat_tests, not, number_of, or_place, plain_asked, plain_call, records_in, refl, result_ok, true, typed_asked, within, ℕ, ⊤, ◌&&◌, ◌<◌, ◌∷◌, ◌≡◌}
use Rattle.dn_live.proofs.Words.{◌≤◌}

abbrev pub IsByFew : Asked → Type 0
IsByFew (Calls caller call) = caller < 16
IsByFew Nothing = ⊤
IsByFew Next = ⊤
IsByFew (Bad bad) = ⊤

either : (b : Bool) (x y : Asked) → IsByFew x → IsByFew y → IsByFew (cond b x y)
either true x y p q = p
either false x y p q = q

-- A number of a range is at most its end.
abbrev UpTo15 : Result ℕ ℕ → Type 0
UpTo15 (Ok n) = n ≤ 15
UpTo15 (Err place) = ⊤

in-range : (place n : ℕ) (b : Bool) → (b ≡ true → n ≤ 15) → (fault : NumberFault) → UpTo15 (or_place place (result_ok (cond {A = Result ℕ NumberFault} b (Ok n) (Err fault))))
in-range place n true h fault = h refl
in-range place n false h fault = tt

ranged : (place : ℕ) (o : Option ℕ) → UpTo15 (or_place place (result_ok (within 0 15 o)))
unfolding within
ranged place None = tt
ranged place (Some n) = in-range place n (nat_le 0 n && nat_le n 15) (λ h. let both = and_parts (nat_le 0 n) (nat_le n 15) h in let last = both.1 in grind (arith, nat_tests)) _

caller-few : (fields : Fields) → UpTo15 (caller_of fields)
caller-few fields = ranged 2 (number_of (column 2 fields))

configure-few : (caller : ℕ) (r : Result (Option Command) Cause) → caller ≤ 15 → IsByFew (configure_asked caller r)
configure-few caller (Ok (Some command)) h = omega (arith, h)
configure-few caller (Ok None) h = tt
configure-few caller (Err cause) h = tt

plain-few : (caller : ℕ) (r : Result Call ℕ) → caller ≤ 15 → IsByFew (plain_asked caller r)
plain-few caller (Ok call) h = omega (arith, h)
plain-few caller (Err place) h = tt

call-few : (fields : Fields) (r : Result ℕ ℕ) → UpTo15 r → IsByFew (call_asked fields r)
call-few fields (Ok caller) h =
    either (is_call (codes "configure") 4 fields) (configure_asked caller (command_in (column 4 fields))) (plain_asked caller (plain_call fields))
    (configure-few caller (command_in (column 4 fields)) h) (plain-few caller (plain_call fields) h)
call-few fields (Err place) h = tt

typed-few : (r : Result (Option Command) Cause) → IsByFew (typed_asked r)
typed-few (Ok (Some command)) = omega arith
typed-few (Ok None) = tt
typed-few (Err cause) = tt

by-few : (line : List ℕ) (fields : Fields) → IsByFew (asked_by line fields)
unfolding asked_by
by-few line fields =
    either (is_name 1 fields (codes "c")) (call_asked fields (caller_of fields)) (cond (is_form 1 (codes "next") 1 fields) Next (typed_asked (command_in line)))
    (call-few fields (caller_of fields) (caller-few fields))
    (either (is_form 1 (codes "next") 1 fields) Next (typed_asked (command_in line)) tt (typed-few (command_in line)))

first-few : (line : List ℕ) (one : Bool) (fields : Fields) → IsByFew (asked_by_first line one fields)
first-few line one fields = either (not one && is_asking fields) _ (asked_by line fields) tt (by-few line fields)

of-few : (line : List ℕ) (records : List Fields) → IsByFew (asked_of line records)
of-few line [] = by-few line []
of-few line (fields ∷ []) = first-few line true fields
of-few line (fields ∷ more ∷ rest) = first-few line false fields

pub asked-few : (line : List ℕ) → IsByFew (asked line)
unfolding asked
asked-few line = either (is_comment line) Nothing (asked_of line (records_in line)) tt (of-few line (records_in line))
