-- The history of a run, one call at a time.
use Rattle.dn_replay.proofs.Words.{Call, Command, Configure, Entry, Err, IsFaultOf, List, None, Ok, Option, Ordered, ReplayFault, Reply, Result, Row, Some, [], ap, applied, arith, carried}
use Rattle.dn_replay.proofs.Words.{command_at, configured_from, entry_after, get_or, history_of, length, length-append, refl, refusal, reply, submit, submitted, sym, take, take_more, ℕ, ◌++◌, ◌+◌}
use Rattle.dn_replay.proofs.Words.{◌<◌, ◌∙◌, ◌∷◌, ◌≡◌}

-- One call more.
pub grown : (calls : List Call) (call : Call) (items : List Entry) (r : Reply) → items ≡ history_of calls → r ≡ reply Ordered calls call
    → items ++ record { caller = 0; call = call; reply = r } ∷ [] ≡ history_of (call ∷ calls)
unfolding history_of
grown calls call items r is said = rw (is, said) refl

-- The history of a call and those before it isn't empty.
pub nonempty : (calls : List Call) (call : Call) (entries : List Entry) → entries ≡ history_of (call ∷ calls) → 0 < length entries
unfolding history_of
nonempty calls call entries is = let size = length-append (history_of calls) (entry_after calls call ∷ []) in rw is (omega (arith, size))

pub nothing : [] ≡ history_of []
unfolding history_of
nothing = refl

pub submitted-append : (calls : List Call) (front : List Row) (row : Row) → submitted calls (front ++ row ∷ []) ≡ submit row ∷ submitted calls front
unfolding submitted
submitted-append calls [] row = refl
submitted-append calls (first ∷ front) row = submitted-append (submit first ∷ calls) front row

-- The rows of two lists, one behind the other.
pub submitted-both : (calls : List Call) (front back : List Row) → submitted (submitted calls front) back ≡ submitted calls (front ++ back)
unfolding submitted
submitted-both calls [] back = refl
submitted-both calls (row ∷ front) back = submitted-both (submit row ∷ calls) front back

-- One row more.
pub row-more : (calls : List Call) (rows : List Row) (i : ℕ) (row : Row) → i < length rows → row ≡ get_or rows i row → submit row ∷ submitted calls (take i rows) ≡ submitted calls (take (i + 1) rows)
row-more calls rows i row lt is =
    ap (λ (r : Row). submit r ∷ submitted calls (take i rows)) is ∙ sym (ap (submitted calls) (take_more rows i row lt) ∙ submitted-append calls (take i rows) (get_or rows i row))

pub no-row : (calls : List Call) → calls ≡ submitted calls []
unfolding submitted
no-row calls = refl

-- A command that is not refused.
pub accepted : (line : ℕ) (calls : List Call) (command : Command) (r : Reply) → r ≡ reply Ordered calls (Configure command) → refusal line r ≡ None
    → applied line calls (Some command) ≡ Ok (Configure command ∷ calls)
accepted line calls command r is none = let free = rw is at none in rw free refl

-- No line is left.
pub no_line : (calls : List Call) (number : ℕ) (all : List (List ℕ)) (whole : Result (List Call) ReplayFault) → all ≡ [] → configured_from calls number all ≡ whole → whole ≡ Ok calls
unfolding configured_from
no_line calls number all whole is so_far = let here = rw is at so_far in sym here

-- One line more.
pub line-more : (calls after : List Call) (number : ℕ) (line : List ℕ) (lines all : List (List ℕ)) (command : Option Command) (whole : Result (List Call) ReplayFault)
    → all ≡ line ∷ lines → command_at number line ≡ Ok command → applied number calls command ≡ Ok after → configured_from calls number all ≡ whole → configured_from after (number + 1) lines ≡ whole
unfolding configured_from
line-more calls after number line lines all command whole is said made so_far = rw (is, said, made) at so_far

faulty_line : (calls : List Call) (number : ℕ) (line : List ℕ) (lines all : List (List ℕ)) (fault : ReplayFault) (whole : Result (List Call) ReplayFault)
    → all ≡ line ∷ lines → command_at number line ≡ Err fault → configured_from calls number all ≡ whole → whole ≡ Err fault
unfolding configured_from
faulty_line calls number line lines all fault whole is said so_far = let here = rw (is, said) at so_far in sym here

refused_line : (calls : List Call) (number : ℕ) (line : List ℕ) (lines all : List (List ℕ)) (command : Option Command) (fault : ReplayFault) (whole : Result (List Call) ReplayFault)
    → all ≡ line ∷ lines → command_at number line ≡ Ok command → applied number calls command ≡ Err fault → configured_from calls number all ≡ whole → whole ≡ Err fault
unfolding configured_from
refused_line calls number line lines all command fault whole is said made so_far = let here = rw (is, said, made) at so_far in sym here

-- The first line that is faulty or refused gives the fault.
pub bad_line : (calls : List Call) (number : ℕ) (line : List ℕ) (lines all : List (List ℕ)) (fault : ReplayFault) (whole : Result (List Call) ReplayFault)
    → all ≡ line ∷ lines → command_at number line ≡ Err fault → IsFaultOf {A = Option Command} (Err fault) fault → configured_from calls number all ≡ whole → IsFaultOf whole fault
bad_line calls number line lines all fault whole is said own so_far =
    carried {A = Option Command} (Err fault) whole fault (λ f e. faulty_line calls number line lines all f whole is (said ∙ e) so_far) own

pub refused : (calls : List Call) (number : ℕ) (line : List ℕ) (lines all : List (List ℕ)) (command : Option Command) (fault : ReplayFault) (whole : Result (List Call) ReplayFault)
    → all ≡ line ∷ lines → command_at number line ≡ Ok command → IsFaultOf (applied number calls command) fault → configured_from calls number all ≡ whole → IsFaultOf whole fault
refused calls number line lines all command fault whole is said own so_far =
    carried (applied number calls command) whole fault (λ f e. refused_line calls number line lines all command f whole is said e so_far) own
