-- A session, line by line.
use Rattle.dn_live.proofs.Words.{All, All-cons, All-nil, Appends, Appends-trans, AppendsPart, AreTyped, Asked, Bad, Bool, Call, Calls, Consumes, Consumes-trans, HasFront, History, IsAtEnd}
use Rattle.dn_live.proofs.Words.{IsBrokenOff, IsLine, IsNotTaken, IsServedTyped, IsTextOf, IsTyped, IsUnwritten, Keeps, List, Next, None, Nothing, Option, Ordered, OutOfMemory, Read, ReplayFault}
use Rattle.dn_live.proofs.Words.{Served, Some, StandsAfter, State, TakesLine, TooLong, Write, [], answers, ap, append-nil, arith, asked, bad_lines, bad_of, bad_tail, begun, calls_after, calls_of}
use Rattle.dn_live.proofs.Words.{closing, codes, count_of, end_record, false, fields_text, inl, is_blank, length, length-append, lines_text, live_header, prepend_known, refl, served_of, subst}
use Rattle.dn_live.proofs.Words.{sym, tail_answer, take, take-append-add, take-append-le, text-append, text_of, true, unwritten-cases, ℕ, ◌++◌, ◌+◌, ◌<◌, ◌^◌, ◌∙◌, ◌∷◌, ◌≡◌, ◌≤◌}
use Rattle.dn_live.specs.Session.{answer}
use Rattle.dn_live.proofs.LineSteps.{front, front-behind}

pub counts : (calls : List Call) (what : Asked) → length (calls_after calls what) ≡ length calls + count_of what
counts calls Nothing = omega arith
counts calls Next = omega arith
counts calls (Calls caller call) = omega arith
counts calls (Bad bad) = omega arith

pub one-at-most : (what : Asked) → count_of what ≤ 1
one-at-most Nothing = omega arith
one-at-most Next = omega arith
one-at-most (Calls caller call) = omega arith
one-at-most (Bad bad) = omega arith

pub one-bad-at-most : (what : Asked) → bad_of what ≤ 1
one-bad-at-most Nothing = omega arith
one-bad-at-most Next = omega arith
one-bad-at-most (Calls caller call) = omega arith
one-bad-at-most (Bad bad) = omega arith

pub header-is : begun [] ≡ codes "dummynet-live,1\n"
unfolding answers text_of fields_text is_blank
header-is = refl

-- One line more.
pub begun-more : (lines : List (List ℕ)) (line : List ℕ) → begun (line ∷ lines) ≡ begun lines ++ text_of (answer (length lines + 1) (calls_of lines) (asked line))
unfolding answers
begun-more lines line = text-append (live_header ∷ answers lines) (answer (length lines + 1) (calls_of lines) (asked line))

pub calls-more : (lines : List (List ℕ)) (line : List ℕ) → calls_of (line ∷ lines) ≡ calls_after (calls_of lines) (asked line)
unfolding calls_of
calls-more lines line = refl

pub taken-more : (lines : List (List ℕ)) (line : List ℕ) (known mid new : Option (List ℕ)) → Consumes known mid (lines_text lines)
    → Consumes mid new (line ++ 10 ∷ []) → Consumes known new (lines_text (line ∷ lines))
unfolding lines_text
taken-more lines line known mid new p q = Consumes-trans known mid new (lines_text lines) (line ++ 10 ∷ []) p q

pub taken-none : (known : Option (List ℕ)) (left : List ℕ) → left ≡ [] → Consumes known (prepend_known left known) (lines_text [])
unfolding lines_text
taken-none None left e = tt
taken-none (Some xs) left e = rw e refl

pub ended : (known new : Option (List ℕ)) (text : List ℕ) → Consumes known new text → IsAtEnd new → IsTextOf known text
ended None new text p e = tt
ended (Some xs) None text p e = absurd p
ended (Some xs) (Some ys) text p e = sym (p ∙ ap (λ (t : List ℕ). text ++ t) e ∙ append-nil text)

pub appends-kept : (a b c : Option (List ℕ)) (bs : List ℕ) → Appends a b bs → Keeps b c → Appends a c bs
appends-kept None b c bs p q = tt
appends-kept (Some x) None c bs p q = absurd p
appends-kept (Some x) (Some y) None bs p q = absurd q
appends-kept (Some x) (Some y) (Some z) bs p q = q ∙ p

pub part-more : (a c : Option (List ℕ)) (x z : List ℕ) → AppendsPart a c x → AppendsPart a c (x ++ z)
part-more a c x z h =
    let k = h.0 in
    let lt : k < length x = h.1 in
    let le : k ≤ length x = omega arith in
    (k, omega (arith, length-append x z, lt), rw (take-append-le k x z le) h.2)

pub part-after : (a b c : Option (List ℕ)) (x y : List ℕ) → Appends a b x → AppendsPart b c y → AppendsPart a c (x ++ y)
part-after a b c x y p h =
    let k = h.0 in
    (length x + k, omega (arith, length-append x y, h.1), rw (take-append-add x y k) (Appends-trans a b c x (take k y) p h.2))

one-none : IsLine []
one-none = (λ k d lt. absurd (omega arith), omega arith)

no-lines : All IsLine ([] ∷ [])
no-lines = All-cons IsLine [] [] one-none (All-nil IsLine)

front-none : (known : Option (List ℕ)) → HasFront known (lines_text [] ++ [])
unfolding lines_text
front-none None = tt
front-none (Some xs) = (xs, refl)

-- The first record wasn't written whole.
pub head-broken : (known : Option (List ℕ)) (read_failed : Bool) (old new : Option (List ℕ)) (failed : Bool) (fault : ReplayFault)
    → read_failed ≡ false → (fault ≡ Write History) × (failed ≡ true) × AppendsPart old new (begun []) → IsBrokenOff known read_failed old new failed fault
head-broken known read_failed old new failed fault r h =
    rw h.0 (refl, r, h.1, ([], [], front-none known, no-lines, part-more old new (begun []) (closing [] []) h.2))

-- What stands after some lines.
module _ (known : Option (List ℕ)) (read_failed : Bool) (old mid new : Option (List ℕ)) (failed : Bool) (lines : List (List ℕ))
    (read : HasFront known (lines_text lines)) (all : All IsLine lines) where
  -- No line was taken.
  pub next-broken : (left : Option (List ℕ)) (fault : ReplayFault) → Consumes known left (lines_text lines) → Appends old new (begun lines) → failed ≡ false → IsNotTaken left read_failed fault
      → IsBrokenOff known read_failed old new failed fault
  next-broken left (Read what) took app f h = (f, (lines, (read, all, app), h))
  next-broken left (TooLong what) took app f h =
      let (piece, begins, one, long) = h.2 in
      (f, (lines, (read, all, app), (h.0, h.1, inl (piece, front-behind known left (lines_text lines) piece took begins, one, long))))
  next-broken left OutOfMemory took app f h = (f, (lines, (read, all, app), h))
  next-broken left fault took app f h = absurd h

  -- A text behind what was written for the lines wasn't written: it begins what is written of these lines and this tail.
  pub unwritten : (fault : ReplayFault) (more : List (List ℕ)) (tail text rest : List ℕ) → begun more ++ closing more tail ≡ (begun lines ++ text) ++ rest
      → HasFront known (lines_text more ++ tail) → All IsLine (tail ∷ more) → read_failed ≡ false → Appends old mid (begun lines)
      → IsUnwritten History text mid new failed fault → IsBrokenOff known read_failed old new failed fault
  unwritten fault more tail text rest e fr one r app h = unwritten-cases (IsBrokenOff known read_failed old new failed) History text mid new failed fault
      (λ what w. (w.0, r, w.1, (more, tail, fr, one, rw e (part-more old new (begun lines ++ text) rest (part-after old mid new (begun lines) text app w.2)))))
      (λ n. (n.0, (lines, (read, all, appends-kept old mid new (begun lines) app n.1), r))) h

  -- The answer to a line wasn't written.
  pub line-broken : (fault : ReplayFault) (line : List ℕ) → HasFront known (lines_text (line ∷ lines)) → IsLine line → read_failed ≡ false → Appends old mid (begun lines)
      → IsUnwritten History (text_of (answer (length lines + 1) (calls_of lines) (asked line))) mid new failed fault → IsBrokenOff known read_failed old new failed fault
  line-broken fault line fr one r app h =
      unwritten fault (line ∷ lines) [] (text_of (answer (length lines + 1) (calls_of lines) (asked line))) (closing (line ∷ lines) [])
      (ap (λ (t : List ℕ). t ++ closing (line ∷ lines) []) (begun-more lines line))
      (rw append-nil fr) (All-cons IsLine [] (line ∷ lines) one-none (All-cons IsLine line lines one all)) r app h

  -- The end wasn't written.
  pub end-broken : (fault : ReplayFault) (tail : List ℕ) → HasFront known (lines_text lines ++ tail) → IsLine tail → read_failed ≡ false → Appends old mid (begun lines)
      → IsUnwritten History (closing lines tail) mid new failed fault → IsBrokenOff known read_failed old new failed fault
  end-broken fault tail fr one r app h =
      unwritten fault lines tail (closing lines tail) [] (sym (append-nil (begun lines ++ closing lines tail))) fr (All-cons IsLine tail lines one all) r app h

pub stands-first : (shaper : State) → StandsAfter Ordered shaper [] → StandsAfter Ordered shaper (calls_of [])
unfolding calls_of
stands-first shaper h = h

pub stands-more : (shaper : State) (lines : List (List ℕ)) (line : List ℕ) → StandsAfter Ordered shaper (calls_after (calls_of lines) (asked line))
    → StandsAfter Ordered shaper (calls_of (line ∷ lines))
unfolding calls_of
stands-more shaper lines line h = h

pub typed-first : AreTyped []
unfolding AreTyped
typed-first = tt

pub typed-more : (lines : List (List ℕ)) (line : List ℕ) → IsTyped (calls_of lines) (asked line) → AreTyped lines → AreTyped (line ∷ lines)
unfolding AreTyped
typed-more lines line one all = (one, all)

pub count-first : 0 ≡ length (calls_of [])
unfolding calls_of
count-first = refl

pub bad-first : 0 ≡ bad_lines []
unfolding bad_lines
bad-first = refl

count-more : (lines : List (List ℕ)) (line : List ℕ) (calls made : ℕ) → calls ≡ length (calls_of lines) → made ≡ count_of (asked line) → calls + made ≡ length (calls_of (line ∷ lines))
count-more lines line calls made e f = omega (arith, e, f, counts (calls_of lines) (asked line), ap length (calls-more lines line))

bad-more : (lines : List (List ℕ)) (line : List ℕ) (bad made : ℕ) → bad ≡ bad_lines lines → made ≡ bad_of (asked line) → bad + made ≡ bad_lines (line ∷ lines)
unfolding bad_lines
bad-more lines line bad made e f = omega (arith, e, f)

-- What stands after some lines, where a further one or the tail was taken.
module _ (known mid new old wrote : Option (List ℕ)) (lines : List (List ℕ)) (line slice : List ℕ) (found : Bool)
    (so_far : Served) (number : ℕ) (taken : Consumes known mid (lines_text lines)) (all : All IsLine lines) (app : Appends old wrote (begun lines))
    (count : so_far.calls ≡ length (calls_of lines)) (bads : so_far.bad ≡ bad_lines lines) (at : number ≡ length lines + 1)
    (takes : TakesLine mid new found line) (one : IsLine line) (same : slice ≡ line) where
  closing-is : text_of (tail_answer number slice ++ end_record so_far.calls ∷ []) ≡ closing lines line
  closing-is = rw (same, count, at) refl

  answer-is : text_of (answer number (calls_of lines) (asked slice)) ≡ text_of (answer (length lines + 1) (calls_of lines) (asked line))
  answer-is = rw (same, at) refl

  served-is : record { calls = so_far.calls; bad = so_far.bad + bad_tail slice } ≡ served_of lines line
  served-is = rw (same, count, bads) refl

  pub served-typed : (now : Option (List ℕ)) (told : Served) → AreTyped lines → length lines < 2 ^ 64 → found ≡ false
      → (told ≡ record { calls = so_far.calls; bad = so_far.bad + bad_tail slice })
      × Appends wrote now (text_of (tail_answer number slice ++ end_record so_far.calls ∷ [])) → IsServedTyped known old now told
  served-typed now told typed few f w =
      let took = rw f at takes in (
        lines,
        line,
        (typed, few),
        (
          ended known new (lines_text lines ++ line) (Consumes-trans known mid new (lines_text lines) line taken took.0) took.1,
          All-cons IsLine line lines one all,
          Appends-trans old wrote now (begun lines) (closing lines line) app (subst (Appends wrote now) closing-is w.1),
          w.0 ∙ served-is,
        ),
      )

  pub unended : (now : Option (List ℕ)) (read_failed failed : Bool) (fault : ReplayFault) → found ≡ false → read_failed ≡ false
      → IsUnwritten History (text_of (tail_answer number slice ++ end_record so_far.calls ∷ [])) wrote now failed fault → IsBrokenOff known read_failed old now failed fault
  unended now read_failed failed fault f r h =
      let took = rw f at takes in
      end-broken known read_failed old wrote now failed lines (front known mid (lines_text lines) taken) all fault line
      (front known new (lines_text lines ++ line) (Consumes-trans known mid new (lines_text lines) line taken took.0)) one r app
      (subst (λ (t : List ℕ). IsUnwritten History t wrote now failed fault) closing-is h)

  took-line : found ≡ true → Consumes known new (lines_text (line ∷ lines))
  took-line f = taken-more lines line known mid new taken (rw f at takes)

  pub unanswered : (now : Option (List ℕ)) (read_failed failed : Bool) (fault : ReplayFault) → found ≡ true → read_failed ≡ false
      → IsUnwritten History (text_of (answer number (calls_of lines) (asked slice))) wrote now failed fault → IsBrokenOff known read_failed old now failed fault
  unanswered now read_failed failed fault f r h =
      line-broken known read_failed old wrote now failed lines (front known mid (lines_text lines) taken) all fault line
      (front known new (lines_text (line ∷ lines)) (took-line f)) one r app (subst (λ (t : List ℕ). IsUnwritten History t wrote now failed fault) answer-is h)

  pub line-more : (now : Option (List ℕ)) (shaper : State) (made next : Served) → found ≡ true → (made.calls ≡ count_of (asked slice)) × (made.bad ≡ bad_of (asked slice))
      → next ≡ record { calls = so_far.calls + made.calls; bad = so_far.bad + made.bad }
      → StandsAfter Ordered shaper (calls_after (calls_of lines) (asked slice)) × Appends wrote now (text_of (answer number (calls_of lines) (asked slice)))
      × IsTyped (calls_of lines) (asked slice) → AreTyped lines
      → (more : List (List ℕ)) × Consumes known new (lines_text more) × All IsLine more × Appends old now (begun more) × StandsAfter Ordered shaper (calls_of more)
      × (next.calls ≡ length (calls_of more)) × (next.bad ≡ bad_lines more) × (number + 1 ≡ length more + 1) × AreTyped more
  line-more now shaper made next f m is h typed = (
    line ∷ lines,
    took-line f,
    All-cons IsLine line lines one all,
    rw begun-more (Appends-trans old wrote now (begun lines) _ app (subst (Appends wrote now) answer-is h.1)),
    stands-more shaper lines line (rw same at h.0),
    ap (λ (s : Served). s.calls) is ∙ count-more lines line so_far.calls made.calls count (rw same at m.0),
    ap (λ (s : Served). s.bad) is ∙ bad-more lines line so_far.bad made.bad bads (rw same at m.1),
    omega (arith, at),
    typed-more lines line (rw same at h.2) typed,
  )
