-- What is kept of a run, one call at a time.
use Rattle.dn_replay.proofs.Words.{AcceptedRow, Bool, Call, Command, Configure, Configured, DeletePipe, DeleteQueue, Deleted, Delivery, Entry, Event, Exhausted, Fate, HasKept, Kept, List}
use Rattle.dn_replay.proofs.Words.{NoSuchPipe, NoSuchQueue, Option, Ordered, Packet, Pipe, PipeHasQueues, Queue, Queued, Refused, RefusedRow, Reply, Settings, Submit, Target, Verdict, []}
use Rattle.dn_replay.proofs.Words.{accepted_row, ap, append-nil, append_assoc, arith, call_limit, command_reply, cond, count_by, counted_reply, delivered, deliveries, entry_after, entry_line}
use Rattle.dn_replay.proofs.Words.{false, fate_line, fate_lines, fate_of, has_queues, history_of, is_accepted, is_row, is_some, is_submit, length, length_push, lines_after, list_any}
use Rattle.dn_replay.proofs.Words.{list_any-append, nat_eq, nat_le, no_target, option_to_list, queue_numbers, refl, refused_row, reply, reply_line, reply_to_command, reply_to_verdict, rows_kept}
use Rattle.dn_replay.proofs.Words.{settings, submits_by, suc, sum_by-cons, sym, true, verdict, ℕ, ◌&&◌, ◌*◌, ◌++◌, ◌+◌, ◌||◌, ◌∙◌, ◌∷◌, ◌≡◌}
use Rattle.dn_types.specs.declared.target.Target.TheVariants.{Pipe as ToPipe, Queue as ToQueue}
use Rattle.dn_replay.specs.declared.report.fate.Fate.TheVariants.{Accepted}
use Rattle.dn_replay.proofs.Deliveries.{deliveries-append}
use Rattle.dn_replay.proofs.PacketNumbers.{configured-accepts, number-is, submitted-accepts}

-- ---- One more at the end

pub lines-push : (n : ℕ) (given : List Delivery) (before entries : List Entry) (e : Entry)
    → lines_after n given before (entries ++ e ∷ []) ≡ lines_after n given before entries ++ option_to_list (entry_line n given (submits_by e.caller (before ++ entries)) e)
unfolding lines_after
lines-push n given before [] e = rw (append-nil before) (append-nil _)
lines-push n given before (x ∷ entries) e =
    rw (lines-push n given (before ++ x ∷ []) entries e, append_assoc before (x ∷ []) entries)
    (sym (append_assoc (option_to_list (entry_line n given (submits_by x.caller before) x)) (lines_after n given (before ++ x ∷ []) entries) _))

count-cons : (p : Entry → Bool) (e : Entry) (entries : List Entry) → count_by p (e ∷ entries) ≡ cond (p e) 1 0 + count_by p entries
count-cons p e entries = sum_by-cons (λ x. cond (p x) 1 0) e entries

count-push : (p : Entry → Bool) (entries : List Entry) (e : Entry) → count_by p (entries ++ e ∷ []) ≡ count_by p entries + cond (p e) 1 0
count-push p [] e = let one = count-cons p e [] in omega (arith, one)
count-push p (x ∷ entries) e =
    let rest = count-push p entries e in
    let a = count-cons p x (entries ++ e ∷ []) in
    let b = count-cons p x entries in
    omega (arith, rest, a, b)

fates-push : (row packet : ℕ) (given : List Delivery) (fates : List Fate) (f : Fate)
    → fate_lines row packet given (fates ++ f ∷ []) ≡ fate_lines row packet given fates ++ option_to_list (fate_line (row + length fates) (packet + length (rows_kept accepted_row row fates)) given f)
unfolding fate_lines rows_kept
fates-push row packet given [] f =
    let same_row : row + 0 ≡ row = omega arith in
    let same_packet : packet + 0 ≡ packet = omega arith in
    rw (same_row, same_packet) (append-nil _)
fates-push row packet given (Accepted flow at ∷ fates) f =
    let next_row : row + suc (length fates) ≡ (row + 1) + length fates = omega arith in
    let next_packet : packet + suc (length (rows_kept accepted_row (row + 1) fates)) ≡ (packet + 1) + length (rows_kept accepted_row (row + 1) fates) = omega arith in
    rw (next_row, next_packet, fates-push (row + 1) (packet + 1) given fates f)
    (sym (append_assoc (option_to_list (fate_line row packet given (Accepted flow at))) (fate_lines (row + 1) (packet + 1) given fates) _))
fates-push row packet given (Refused why ∷ fates) f =
    let next_row : row + suc (length fates) ≡ (row + 1) + length fates = omega arith in
    rw (next_row, fates-push (row + 1) packet given fates f)
    (sym (append_assoc (option_to_list (fate_line row packet given (Refused why))) (fate_lines (row + 1) packet given fates) _))

rows-push : {R : Type 0} (kept_of : ℕ → Fate → Option R) (row : ℕ) (fates : List Fate) (f : Fate)
    → rows_kept kept_of row (fates ++ f ∷ []) ≡ rows_kept kept_of row fates ++ option_to_list (kept_of (row + length fates) f)
unfolding rows_kept
rows-push kept_of row [] f = let same : row + 0 ≡ row = omega arith in rw same (append-nil _)
rows-push kept_of row (x ∷ fates) f =
    let next : row + suc (length fates) ≡ (row + 1) + length fates = omega arith in
    rw (next, rows-push kept_of (row + 1) fates f) (sym (append_assoc (option_to_list (kept_of row x)) (rows_kept kept_of (row + 1) fates) _))

-- Of each row one or the other is kept.
pub rows-count : (row : ℕ) (fates : List Fate) → length (rows_kept accepted_row row fates) + length (rows_kept refused_row row fates) ≡ length fates
unfolding rows_kept
rows-count row [] = refl
rows-count row (Accepted flow at ∷ fates) = let rest = rows-count (row + 1) fates in omega (arith, rest)
rows-count row (Refused why ∷ fates) = let rest = rows-count (row + 1) fates in omega (arith, rest)

-- An entry that is of no row changes no test of rows.
pub other-row : (test : Fate → Bool) (entries : List Entry) (e : Entry) → is_submit e.call ≡ false → list_any (is_row test) (entries ++ e ∷ []) ≡ list_any (is_row test) entries
other-row test entries e other = list_any-append (is_row test) entries (e ∷ []) ∙ rw other (same (list_any (is_row test) entries))
  where
    same : (b : Bool) → b || false ≡ b
    same true = refl
    same _ = refl

-- ---- Replies

-- The line by a reply is that by the fate, where a packet's number is the count of those before it.
line-by-fate : (row packet : ℕ) (given : List Delivery) (r : Reply) → ((at flow number : ℕ) → r ≡ Queued at flow number → number ≡ packet)
    → reply_line row given r ≡ fate_line row packet given (fate_of r)
line-by-fate row packet given (Queued at flow number) h = rw (h at flow number refl) refl
line-by-fate row packet given _ h = refl

verdict-delivers-none : (at : ℕ) (v : Verdict) (trace : List Event) → delivered (reply_to_verdict at v trace) ≡ []
verdict-delivers-none at no_target trace = refl
verdict-delivers-none at _ trace = refl

-- A Submit delivers nothing, and no command does.
submit-delivers-none : (calls : List Call) (target : Target) (packet : Packet) (moment : ℕ) → delivered (reply Ordered calls (Submit target packet moment)) ≡ []
submit-delivers-none calls target packet moment = by (nat_le call_limit (length calls))
  where
    by : (b : Bool) → delivered (cond b Exhausted (counted_reply Ordered calls (Submit target packet moment))) ≡ []
    by true = refl
    by false = verdict-delivers-none _ (verdict calls target packet _) _

one-of : (b : Bool) (x y : Reply) → delivered x ≡ [] → delivered y ≡ [] → delivered (cond b x y) ≡ []
one-of true x y p q = p
one-of false x y p q = q

command-delivers-none : (set : Settings) (queues : List ℕ) (command : Command) → delivered (command_reply set queues command) ≡ []
command-delivers-none set queues (Pipe number bw delay limit loss buckets mask) = refl
command-delivers-none set queues (Queue number pipe weight limit loss buckets mask) = one-of (is_some (set (ToPipe pipe))) Configured NoSuchPipe refl refl
command-delivers-none set queues (DeletePipe number) =
    one-of (is_some (set (ToPipe number))) (cond (has_queues set queues number) PipeHasQueues Deleted) NoSuchPipe (one-of (has_queues set queues number) PipeHasQueues Deleted refl refl) refl
command-delivers-none set queues (DeleteQueue number) = one-of (is_some (set (ToQueue number))) Deleted NoSuchQueue refl refl

configure-delivers-none : (calls : List Call) (command : Command) → delivered (reply Ordered calls (Configure command)) ≡ []
configure-delivers-none calls command =
    one-of (nat_le call_limit (length calls)) Exhausted (reply_to_command calls command) refl (command-delivers-none (settings calls) (queue_numbers calls) command)

-- ---- The calls

pub nothing-kept : (kept : Kept) → kept.accepted.items ≡ [] → kept.refused.items ≡ [] → HasKept kept []
unfolding history_of lines_after fate_lines rows_kept deliveries
nothing-kept kept accepted refused = record {
  fates = [];
  is_of = record { accepted = accepted; refused = refused };
  lines = λ given. refl;
  submits = refl;
  numbers = λ few. rw accepted refl;
  undelivered = refl;
  rows = λ test. refl;
}

-- A command changes nothing of what is kept.
pub kept-configured : (kept : Kept) (calls : List Call) (command : Command) → HasKept kept calls → HasKept kept (Configure command ∷ calls)
unfolding history_of
kept-configured kept calls command h = record {
  fates = h.fates;
  is_of = h.is_of;
  lines = λ given. lines-push 1 given [] (history_of calls) (entry_after calls (Configure command)) ∙ append-nil _ ∙ h.lines given;
  submits = count-push (λ e. is_submit e.call && nat_eq e.caller 0) (history_of calls) (entry_after calls (Configure command))
      ∙ (let same : submits_by 0 (history_of calls) + 0 ≡ submits_by 0 (history_of calls) = omega arith in same) ∙ h.submits;
  numbers = λ few. configured-accepts calls command ∙ h.numbers (omega arith);
  undelivered = deliveries-append (history_of calls) (entry_after calls (Configure command)) ∙ rw (h.undelivered, configure-delivers-none calls command) refl;
  rows = λ test. other-row test (history_of calls) (entry_after calls (Configure command)) refl ∙ h.rows test;
}

rows-more : {R : Type 0} (kept_of : ℕ → Fate → Option R) (fates : List Fate) (f : Fate) (row : ℕ) (old now : List R) → row ≡ 1 + length fates → old ≡ rows_kept kept_of 1 fates
    → now ≡ old ++ option_to_list (kept_of row f) → now ≡ rows_kept kept_of 1 (fates ++ f ∷ [])
rows-more kept_of fates f row old now row_is old_is is = is ∙ rw (row_is, old_is) (sym (rows-push kept_of 1 fates f))

-- A Submit more, whose row is kept behind those before it.
pub kept-submitted : (kept now : Kept) (calls : List Call) (target : Target) (packet : Packet) (moment : ℕ) → HasKept kept calls
    → now.accepted.items ≡ kept.accepted.items
    ++ option_to_list (accepted_row (length kept.accepted.items + length kept.refused.items + 1) (fate_of (reply Ordered calls (Submit target packet moment))))
    → now.refused.items ≡ kept.refused.items
    ++ option_to_list (refused_row (length kept.accepted.items + length kept.refused.items + 1) (fate_of (reply Ordered calls (Submit target packet moment))))
    → HasKept now (Submit target packet moment ∷ calls)
unfolding history_of
kept-submitted kept now calls target packet moment h accepted_are refused_are =
    let r = reply Ordered calls (Submit target packet moment) in
    let e = entry_after calls (Submit target packet moment) in
    let fate = fate_of (reply Ordered calls (Submit target packet moment)) in
    let count = rows-count 1 h.fates in
    let accepted_count' = ap (length {A = AcceptedRow}) h.is_of.accepted in
    let refused_count = ap (length {A = RefusedRow}) h.is_of.refused in
    let number : (at flow number : ℕ) → reply Ordered calls (Submit target packet moment) ≡ Queued at flow number → number ≡ 0 + length (rows_kept accepted_row 1 h.fates) =
    λ at flow number is. (let n = number-is calls target packet moment at flow number is in let same = h.numbers (omega (arith, n.0)) in
    let own = n.1 in omega (arith, own, same, accepted_count')) in
    let row_is : length kept.accepted.items + length kept.refused.items + 1 ≡ 1 + length h.fates = omega (arith, count, accepted_count', refused_count) in
    let line_is : 0 + submits_by 0 (history_of calls) * 1 + 1 ≡ 1 + length h.fates = omega (arith, h.submits) in
    record {
      fates = h.fates ++ fate ∷ [];
      is_of = record {
        accepted = rows-more accepted_row h.fates fate _ kept.accepted.items now.accepted.items row_is h.is_of.accepted accepted_are;
        refused = rows-more refused_row h.fates fate _ kept.refused.items now.refused.items row_is h.is_of.refused refused_are;
      };
      lines = λ given. lines-push 1 given [] (history_of calls) e
          ∙ rw (line_is, h.lines given, line-by-fate (1 + length h.fates) (0 + length (rows_kept accepted_row 1 h.fates)) given r number)
          (sym (fates-push 1 0 given h.fates fate));
      submits = count-push (λ e. is_submit e.call && nat_eq e.caller 0) (history_of calls) e ∙ rw h.submits (sym (length_push h.fates fate));
      numbers = λ few. submitted-accepts calls target packet moment (omega arith)
          ∙ rw (accepted_are, h.numbers (omega arith)) (counted fate (length kept.accepted.items + length kept.refused.items + 1) kept.accepted.items);
      undelivered = deliveries-append (history_of calls) e ∙ rw (h.undelivered, submit-delivers-none calls target packet moment) refl;
      rows = λ test. list_any-append (is_row test) (history_of calls) (e ∷ []) ∙ rw (h.rows test) (sym (list_any-append test h.fates (fate ∷ [])));
    }
  where
    counted : (f : Fate) (row : ℕ) (xs : List AcceptedRow) → length xs + cond (is_accepted f) 1 0 ≡ length (xs ++ option_to_list (accepted_row row f))
    counted (Accepted flow at) row xs = sym (length_push xs _)
    counted (Refused why) row xs = let none = append-nil xs in rw none (omega arith)
