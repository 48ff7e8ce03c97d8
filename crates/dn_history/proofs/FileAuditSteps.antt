-- Why a history file isn't audited, step by step.
use Rattle.dn_history.proofs.Words.{AreAudited, BadRecord, Bool, EntriesLeft, Entry, FileAudit, HasAudited, HasCome, HasVerdict, History, IsAuditFault, IsFaultOf, IsHistoryFault, IsRefusal}
use Rattle.dn_history.proofs.Words.{IsTextOf, IsTold, IsUnauditedWithin, IsUnwritten, Keeps-refl, List, Ok, Option, OutOfMemory, ReplayFault, Report, Result, Rule, RunningAudit, TooLong, Verdict}
use Rattle.dn_history.proofs.Words.{Write, [], ap, append-nil, append_assoc, arith, carried, false, history_behind, history_in, history_within, length, length-append, refl, subst, sym}
use Rattle.dn_history.proofs.Words.{unwritten-cases, verdict_line, within_limit, ℕ, ◌++◌, ◌+◌, ◌-◌, ◌<◌, ◌∙◌, ◌∷◌, ◌≡◌, ◌≤◌}
use Rattle.dn_history.proofs.HistoryReading.{after_front, end_read}
use Rattle.dn_files.specs.declared.replay_fault.ReplayFault.TheVariants.{Read}

-- A file isn't read.
pub unread : (limit : ℕ) (known old : Option (List ℕ)) (read_failed failed : Bool) (fault : ReplayFault)
    → failed ≡ false → IsRefusal History (history_within limit) known read_failed fault → IsUnauditedWithin limit known read_failed old old failed fault
unread limit known old read_failed failed (Write what) sound h = absurd h
unread limit known old read_failed failed fault sound h = (h, (sound, Keeps-refl old))

-- The line of a verdict isn't written.
pub untold : (limit : ℕ) (known old new : Option (List ℕ)) (read_failed failed : Bool) (verdict : Verdict) (line : List ℕ) (fault : ReplayFault)
    → read_failed ≡ false → IsTold limit known verdict line → IsUnwritten Report line old new failed fault → IsUnauditedWithin limit known read_failed old new failed fault
untold limit known old new read_failed failed verdict line fault sound told =
    unwritten-cases (IsUnauditedWithin limit known read_failed old new failed) Report line old new failed fault (λ what h. (sound, (verdict, line, told, h))) (λ h. (sound, h))

-- The text that was read is a history with this verdict, and the bytes that are written are the line of that.
pub told : (limit : ℕ) (known : Option (List ℕ)) (text : List ℕ) (verdict : Verdict) (count : ℕ) (line bytes : List ℕ)
    → IsTextOf known text → within_limit limit History text ≡ Ok text → HasVerdict text verdict count → line ≡ verdict_line count verdict → bytes ≡ line → IsTold limit known verdict bytes
told limit known text verdict count line bytes is within (history, reads, found, counted) line_is same =
    (history, (text, is, rw within reads), found, same ∙ line_is ∙ ap (λ (n : ℕ). verdict_line n verdict) counted)

-- No entry behind those before, one more, and how many they are.
pub none-behind : (rule : Rule) (audit : RunningAudit) (before : List Entry) → HasAudited rule audit before → HasAudited rule audit (before ++ [])
none-behind rule audit before audited = subst (λ (es : List Entry). HasAudited rule audit es) (sym (append-nil before)) audited

pub one-behind : (rule : Rule) (before front : List Entry) (e : Entry) (audit : RunningAudit) → HasAudited rule audit ((before ++ front) ++ e ∷ [])
    → HasAudited rule audit (before ++ (front ++ e ∷ []))
one-behind rule before front e audit audited = subst (λ (es : List Entry). HasAudited rule audit es) (append_assoc before front (e ∷ [])) audited

pub counted-behind : (before front : List Entry) (start given : ℕ) → given ≡ start + length front → start ≡ length before → given ≡ length (before ++ front)
counted-behind before front start given counted is = omega (arith, counted, is, length-append before front)

pub counted-more : (front : List Entry) (e : Entry) (start old new : ℕ) → new ≡ old + 1 → old ≡ start + length front → new ≡ start + length (front ++ e ∷ [])
counted-more front e start old new more counted = omega (arith, more, counted, length-append front (e ∷ []))

-- No entry is left.
pub all-audited : (rule : Rule) (before front : List Entry) (old whole : Result (List Entry) ReplayFault) (audit : RunningAudit) (given : ℕ)
    → given ≡ length (before ++ front) → old ≡ Ok [] → after_front front old ≡ whole → HasAudited rule audit (before ++ front) → AreAudited rule before whole audit given
all-audited rule before front old whole audit given counted none so_far audited = (front, end_read front old whole none so_far, counted, audited)

-- The verdict on the entries that were given and those that were left is that on the history.
pub of_history : (text : List ℕ) (front : List Entry) (left : EntriesLeft) (rule : Rule) (audit : RunningAudit) (verdict : Verdict) (count given : ℕ)
    → history_in text ≡ history_behind front left → rule ≡ left.rule → AreAudited rule front left.entries audit given → verdict ≡ audit.verdict → count ≡ given → HasVerdict text verdict count
of_history text front left rule audit verdict count given is same (entries, all, counted, audited) found told_count =
    ((left.rule, front ++ entries), is ∙ rw all refl, rw (← same, found) audited.found, told_count ∙ counted)

-- A fault of the entries that are left is one of the history.
pub of_left : (text : List ℕ) (front : List Entry) (left : EntriesLeft) (fault : ReplayFault) → history_in text ≡ history_behind front left → IsFaultOf left.entries fault
    → IsFaultOf (history_in text) fault
of_left text front left fault is bad = carried left.entries (history_in text) fault (λ f e. is ∙ rw e refl) bad

-- Why a history file isn't read, as a fault of its audit.
pub of_reading : (fault : ReplayFault) → IsHistoryFault fault → IsAuditFault fault
of_reading (Read what) h = h
of_reading (TooLong what) h = h
of_reading (BadRecord number) h = tt
of_reading OutOfMemory h = tt
of_reading _ h = absurd h

-- Why the line of a verdict isn't written.
pub of_writing : (text : List ℕ) (old new : Option (List ℕ)) (failed : Bool) (fault : ReplayFault) → IsUnwritten Report text old new failed fault → IsAuditFault fault
of_writing text old new failed fault = unwritten-cases IsAuditFault Report text old new failed fault (λ what h. h.0) (λ h. tt)

-- The text with a part more is longer than the limit, or isn't.
pub overflows : (audit : FileAudit) (part : List ℕ) → audit.limit - audit.length < length part → (text : List ℕ) → HasCome audit text → audit.limit < length (text ++ part)
overflows audit part more text come = omega (arith, more, come.size, come.short, length-append text part)

pub fits : (audit : FileAudit) (part : List ℕ) → length part ≤ audit.limit - audit.length → (text : List ℕ) → HasCome audit text → length (text ++ part) ≤ audit.limit
fits audit part less text come = omega (arith, less, come.size, come.short, length-append text part)
