-- The entries of a history are told one after the other.
use Rattle.hingetulip_c.proofs.Words.{CDelivery, CEntry, CFlow, CHistory, Entry, Err, IsFaultOf, IsHistory, List, Lists, Ok, ReplayFault, Result, Rule, [], ap, carried, history_in, is_ok, length}
use Rattle.hingetulip_c.proofs.Words.{nothing, refl, sizes, sym, take, true≢false, with_entries, ℕ, ◌>>=◌, ◌∙◌, ◌≡◌}

-- The lists with the entries that are left, or their fault.
abbrev pub lists_after : Lists → Result (List Entry) ReplayFault → Result Lists ReplayFault
lists_after l left = left >>= λ entries. Ok (with_entries l entries)

-- The value and the fault that are read, if they are.
abbrev value_or : Lists → Result Lists ReplayFault → Lists
value_or other (Ok l) = l
value_or other (Err fault) = other

abbrev fault_or : ReplayFault → Result Lists ReplayFault → ReplayFault
fault_or other (Ok l) = other
fault_or other (Err fault) = fault

-- No entry is left.
pub all_told : (l : Lists) (old left : Result (List Entry) ReplayFault) → old ≡ Ok [] → lists_after l old ≡ lists_after nothing left
    → (entries : List Entry) × (left ≡ Ok entries) × (l ≡ with_entries nothing entries)
all_told l old (Ok entries) is so_far = let here = rw is at so_far in (entries, refl, ap (value_or l) here)
all_told l old (Err fault) is so_far = let here = rw is at so_far in absurd (true≢false (ap (λ (r : Result Lists ReplayFault). is_ok r) here))

-- The next one is bad.
failed : (left : Result (List Entry) ReplayFault) (fault : ReplayFault) → Err fault ≡ lists_after nothing left → left ≡ Err fault
failed (Ok entries) fault is = absurd (true≢false (sym (ap (λ (r : Result Lists ReplayFault). is_ok r) is)))
failed (Err f) fault is = sym (ap (λ (r : Result Lists ReplayFault). Err (fault_or fault r)) is)

pub bad_entry : (l : Lists) (old left : Result (List Entry) ReplayFault) (fault : ReplayFault) → IsFaultOf old fault → lists_after l old ≡ lists_after nothing left → IsFaultOf left fault
bad_entry l old left fault is so_far = carried old left fault (λ f e. let here = rw e at so_far in failed left f here) is

-- The lists of all entries that the reader of a text gives.
pub is_history : (text : List ℕ) (left : Result (List Entry) ReplayFault) (first rule : Rule) (l : Lists) → history_in text ≡ (left >>= λ entries. Ok (first, entries)) → rule ≡ first
    → ((entries : List Entry) × (left ≡ Ok entries) × (l ≡ with_entries nothing entries)) → IsHistory text (sizes rule l) l
is_history text left first rule l is same told = record {
  rule = rule;
  entries = told.0;
  text_is = (let here = rw told.1 at is in here ∙ ap (λ (r : Rule). Ok (r, told.0)) (sym same));
  lists_are = told.2;
  sizes_are = refl;
}

-- The sizes were written, and then the lists.
pub sized : (text : List ℕ) (h : CHistory) (rule : Rule) (l : Lists) → IsHistory text (sizes rule l) l → h ≡ sizes rule l → (lists : Lists) × IsHistory text h lists
sized text h rule l is same = (l, rw same is)

pub written : (text : List ℕ) (h : CHistory) (rule : Rule) (a : List CEntry) (b : List ℕ) (c : List CDelivery) (d : List CFlow)
    (entries : List CEntry) (lines : List ℕ) (deliveries : List CDelivery) (flows : List CFlow)
    → IsHistory text (sizes rule (record { entries = a; lines = b; deliveries = c; flows = d })) (record { entries = a; lines = b; deliveries = c; flows = d })
    → h ≡ sizes rule (record { entries = a; lines = b; deliveries = c; flows = d })
    → take (length a) entries ≡ a → take (length b) lines ≡ b → take (length c) deliveries ≡ c → take (length d) flows ≡ d
    → IsHistory text h (record { entries = take h.entries entries; lines = take h.bytes lines; deliveries = take h.deliveries deliveries; flows = take h.flows flows })
written text h rule a b c d entries lines deliveries flows is same e f g i = rw (same, e, f, g, i) is
