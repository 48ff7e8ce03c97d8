-- The laws of closed services hold.
use Rattle.dn_laws.proofs.Words.{All, All-cons, All-head, All-nil, All-tail, AnswersSuffice, Call, CallerView, CallersAreLeft, Collect, Delivered, Delivery, Entry, Event, Has}
use Rattle.dn_laws.proofs.Words.{HistoriesSuffice, IsAccounted, IsAccountedFor, IsDelivered, IsDeliveryOf, IsFaced, IsLawfulAfter, IsProper, Link, List, NoneIsForeign, NoneIsOvertaken, Ordered}
use Rattle.dn_laws.proofs.Words.{Reply, ServiceView, Some, Start, WasTold, [], ap, append_assoc, arith, call_limit, cond, count_by, due-is-last, due-moments-never-fall, effective_moment}
use Rattle.dn_laws.proofs.Words.{inl, inr, keys, last_due, leb_tells, length, lost_to, map, nat_eq, refl, reply, reverse, reverse_onto, slice_get, started, subst, suc}
use Rattle.dn_laws.proofs.Words.{suffix-proper, sum, sum_by-cons, sym, trace-proper, trace_of, zero, ℕ, ⊎_elim, ◌++◌, ◌+◌, ◌<◌, ◌∙◌, ◌∷◌, ◌≡◌, ◌≤◌, ◌⊎◌}
use Rattle.dn_service.specs.Accounts.{times}
use Rattle.dn_laws.proofs.AtHome.{IsHomeOf, HaveHomes, have-homes, start-home, home-is}
use Rattle.dn_laws.proofs.CallerLawsHold.{any-caller, has-its-number}
use Rattle.dn_laws.proofs.QueuesRate.{suffix-homes}
use Rattle.dn_laws.proofs.Rates.{starts-apart, shape}
use Rattle.dn_laws.proofs.Timely.{events-stay, split}
use Rattle.dn_laws.proofs.ToldCommands.{limit-is-counted}
use Rattle.dn_laws.proofs.ToldDeliveries.{collects-are-told}

all-has : {X : Type 0} (P : X → Type 0) (xs : List X) (x : X) → All P xs → Has xs x → P x
all-has P [] x h there = absurd there
all-has P (y ∷ xs) x h there = ⊎_elim (λ e. subst P e (All-head P y xs h)) (λ rest. all-has P xs x (All-tail P y xs h) rest) there

-- What a caller has is what it was told.
abbrev told-entry : ℕ → Call × Reply → Entry
told-entry k t = record { caller = k; call = t.0; reply = t.1 }

told-number : (service : ServiceView) (k : ℕ) (told : List (Call × Reply)) (c : CallerView) → WasTold service k told c → c.number ≡ k
told-number service k [] c h = h.0
told-number service k (t ∷ told) c h = h.4

own-told : (service : ServiceView) (k : ℕ) (told : List (Call × Reply)) (c : CallerView) → WasTold service k told c → c.own ≡ reverse (map (told-entry k) told)
own-told service k [] c h = h.1
own-told service k (t ∷ told) c h =
    h.5 ∙ h.3.own ∙ ap (λ (own : List Entry). own ++ told-entry h.0.number t ∷ []) (own-told service k told h.0 h.2)
    ∙ ap (λ n. reverse (map (told-entry k) told) ++ told-entry n t ∷ []) (told-number service k told h.0 h.2) ∙ sym (reverse_onto (map (told-entry k) told) (told-entry k t) [])

front-get : (front rest : List Entry) (i : ℕ) (entry : Entry) → slice_get front i ≡ Some entry → slice_get (front ++ rest) i ≡ Some entry
front-get [] rest i entry e = absurd cc
front-get (x ∷ front) rest zero entry e = e
front-get (x ∷ front) rest (suc i) entry e = front-get front rest i entry e

times-count : (k : ℕ) (xs : List ℕ) → times k xs ≡ count_by (λ x. nat_eq x k) xs
times-count k [] = refl
times-count k (x ∷ xs) = ap (λ n. cond (nat_eq x k) 1 0 + n) (times-count k xs) ∙ sym (sum_by-cons (λ y. cond (nat_eq y k) 1 0) x xs)

lost-sum : (k : ℕ) (cs : List CallerView) → lost_to k cs ≡ sum (map (λ c. count_by (λ x. nat_eq x k) c.lost) cs)
lost-sum k [] = refl
lost-sum k (c ∷ cs) =
    let more = sum_by-cons (λ (n : ℕ). n) (count_by (λ x. nat_eq x k) c.lost) (map (λ o. count_by (λ x. nat_eq x k) o.lost) cs) in
    ap (λ n. n + lost_to k cs) (times-count k c.lost) ∙ ap (λ n. count_by (λ x. nat_eq x k) c.lost + n) (lost-sum k cs) ∙ sym more

pub callers-are-left : CallersAreLeft
callers-are-left service callers history c closes there =
    let accounted = all-has (IsAccountedFor history) callers c closes.accounts there in
    record {
      own = λ opened told was. sym accounted.own ∙ own-told opened c.number told c was;
      seen = λ i entry e. ap (λ (h : List Entry). slice_get h i) accounted.front.1 ∙ front-get c.front accounted.front.0 i entry e;
      faced = all-has (IsFaced callers) callers c closes.faced there ∙ lost-sum c.number callers;
    }

pub none-is-foreign : NoneIsForeign
none-is-foreign service callers history entry closes there =
    any-caller entry.caller callers (closes.whole entry.caller (all-has (λ (e : Entry). e.caller < service.callers) history entry closes.below there))

-- Each delivery of a lawful history is of a start in the trace after all its calls.
abbrev calls-after : List Call → List Entry → List Call
calls-after calls [] = calls
calls-after calls (e ∷ entries) = calls-after (e.call ∷ calls) entries

started-later : (calls : List Call) (entries : List Entry) (d : Delivery) → IsDeliveryOf Ordered (trace_of calls) d → IsDeliveryOf Ordered (trace_of (calls-after calls entries)) d
started-later calls [] d h = h
started-later calls (e ∷ entries) d h = started-later (e.call ∷ calls) entries d (
    let adds = events-stay calls e.call in
    record {
      start = h.start;
      later = adds.0 ++ h.later;
      earlier = h.earlier;
      happened = adds.1 ∙ ap (λ (t : List Event). adds.0 ++ t) h.happened ∙ sym (append_assoc adds.0 h.later (started h.start ∷ h.earlier));
      number = h.number;
      flow = h.flow;
      moment = h.moment;
      due = h.due;
    })

one-collect : (calls : List Call) (moment at : ℕ) (list : List Delivery) (d : Delivery) → Delivered at list ≡ reply Ordered calls (Collect moment) → Has list d
    → (length calls < call_limit) ⊎ (call_limit ≤ length calls) → IsDeliveryOf Ordered (trace_of (Collect moment ∷ calls)) d
one-collect calls moment at list d e there size = ⊎_elim by-told (λ many. let exhausted = (limit-is-counted Ordered calls (Collect moment)).1 many in absurd (cc)) size
  where
    by-told : length calls < call_limit → IsDeliveryOf Ordered (trace_of (Collect moment ∷ calls)) d
    by-told few =
        let told = collects-are-told Ordered calls moment few in
        let both = e ∙ told.1 in
        let same : list ≡ told.0 = cc in
        (all-has (λ d. (d.due ≤ effective_moment (Collect moment ∷ calls)) × IsDeliveryOf Ordered (trace_of (Collect moment ∷ calls)) d) told.0 d told.2 (subst (λ (l : List Delivery). Has l d) same there)).1

delivered-start : (calls : List Call) (entries : List Entry) → IsLawfulAfter Ordered calls entries → (d : Delivery) → IsDelivered entries d → IsDeliveryOf Ordered (trace_of (calls-after calls entries)) d
delivered-start calls [] lawful d h = absurd h.4
delivered-start calls (e ∷ entries) lawful d h = ⊎_elim here (λ rest. delivered-start (e.call ∷ calls) entries lawful.1 d (h.0, h.1, h.2, h.3, rest, h.5, h.6, h.7)) h.4
  where
    here : e ≡ h.0 → IsDeliveryOf Ordered (trace_of (calls-after (e.call ∷ calls) entries)) d
    here same =
        let call : e.call ≡ Collect h.1 = ap (λ (x : Entry). x.call) same ∙ h.5 in
        let told : Delivered h.2 h.3 ≡ reply Ordered calls (Collect h.1) = sym h.6 ∙ ap (λ (x : Entry). x.reply) (sym same) ∙ lawful.0 ∙ ap (reply Ordered calls) call in
        started-later (e.call ∷ calls) entries d (subst (λ (c : Call). IsDeliveryOf Ordered (trace_of (c ∷ calls)) d) (sym call)
        (one-collect calls h.1 h.2 h.3 d told h.7 (⊎_elim (λ over. inr over.1) (λ under. inl under.1) (leb_tells call_limit (length calls)))))

-- A flow has one link.
module _ (calls : List Call) where
  start-is-home : (later earlier : List Event) (s : Start) → trace_of calls ≡ later ++ started s ∷ earlier → IsHomeOf (keys calls) s.packet.link s.packet.stamped.flow
  start-is-home later earlier s e = start-home (keys calls) s earlier (suffix-proper later (started s ∷ earlier) (subst IsProper e (trace-proper calls)))
      (suffix-homes (keys calls) later (started s ∷ earlier) (subst (HaveHomes (keys calls)) e (have-homes calls)))

  same-link : (l m : Link) (f g : ℕ) → g ≡ f → IsHomeOf (keys calls) l f → IsHomeOf (keys calls) m g → l ≡ m
  same-link l m f g same a b = home-is (keys calls) f a.key a.at l f refl a ∙ sym (home-is (keys calls) f a.key a.at m g same b)

  in-turn : (d e : Delivery) → IsDeliveryOf Ordered (trace_of calls) d → IsDeliveryOf Ordered (trace_of calls) e → d.flow ≡ e.flow → d.start < e.start → d.due ≤ e.due
  in-turn d e a b same soon = ⊎_elim after before (split a.later (started a.start ∷ a.earlier) b.later (started b.start) b.earlier (sym a.happened ∙ b.happened))
    where
      link : a.start.packet.link ≡ b.start.packet.link
      link = same-link a.start.packet.link b.start.packet.link a.start.packet.stamped.flow b.start.packet.stamped.flow (sym b.flow ∙ sym same ∙ a.flow)
          (start-is-home a.later a.earlier a.start a.happened) (start-is-home b.later b.earlier b.start b.happened)

      after : (between : List Event) × (a.later ≡ b.later ++ started b.start ∷ between) × (b.earlier ≡ between ++ started a.start ∷ a.earlier) → d.due ≤ e.due
      after h =
          let first = due-is-last Ordered a.start a.earlier in
          let rises = due-moments-never-fall a.start.packet.link h.0 (started a.start ∷ a.earlier) in
          let last : last_due Ordered a.start.packet.link (h.0 ++ started a.start ∷ a.earlier) ≡ last_due Ordered b.start.packet.link b.earlier = λ i. last_due Ordered (link i) (sym h.2 i) in
          omega (arith, a.due, b.due, first, rises, last)

      before : (rest : List Event) × (started a.start ∷ a.earlier ≡ rest ++ started b.start ∷ b.earlier) → d.due ≤ e.due
      before h = placed h.0 h.1
        where
          placed : (rest : List Event) → started a.start ∷ a.earlier ≡ rest ++ started b.start ∷ b.earlier → d.due ≤ e.due
          placed [] g = let one : a.start ≡ b.start = cc in let moment = ap (λ (s : Start). s.moment) one in absurd (omega (arith, soon, moment, a.moment, b.moment))
          placed (x ∷ rest) g =
              let rest' : a.earlier ≡ rest ++ started b.start ∷ b.earlier = cc in
              let apart = starts-apart calls a.later rest b.earlier a.start b.start (a.happened ∙ ap (λ (t : List Event). a.later ++ started a.start ∷ t) rest' ∙ sym (shape a.later rest (started a.start) (started b.start ∷ b.earlier))) link in
              absurd (omega (arith, soon, apart, a.moment, b.moment))

pub none-is-overtaken : NoneIsOvertaken
none-is-overtaken service callers history d e closes a b same soon =
    in-turn (calls-after [] history) d e (delivered-start [] history closes.lawful d a) (delivered-start [] history closes.lawful e b) same soon

pub answers-suffice : AnswersSuffice
answers-suffice before after c r between lawful below front own all =
    record { lawful = lawful; below = below; between = between; front = front; own = own; all_own = all }

-- Each caller that is accounted for has its account, and was faced as its account says.
accounts-hold : (history : List Entry) (all callers : List CallerView) → All (IsAccounted history all) callers → All (IsAccountedFor history) callers
accounts-hold history all [] h = All-nil (IsAccountedFor history)
accounts-hold history all (c ∷ callers) h =
    let first = All-head (IsAccounted history all) c callers h in
    All-cons (IsAccountedFor history) c callers (record { front = first.0; own = first.1 }) (accounts-hold history all callers (All-tail (IsAccounted history all) c callers h))

faced-hold : (history : List Entry) (all callers : List CallerView) → All (IsAccounted history all) callers → All (IsFaced all) callers
faced-hold history all [] h = All-nil (IsFaced all)
faced-hold history all (c ∷ callers) h =
    All-cons (IsFaced all) c callers ((All-head (IsAccounted history all) c callers h).2 ∙ sym (lost-sum c.number all)) (faced-hold history all callers (All-tail (IsAccounted history all) c callers h))

pub histories-suffice : HistoriesSuffice
histories-suffice service callers history lawful below accounted whole = record {
  lawful = lawful;
  below = below;
  accounts = accounts-hold history callers callers accounted;
  faced = faced-hold history callers callers accounted;
  whole = λ k l. let found = whole k l in has-its-number k callers found.0 found.1 found.2;
}
