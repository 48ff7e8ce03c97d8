-- The steps on the lock word keep the rule of the table: the try, and the ways to give the word back.
use Rattle.dn_service.proofs.Words.{Account, Allows, AreBelow, BookView, Each, Entry, Follows, Has, IsHome, IsLawful, Keeps, List, None, Option, Ordered, Past, SeatFits, SeatRule, SeatState}
use Rattle.dn_service.proofs.Words.{SeatView, Sits, Slot, Some, StartsWith, State, [], all_shed, ap, arith, emptied, eq-eqb, eqb, faces, get_or, get_or-set_same, gives, keeps, length, length-set}
use Rattle.dn_service.proofs.Words.{map, met_in_all, ne_eqb, published, refl, rest, returned, set, set_again, step, stepped, subst, sym, tried, up_to_date, with_entry, with_faced, with_history}
use Rattle.dn_service.proofs.Words.{with_loss, with_shed, with_taken, ℕ, ◌++◌, ◌+◌, ◌-◌, ◌<◌, ◌∙◌, ◌∷◌, ◌≡◌, ◌≢◌, ◌≤◌}
use mathlib.Core.Logic.{dite}
use mathlib.Core.Option.{none, some}
use mathlib.Core.Option as maybe
use native.Mathlib.Decide.{ℕ_discrete}
use lib.ListN.{get_elem?}
use lib.Seq.{set-get_or}
use prog.Atomic.{either}
use Rattle.atomic_table.specs.Table.{takes}
use Rattle.dn_service.proofs.Accounts.{each_map, each_at, has_some, has_updated}
use Rattle.dn_service.proofs.HistoryLaws.{own-other, below_more, starts_more, starts_all}
use Rattle.dn_service.proofs.Losses.{met_alone, met_none, faces_all, met_set, met_kept, met_map, met_note, noted_some, noted_sit, noted_faces, has_noted}
use Rattle.dn_service.proofs.Losses.{faced_some, faced_sit, has_faced, one_more, faces_more, faces_taken, faces_free, faces_now, faces_known}
use Rattle.dn_service.proofs.Views.{one_home, seats_set, held_set}

abbrev pub TableState : Type 0
TableState = State Slot SeatView

abbrev some_is : {A : Type 0} → Option A → A → A
some_is (Some x) d = x
some_is None d = d

-- The book in the first slot in hand, or this one where there is none.
abbrev pub slot_in : BookView → List (ℕ × Slot) → BookView
slot_in d [] = d
slot_in d (x ∷ xs) = some_is x.1 d

-- The past that was taken.
pub same_past : (t : Option Past) (a b : Past) → t ≡ Some a → t ≡ Some b → a ≡ b
same_past t a b p q = ap (λ o. some_is o a) (sym p ∙ q)

-- What was taken out.
pub same_shed : (t : Option (List Entry)) (a b : List Entry) → t ≡ Some a → t ≡ Some b → a ≡ b
same_shed t a b p q = ap (λ o. some_is o a) (sym p ∙ q)

pub updated_some : (history : List Entry) (f : ℕ → ℕ) (xs : List Account) → 0 < length (map (up_to_date history f) xs) → 0 < length xs
updated_some history f [] l = l
updated_some history f (x ∷ xs) l = omega arith

module _ (n : ℕ) where
  -- a step of the seat id, after which the word is `word` and the past `past`
  pub moved : (s : TableState) (r : SeatRule n s) (id : ℕ) (v w : SeatView) (word : ℕ) (homes' : List (maybe.Option Slot)) (past : Past) (tally : ℕ → ℕ)
      → get_elem? s.views id ≡ some v → word ≤ n → length homes' ≡ 1 → IsLawful Ordered past.history → AreBelow n past.history → (word ≡ 0 → IsHome past homes')
      → SeatFits n word tally past r.seat_of id w → ((j : ℕ) (u : SeatView) → j ≢ id → get_elem? s.views j ≡ some u → SeatFits n word tally past r.seat_of j u)
      → ((k : ℕ) → Has k v.accounts → Has k w.accounts) → ((k : ℕ) → met_in_all k (set s.views id w) ≡ tally k)
      → SeatRule n record { words = set s.words 0 word; homes = homes'; views = set s.views id w }
  moved s r id v w word homes' past tally at small one lawful below home mine theirs keep met =
      let wide = r.one_word in let now : get_or (set s.words 0 word) 0 0 ≡ word = get_or-set_same s.words 0 word 0 (omega arith) in record {
        past = past;
        seat_of = r.seat_of;
        tally = tally;
        met = met;
        one_word = length-set s.words 0 word ∙ r.one_word;
        one_slot = one;
        word = subst (λ (z : ℕ). z ≤ n) (sym now) small;
        lawful = lawful;
        below = below;
        home = λ e. home (sym now ∙ e);
        seats =
            subst (λ (z : ℕ). (j : ℕ) (u : SeatView) → get_elem? (set s.views id w) j ≡ some u → SeatFits n z tally past r.seat_of j u)
            (sym now) (seats_set (SeatFits n word tally past r.seat_of) s.views id w mine theirs);
        held = λ k l. held_set s.views id v w at (r.seat_of k) k (keep k) (r.held k l);
      }

  -- a step that changes nothing
  same : (s : TableState) (id : ℕ) (v : SeatView) (cs : List (ℕ × Slot)) → SeatRule n s → get_elem? s.views id ≡ some v → SeatRule n (stepped s 0 (get_or s.words 0 0) id cs v keeps)
  same s id v cs r at =
      subst (λ (z : List ℕ × List SeatView). SeatRule n record { words = z.0; homes = s.homes; views = z.1 })
      (λ i. (sym (set-get_or s.words 0 0) i, sym (set_again s.views id v at) i)) r

  -- the seat that took the book is the one of which the word tells
  pub has_book : (s : TableState) (r : SeatRule n s) (id : ℕ) (v : SeatView) (past : Past) → get_elem? s.views id ≡ some v → v.taken ≡ Some past
      → (k : ℕ) × (get_or s.words 0 0 ≡ k + 1) × (r.seat_of k ≡ id) × (r.past ≡ past)
  has_book s r id v past at took = let x : ℕ = get_or s.words 0 0 in let f = r.seats id v at in dite (ℕ_discrete x 0)
      (λ z. let e = f.free z in absurd (cc))
      (λ ne. let k : ℕ = x - 1 in let is : x ≡ k + 1 = omega arith in dite (ℕ_discrete (r.seat_of k) id)
      (λ here. (k, is, here, same_past v.taken r.past past (f.taken k is here) took))
      (λ there. let e = f.idle k is there in absurd (cc)))

  -- while the seat that took the book gives it back, the other seats stay as they are
  pub others_fit : (s : TableState) (r : SeatRule n s) (id : ℕ) (v : SeatView) (was : Past) → get_elem? s.views id ≡ some v → v.taken ≡ Some was
      → (j : ℕ) (u : SeatView) → j ≢ id → get_elem? s.views j ≡ some u → SeatFits n 0 r.tally r.past r.seat_of j u
  others_fit s r id v was at took j u other there =
      let b = has_book s r id v was at took in let g = r.seats j u there in record {
        count = g.count;
        accounts = g.accounts;
        faced = faces_free n (get_or s.words 0 0) b.0 r.past.history r.tally r.seat_of id j u.accounts b.1 b.2 other g.accounts g.faced;
        free = λ _. g.idle b.0 b.1 (λ e. other (sym e ∙ b.2));
        taken = λ i e h. absurd (omega arith);
        idle = λ i e h. absurd (omega arith);
        seen = g.seen;
        shed = g.shed;
      }

  -- the table after the seat gave the book back, with this view and this past
  pub given_back : (s : TableState) (r : SeatRule n s) (id : ℕ) (me : SeatState) (w : SeatView) (now : Past) (book : BookView) → get_elem? s.views id ≡ some me.0
      → me.1 ≡ (0, Some book) ∷ [] → AreBelow n now.history → Keeps now book
      → SeatFits n 0 r.tally now r.seat_of id w → ((j : ℕ) (u : SeatView) → j ≢ id → get_elem? s.views j ≡ some u → SeatFits n 0 r.tally now r.seat_of j u)
      → ((k : ℕ) → Has k me.0.accounts → Has k w.accounts) → ((k : ℕ) → met_in_all k (set s.views id w) ≡ r.tally k)
      → SeatRule n (stepped s 0 0 id me.1 w gives)
  given_back s r id me w now book at carried below kept mine theirs keep met =
      subst (λ (cs : List (ℕ × Slot)). SeatRule n (stepped s 0 0 id cs w gives)) (sym carried)
      (moved s r id me.0 w 0 (set s.homes 0 (some (Some book))) now r.tally at (omega arith) (length-set s.homes 0 (some (Some book)) ∙ r.one_slot) kept.lawful below
      (λ _. (book, one_home s.homes (some (Some book)) r.one_slot, kept)) mine theirs keep met)

  -- what holds of the other seats is kept
  sits_on : (history later : List Entry) (seat_of : ℕ → ℕ) (seat : ℕ) (xs : List Account)
      → ((x : Account) → seat_of x.number ≡ seat → Follows history x → Follows later x) → Each (Sits n history seat_of seat) xs
      → Each (Sits n later seat_of seat) xs
  sits_on history later seat_of seat xs f h = each_map xs (λ x t. record { below = t.below; seated = t.seated; follows = f x t.seated t.follows }) h

  pub updated_sit : (was history : List Entry) (f seat_of : ℕ → ℕ) (id : ℕ) (xs : List Account) → Each (Sits n was seat_of id) xs → Each (Sits n history seat_of id) (map (up_to_date history f) xs)
  updated_sit was history f seat_of id [] h = tt
  updated_sit was history f seat_of id (x ∷ xs) h = (
    record { below = h.0.below; seated = h.0.seated; follows = record { front = starts_all history; own = refl } },
    updated_sit was history f seat_of id xs h.1,
  )

  pub tries : (slots id : ℕ) (me : SeatState) (k : ℕ) → me.0.taken ≡ None → Has k me.0.accounts
      → Allows (SeatRule n) slots id me 0 (λ x. either (eqb x 0) (k + 1) x) (tried (step slots 0 0 (k + 1) none) me)
  tries slots id me k idle has s r deep at _ =
      let x : ℕ = get_or s.words 0 0 in let f = r.seats id me.0 at in
      let mine = each_at _ me.0.accounts k f.accounts has in
      let seated : r.seat_of k ≡ id = ap r.seat_of (sym mine.2) ∙ mine.1.seated in
      let small : k < n = (let b = mine.1.below in let e = mine.2 in omega arith) in
      let count : me.0.count ≡ n = f.count (has_some me.0.accounts k has) in
      dite (ℕ_discrete x 0)
      (λ hit. let there = r.home hit in (
        with_taken me.0 (Some r.past),
        takes 0 (Some there.0),
        there.1,
        subst (λ b. SeatRule n (stepped s 0 (either b (k + 1) x) id me.1 (with_taken me.0 (Some r.past)) (takes 0 (Some there.0)))) (sym (eq-eqb x 0 hit))
            (moved s r id me.0 (with_taken me.0 (Some r.past)) (k + 1) (set s.homes 0 none) r.past r.tally at (omega arith)
            (length-set s.homes 0 none ∙ r.one_slot) r.lawful r.below (λ z. absurd (omega arith))
            record {
              count = f.count;
              accounts = f.accounts;
              faced = faces_taken x (k + 1) r.tally me.0.accounts hit f.faced;
              free = λ z. absurd (omega arith);
              taken = λ j e h. refl;
              idle = λ j e h. absurd (h (ap r.seat_of (let q : j ≡ k = omega arith in q) ∙ seated));
              seen = f.seen;
              shed = f.shed;
            }
            (λ j u other there. let g = r.seats j u there in record {
              count = g.count;
              accounts = g.accounts;
              faced = faces_taken x (k + 1) r.tally u.accounts hit g.faced;
              free = λ z. absurd (omega arith);
              taken = λ i e h. absurd (other (sym h ∙ (ap r.seat_of (let q : i ≡ k = omega arith in q) ∙ seated)));
              idle = λ i e h. g.free hit;
              seen = g.seen;
              shed = g.shed;
            })
            (λ j h. h) (λ j. met_kept j s.views id me.0 (with_taken me.0 (Some r.past)) at refl ∙ r.met j)),
        (
          (λ _. (
            r.past,
            there.0,
            refl,
            there.2,
            subst (λ (z : ℕ). AreBelow z r.past.history) (sym count) r.below,
            each_map me.0.accounts (λ y t. t.follows) f.accounts,
            λ s' e. (f.shed s' e).1,
            (
              r.tally,
              faces_all x r.tally me.0.accounts hit f.faced,
              λ all j. sym (met_alone j s.views id me.0 at (λ i u other there. met_none j u.accounts
                  (λ y sits. let here = each_at _ me.0.accounts y.number f.accounts (all y.number (let b = sits.below in omega arith)) in
                  other (sym sits.seated ∙ (ap r.seat_of (sym here.2) ∙ here.1.seated))) (r.seats i u there).accounts)) ∙ r.met j,
            ),
          )),
          λ miss. absurd (miss hit),
        ),
      ))
      (λ miss. let h : ℕ = x - 1 in let is : x ≡ h + 1 = omega arith in
      let w : SeatView = with_loss me.0 h in let tally : ℕ → ℕ = one_more r.tally h in (
        w,
        keeps,
        tt,
        subst (λ b. SeatRule n (stepped s 0 (either b (k + 1) x) id me.1 w keeps)) (sym (ne_eqb x 0 miss))
            (moved s r id me.0 w x s.homes r.past tally at r.word r.one_slot r.lawful r.below r.home
            record {
              count = λ l. f.count (noted_some h me.0.accounts l);
              accounts = noted_sit n r.past.history r.seat_of id h me.0.accounts f.accounts;
              faced = noted_faces x tally h me.0.accounts (faces_more x h r.tally me.0.accounts is f.faced);
              free = f.free;
              taken = f.taken;
              idle = f.idle;
              seen = f.seen;
              shed = f.shed;
            }
            (λ j u other there. let g = r.seats j u there in record {
              count = g.count;
              accounts = g.accounts;
              faced = faces_more x h r.tally u.accounts is g.faced;
              free = g.free;
              taken = g.taken;
              idle = g.idle;
              seen = g.seen;
              shed = g.shed;
            })
            (λ j t. has_noted h me.0.accounts j t)
            (λ j. let e = met_set j s.views id me.0 w at in let d = met_note j h me.0.accounts (has_some me.0.accounts k has) in let t = r.met j in omega arith)),
        (
          (λ hit. absurd (miss hit)),
          λ _. (
            (let l = r.word in omega arith),
            λ j is'. (
              (let e : h ≡ j = omega arith in ap (λ (i : ℕ). (with_loss me.0 i, me.1)) e),
              λ there. let other = each_at _ me.0.accounts j f.accounts there in let took = f.taken j is' (ap r.seat_of (sym other.2) ∙ other.1.seated) in absurd (cc),
            ),
          ),
        ),
      ))

  pub gives_back : (slots id : ℕ) (me : SeatState) (was : Past) (book : BookView) → me.0.taken ≡ Some was → me.1 ≡ (0, Some book) ∷ [] → Keeps was book
      → Allows (SeatRule n) slots id me 0 (λ _. 0) (λ _. returned (step slots 0 0 0 none) me 0)
  gives_back slots id me was book took carried kept s r deep at _ =
      let f = r.seats id me.0 at in let b = has_book s r id me.0 was at took in let w = with_faced me.0 r.tally in (
        w,
        gives,
        tt,
        given_back s r id me w r.past book at carried r.below (subst (λ (p : Past). Keeps p book) (sym b.3) kept)
            record {
              count = λ l. f.count (faced_some r.tally me.0.accounts l);
              accounts = faced_sit n r.past.history r.seat_of id r.tally me.0.accounts f.accounts;
              faced = faces_known 0 r.tally me.0.accounts;
              free = λ _. refl;
              taken = λ j e h. absurd (omega arith);
              idle = λ j e h. refl;
              seen = f.seen;
              shed = f.shed;
            }
            (others_fit s r id me.0 was at took)
            (λ j h. has_faced r.tally me.0.accounts j h)
            (λ j. met_kept j s.views id me.0 w at (met_map j (faces r.tally) me.0.accounts (λ _. refl)) ∙ r.met j),
        (r.tally, refl),
      )

  pub publishes : (slots id : ℕ) (me : SeatState) (was : Past) (e : Entry) (book : BookView) → me.0.taken ≡ Some was
      → me.1 ≡ (0, Some book) ∷ [] → Keeps (with_entry was e) book → Has e.caller me.0.accounts
      → Allows (SeatRule n) slots id me 0 (λ _. 0) (λ _. published (step slots 0 0 0 none) me 0)
  publishes slots id me was e book took carried kept has s r deep at _ =
      let f = r.seats id me.0 at in let b = has_book s r id me.0 was at took in
      let now : Past = with_entry was e in
      let w : SeatView = with_history me.0 r.tally now.history in
      let mine = each_at _ me.0.accounts e.caller f.accounts has in
      let seated : r.seat_of e.caller ≡ id = ap r.seat_of (sym mine.2) ∙ mine.1.seated in
      let small : e.caller < n = (let l = mine.1.below in let q = mine.2 in omega arith) in
      let more : r.past.history ++ e ∷ [] ≡ now.history = ap (λ (p : Past). p.history ++ e ∷ []) b.3 in
      let shed : r.past.shed ≡ now.shed = ap (λ (p : Past). p.shed) b.3 in
      let longer : (seen : List Entry) → StartsWith r.past.history seen → StartsWith now.history seen =
      λ seen h. subst (λ (l : List Entry). StartsWith l seen) more (starts_more r.past.history seen e h) in (
        w,
        gives,
        tt,
        given_back s r id me w now book at carried (subst (AreBelow n) more (below_more n r.past.history e r.below small)) kept
            record {
              count = λ l. f.count (updated_some now.history r.tally me.0.accounts l);
              accounts = updated_sit r.past.history now.history r.tally r.seat_of id me.0.accounts f.accounts;
              faced = faces_now 0 r.tally now.history me.0.accounts;
              free = λ _. refl;
              taken = λ j q h. absurd (omega arith);
              idle = λ j q h. refl;
              seen = longer me.0.seen f.seen;
              shed = λ s' q. let h = f.shed s' q in (h.0, h.1 ∙ shed);
            }
            (λ j u other there. let g = others_fit s r id me.0 was at took j u other there in record {
              count = g.count;
              accounts = sits_on r.past.history now.history r.seat_of j u.accounts
                  (λ y at_j t. subst (λ (h : List Entry). Follows h y) more record {
                    front = starts_more r.past.history y.front e t.front;
                    own = t.own ∙ sym (own-other y.number r.past.history e (λ q. other (sym at_j ∙ (ap r.seat_of (sym q) ∙ seated))));
                  }) g.accounts;
              faced = g.faced;
              free = g.free;
              taken = λ i q h. absurd (omega arith);
              idle = λ i q h. absurd (omega arith);
              seen = longer u.seen g.seen;
              shed = λ s' q. let h = g.shed s' q in (h.0, h.1 ∙ shed);
            })
            (λ j h. has_updated now.history r.tally me.0.accounts j h)
            (λ j. met_kept j s.views id me.0 w at (met_map j (up_to_date now.history r.tally) me.0.accounts (λ _. refl)) ∙ r.met j),
        (
          r.tally,
          λ was' book' is is'.
              let same_book : book' ≡ book = ap (λ (l : List (ℕ × Slot)). slot_in book l) (sym is' ∙ carried) in
              let same_was : was' ≡ was = same_past me.0.taken was' was is took in
              let whole : now.history ≡ was'.shed ++ book'.kept = kept.whole ∙ (λ i. (sym same_was i).shed ++ (sym same_book i).kept) in
              (λ i. (with_history me.0 r.tally (whole i), ap rest carried i)),
        ),
      )

  pub empties : (slots id : ℕ) (me : SeatState) (was : Past) (book : BookView) (shed : List Entry) → me.0.taken ≡ Some was
      → me.1 ≡ (0, Some book) ∷ [] → Keeps (all_shed was) book → me.0.shed ≡ Some shed
      → Allows (SeatRule n) slots id me 0 (λ _. 0) (λ _. emptied (step slots 0 0 0 none) me 0)
  empties slots id me was book shed took carried kept keeper s r deep at _ =
      let f = r.seats id me.0 at in let b = has_book s r id me.0 was at took in
      let now : Past = all_shed was in
      let w : SeatView = with_shed me.0 r.tally now.history in
      let first : id ≡ 0 = (f.shed shed keeper).0 in
      let still : r.past.history ≡ now.history = ap (λ (p : Past). p.history) b.3 in (
        w,
        gives,
        tt,
        given_back s r id me w now book at carried (subst (AreBelow n) still r.below) kept
            record {
              count = λ l. f.count (updated_some now.history r.tally me.0.accounts l);
              accounts = updated_sit r.past.history now.history r.tally r.seat_of id me.0.accounts f.accounts;
              faced = faces_now 0 r.tally now.history me.0.accounts;
              free = λ _. refl;
              taken = λ j q h. absurd (omega arith);
              idle = λ j q h. refl;
              seen = subst (λ (l : List Entry). StartsWith l me.0.seen) still f.seen;
              shed = λ s' q. (first, sym (same_shed (Some now.history) now.history s' refl q));
            }
            (λ j u other there. let g = others_fit s r id me.0 was at took j u other there in record {
              count = g.count;
              accounts = sits_on r.past.history now.history r.seat_of j u.accounts (λ y _ t. subst (λ (h : List Entry). Follows h y) still t) g.accounts;
              faced = g.faced;
              free = g.free;
              taken = λ i q h. absurd (omega arith);
              idle = λ i q h. absurd (omega arith);
              seen = subst (λ (l : List Entry). StartsWith l u.seen) still g.seen;
              shed = λ s' q. absurd (other ((g.shed s' q).0 ∙ sym first));
            })
            (λ j h. has_updated now.history r.tally me.0.accounts j h)
            (λ j. met_kept j s.views id me.0 w at (met_map j (up_to_date now.history r.tally) me.0.accounts (λ _. refl)) ∙ r.met j),
        (
          r.tally,
          λ was' is. let same_was : was' ≡ was = same_past me.0.taken was' was is took in
              (λ i. (with_shed me.0 r.tally (sym same_was i).history, ap rest carried i)),
        ),
      )
