-- Each flow stays in the lists in which its queue says it is, whatever a call does to one queue and to the lists.
use Rattle.dn_flows.proofs.Words.{AreListed, Bool, FlowKey, FlowQueue, HasDistinctKeys, IsListed, IsMember, KeepQueues, KeepsMembers, KeepsOthers, KeepsQueue, LetsGo, List, Members, None, Some}
use Rattle.dn_flows.proofs.Words.{Target, [], ap, arith, cases_eq, eqb-true, false, inl, inr, is_at, is_known, is_listed, key_eq, key_eq-true, last_of, length, list_any, list_of, nat_eq}
use Rattle.dn_flows.proofs.Words.{new_queue, refl, same_Some, set, slice_get, subst, suc, sym, take, target_eq, true, without_list, zero, ℕ, ◌++◌, ◌<◌, ◌||◌, ◌∙◌, ◌∷◌, ◌≡◌, ◌≢◌, ◌⊎◌}
use Rattle.dn_types.specs.declared.target.Target.TheVariants.{Pipe as ToPipe, Queue as ToQueue}
use Rattle.dn_flows.proofs.Lists.{none-in}
use Rattle.dn_flows.proofs.Places.{eq-no, get-more, get-set, get-set-other}

module _ (keys : List FlowKey) (queues queues' : List FlowQueue) (m m' : Members) (flow : ℕ) (a : AreListed keys queues m) (keeps : KeepsOthers flow m m')
    (others : (g : ℕ) → g ≢ flow → slice_get queues' g ≡ slice_get queues g)
    (here : (q' : FlowQueue) → slice_get queues' flow ≡ Some q' → IsListed q' × ((target : Target) (key : FlowKey) → slice_get keys flow ≡ Some key
    → is_at target key ≡ true → is_listed target q' ≡ true → IsMember target flow m')) where
  still-member : (g : ℕ) (q : FlowQueue) (key : FlowKey) (target : Target) → slice_get queues' g ≡ Some q → slice_get keys g ≡ Some key → is_at target key ≡ true → is_listed target q ≡ true
      → (g ≡ flow) ⊎ (g ≡ flow → ⊥) → IsMember target g m'
  still-member g q key target there its at listed (inl same) =
      subst (λ (n : ℕ). IsMember target n m') (sym same)
      ((here q (ap (slice_get queues') (sym same) ∙ there)).1 target key (ap (slice_get keys) (sym same) ∙ its) at listed)
  still-member g q key target there its at listed (inr ne) = keeps target g ne (a.members g q key target (sym (others g ne) ∙ there) its at listed)

  still-listed : (g : ℕ) (q : FlowQueue) → slice_get queues' g ≡ Some q → (g ≡ flow) ⊎ (g ≡ flow → ⊥) → IsListed q
  still-listed g q there (inl same) = (here q (ap (slice_get queues') (sym same) ∙ there)).0
  still-listed g q there (inr ne) = a.listed g q (sym (others g ne) ∙ there)

  pub listed-but : AreListed keys queues' m'
  listed-but = record {
    distinct = a.distinct;
    members = λ g q key target there its at listed. still-member g q key target there its at listed (cases_eq g flow);
    listed = λ g q there. still-listed g q there (cases_eq g flow);
  }

-- One queue changes, and is listed as it was.
pub listed-set : (keys : List FlowKey) (queues : List FlowQueue) (m : Members) (flow : ℕ) (q q' : FlowQueue) → AreListed keys queues m → slice_get queues flow ≡ Some q
    → q'.on_pipe ≡ q.on_pipe → q'.of_queue ≡ q.of_queue → IsListed q' → AreListed keys (set queues flow q') m
listed-set keys queues m flow q q' a there pipe queue is =
    listed-but keys queues (set queues flow q') m m flow a (λ target g ne h. h) (λ g ne. get-set-other queues flow g q' ne)
    (λ x at. here x (same_Some q' x (sym (get-set queues flow q q' there) ∙ at)))
  where
    flag : (target : Target) → is_listed target q' ≡ is_listed target q
    flag (ToPipe p) = pipe
    flag (ToQueue n) = queue

    here : (x : FlowQueue) → q' ≡ x → IsListed x × ((target : Target) (key : FlowKey) → slice_get keys flow ≡ Some key → is_at target key ≡ true → is_listed target x ≡ true → IsMember target flow m)
    here x same = (subst IsListed same is, λ target key its at listed. a.members flow q key target there its at (sym (flag target) ∙ ap (is_listed target) same ∙ listed))

-- A queue that was listed is so with a place used up, or with no packet since.
pub listed-q : (q q' : FlowQueue) → IsListed q → q'.on_pipe ≡ q.on_pipe → q'.of_queue ≡ q.of_queue → (q'.reserved ≡ true → q.reserved ≡ true)
    → (q'.active ≡ true → (q.reserved ≡ true) ⊎ (q.active ≡ true)) → IsListed q'
listed-q q q' is pipe queue reserved active = record {
  reserved = λ h. let b = is.reserved (reserved h) in (pipe ∙ b.0, queue ∙ b.1);
  active = λ h. by (active h);
}
  where
    by : (q.reserved ≡ true) ⊎ (q.active ≡ true) → (q'.on_pipe ≡ true) × (q'.of_queue ≡ true)
    by (inl h) = let b = is.reserved h in (pipe ∙ b.0, queue ∙ b.1)
    by (inr h) = let b = is.active h in (pipe ∙ b.0, queue ∙ b.1)

-- One queue changes, and all that says whether it is listed stays.
abbrev pub SameFlags : FlowQueue → FlowQueue → Type 0
SameFlags q q' = (q'.on_pipe ≡ q.on_pipe) × (q'.of_queue ≡ q.of_queue) × (q'.reserved ≡ q.reserved) × (q'.active ≡ q.active)

pub listed-after : (keys : List FlowKey) (queues : List FlowQueue) (m : Members) (flow : ℕ) (q q' : FlowQueue) → AreListed keys queues m → slice_get queues flow ≡ Some q
    → SameFlags q q' → AreListed keys (set queues flow q') m
listed-after keys queues m flow q q' a there same =
    listed-set keys queues m flow q q' a there same.0 same.1
    (listed-q q q' (a.listed flow q there) same.0 same.1 (λ h. sym same.2 ∙ h) (λ h. inr (sym same.3 ∙ h)))

-- ---- A flow is made, or taken out

is-known : (key : FlowKey) (keys : List FlowKey) (i : ℕ) (k : FlowKey) → slice_get keys i ≡ Some k → key_eq key k ≡ true → is_known key keys ≡ true
is-known key [] i k there same = absurd cc
is-known key (x ∷ keys) zero k there same = let is : x ≡ k = cc in ap (λ b. b || list_any (key_eq key) keys) (ap (key_eq key) is ∙ same)
is-known key (x ∷ keys) (suc i) k there same = by (key_eq key x) (is-known key keys i k there same)
  where
    by : (b : Bool) → is_known key keys ≡ true → (b || list_any (key_eq key) keys) ≡ true
    by true h = refl
    by false h = h

module _ (keys : List FlowKey) (key : FlowKey) (unknown : is_known key keys ≡ false) (d : HasDistinctKeys keys) where
  new-key : (i : ℕ) (k : FlowKey) → slice_get keys i ≡ Some k → key_eq key k ≡ true → ⊥
  new-key i k there same = let wrong : true ≡ false = sym (is-known key keys i k there same) ∙ unknown in cc

  pub distinct-more : HasDistinctKeys (keys ++ key ∷ [])
  distinct-more i j k l at-i at-j same = by (get-more keys key k i at-i) (get-more keys key l j at-j)
    where
      by : (slice_get keys i ≡ Some k) ⊎ ((i ≡ length keys) × (k ≡ key)) → (slice_get keys j ≡ Some l) ⊎ ((j ≡ length keys) × (l ≡ key)) → i ≡ j
      by (inl e) (inl f) = d i j k l e f same
      by (inl e) (inr f) = let is : k ≡ l = key_eq-true k l same in let back : key ≡ k = sym (is ∙ f.1) in absurd (new-key i k e ((λ x. key_eq (back x) (is x)) ∙ same))
      by (inr e) (inl f) = absurd (new-key j l f (ap (λ (x : FlowKey). key_eq x l) (sym e.1) ∙ same))
      by (inr e) (inr f) = e.0 ∙ sym f.0

get-take : {X : Type 0} (xs : List X) (n i : ℕ) (x : X) → slice_get (take n xs) i ≡ Some x → slice_get xs i ≡ Some x
get-take [] zero i x e = e
get-take [] (suc n) i x e = e
get-take (y ∷ xs) zero i x e = absurd cc
get-take (y ∷ xs) (suc n) zero x e = e
get-take (y ∷ xs) (suc n) (suc i) x e = get-take xs n i x e

pub listed-more : (keys : List FlowKey) (queues : List FlowQueue) (m : Members) (key : FlowKey) → length keys ≡ length queues → is_known key keys ≡ false → AreListed keys queues m
    → AreListed (keys ++ key ∷ []) (queues ++ new_queue ∷ []) m
listed-more keys queues m key many unknown a = record {
  distinct = distinct-more keys key unknown a.distinct;
  members = λ flow q k target there its at listed. old flow q k target its at listed (get-more queues new_queue q flow there) (get-more keys key k flow its);
  listed = λ flow q there. by flow q (get-more queues new_queue q flow there);
}
  where
    unlisted : (target : Target) → is_listed target new_queue ≡ false
    unlisted (ToPipe p) = refl
    unlisted (ToQueue n) = refl

    fresh : (q : FlowQueue) (target : Target) → q ≡ new_queue → is_listed target q ≡ true → ⊥
    fresh q target same listed = let wrong : false ≡ true = sym (unlisted target) ∙ ap (is_listed target) (sym same) ∙ listed in cc

    below : (flow : ℕ) (q : FlowQueue) (xs : List FlowQueue) → slice_get xs flow ≡ Some q → flow < length xs
    below flow q [] e = absurd cc
    below zero q (x ∷ xs) e = omega arith
    below (suc flow) q (x ∷ xs) e = let r = below flow q xs e in omega arith

    old : (flow : ℕ) (q : FlowQueue) (k : FlowKey) (target : Target) → slice_get (keys ++ key ∷ []) flow ≡ Some k → is_at target k ≡ true → is_listed target q ≡ true
        → (slice_get queues flow ≡ Some q) ⊎ ((flow ≡ length queues) × (q ≡ new_queue)) → (slice_get keys flow ≡ Some k) ⊎ ((flow ≡ length keys) × (k ≡ key)) → IsMember target flow m
    old flow q k target its at listed (inl e) (inl f) = a.members flow q k target e f at listed
    old flow q k target its at listed (inl e) (inr f) = let lt = below flow q queues e in let is = f.0 in absurd (omega arith)
    old flow q k target its at listed (inr e) f = absurd (fresh q target e.1 listed)

    by : (flow : ℕ) (q : FlowQueue) → (slice_get queues flow ≡ Some q) ⊎ ((flow ≡ length queues) × (q ≡ new_queue)) → IsListed q
    by flow q (inl e) = a.listed flow q e
    by flow q (inr e) = subst IsListed (sym e.1) (record { reserved = λ h. absurd cc; active = λ h. absurd cc })

pub none-are-listed : (m : Members) → AreListed [] [] m
none-are-listed m = record { distinct = λ i j k l e f same. absurd cc; members = λ flow q key target there its at listed. absurd cc; listed = λ flow q there. absurd cc }

-- The last flow is taken out of the table and the lists.
pub listed-less : (keys : List FlowKey) (queues queues' : List FlowQueue) (m m' : Members) (flow : ℕ) → AreListed keys queues m → KeepsOthers flow m m' → length queues' ≡ flow
    → ((g : ℕ) (q : FlowQueue) → slice_get queues' g ≡ Some q → slice_get queues g ≡ Some q) → AreListed (take flow keys) queues' m'
listed-less keys queues queues' m m' flow a keeps many sub = record {
  distinct = λ i j k l e f same. a.distinct i j k l (get-take keys flow i k e) (get-take keys flow j l f) same;
  members = λ g q key target there its at listed.
      let lt = below g q queues' there in
      keeps target g (λ e. absurd (omega arith)) (a.members g q key target (sub g q there) (get-take keys flow g key its) at listed);
  listed = λ g q there. a.listed g q (sub g q there);
}
  where
    below : (g : ℕ) (q : FlowQueue) (xs : List FlowQueue) → slice_get xs g ≡ Some q → g < length xs
    below g q [] e = absurd cc
    below zero q (x ∷ xs) e = omega arith
    below (suc g) q (x ∷ xs) e = let r = below g q xs e in omega arith

-- ---- A flow joins its lists

module _ (keys : List FlowKey) (queues : List FlowQueue) (m m' : Members) (flow : ℕ) (q q' : FlowQueue) (key : FlowKey) (a : AreListed keys queues m)
    (there : slice_get queues flow ≡ Some q) (its : slice_get keys flow ≡ Some key) (keeps : KeepsMembers m m')
    (reserved : q'.reserved ≡ q.reserved) (active : q'.active ≡ q.active) where
  more-listed : (q.on_pipe ≡ true → q'.on_pipe ≡ true) → (q.of_queue ≡ true → q'.of_queue ≡ true) → IsListed q'
  more-listed pipe queue =
      let is = a.listed flow q there in
      record {
        reserved = λ h. let b = is.reserved (sym reserved ∙ h) in (pipe b.0, queue b.1);
        active = λ h. let b = is.active (sym active ∙ h) in (pipe b.0, queue b.1);
      }

  joins : IsListed q' → ((target : Target) → is_at target key ≡ true → is_listed target q' ≡ true → IsMember target flow m') → AreListed keys (set queues flow q') m'
  joins is member =
      listed-but keys queues (set queues flow q') m m' flow a (λ target g ne h. keeps target g h) (λ g ne. get-set-other queues flow g q' ne)
      (λ x at. here x (same_Some q' x (sym (get-set queues flow q q' there) ∙ at)))
    where
      here : (x : FlowQueue) → q' ≡ x → IsListed x × ((target : Target) (k : FlowKey) → slice_get keys flow ≡ Some k → is_at target k ≡ true → is_listed target x ≡ true → IsMember target flow m')
      here x same = (
        subst IsListed same is,
        λ target k at-k at listed. let key_is : key ≡ k = same_Some key k (sym its ∙ at-k) in member target (ap (is_at target) key_is ∙ at) (ap (is_listed target) same ∙ listed),
      )

  -- Nothing is put into a list for it.
  pub joins-no-more : q'.on_pipe ≡ q.on_pipe → q'.of_queue ≡ q.of_queue → AreListed keys (set queues flow q') m'
  joins-no-more pipe queue = joins (more-listed (λ h. pipe ∙ h) (λ h. queue ∙ h)) member
    where
      member : (target : Target) → is_at target key ≡ true → is_listed target q' ≡ true → IsMember target flow m'
      member (ToPipe p) at listed = keeps (ToPipe p) flow (a.members flow q key (ToPipe p) there its at (sym pipe ∙ listed))
      member (ToQueue n) at listed = keeps (ToQueue n) flow (a.members flow q key (ToQueue n) there its at (sym queue ∙ listed))

  pub joins-pipe : IsMember (ToPipe key.pipe) flow m' → q'.on_pipe ≡ true → q'.of_queue ≡ q.of_queue → AreListed keys (set queues flow q') m'
  joins-pipe added now same = joins (more-listed (λ h. now) (λ h. same ∙ h)) member
    where
      member : (target : Target) → is_at target key ≡ true → is_listed target q' ≡ true → IsMember target flow m'
      member (ToPipe p) at listed = subst (λ n. IsMember (ToPipe n) flow m') (eqb-true key.pipe p at) added
      member (ToQueue n) at listed = keeps (ToQueue n) flow (a.members flow q key (ToQueue n) there its at (sym same ∙ listed))

  pub joins-queue : (n : ℕ) → key.target ≡ ToQueue n → IsMember (ToQueue n) flow m' → q'.of_queue ≡ true → q'.on_pipe ≡ q.on_pipe → AreListed keys (set queues flow q') m'
  joins-queue n is added now same = joins (more-listed (λ h. same ∙ h) (λ h. now)) member
    where
      member : (target : Target) → is_at target key ≡ true → is_listed target q' ≡ true → IsMember target flow m'
      member (ToPipe p) at listed = keeps (ToPipe p) flow (a.members flow q key (ToPipe p) there its at (sym same ∙ listed))
      member (ToQueue o) at listed = subst (λ i. IsMember (ToQueue i) flow m') (eqb-true n o (ap (λ (t : Target). target_eq t (ToQueue o)) (sym is) ∙ at)) added

  -- A flow of no queue is in no queue's list.
  pub joins-none : (n : ℕ) → key.target ≡ ToPipe n → q'.of_queue ≡ true → q'.on_pipe ≡ q.on_pipe → AreListed keys (set queues flow q') m'
  joins-none n is now same = joins (more-listed (λ h. same ∙ h) (λ h. now)) member
    where
      member : (target : Target) → is_at target key ≡ true → is_listed target q' ≡ true → IsMember target flow m'
      member (ToPipe p) at listed = keeps (ToPipe p) flow (a.members flow q key (ToPipe p) there its at (sym same ∙ listed))
      member (ToQueue o) at listed = absurd cc

pub set-twice : {X : Type 0} (xs : List X) (k : ℕ) (y z : X) → set (set xs k y) k z ≡ set xs k z
set-twice [] k y z = refl
set-twice (x ∷ xs) zero y z = refl
set-twice (x ∷ xs) (suc k) y z = λ i. x ∷ set-twice xs k y z i

-- ---- A flow leaves the list of a target, unless it is active there

other-target : (target other : Target) (key : FlowKey) → (is_at target key ≡ true → ⊥) → is_at other key ≡ true → target_eq target other ≡ false
other-target (ToPipe p) (ToPipe r) key not-at at = by (cases_eq p r)
  where
    by : (p ≡ r) ⊎ (p ≡ r → ⊥) → nat_eq p r ≡ false
    by (inl e) = absurd (not-at (ap (λ n. nat_eq key.pipe n) e ∙ at))
    by (inr ne) = eq-no p r ne
other-target (ToQueue p) (ToQueue r) key not-at at = by (cases_eq p r)
  where
    by : (p ≡ r) ⊎ (p ≡ r → ⊥) → nat_eq p r ≡ false
    by (inl e) = absurd (not-at (ap (λ n. target_eq key.target (ToQueue n)) e ∙ at))
    by (inr ne) = eq-no p r ne
other-target (ToPipe p) (ToQueue r) key not-at at = refl
other-target (ToQueue p) (ToPipe r) key not-at at = refl

-- Its queue says that it isn't in the list of any such target.
none-listed : (target other : Target) (q : FlowQueue) → is_listed other (without_list target q) ≡ true → (target_eq target other ≡ false) × (is_listed other q ≡ true)
none-listed (ToPipe p) (ToPipe r) q h = absurd cc
none-listed (ToPipe p) (ToQueue r) q h = (refl, h)
none-listed (ToQueue p) (ToPipe r) q h = (refl, h)
none-listed (ToQueue p) (ToQueue r) q h = absurd cc

kept-flags : (target : Target) (q : FlowQueue) → ((without_list target q).reserved ≡ false) × ((without_list target q).active ≡ q.active)
kept-flags (ToPipe p) q = (refl, refl)
kept-flags (ToQueue p) q = (refl, refl)

pub lets-go : (target : Target) (keys : List FlowKey) (queues queues' : List FlowQueue) (m m' : Members) (flow : ℕ) → AreListed keys queues m → KeepsOthers flow m m'
    → ((other : Target) → target_eq target other ≡ false → list_of other m' ≡ list_of other m) → LetsGo target flow queues queues'
    → ((q : FlowQueue) (key : FlowKey) → slice_get queues flow ≡ Some q → slice_get keys flow ≡ Some key → is_at target key ≡ true → q.active ≡ false) → AreListed keys queues' m'
lets-go target keys queues queues' m m' flow a keeps others go idle = listed-but keys queues queues' m m' flow a keeps go.others (λ q' at. let h = go.here q' at in here q' h.0 h.1 h.2)
  where
    stays : (q : FlowQueue) (other : Target) (key : FlowKey) → slice_get queues flow ≡ Some q → slice_get keys flow ≡ Some key → is_at other key ≡ true → is_listed other q ≡ true
        → target_eq target other ≡ false → IsMember other flow m'
    stays q other key there its at listed apart = ap (λ (l : List ℕ). list_any (nat_eq flow) l) (others other apart) ∙ a.members flow q key other there its at listed

    here : (q' q : FlowQueue) → slice_get queues flow ≡ Some q → ((q.active ≡ true) × (q' ≡ q)) ⊎ ((q.active ≡ false) × (q' ≡ without_list target q))
        → IsListed q' × ((other : Target) (key : FlowKey) → slice_get keys flow ≡ Some key → is_at other key ≡ true → is_listed other q' ≡ true → IsMember other flow m')
    here q' q there (inl e) = (
      subst IsListed (sym e.1) (a.listed flow q there),
      λ other key its at listed.
          stays q other key there its at (ap (is_listed other) (sym e.1) ∙ listed)
          (other-target target other key (λ h. let wrong : true ≡ false = sym e.0 ∙ idle q key there its h in cc) at),
    )
    here q' q there (inr e) = (
      subst IsListed (sym e.1) (record {
        reserved = λ h. let wrong : false ≡ true = sym (kept-flags target q).0 ∙ h in absurd cc;
        active = λ h. let wrong : false ≡ true = sym e.0 ∙ sym (kept-flags target q).1 ∙ h in absurd cc;
      }),
      λ other key its at listed. let n = none-listed target other q (ap (is_listed other) (sym e.1) ∙ listed) in stays q other key there its at n.1 n.0,
    )

pub keep-more : (old mid new : List FlowQueue) → KeepQueues old mid → KeepQueues mid new → KeepQueues old new
keep-more old mid new a b = record {
  each = λ flow q' e.
      let y = b.each flow q' e in
      let x = a.each flow y.0 y.1 in (
        x.0,
        x.1,
        record {
          front = y.2.front ∙ x.2.front;
          back = y.2.back ∙ x.2.back;
          len = y.2.len ∙ x.2.len;
          bytes = y.2.bytes ∙ x.2.bytes;
          active = y.2.active ∙ x.2.active;
          started = y.2.started ∙ x.2.started;
          home = y.2.home ∙ x.2.home;
          reserved = λ on. y.2.reserved (x.2.active ∙ on) ∙ x.2.reserved on;
        },
      );
  many = b.many ∙ a.many;
}

without-keeps : (target : Target) (q : FlowQueue) → q.active ≡ false → KeepsQueue q (without_list target q)
without-keeps (ToPipe p) q e = record { front = refl; back = refl; len = refl; bytes = refl; active = refl; started = refl; home = refl; reserved = λ on. absurd cc }
without-keeps (ToQueue n) q e = record { front = refl; back = refl; len = refl; bytes = refl; active = refl; started = refl; home = refl; reserved = λ on. absurd cc }

pub keep-let : (target : Target) (flow : ℕ) (old new : List FlowQueue) → LetsGo target flow old new → KeepQueues old new
keep-let target flow old new go = record { each = λ g q' e. by g q' e (cases_eq g flow); many = go.many }
  where
    same : (q : FlowQueue) → KeepsQueue q q
    same q = record { front = refl; back = refl; len = refl; bytes = refl; active = refl; started = refl; home = refl; reserved = λ on. refl }

    kept : (q q' : FlowQueue) → ((q.active ≡ true) × (q' ≡ q)) ⊎ ((q.active ≡ false) × (q' ≡ without_list target q)) → KeepsQueue q q'
    kept q q' (inl e) = subst (KeepsQueue q) (sym e.1) (same q)
    kept q q' (inr e) = subst (KeepsQueue q) (sym e.1) (without-keeps target q e.0)

    by : (g : ℕ) (q' : FlowQueue) → slice_get new g ≡ Some q' → (g ≡ flow) ⊎ (g ≡ flow → ⊥) → (q : FlowQueue) × (slice_get old g ≡ Some q) × KeepsQueue q q'
    by g q' e (inl is) = let h = go.here q' (ap (slice_get new) (sym is) ∙ e) in (h.0, ap (slice_get old) is ∙ h.1, kept h.0 q' h.2)
    by g q' e (inr ne) = (q', sym (go.others g ne) ∙ e, same q')

-- Where a target's list is empty, no flow there is active.
pub none-active : (target : Target) (keys : List FlowKey) (queues : List FlowQueue) (m : Members) → AreListed keys queues m → last_of (list_of target m) ≡ None
    → (flow : ℕ) (q : FlowQueue) (key : FlowKey) → slice_get queues flow ≡ Some q → slice_get keys flow ≡ Some key → is_at target key ≡ true → q.active ≡ false
none-active target keys queues m a none flow q key there its at = by q.active refl
  where
    flag : (t : Target) → (q.on_pipe ≡ true) × (q.of_queue ≡ true) → is_listed t q ≡ true
    flag (ToPipe p) b = b.0
    flag (ToQueue n) b = b.1

    by : (b : Bool) → q.active ≡ b → q.active ≡ false
    by false e = e
    by true e =
        let member = a.members flow q key target there its at (flag target ((a.listed flow q there).active e)) in
        let wrong : true ≡ false = sym member ∙ none-in flow (list_of target m) none in
        absurd cc
