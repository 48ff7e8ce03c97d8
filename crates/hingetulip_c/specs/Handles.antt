-- A handle: the one value that it holds if it is open, and the calls that a shaper has had.
use Rattle.std.specs.Prelude.{◌≡◌, ◌≢◌, ◌<◌, ◌≤◌, ◌⊎◌, ℕ, Bool, true, false, List, [], ◌∷◌, cond, length, nat_eq}
use Rattle.dn_types.specs.Clock.{call_limit, counted}
use Rattle.dn_types.specs.Replies.{reply}
use Rattle.dn_types.specs.declared.call.Call.{Call}
use Rattle.dn_types.specs.declared.reply.Reply.{Reply}
use Rattle.dn_types.specs.declared.rule.Rule.{Rule}
use Rattle.dn_types.specs.declared.rule.Rule.TheVariants.{Ordered, Free}
use Rattle.dn_shaper.specs.Shaper.{CanNeedMemory, StandsAfter}
use Rattle.dn_shaper.specs.declared.state.State.{State}
use Rattle.std.specs.contracts.impls.GlobalAllocator.TheImpl.{ghosts}
use mir.Syntax.{Ty}
use denote.RawPtr.{Ptr}
use base.Fml.{Fml, ftrue, ffalse}

-- What allows a block of the global allocator to be freed. The allocator is one for all, so any value of it tells.
abbrev pub freed : Ty → Ptr → Fml
freed = ghosts.dealloc_token (record { memory = record { seal = tt } })

-- What a handle owns: the one value that it holds where it is open, and nothing where it is closed.
abbrev pub owned_by : {A : Type 0} → (A → Fml) → Bool → List A → Fml
owned_by own true (x ∷ []) = own x
owned_by own true [] = ffalse
owned_by own true (x ∷ y ∷ xs) = ffalse
owned_by own false [] = ftrue
owned_by own false (x ∷ xs) = ffalse

-- The handle is open, and this is so of what it holds.
abbrev pub Holds : {A : Type 0} → (A → Type 0) → List A → Type 0
Holds is (x ∷ []) = is x
Holds is _ = ⊥

-- The handle is open before and after, and this is so of what it held and what it holds.
abbrev pub HoldsBoth : {A : Type 0} → (A → A → Type 0) → List A → List A → Type 0
HoldsBoth is (b ∷ []) (a ∷ []) = is b a
HoldsBoth is _ _ = ⊥

-- The handle is closed, and the status says so (5).
abbrev pub IsClosed : {A : Type 0} → List A → ℕ → Type 0
IsClosed held status = (status ≡ 5) × (held ≡ [])

-- The handle is open, and memory was refused (6).
abbrev pub LacksMemory : {A : Type 0} → List A → ℕ → Type 0
LacksMemory held status = (status ≡ 6) × (held ≢ [])

-- A handle was closed by a call, or had been closed before (5).
pub record IsClosedBy {A : Type 0} (status : ℕ) (old new : List A) : Type 0 where
  pub closed : new ≡ []
  pub again : status ≡ 5 → old ≡ []
  pub before : old ≡ [] → status ≡ 5
  pub statuses : (status ≡ 0) ⊎ (status ≡ 5)

-- The handle is open, and its shaper has had the calls, newest first.
abbrev pub HeldAfter : Rule → List State → List Call → Type 0
HeldAfter rule (s ∷ []) calls = StandsAfter rule s calls
HeldAfter rule _ calls = ⊥

-- A shaper was opened by the rule of this number (0), memory was refused and the handle is closed (6), or no rule has the number and
-- nothing has changed (10).
pub record Opens (rule status : ℕ) (old new : List State) : Type 0 where
  pub opened : status ≡ 0 → HeldAfter (cond (nat_eq rule 0) Ordered Free) new []
  pub memory : status ≡ 6 → new ≡ []
  pub bad_rule : status ≡ 10 → (1 < rule) × (new ≡ old)
  pub statuses : (status ≡ 0) ⊎ (status ≡ 6) ⊎ (status ≡ 10)
  pub known : status ≢ 10 → rule ≤ 1

-- Whatever rule and calls the handle's shaper has had, this is so of them.
abbrev pub After : List State → (Rule → List Call → Type 0) → Type 0
After held is = (rule : Rule) (calls : List Call) → HeldAfter rule held calls → is rule calls

-- The same of the definition's reply to a call.
abbrev pub IfReply : List State → Call → (Reply → Type 0) → Type 0
IfReply held call is = After held (λ rule calls. is (reply rule calls call))

-- Whatever calls the handle's shaper had, it has had the same now.
abbrev pub StillHeld : List State → List State → Type 0
StillHeld old new = After old (λ rule calls. HeldAfter rule new calls)

-- Whatever calls it had, it has had this one more now.
abbrev pub HeldMore : Call → List State → List State → Type 0
HeldMore call old new = After old (λ rule calls. HeldAfter rule new (call ∷ calls))

-- Whatever calls it had, the reply to a call that comes after others is the definition's, and it has had all of them now.
abbrev pub AnswersAfter : (List Call → List Call) → Call → List State → List State → Reply → Type 0
AnswersAfter more call old new r = After old (λ rule calls. (r ≡ reply rule (more calls) call) × HeldAfter rule new (call ∷ more calls))

-- The same of a call that comes next.
abbrev pub AnswersHeld : Call → List State → List State → Reply → Type 0
AnswersHeld call old new r = After old (λ rule calls. (r ≡ reply rule calls call) × HeldAfter rule new (call ∷ calls))

-- The call can be refused memory: fewer calls came than are answered, and it may take some.
abbrev pub CanLackMemory : List Call → Call → Type 0
CanLackMemory calls call = (length calls < call_limit) × CanNeedMemory (counted calls) call

-- Why a call isn't answered that comes after others: the handle is closed (5), or it is open and the call can be refused memory (6).
abbrev pub UnansweredAfter : (List Call → List Call) → Call → List State → ℕ → Type 0
UnansweredAfter more call held status = IsClosed held status ⊎ ((status ≡ 6) × (held ≢ []) × After held (λ rule calls. CanLackMemory (more calls) call))

-- The same of a call that comes next.
abbrev pub Unanswered : Call → List State → ℕ → Type 0
Unanswered call held status = IsClosed held status ⊎ ((status ≡ 6) × (held ≢ []) × After held (λ rule calls. CanLackMemory calls call))
