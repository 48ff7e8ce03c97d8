-- The laws of a closed service: what its history is to its callers, to what they were told, and to whatever obeys the laws.
use Rattle.std.specs.Prelude.{ℕ, ◌≡◌, ◌≤◌, ◌<◌, List, [], ◌∷◌, ◌++◌, map, reverse, sum, nat_eq, Some, slice_get}
use Rattle.std.specs.List.{All, count_by, filter}
use Rattle.dn_laws.specs.Determined.Emulators.{Emulator, Has}
use Rattle.dn_laws.specs.Determined.Laws.{ObeysTheLaws}
use Rattle.dn_laws.specs.Emulated.{IsToldAfter}
use Rattle.dn_service.specs.Callers.{ServiceView, CallerView, Answered, new_caller, Closes}
use Rattle.dn_types.specs.History.{IsLawful}
use Rattle.dn_types.specs.declared.call.Call.{Call}
use Rattle.dn_types.specs.declared.call.Call.TheVariants.{Collect}
use Rattle.dn_types.specs.declared.delivery.Delivery.{Delivery}
use Rattle.dn_types.specs.declared.entry.Entry.{Entry}
use Rattle.dn_types.specs.declared.reply.Reply.{Reply}
use Rattle.dn_types.specs.declared.reply.Reply.TheVariants.{Delivered}
use Rattle.dn_types.specs.declared.rule.Rule.TheVariants.{Ordered}

-- Since its opening the caller made these calls, newest first, and was told these replies.
abbrev pub WasTold : ServiceView → ℕ → List (Call × Reply) → CallerView → Type 0
WasTold service k [] c = (c.number ≡ k) × (c.own ≡ (new_caller service k).own)
WasTold service k (t ∷ told) c = (before : CallerView) × (after : CallerView) × WasTold service k told before × Answered before t.0 t.1 after × (c.number ≡ k) × (c.own ≡ after.own)

-- A caller's entries are its calls, each with its reply. What it has seen is the front of the history. As many tries found it in a
-- call as the callers noted.
pub record IsLeft (history : List Entry) (callers : List CallerView) (c : CallerView) : Type 0 where
  pub own : (service : ServiceView) (told : List (Call × Reply)) → WasTold service c.number told c → filter (λ e. nat_eq e.caller c.number) history ≡ reverse (map (λ t. record { caller = c.number; call = t.0; reply = t.1 }) told)
  pub seen : (i : ℕ) (entry : Entry) → slice_get c.front i ≡ Some entry → slice_get history i ≡ Some entry
  pub faced : c.faced ≡ sum (map (λ other. count_by (λ k. nat_eq k c.number) other.lost) callers)

abbrev pub CallersAreLeft : Type 0
CallersAreLeft = (service : ServiceView) (callers : List CallerView) (history : List Entry) (c : CallerView) → Closes service callers history → Has callers c → IsLeft history callers c

-- Each entry is of a caller that was handed in.
abbrev pub NoneIsForeign : Type 0
NoneIsForeign = (service : ServiceView) (callers : List CallerView) (history : List Entry) (entry : Entry) → Closes service callers history → Has history entry →
    (c : CallerView) × Has callers c × (c.number ≡ entry.caller)

-- A Collect of the history was told the delivery. Of two on one link, as those of a flow are, the later start isn't due sooner.
abbrev pub IsDelivered : List Entry → Delivery → Type 0
IsDelivered history d = (entry : Entry) × (moment : ℕ) × (at : ℕ) × (list : List Delivery) × Has history entry × (entry.call ≡ Collect moment) × (entry.reply ≡ Delivered at list) × Has list d

abbrev pub NoneIsOvertaken : Type 0
NoneIsOvertaken = (service : ServiceView) (callers : List CallerView) (history : List Entry) (d e : Delivery) → Closes service callers history →
    IsDelivered history d → IsDelivered history e → d.flow ≡ e.flow → d.start < e.start → d.due ≤ e.due

-- Nothing more is asked of an answer: where the caller has seen such a history, and has its own entries of it, the call was answered so.
abbrev pub AnswersSuffice : Type 0
AnswersSuffice = (before after : CallerView) (c : Call) (r : Reply) (between : List Entry) → IsLawful Ordered after.front → All (λ e. e.caller < before.service.callers) after.front →
    after.front ≡ (before.front ++ between) ++ record { caller = before.number; call = c; reply = r } ∷ [] → after.own ≡ before.own ++ record { caller = before.number; call = c; reply = r } ∷ [] →
    after.own ≡ filter (λ e. nat_eq e.caller before.number) after.front → Answered before c r after

-- The caller has seen a front of the history, has its own entries of it, and was found in a call as often as the callers noted.
abbrev pub IsAccounted : List Entry → List CallerView → CallerView → Type 0
IsAccounted history callers c = ((rest : List Entry) × (history ≡ c.front ++ rest)) × (c.own ≡ filter (λ e. nat_eq e.caller c.number) history)
    × (c.faced ≡ sum (map (λ other. count_by (λ k. nat_eq k c.number) other.lost) callers))

-- Nor is more asked of what a service leaves: any lawful history of its callers, each of them there and accounted for.
abbrev pub HistoriesSuffice : Type 0
HistoriesSuffice = (service : ServiceView) (callers : List CallerView) (history : List Entry) → IsLawful Ordered history → All (λ e. e.caller < service.callers) history →
    All (IsAccounted history callers) callers → ((k : ℕ) → k < service.callers → (c : CallerView) × Has callers c × (c.number ≡ k)) → Closes service callers history

-- The headline with an emulator in the place of `reply`: each reply in the history is the emulator's after the calls before.
-- Each caller's calls are there with their replies, once and in order, and each entry is a caller's.
pub record IsLeftBy (e : Emulator) (callers : List CallerView) (history : List Entry) : Type 0 where
  pub replies : IsToldAfter e [] history
  pub left : (c : CallerView) → Has callers c → IsLeft history callers c
  pub no_others : (entry : Entry) → Has history entry → (c : CallerView) × Has callers c × (c.number ≡ entry.caller)

abbrev pub ServicesByTheLaws : Type 0
ServicesByTheLaws = (e : Emulator) → ObeysTheLaws Ordered e → (service : ServiceView) (callers : List CallerView) (history : List Entry) → Closes service callers history → IsLeftBy e callers history

-- And each call's reply is the emulator's, after all that the caller had seen and what came in between.
abbrev pub CallsByTheLaws : Type 0
CallsByTheLaws = (e : Emulator) → ObeysTheLaws Ordered e → (before after : CallerView) (c : Call) (r : Reply) → Answered before c r after →
    (between : List Entry) × (after.front ≡ (before.front ++ between) ++ record { caller = before.number; call = c; reply = r } ∷ []) × IsToldAfter e [] after.front
