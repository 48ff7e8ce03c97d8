-- The definitions as what the laws are of: with what has happened on each link.
use Rattle.std.specs.Prelude.{◌≡◌, ◌≢◌, ⊤, Bool, true, false, cond, List, [], ◌∷◌}
use Rattle.dn_types.specs.Calls.{trace_of}
use Rattle.dn_types.specs.Clock.{effective_moment}
use Rattle.dn_types.specs.Configuration.{settings}
use Rattle.dn_laws.specs.Determined.Emulators.{Emulator}
use Rattle.dn_laws.specs.Determined.Laws.{ObeysTheLaws}
use Rattle.dn_types.specs.Flows.{keys}
use Rattle.dn_types.specs.History.{IsLawful, calls_of}
use Rattle.dn_types.specs.Replies.{reply}
use Rattle.dn_types.specs.Trace.{Link, link_eq, Event, opened, arrived, started, discarded}
use Rattle.dn_types.specs.declared.call.Call.{Call}
use Rattle.dn_types.specs.declared.entry.Entry.{Entry}
use Rattle.dn_types.specs.declared.rule.Rule.{Rule}

-- Whether an event is on the link. A delete is of all links.
abbrev pub is_on : Link → Event → Bool
is_on link (opened l) = link_eq l link
is_on link (arrived p) = link_eq p.link link
is_on link (started s) = link_eq s.packet.link link
is_on link (discarded flow) = true
is_on link _ = false

abbrev pub on_link : Link → List Event → List Event
on_link link [] = []
on_link link (e ∷ trace) = cond (is_on link e) (e ∷ on_link link trace) (on_link link trace)

abbrev pub emulated : Rule → Emulator
emulated rule = record { told = reply rule; clock = effective_moment; in_force = settings; flows = keys; happened = λ calls link. on_link link (trace_of calls) }

-- The definitions obey the laws.
abbrev pub LawsHold : Type 0
LawsHold = (rule : Rule) → ObeysTheLaws rule (emulated rule)

-- So whatever obeys the laws answers as the definitions do.
abbrev pub LawsGiveTheReplies : Type 0
LawsGiveTheReplies = (rule : Rule) (e : Emulator) → ObeysTheLaws rule e → (calls : List Call) (c : Call) → e.told calls c ≡ reply rule calls c

-- The history's replies, oldest first, are what it tells.
abbrev pub IsToldAfter : Emulator → List Call → List Entry → Type 0
IsToldAfter e calls [] = ⊤
IsToldAfter e calls (entry ∷ entries) = (entry.reply ≡ e.told calls entry.call) × IsToldAfter e (entry.call ∷ calls) entries

-- A history is lawful exactly if its replies are those of whatever obeys the laws.
abbrev pub HistoriesByTheLaws : Type 0
HistoriesByTheLaws = (rule : Rule) (e : Emulator) → ObeysTheLaws rule e → (history : List Entry) →
    (IsLawful rule history → IsToldAfter e [] history) × (IsToldAfter e [] history → IsLawful rule history)

-- The first false reply of a history, as an audit finds it, is the first that isn't theirs.
abbrev pub FalseByTheLaws : Type 0
FalseByTheLaws = (rule : Rule) (e : Emulator) → ObeysTheLaws rule e → (front : List Entry) (entry : Entry) → IsLawful rule front →
    entry.reply ≢ reply rule (calls_of front) entry.call → IsToldAfter e [] front × (entry.reply ≢ e.told (calls_of front) entry.call)
