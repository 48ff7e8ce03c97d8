-- Room for a packet is room for each one like it, and stays where the shaper keeps it.
use Rattle.hingetulip_c.proofs.Words.{Advance, AreAlike, CPacket, Call, FiveTuple, HasRoomBy, HasRoomFor, HoldsRoomFor, IsOk, KeepsRoom, LeavesRoom, List, None, Option, Pipe, Queue, Result, Show}
use Rattle.hingetulip_c.proofs.Words.{Some, State, StillRoomy, Target, Treatment, [], cond, false, inl, inr, key_of, nat_eq, settings_of, submit_of, subst, sym, treatment, true, ℕ, ◌∷◌, ◌≡◌, ◌⊎◌}

abbrev target_of : CPacket → Target
target_of p = cond (nat_eq p.kind 0) (Pipe p.number) (Queue p.number)

abbrev tuple_of : CPacket → FiveTuple
tuple_of p = record { src = p.src; dst = p.dst; proto = p.proto; sport = p.sport; dport = p.dport }

target_is : (p q : CPacket) → AreAlike p q → target_of p ≡ target_of q
target_is p q a = λ i. cond (nat_eq (sym a.kind i) 0) (Pipe (sym a.number i)) (Queue (sym a.number i))

tuple_is : (p q : CPacket) → AreAlike p q → tuple_of p ≡ tuple_of q
tuple_is p q a = λ i. record { src = sym a.src i; dst = sym a.dst i; proto = sym a.proto i; sport = sym a.sport i; dport = sym a.dport i }

alike_in : (s : State) (p q : CPacket) → AreAlike p q → HasRoomFor (submit_of p) s → HasRoomFor (submit_of q) s
alike_in s p q a room =
    subst (λ (t : Target). HasRoomBy (treatment (settings_of s.configured t)) t (tuple_of q) s.parts) (target_is p q a)
    (subst (λ (t : FiveTuple). HasRoomBy (treatment (settings_of s.configured (target_of p))) (target_of p) t s.parts) (tuple_is p q a) room)

pub alike : (p q : CPacket) (held : List State) → AreAlike p q → HoldsRoomFor (submit_of p) held → HoldsRoomFor (submit_of q) held
alike p q [] a room = absurd room
alike p q (s ∷ []) a room = alike_in s p q a room
alike p q (s ∷ t ∷ held) a room = absurd room

keeps_in : (s t : State) → KeepsRoom s t → (p : CPacket) → HasRoomFor (submit_of p) s → HasRoomFor (submit_of p) t
keeps_in s t keeps p room =
    subst (λ (how : Option Treatment). HasRoomBy how (target_of p) (tuple_of p) t.parts)
    (λ i. treatment (settings_of (sym keeps.0 i) (target_of p))) (by (treatment (settings_of s.configured (target_of p))) room)
  where
    by : (how : Option Treatment) → HasRoomBy how (target_of p) (tuple_of p) s.parts → HasRoomBy how (target_of p) (tuple_of p) t.parts
    by None has = has
    by (Some how) has = keeps.1 (key_of (target_of p) (tuple_of p) how) has

pub still_roomy : (s t : State) (xs ys : List State) → xs ≡ s ∷ [] → ys ≡ t ∷ [] → KeepsRoom s t → StillRoomy xs ys
still_roomy s t xs ys e f keeps p room =
    subst (λ (l : List State). HoldsRoomFor (submit_of p) l) (sym f) (keeps_in s t keeps p (subst (λ (l : List State). HoldsRoomFor (submit_of p) l) e room))

pub roomy_closed : (xs ys : List State) → xs ≡ [] → StillRoomy xs ys
roomy_closed xs ys e p room = absurd (subst (λ (l : List State). HoldsRoomFor (submit_of p) l) e room)

pub roomy_same : (xs ys : List State) → ys ≡ xs → StillRoomy xs ys
roomy_same xs ys e p room = subst (λ (l : List State). HoldsRoomFor (submit_of p) l) (sym e) room

-- What is left by a call that is one of the two.
pub kept_by_call : (call : Call) (moment : ℕ) (s t : State) → (call ≡ Advance moment) ⊎ (call ≡ Show) → LeavesRoom call s t → KeepsRoom s t
kept_by_call call moment s t (inl e) leaves = subst (λ (c : Call). LeavesRoom c s t) e leaves
kept_by_call call moment s t (inr e) leaves = subst (λ (c : Call). LeavesRoom c s t) e leaves

pub room_of_alike : (call : Call) (p q : CPacket) (held : List State) → call ≡ submit_of p → AreAlike p q → HoldsRoomFor call held → HoldsRoomFor (submit_of q) held
room_of_alike call p q held is a room = alike p q held a (subst (λ (c : Call). HoldsRoomFor c held) is room)

pub room_of_call : (call : Call) (p : CPacket) (held : List State) → call ≡ submit_of p → HoldsRoomFor (submit_of p) held → HoldsRoomFor call held
room_of_call call p held is room = subst (λ (c : Call). HoldsRoomFor c held) (sym is) room

pub roomy_through : (xs xs' ys zs : List State) → xs' ≡ xs → StillRoomy xs' ys → zs ≡ ys → StillRoomy xs zs
roomy_through xs xs' ys zs before leaves behind p room = roomy_same ys zs behind p (leaves p (roomy_same xs xs' before p room))

-- A closed handle has no room.
pub room_closed : {X E : Type 0} (call : Call) (xs : List State) (r : Result X E) → xs ≡ [] → HoldsRoomFor call xs → IsOk r
room_closed call xs r e room = absurd (subst (λ (l : List State). HoldsRoomFor call l) e room)

pub room_none : (call : Call) (xs : List State) → xs ≡ [] → HoldsRoomFor call xs → false ≡ true
room_none call xs e room = absurd (subst (λ (l : List State). HoldsRoomFor call l) e room)
