-- The laws of room hold.
use Rattle.dn_laws.proofs.Words.{Advance, ChangesHaveRoom, Collect, Command, Configure, FlowKey, HasRoomBy, HasRoomOf, InForce, IsOfFlow, IsOther, None, OnlyMakersLackMemory, Option, Packet}
use Rattle.dn_laws.proofs.Words.{RoomStays, Settings, Show, Some, State, Submit, Target, Treatment, ap, call_limit, counted, false, is_some, key_of, length, lt-leb, nat_le, refl, settings}
use Rattle.dn_laws.proofs.Words.{settings_of, subject, subst, sym, treatment, true, ℕ, ◌∙◌, ◌≡◌, ◌≢◌}

treated-there : (o : Option Command) → is_some (treatment o) ≡ true → o ≢ None
treated-there None some none = absurd (cc)
treated-there (Some command) some none = absurd (cc)

pub only-makers-lack-memory : OnlyMakersLackMemory
only-makers-lack-memory rule calls (Configure command) few needs =
    let counts : nat_le call_limit (length calls) ≡ false = lt-leb _ _ few in
    (needs.0, rw counts needs.1)
only-makers-lack-memory rule calls (Submit target packet moment) few needs = treated-there (settings calls target) needs
only-makers-lack-memory rule calls (Advance moment) few needs = needs
only-makers-lack-memory rule calls (Collect moment) few needs = tt
only-makers-lack-memory rule calls Show few needs = tt

there : (o : Option Command) → o ≢ None → is_some o ≡ true
there None some = absurd (some refl)
there (Some command) some = refl

pub changes-have-room : ChangesHaveRoom
changes-have-room rule s calls stands =
    let same : settings_of s.configured ≡ settings (counted calls) = stands.settings_are in
    record {
      command = λ command some. ap (λ (f : Settings). is_some (f (subject command))) same ∙ there (settings (counted calls) (subject command)) some;
      packet = λ target packet moment none.
          subst (λ (o : Option Command). HasRoomBy (treatment o) target packet.tuple s.parts) (sym (ap (λ (f : Settings). f target) same ∙ none)) tt;
      advance = λ moment. tt;
    }

module _ (old new : State) (key : FlowKey) (target : Target) (packet : Packet) (moment : ℕ) where
  room-by : IsOfFlow old key (Submit target packet moment) → new.configured ≡ old.configured → (HasRoomOf key old.parts → HasRoomOf key new.parts)
      → HasRoomBy (treatment (settings_of old.configured target)) target packet.tuple old.parts → HasRoomBy (treatment (settings_of new.configured target)) target packet.tuple new.parts
  room-by its same keeps has =
      let before : HasRoomOf (key_of target packet.tuple its.0) old.parts = subst (λ (o : Option Treatment). HasRoomBy o target packet.tuple old.parts) its.1 has in
      let after : HasRoomOf (key_of target packet.tuple its.0) new.parts = subst (λ (k : FlowKey). HasRoomOf k new.parts) (sym its.2) (keeps (subst (λ (k : FlowKey). HasRoomOf k old.parts) its.2 before)) in
      subst (λ (o : Option Treatment). HasRoomBy o target packet.tuple new.parts) (sym (ap (λ (c : InForce). treatment (settings_of c target)) same ∙ its.1)) after

  other-flow : (t : Target) (p : Packet) (m : ℕ) → (IsOfFlow old key (Submit t p m) → ⊥) → (o : Option Treatment) → treatment (settings_of old.configured t) ≡ o → IsOther o t p.tuple key
  other-flow t p m other None is = tt
  other-flow t p m other (Some how) is = λ e. other (how, is, sym e)

pub room-stays : RoomStays
room-stays (Configure command) old new key target packet moment plain leaves its other has = absurd (plain command refl)
room-stays (Submit t p m) old new key target packet moment plain leaves its other has =
    room-by old new key target packet moment its leaves.0 (leaves.1 key (other-flow old new key target packet moment t p m other (treatment (settings_of old.configured t)) refl)) has
room-stays (Advance m) old new key target packet moment plain leaves its other has = room-by old new key target packet moment its leaves.0 (leaves.1 key) has
room-stays (Collect m) old new key target packet moment plain leaves its other has = room-by old new key target packet moment its leaves.0 (leaves.1 key) has
room-stays Show old new key target packet moment plain leaves its other has = room-by old new key target packet moment its leaves.0 (leaves.1 key) has
