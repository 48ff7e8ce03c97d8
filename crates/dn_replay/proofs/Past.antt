-- A shaper that was asked calls with Collects in passing among them, one call more.
use Rattle.dn_replay.proofs.Words.{Call, CanPass, Collect, Collects, Delivery, List, Ordered, Packet, PassesBy, Reply, StandsAfter, StandsPast, State, Submit, Target, [], ap, arith, delivered}
use Rattle.dn_replay.proofs.Words.{length, passing_limit, reply, ℕ, ◌++◌, ◌<◌, ◌∙◌, ◌∷◌, ◌≡◌}
use Rattle.dn_replay.proofs.PassingCalls.{passed-collect, passed-none, passed-submit, same-collect, same-last, same-submit}

-- Before the first packet no Collect was made.
pub past-first : (shaper : State) (calls : List Call) (given : List Delivery) → given ≡ [] → StandsAfter Ordered shaper calls → StandsPast shaper calls given
past-first shaper calls given none stands = record {
  made = calls;
  stands = stands;
  few = omega arith;
  passed = rw none (passed-none calls);
}

module _ (shaper : State) (calls : List Call) (given : List Delivery) (past : StandsPast shaper calls given) where
  -- A Submit more is answered as without the Collects.
  pub past-submit : (target : Target) (packet : Packet) (moment : ℕ) (r : Reply) (new : State) → length calls < passing_limit → r ≡ reply Ordered past.made (Submit target packet moment)
      → StandsAfter Ordered new (Submit target packet moment ∷ past.made)
      → (r ≡ reply Ordered calls (Submit target packet moment)) × CanPass new (Submit target packet moment ∷ calls) given
  past-submit target packet moment r new few said stands =
      let made = past.few in (
        said ∙ same-submit past.made calls given past.passed target packet moment (omega (arith, made, few)),
        (
          record {
            made = Submit target packet moment ∷ past.made;
            stands = stands;
            few = omega (arith, made);
            passed = passed-submit past.made calls given past.passed target packet moment;
          },
          omega (arith, made),
          omega (arith, few),
        ),
      )

  -- The last Collect gives what is left.
  pub past-last : (moment : ℕ) → length calls < passing_limit → delivered (reply Ordered calls (Collect moment)) ≡ given ++ delivered (reply Ordered past.made (Collect moment))
  past-last moment few = let made = past.few in same-last past.made calls given past.passed moment (omega (arith, made, few))

-- A Collect in passing more.
pub passes : (old new : State) (before after : List Delivery) → Collects 0 old before new after → PassesBy old before new after
passes old new before after collects calls (past, room, few) =
    let (stands, gives) = collects past.made past.stands in
    record {
      made = Collect 0 ∷ past.made;
      stands = stands;
      few = omega (arith, room);
      passed = rw (gives ∙ ap (λ (ds : List Delivery). before ++ ds) (same-collect past.made (omega (arith, room, few)))) (passed-collect past.made calls before past.passed);
    }
