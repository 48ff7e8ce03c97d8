-- A pipe's part of a replay rests on what is in force for the pipe and for the packets' targets.
use Rattle.dn_laws.proofs.Words.{AreAlike, AreMatched, Bool, CommandsActByForce, IsUntimed, List, PartsRestOnTheirPipe, Some, [], ap, arith, cond, emptied, false, length, max, refl, subst, sym}
use Rattle.dn_laws.proofs.Words.{take, true, ℕ, ◌++◌, ◌+◌, ◌<◌, ◌∙◌, ◌∷◌, ◌≡◌, ◌≤◌}
use Rattle.dn_laws.proofs.LawWords.{verdict_by, after_verdict, reaches, discard_reached, after_command, trace_of, effective_moment, call_limit, Settings, settings, reply_to_command, given, Treatment}
use Rattle.dn_laws.proofs.LawWords.{treatment, keys, keys_with, of_pipe, calls_on, AreCommands, reply_to_verdict, counted_reply, reply, replies, settled, Event, discarded, collected, links, Call}
use Rattle.dn_laws.proofs.LawWords.{Configure, Submit, Advance, Collect, Show, FlowKey, Command, Packet, Reply, Deleted, Delivered, Rule, Ordered, Target, ToPipe}
use Rattle.dn_laws.proofs.OnPipes.{AreOn, settled-on, verdict-on, after-on, after-links, settled-same, after-same}
use Rattle.dn_laws.proofs.PartCalls.{other-links-change-nothing}
use Rattle.dn_laws.proofs.PartReplays.{counts}

-- The pipe is the one.
abbrev Is : ℕ → ℕ → Type 0
Is pipe number = number ≡ pipe

its : (pipe : ℕ) (set other : Settings) → set (ToPipe pipe) ≡ other (ToPipe pipe) → (number : ℕ) → Is pipe number → set (ToPipe number) ≡ other (ToPipe number)
its pipe set other same number e = ap (λ n. set (ToPipe n)) e ∙ same ∙ sym (ap (λ n. other (ToPipe n)) e)

no-trace : (calls : List Call) → AreCommands calls → (trace_of calls ≡ []) × (keys calls ≡ []) × (effective_moment calls ≡ 0)
no-trace [] h = (refl, refl, refl)
no-trace (Configure command ∷ calls) h =
    let rest = no-trace calls h in
    let clock = rest.2 in (
      (λ i. after_command (reply_to_command calls command) command (rest.1 i) (rest.0 i)) ∙ none (reply_to_command calls command),
      rest.1,
      omega (arith, clock),
    )
  where
    none : (r : Reply) → after_command r command [] [] ≡ []
    none Deleted = refl
    none _ = refl
no-trace (_ ∷ calls) h = absurd h

module _ (rule : Rule) (pipe : ℕ) where
  record AreSame (mine theirs : List Call) : Type 0 where
    pub pipe_is : settings mine (ToPipe pipe) ≡ settings theirs (ToPipe pipe)
    pub keys_are : keys mine ≡ keys theirs
    pub clock_is : effective_moment mine ≡ effective_moment theirs
    pub trace_is : trace_of mine ≡ trace_of theirs
    pub links_are : AreOn (Is pipe) (links (trace_of mine))

  settled-alike : (mine theirs : List Call) (moment : ℕ) → AreSame mine theirs →
      settled (settings mine) (max (effective_moment mine) moment) (trace_of mine) ≡ settled (settings theirs) (max (effective_moment theirs) moment) (trace_of theirs)
  settled-alike mine theirs moment h =
      settled-same (Is pipe) (settings mine) (settings theirs) (its pipe (settings mine) (settings theirs) h.pipe_is) (max (effective_moment mine) moment) (trace_of mine) h.links_are
      ∙ (λ i. settled (settings theirs) (max (h.clock_is i) moment) (h.trace_is i))

  settled-links : (mine theirs : List Call) (moment : ℕ) → AreSame mine theirs → AreOn (Is pipe) (links (settled (settings mine) (max (effective_moment mine) moment) (trace_of mine)))
  settled-links mine theirs moment h = settled-on (Is pipe) (settings mine) (max (effective_moment mine) moment) (trace_of mine) h.links_are

  submit-same : (mine theirs : List Call) (target : Target) (packet : Packet) (moment : ℕ) → AreSame mine theirs → settings mine target ≡ settings theirs target →
      ((how : Treatment) → treatment (settings mine target) ≡ Some how → how.pipe ≡ pipe) →
      AreSame (Submit target packet moment ∷ mine) (Submit target packet moment ∷ theirs)
      × (counted_reply rule mine (Submit target packet moment) ≡ counted_reply rule theirs (Submit target packet moment))
  submit-same mine theirs target packet moment h to on =
      let at = max (effective_moment mine) moment in
      let before = settled (settings mine) at (trace_of mine) in
      let u = settled-alike mine theirs moment h in
      let v = verdict_by (keys mine) target packet (treatment (settings mine target)) before in
      let good = verdict-on (Is pipe) (keys mine) target packet (treatment (settings mine target)) before on in (
        record {
          pipe_is = h.pipe_is;
          keys_are = (λ i. keys_with target packet.tuple (treatment (to i)) (h.keys_are i));
          clock_is = (λ i. max (h.clock_is i) moment);
          trace_is = after-same (Is pipe) (settings mine) (settings theirs) (its pipe (settings mine) (settings theirs) h.pipe_is) at packet v before good
              ∙ (λ i. after_verdict (settings theirs) (max (h.clock_is i) moment) packet (verdict_by (h.keys_are i) target packet (treatment (to i)) (u i)) (u i));
          links_are = after-on (Is pipe) (settings mine) at packet v before good (settled-links mine theirs moment h);
        },
        (λ i. reply_to_verdict (max (h.clock_is i) moment) (verdict_by (h.keys_are i) target packet (treatment (to i)) (u i)) (u i)),
      )

  advance-same : (mine theirs : List Call) (moment : ℕ) → AreSame mine theirs → AreSame (Advance moment ∷ mine) (Advance moment ∷ theirs)
  advance-same mine theirs moment h =
      record { pipe_is = h.pipe_is; keys_are = h.keys_are; clock_is = (λ i. max (h.clock_is i) moment); trace_is = settled-alike mine theirs moment h; links_are = settled-links mine theirs moment h }

  collect-same : (mine theirs : List Call) (moment : ℕ) → AreSame mine theirs →
      AreSame (Collect moment ∷ mine) (Collect moment ∷ theirs) × (counted_reply rule mine (Collect moment) ≡ counted_reply rule theirs (Collect moment))
  collect-same mine theirs moment h =
      let c = h.clock_is in
      let u = settled-alike mine theirs moment h in (
        record {
          pipe_is = h.pipe_is;
          keys_are = h.keys_are;
          clock_is = (λ i. max (c i) moment);
          trace_is = (λ i. collected (max (c i) moment) ∷ u i);
          links_are = settled-links mine theirs moment h;
        },
        (λ i. Delivered (max (c i) moment) (given rule (max (c i) moment) (u i))),
      )

  discard-append : (command : Command) (from : ℕ) (known : List FlowKey) (xs t : List Event) → discard_reached command from known (xs ++ t) ≡ discard_reached command from known xs ++ t
  discard-append command from [] xs t = refl
  discard-append command from (key ∷ known) xs t =
      ap (discard_reached command (from + 1) known) (by (reaches command key)) ∙ discard-append command (from + 1) known (cond (reaches command key) (discarded from ∷ xs) xs) t
    where
      by : (b : Bool) → cond b (discarded from ∷ (xs ++ t)) (xs ++ t) ≡ cond b (discarded from ∷ xs) xs ++ t
      by true = refl
      by false = refl

  after-append : (r : Reply) (command : Command) (known : List FlowKey) (t : List Event) → after_command r command known t ≡ after_command r command known [] ++ t
  after-append Deleted command known t = discard-append command 0 known [] t
  after-append _ command known t = refl

  -- What a command or a Show leaves.
  untimed : (c : Call) (calls : List Call) → IsUntimed c
      → (trace_of (c ∷ calls) ≡ emptied calls c ++ trace_of calls) × (keys (c ∷ calls) ≡ keys calls) × (effective_moment (c ∷ calls) ≡ effective_moment calls)
      × (AreOn (Is pipe) (links (trace_of calls)) → AreOn (Is pipe) (links (trace_of (c ∷ calls))))
  untimed (Configure command) calls h = (
    after-append (reply_to_command calls command) command (keys calls) (trace_of calls),
    refl,
    omega arith,
    λ on. after-links (Is pipe) (reply_to_command calls command) command (keys calls) (trace_of calls) on,
  )
  untimed Show calls h = (refl, refl, omega arith, λ on. on)
  untimed _ calls h = absurd h

  untimed-same : (c d : Call) (mine theirs : List Call) → IsUntimed c → IsUntimed d → emptied mine c ≡ emptied theirs d
      → settings (c ∷ mine) (ToPipe pipe) ≡ settings (d ∷ theirs) (ToPipe pipe) → AreSame mine theirs →
      AreSame (c ∷ mine) (d ∷ theirs)
  untimed-same c d mine theirs uc ud gone force h =
      let a = untimed c mine uc in
      let b = untimed d theirs ud in
      record {
        pipe_is = force;
        keys_are = a.1 ∙ h.keys_are ∙ sym b.1;
        clock_is = a.2 ∙ h.clock_is ∙ sym b.2;
        trace_is = a.0 ∙ (λ i. gone i ++ h.trace_is i) ∙ sym b.0;
        links_are = a.3 h.links_are;
      }

  matched-same : (mine theirs : List Call) → AreMatched pipe mine theirs → AreSame mine theirs
  matched-same [] [] h = record { pipe_is = refl; keys_are = refl; clock_is = refl; trace_is = refl; links_are = tt }
  matched-same (Submit target packet moment ∷ mine) (d ∷ theirs) h =
      subst (λ (x : Call). AreSame (Submit target packet moment ∷ mine) (x ∷ theirs)) (sym h.0.0) (submit-same mine theirs target packet moment (matched-same mine theirs h.3) h.0.1 h.0.2).0
  matched-same (Advance moment ∷ mine) (d ∷ theirs) h =
      subst (λ (x : Call). AreSame (Advance moment ∷ mine) (x ∷ theirs)) (sym h.0) (advance-same mine theirs moment (matched-same mine theirs h.3))
  matched-same (Collect moment ∷ mine) (d ∷ theirs) h =
      subst (λ (x : Call). AreSame (Collect moment ∷ mine) (x ∷ theirs)) (sym h.0) (collect-same mine theirs moment (matched-same mine theirs h.3)).0
  matched-same (Configure command ∷ mine) (d ∷ theirs) h = untimed-same (Configure command) d mine theirs tt h.0 h.1 h.2 (matched-same mine theirs h.3)
  matched-same (Show ∷ mine) (d ∷ theirs) h = untimed-same Show d mine theirs tt h.0 h.1 h.2 (matched-same mine theirs h.3)
  matched-same [] (d ∷ theirs) h = absurd h
  matched-same (Submit target packet moment ∷ mine) [] h = absurd h
  matched-same (_ ∷ mine) [] h = absurd h

pub commands-act-by-force : CommandsActByForce
commands-act-by-force pipe calls others h =
    let same = matched-same Ordered pipe (calls_on (of_pipe pipe) calls) (calls_on (of_pipe pipe) others) h in
    sym (other-links-change-nothing (of_pipe pipe) calls) ∙ same.trace_is ∙ other-links-change-nothing (of_pipe pipe) others

module _ (rule : Rule) (pipe : ℕ) (commands others : List Call) (commands_are : AreCommands commands) (others_are : AreCommands others)
    (same : settings commands (ToPipe pipe) ≡ settings others (ToPipe pipe)) where
  abbrev here : Settings
  here = settings commands

  abbrev there : Settings
  there = settings others

  at-first : AreSame rule pipe commands others
  at-first =
      let a = no-trace commands commands_are in
      let b = no-trace others others_are in
      record {
        pipe_is = same;
        keys_are = a.1 ∙ sym b.1;
        clock_is = a.2 ∙ sym b.2;
        trace_is = a.0 ∙ sym b.0;
        links_are = subst (λ (t : List Event). AreOn (Is pipe) (links t)) (sym a.0) tt;
      }

  -- Packets leave in force what the commands did.
  forces : (old packets : List Call) → AreAlike pipe here there packets → settings (packets ++ old) ≡ settings old
  forces old [] h = refl
  forces old (Submit target packet moment ∷ packets) h = (λ i t. settings (packets ++ old) t) ∙ forces old packets h.2
  forces old (Collect moment ∷ packets) h = (λ i t. settings (packets ++ old) t) ∙ forces old packets h
  forces old (_ ∷ packets) h = absurd h

  answered : (mine theirs : List Call) (c : Call) → length mine < call_limit → length theirs < call_limit
      → counted_reply rule mine c ≡ counted_reply rule theirs c → reply rule mine c ≡ reply rule theirs c
  answered mine theirs c few less e = counts rule mine c few ∙ e ∙ sym (counts rule theirs c less)

  all-same : (packets : List Call) → AreAlike pipe here there packets → length (packets ++ commands) ≤ call_limit → length (packets ++ others) ≤ call_limit →
      AreSame rule pipe (packets ++ commands) (packets ++ others) × (take (length packets) (replies rule (packets ++ commands)) ≡ take (length packets) (replies rule (packets ++ others)))
  all-same [] h few less = (at-first, refl)
  all-same (Submit target packet moment ∷ packets) h few less =
      let rest = all-same packets h.2 (omega (arith, few)) (omega (arith, less)) in
      let a = forces commands packets h.2 in
      let b = forces others packets h.2 in
      let to : settings (packets ++ commands) target ≡ settings (packets ++ others) target = (λ i. a i target) ∙ h.0 ∙ sym (λ i. b i target) in
      let one = submit-same rule pipe (packets ++ commands) (packets ++ others) target packet moment rest.0 to (λ how e. h.1 how (sym (ap (λ (s : Settings). treatment (s target)) a) ∙ e)) in
      let told = answered (packets ++ commands) (packets ++ others) (Submit target packet moment) (omega (arith, few)) (omega (arith, less)) one.1 in
      (one.0, (λ i. told i ∷ rest.1 i))
  all-same (Collect moment ∷ packets) h few less =
      let rest = all-same packets h (omega (arith, few)) (omega (arith, less)) in
      let one = collect-same rule pipe (packets ++ commands) (packets ++ others) moment rest.0 in
      let told = answered (packets ++ commands) (packets ++ others) (Collect moment) (omega (arith, few)) (omega (arith, less)) one.1 in
      (one.0, (λ i. told i ∷ rest.1 i))
  all-same (_ ∷ packets) h few less = absurd h

pub parts-rest-on-their-pipe : PartsRestOnTheirPipe
parts-rest-on-their-pipe rule pipe commands others packets c o same h few less = (all-same rule pipe commands others c o same packets h few less).1
