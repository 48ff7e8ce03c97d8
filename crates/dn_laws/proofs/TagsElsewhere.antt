-- While calls are about other pipes, the flows of a pipe keep their last finish tags.
use Rattle.dn_laws.proofs.Words.{Bool, IsKept, List, None, Option, Some, [], ap, arith, cond, eqb-true, false, keys-stay, max, nat_eq, refl, settings-kept, slice_get, slice_get_within, subst, suc}
use Rattle.dn_laws.proofs.Words.{sym, target_eq-true, true, zero, ℕ, ◌++◌, ◌+◌, ◌∙◌, ◌∷◌, ◌≡◌}
use Rattle.dn_laws.proofs.LawWords.{verdict_by, after_verdict, reaches, discard_reached, after_command, trace_of, effective_moment, settings, target_eq, reply_to_command, treatment, keys}
use Rattle.dn_laws.proofs.LawWords.{IsCommandElsewhere, IsElsewhere, AreElsewhere, last_finish_tag, settled, Link, pipe_of, Event, discarded, Call, Configure, Submit, Advance, Collect, Show, Command}
use Rattle.dn_laws.proofs.LawWords.{Pipe, Queue, DeletePipe, DeleteQueue, FlowKey, Packet, Reply, Deleted, Rule, Target, ToPipe, ToQueue}
use Rattle.dn_laws.proofs.Isolation.{false-if}
use Rattle.dn_laws.proofs.Spares.{clock-spares-tags, packets-spare-tags}

split : (known : List FlowKey) (k : ℕ) (key : FlowKey) → slice_get known k ≡ Some key → (before behind : List FlowKey) × (known ≡ before ++ key ∷ behind)
split [] k key e = let none = slice_get_within [] k key e in absurd (omega arith)
split (x ∷ known) zero key e = let same : x ≡ key = cc in ([], known, ap (λ (y : FlowKey). y ∷ known) same)
split (x ∷ known) (suc k) key e = let rest = split known k key e in (x ∷ rest.0, rest.1, ap (λ (ks : List FlowKey). x ∷ ks) rest.2)

module _ (rule : Rule) (link : Link) (flow : ℕ) where
  abbrev tag : List Event → ℕ
  tag t = last_finish_tag link flow t

  -- The flow is on the link's pipe, if it is known.
  abbrev IsOn : List FlowKey → Type 0
  IsOn known = (key : FlowKey) → slice_get known flow ≡ Some key → key.pipe ≡ pipe_of link

  discard-spares : (command : Command) (from : ℕ) (known : List FlowKey) (t : List Event) →
      ((k : ℕ) (key : FlowKey) → slice_get known k ≡ Some key → from + k ≡ flow → reaches command key ≡ false) →
      last_finish_tag link flow (discard_reached command from known t) ≡ last_finish_tag link flow t
  discard-spares command from [] t h = refl
  discard-spares command from (key ∷ known) t h =
      discard-spares command (from + 1) known (cond (reaches command key) (discarded from ∷ t) t) (λ k x e at. h (suc k) x e (omega (arith, at)))
      ∙ by (reaches command key) refl
    where
      here : nat_eq from flow ≡ true → from + 0 ≡ flow
      here same = let is = eqb-true from flow same in omega (arith, is)

      by : (b : Bool) → reaches command key ≡ b → last_finish_tag link flow (cond b (discarded from ∷ t) t) ≡ last_finish_tag link flow t
      by false e = refl
      by true e = ap {B = ℕ} (λ c. cond c 0 (last_finish_tag link flow t)) (false-if (nat_eq from flow) (λ same. let both : true ≡ false = sym e ∙ h 0 key refl (here same) in absurd cc))

  not-reached : (calls : List Call) (command : Command) (k : ℕ) (key : FlowKey) → IsCommandElsewhere (pipe_of link) calls command → slice_get (keys calls) k ≡ Some key →
      key.pipe ≡ pipe_of link → reaches command key ≡ false
  not-reached calls (Pipe number bw delay limit loss buckets mask) k key h e on = refl
  not-reached calls (Queue number carrier weight limit loss buckets mask) k key h e on = refl
  not-reached calls (DeletePipe number) k key h e on = false-if (nat_eq key.pipe number) (λ same. h (sym (eqb-true key.pipe number same) ∙ on))
  not-reached calls (DeleteQueue number) k key h e on =
      false-if (target_eq key.target (ToQueue number)) (λ same. let s = split (keys calls) k key e in h s.0 s.1 key s.2 (target_eq-true key.target (ToQueue number) same) on)

  command-tag : (calls : List Call) (command : Command) → IsCommandElsewhere (pipe_of link) calls command → IsOn (keys calls) →
      last_finish_tag link flow (trace_of (Configure command ∷ calls)) ≡ last_finish_tag link flow (trace_of calls)
  command-tag calls command h on = by (reply_to_command calls command)
    where
      its : (k : ℕ) (key : FlowKey) → slice_get (keys calls) k ≡ Some key → 0 + k ≡ flow → key.pipe ≡ pipe_of link
      its k key e at = on key (subst (λ (n : ℕ). slice_get (keys calls) n ≡ Some key) (omega (arith, at)) e)

      by : (r : Reply) → last_finish_tag link flow (after_command r command (keys calls) (trace_of calls)) ≡ last_finish_tag link flow (trace_of calls)
      by Deleted = discard-spares command 0 (keys calls) (trace_of calls) (λ k key e at. not-reached calls command k key h e (its k key e at))
      by _ = refl

  packet-tag : (calls : List Call) (target : Target) (packet : Packet) (moment : ℕ) → IsElsewhere (pipe_of link) calls (Submit target packet moment) →
      last_finish_tag link flow (trace_of (Submit target packet moment ∷ calls)) ≡ last_finish_tag link flow (trace_of (Advance moment ∷ calls))
  packet-tag calls target packet moment h = by target (settings calls target) refl (settings-kept calls target) h
    where
      before : List Event
      before = settled (settings calls) (max (effective_moment calls) moment) (trace_of calls)

      by : (t : Target) (o : Option Command) → settings calls target ≡ o → IsKept t o → IsElsewhere (pipe_of link) calls (Submit target packet moment) →
          last_finish_tag link flow (trace_of (Submit target packet moment ∷ calls)) ≡ last_finish_tag link flow (trace_of (Advance moment ∷ calls))
      by t None set kept other =
          ap (λ (o : Option Command). last_finish_tag link flow (after_verdict (settings calls) (max (effective_moment calls) moment) packet
          (verdict_by (keys calls) target packet (treatment o) before) before)) set
      by t (Some (Pipe number bw delay limit loss buckets mask)) set kept other =
          packets-spare-tags rule calls target packet moment (Pipe number bw delay limit loss buckets mask) loss limit number link flow set (refl, refl, refl)
          (λ same. other (Pipe number bw delay limit loss buckets mask) loss limit number set (refl, refl, refl) (sym same))
      by t (Some (Queue number carrier weight limit loss buckets mask)) set kept other =
          packets-spare-tags rule calls target packet moment (Queue number carrier weight limit loss buckets mask) loss limit carrier link flow set (refl, refl, refl)
          (λ same. other (Queue number carrier weight limit loss buckets mask) loss limit carrier set (refl, refl, refl) (sym same))
      by (ToPipe n) (Some (DeletePipe number)) set kept other = absurd kept
      by (ToPipe n) (Some (DeleteQueue number)) set kept other = absurd kept
      by (ToQueue n) (Some (DeletePipe number)) set kept other = absurd kept
      by (ToQueue n) (Some (DeleteQueue number)) set kept other = absurd kept

  call-tag : (calls : List Call) (c : Call) → IsElsewhere (pipe_of link) calls c → IsOn (keys calls) → last_finish_tag link flow (trace_of (c ∷ calls)) ≡ last_finish_tag link flow (trace_of calls)
  call-tag calls (Configure command) h on = command-tag calls command h on
  call-tag calls (Submit target packet moment) h on = packet-tag calls target packet moment h ∙ clock-spares-tags calls moment link flow
  call-tag calls (Advance moment) h on = clock-spares-tags calls moment link flow
  call-tag calls (Collect moment) h on = clock-spares-tags calls moment link flow
  call-tag calls Show h on = refl

  all-tags : (after calls : List Call) → AreElsewhere (pipe_of link) after calls → IsOn (keys (after ++ calls))
      → last_finish_tag link flow (trace_of (after ++ calls)) ≡ last_finish_tag link flow (trace_of calls)
  all-tags [] calls h on = refl
  all-tags (c ∷ after) calls h on =
      let before : IsOn (keys (after ++ calls)) = λ key e. on key (keys-stay (after ++ calls) c flow key e) in
      call-tag (after ++ calls) c h.0 before ∙ all-tags after calls h.1 before

  -- After any stretch of such calls a flow of the pipe has the last finish tag that one Advance leaves.
  pub tags-elsewhere : (after calls : List Call) → AreElsewhere (pipe_of link) after calls → (key : FlowKey) → slice_get (keys (after ++ calls)) flow ≡ Some key → key.pipe ≡ pipe_of link →
      (moment : ℕ) → last_finish_tag link flow (trace_of (after ++ calls)) ≡ last_finish_tag link flow (trace_of (Advance moment ∷ calls))
  tags-elsewhere after calls h key e on moment = all-tags after calls h (λ other is. let same : Some other ≡ Some key = sym is ∙ e in its other same) ∙ sym (clock-spares-tags calls moment link flow)
    where
      its : (other : FlowKey) → Some other ≡ Some key → other.pipe ≡ pipe_of link
      its other same = let is : other ≡ key = cc in ap (λ (k : FlowKey). k.pipe) is ∙ on
