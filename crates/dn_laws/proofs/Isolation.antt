-- What a delete and what a packet reaches, and what they leave.
use Rattle.dn_laws.proofs.Words.{Bool, CommandsCount, CommandsMoveNothing, List, None, Option, PacketsKeepApart, PipeDeleteEmpties, PipeDeleteSpares, QueueDeleteEmpties, QueueDeleteSpares}
use Rattle.dn_laws.proofs.Words.{QueuesHavePipes, Some, [], all-known, ap, arith, backlog-elsewhere, cond, eq-eqb, eqb-true, false, fewer-discarded, free-elsewhere, last_due-elsewhere, length}
use Rattle.dn_laws.proofs.Words.{link_eq-true, map, max, nat_eq, nat_le, nat_tests, pipe-there, pipe_of-link, reached-emptied, refl, sym, target_eq-refl, target_eq-true, true, true_or_false}
use Rattle.dn_laws.proofs.Words.{virtual_time-elsewhere, ℕ, ⊎_elim, ⊤, ◌&&◌, ◌++◌, ◌+◌, ◌<◌, ◌∙◌, ◌∷◌, ◌≡◌, ◌≢◌}
use Rattle.dn_laws.proofs.LawWords.{link_of, Verdict, no_target, loses, refuses, takes, accept, join, after_verdict, verdict_by, verdict, reaches, discard_reached, after_command, trace_of}
use Rattle.dn_laws.proofs.LawWords.{effective_moment, Settings, settings, target_eq, subject, setting_after, reply_to_command, undelivered, is_lost, is_full, IsJudgedBy, Treatment, treatment, keys}
use Rattle.dn_laws.proofs.LawWords.{key_of, flow_number, free, last_due, waiting, opening, virtual_time, settled, start_at, Link, link_eq, pipe_of, Accepted, Event, opened, arrived, started}
use Rattle.dn_laws.proofs.LawWords.{discarded, backlog, Call, Configure, Command, Pipe, Queue, DeletePipe, DeleteQueue, FlowKey, Limit, Packet, Reply, Configured, Deleted, Rule, Target, ToQueue}

pub after-deleted : (calls : List Call) (command : Command) → reply_to_command calls command ≡ Deleted →
    trace_of (Configure command ∷ calls) ≡ discard_reached command 0 (keys calls) (trace_of calls)
after-deleted calls command e = ap (λ (r : Reply). after_command r command (keys calls) (trace_of calls)) e

pub none-left : (q : List Accepted) → (0 < length q → ⊥) → q ≡ []
none-left [] h = refl
none-left (p ∷ q) h = absurd (h (omega arith))

pub pipe-delete-empties : PipeDeleteEmpties
pipe-delete-empties calls number link flow e of_pipe =
    let after = discard_reached (DeletePipe number) 0 (keys calls) (trace_of calls) in
    ap (backlog link flow) (after-deleted calls (DeletePipe number) e) ∙
    none-left (backlog link flow (discard_reached (DeletePipe number) 0 (keys calls) (trace_of calls))) (λ some.
    let k = all-known calls link flow (fewer-discarded link flow (DeletePipe number) 0 (keys calls) (trace_of calls) some) in
    let pipe : k.key.pipe ≡ number = sym (pipe_of-link k.key.target flow k.key.pipe) ∙ ap pipe_of (sym k.link_is) ∙ of_pipe in
    let none = ap (λ (q : List Accepted). length q) (reached-emptied link flow (DeletePipe number) (keys calls) (trace_of calls) k.key k.at (eq-eqb k.key.pipe number pipe)) in
    omega arith)

pub queue-delete-empties : QueueDeleteEmpties
queue-delete-empties calls number link before behind key e parts mine =
    ap (backlog link (length before)) (after-deleted calls (DeleteQueue number) e) ∙
    reached-emptied link (length before) (DeleteQueue number)
    (keys calls) (trace_of calls) key (record { before = before; behind = behind; parts = parts; place = refl })
    (ap (λ (t : Target). target_eq t (ToQueue number)) mine ∙ target_eq-refl (ToQueue number))

module _ (link : Link) (flow : ℕ) (command : Command) where
  left-by : (b : Bool) (from : ℕ) (trace : List Event) → nat_eq from flow ≡ false → backlog link flow (cond b (discarded from ∷ trace) trace) ≡ backlog link flow trace
  left-by true from trace other = ap (λ c. cond c [] (backlog link flow trace)) other
  left-by false from trace other = refl

  left-above : (from : ℕ) (known : List FlowKey) (trace : List Event) → flow < from → backlog link flow (discard_reached command from known trace) ≡ backlog link flow trace
  left-above from [] trace h = refl
  left-above from (key ∷ known) trace h = left-above (from + 1) known (cond (reaches command key) (discarded from ∷ trace) trace) (omega arith)
      ∙ left-by (reaches command key) from trace (grind (arith, nat_tests))

  spared : (key : FlowKey) (before behind : List FlowKey) (from : ℕ) (trace : List Event) → length before + from ≡ flow → reaches command key ≡ false →
      backlog link flow (discard_reached command from (before ++ key ∷ behind) trace) ≡ backlog link flow trace
  spared key [] behind from trace place kept =
      left-above (from + 1) behind (cond (reaches command key) (discarded from ∷ trace) trace) (omega arith)
      ∙ ap (λ b. backlog link flow (cond b (discarded from ∷ trace) trace)) kept
  spared key (k ∷ before) behind from trace place kept =
      let lt : from < flow = omega arith in
      spared key before behind (from + 1) (cond (reaches command k) (discarded from ∷ trace) trace) (omega arith) kept
      ∙ left-by (reaches command k) from trace (grind (arith, nat_tests))

pub spared-by : (calls : List Call) (command : Command) (link : Link) (before behind : List FlowKey) (key : FlowKey) → keys calls ≡ before ++ key ∷ behind → reaches command key ≡ false →
    (r : Reply) → backlog link (length before) (after_command r command (keys calls) (trace_of calls)) ≡ backlog link (length before) (trace_of calls)
spared-by calls command link before behind key parts kept Deleted = ap (λ (ks : List FlowKey). backlog link (length before) (discard_reached command 0 ks (trace_of calls))) parts
    ∙ spared link (length before) command key before behind 0 (trace_of calls) (omega arith) kept
spared-by calls command link before behind key parts kept _ = refl

pub false-if : (b : Bool) → (b ≡ true → ⊥) → b ≡ false
false-if true h = absurd (h refl)
false-if false h = refl

pub only-commands-count : (calls : List Call) (c : Call) (target : Target) → ((command : Command) → c ≢ Configure command) → settings (c ∷ calls) target ≡ settings calls target
only-commands-count calls (Configure command) target other = absurd (other command refl)
only-commands-count calls _ target other = refl

pub queue-delete-spares : QueueDeleteSpares
queue-delete-spares calls number link before behind key parts other =
    spared-by calls (DeleteQueue number) link before behind key parts
    (false-if (target_eq key.target (ToQueue number)) (λ same. other (target_eq-true key.target (ToQueue number) same)))
    (reply_to_command calls (DeleteQueue number))

pub pipe-delete-spares : PipeDeleteSpares
pipe-delete-spares calls number link before behind key parts other =
    spared-by calls (DeletePipe number) link before behind key parts (false-if (nat_eq key.pipe number) (λ same. other (eqb-true key.pipe number same))) (reply_to_command calls (DeletePipe number))

module _ (rule : Rule) (link : Link) where
  abbrev IsSame : List Event → List Event → Type 0
  IsSame new old = (free link new ≡ free link old) × (last_due rule link new ≡ last_due rule link old) × (virtual_time link new ≡ virtual_time link old)
      × (undelivered rule new ≡ undelivered rule old)

  same-discard : (command : Command) (from : ℕ) (known : List FlowKey) (trace : List Event) → IsSame (discard_reached command from known trace) trace
  same-discard command from [] trace = (refl, refl, refl, refl)
  same-discard command from (key ∷ known) trace = by (reaches command key) (λ t. same-discard command (from + 1) known t)
    where
      by : (b : Bool) → ((t : List Event) → IsSame (discard_reached command (from + 1) known t) t) →
          IsSame (discard_reached command (from + 1) known (cond b (discarded from ∷ trace) trace)) trace
      by true rest = rest (discarded from ∷ trace)
      by false rest = rest trace

  same-command : (r : Reply) (command : Command) (known : List FlowKey) (trace : List Event) → IsSame (after_command r command known trace) trace
  same-command Deleted command known trace = same-discard command 0 known trace
  same-command _ command known trace = (refl, refl, refl, refl)

pub commands-move-nothing : CommandsMoveNothing
commands-move-nothing rule calls command link = same-command rule link (reply_to_command calls command) command (keys calls) (trace_of calls)

module _ (rule : Rule) (link : Link) where
  abbrev IsUntouched : List Event → List Event → Type 0
  IsUntouched new old = ((flow : ℕ) → backlog link flow new ≡ backlog link flow old) × (free link new ≡ free link old) × (last_due rule link new ≡ last_due rule link old)
      × (virtual_time link new ≡ virtual_time link old)

  untouched-arrived : (p : Accepted) (trace : List Event) → link_eq p.link link ≡ false → IsUntouched (arrived p ∷ trace) trace
  untouched-arrived p trace other = (λ flow. ap (λ b. cond (b && nat_eq p.stamped.flow flow) (backlog link flow trace ++ p ∷ []) (backlog link flow trace)) other, refl, refl, refl)

  untouched-join : (set : Settings) (at : ℕ) (p : Accepted) (trace : List Event) → link_eq p.link link ≡ false → IsUntouched (join set at p trace) trace
  untouched-join set at p trace other = by (nat_le (free p.link trace) at)
    where
      by : (b : Bool) → IsUntouched (cond b (started (start_at set p.link p at) ∷ arrived p ∷ trace) (arrived p ∷ trace)) trace
      by false = untouched-arrived p trace other
      by true =
          let s = start_at set p.link p at in
          let t = arrived p ∷ trace in
          let a = untouched-arrived p trace other in (
            λ flow. backlog-elsewhere link s t other flow ∙ a.0 flow,
            free-elsewhere link s t other ∙ a.1,
            last_due-elsewhere link s t other rule
                ∙ a.2,
            virtual_time-elsewhere link s t other ∙ a.3,
          )

  untouched-opened : (b : Bool) (l : Link) (trace : List Event) → link_eq l link ≡ false → IsUntouched (cond b (opened l ∷ trace) trace) trace
  untouched-opened false l trace other = (λ flow. refl, refl, refl, refl)
  untouched-opened true l trace other = (λ flow. refl, refl, refl, ap {B = ℕ} (λ b. cond b 0 (virtual_time link trace)) other)

  abbrev pub IsElsewhere : Verdict → Type 0
  IsElsewhere (takes l flow how) = link_eq l link ≡ false
  IsElsewhere _ = ⊤

  untouched-verdict : (set : Settings) (at : ℕ) (packet : Packet) (v : Verdict) (trace : List Event) → IsElsewhere v → IsUntouched (after_verdict set at packet v trace) trace
  untouched-verdict set at packet no_target trace other = (λ flow. refl, refl, refl, refl)
  untouched-verdict set at packet (loses l flow) trace other = (λ f. refl, refl, refl, refl)
  untouched-verdict set at packet (refuses l flow) trace other = (λ f. refl, refl, refl, refl)
  untouched-verdict set at packet (takes l flow how) trace other =
      let b = nat_eq (waiting l trace) 0 && nat_le (free l trace) at in
      let before = opening l at trace in
      let j = untouched-join set at (accept l packet flow how before) before other in
      let o = untouched-opened b l trace other in
      (λ f. j.0 f ∙ o.0 f, j.1 ∙ o.1, j.2 ∙ o.2, j.3 ∙ o.3)

  pub elsewhere-by : (known : List FlowKey) (target : Target) (packet : Packet) (o : Option Treatment) (trace : List Event) (carrier : ℕ) → ((how : Treatment) → o ≡ Some how →
      how.pipe ≡ carrier) → pipe_of link ≢ carrier → IsElsewhere (verdict_by known target packet o trace)
  elsewhere-by known target packet None trace carrier pipe other = tt
  elsewhere-by known target packet (Some how) trace carrier pipe other =
      let flow = flow_number known (key_of target packet.tuple how) in
      let l = link_of target flow how.pipe in
      let apart : link_eq l link ≡ false = ⊎_elim (λ same. absurd (other (ap pipe_of (sym (link_eq-true l link same)) ∙ pipe_of-link target flow how.pipe
      ∙ pipe how refl))) (λ no'. no') (true_or_false (link_eq l link)) in
      by l flow apart (is_lost how.loss packet.word) (is_full how.limit (map (λ p. p.stamped.len) (backlog l flow trace)))
    where
      by : (l : Link) (flow : ℕ) → link_eq l link ≡ false → (b c : Bool) → IsElsewhere (cond b (loses l flow) (cond c (refuses l flow) (takes l flow how)))
      by l flow apart true c = tt
      by l flow apart false true = tt
      by l flow apart false false = apart

abbrev pub pipe-or : ℕ → Option Treatment → ℕ
pipe-or d None = d
pipe-or d (Some how) = how.pipe

pub carried-by : (command : Command) (rate : ℕ) (most : Limit) (carrier : ℕ) → IsJudgedBy command rate most carrier → (how : Treatment) → treatment (Some command) ≡ Some how → how.pipe ≡ carrier
carried-by (Pipe number bw delay limit loss buckets mask) rate most carrier h how e = sym (ap (pipe-or 0) e) ∙ sym h.2
carried-by (Queue number pipe weight limit loss buckets mask) rate most carrier h how e = sym (ap (pipe-or 0) e) ∙ sym h.2
carried-by (DeletePipe number) rate most carrier h how e = absurd h
carried-by (DeleteQueue number) rate most carrier h how e = absurd h

pub packets-keep-apart : PacketsKeepApart
packets-keep-apart rule calls target packet moment command rate most carrier link set judged other =
    let at = max (effective_moment calls) moment in
    let before = settled (settings calls) at (trace_of calls) in
    untouched-verdict rule link (settings calls) at packet (verdict calls target packet before) before
    (elsewhere-by rule link (keys calls) target packet (treatment (settings calls target)) before carrier (λ how e. carried-by command rate most carrier judged how (sym (ap treatment set) ∙ e)) other)

pub commands-count : CommandsCount
commands-count calls command = (
  (λ e. own' ∙ ap (λ (r : Reply). setting_after r command (settings calls (subject command))) e),
  (λ e. own' ∙ ap (λ (r : Reply). setting_after r command (settings calls (subject command))) e),
  (λ not_taken not_gone. own' ∙ refused (reply_to_command calls command) not_taken not_gone),
  (λ target other. ap (λ b. cond b (setting_after (reply_to_command calls command) command (settings calls target)) (settings calls target)) (apart target other)),
)
  where
    own' : settings (Configure command ∷ calls) (subject command) ≡ setting_after (reply_to_command calls command) command (settings calls (subject command))
    own' = ap (λ b. cond b (setting_after (reply_to_command calls command) command (settings calls (subject command))) (settings calls (subject command))) (target_eq-refl (subject command))

    refused : (r : Reply) → r ≢ Configured → r ≢ Deleted → setting_after r command (settings calls (subject command)) ≡ settings calls (subject command)
    refused Configured not_taken not_gone = absurd (not_taken refl)
    refused Deleted not_taken not_gone = absurd (not_gone refl)
    refused _ not_taken not_gone = refl

    apart : (target : Target) → target ≢ subject command → target_eq (subject command) target ≡ false
    apart target other = ⊎_elim (λ same. absurd (other (sym (target_eq-true (subject command) target same)))) (λ no'. no') (true_or_false (target_eq (subject command) target))

pub queues-have-pipes : QueuesHavePipes
queues-have-pipes calls target number pipe weight limit loss buckets mask set =
    pipe-there calls target (record { pipe = pipe; weight = weight; mask = mask; loss = loss; limit = limit }) (ap treatment set)
