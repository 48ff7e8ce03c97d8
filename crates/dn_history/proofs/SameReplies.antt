-- Replies that pass as equal are the same, and those that don't pass differ.
use Rattle.dn_history.proofs.Words.{Advanced, Bool, Configured, Deleted, Delivered, Delivery, Exhausted, FiveTuple, FlowKey, FlowStatus, Full, List, Lost, Mask, NoSuchPipe, NoSuchQueue, NoTarget}
use Rattle.dn_history.proofs.Words.{PipeHasQueues, Queued, Reply, Status, Target, [], ap, arith, eqb-true, false, first_so, laws-law, nat_eq, nat_tests, not, not-false, pointwise, refl, second_so}
use Rattle.dn_history.proofs.Words.{sym, true, true≢false, ℕ, ◌&&◌, ◌∙◌, ◌∷◌, ◌≡◌, ◌≢◌}
use Rattle.dn_types.specs.declared.target.Target.TheVariants.{Pipe, Queue}
use Rattle.dn_types.specs.contracts.delivery.DeliveryPartialEq.TheImpl as delivery
use Rattle.dn_types.specs.contracts.five_tuple.FiveTuplePartialEq.TheImpl as tuple
use Rattle.dn_types.specs.contracts.flow_key.FlowKeyPartialEq.TheImpl as key
use Rattle.dn_types.specs.contracts.flow_status.FlowStatusPartialEq.TheImpl as status
use Rattle.dn_types.specs.contracts.mask.MaskPartialEq.TheImpl as mask
use Rattle.dn_types.specs.contracts.reply.ReplyPartialEq.TheImpl as reply
use Rattle.dn_types.specs.contracts.target.TargetPartialEq.TheImpl as target

same-delivery : (a b : Delivery) → delivery.eq-value.it a b ≡ true → a ≡ b
same-delivery a b e =
    let due : a.due ≡ b.due = grind (arith, nat_tests) in
    let packet : a.packet ≡ b.packet = grind (arith, nat_tests) in
    let flow : a.flow ≡ b.flow = grind (arith, nat_tests) in
    let start : a.start ≡ b.start = grind (arith, nat_tests) in
    λ i. record { due = due i; packet = packet i; flow = flow i; start = start i }

five : (a b c d e a' b' c' d' e' : ℕ) → (nat_eq a a' && (nat_eq b b' && (nat_eq c c' && (nat_eq d d' && nat_eq e e')))) ≡ true
    → (a ≡ a') × (b ≡ b') × (c ≡ c') × (d ≡ d') × (e ≡ e')
five a b c d e a' b' c' d' e' all = (grind (arith, nat_tests), grind (arith, nat_tests), grind (arith, nat_tests), grind (arith, nat_tests), grind (arith, nat_tests))

same-mask : (a b : Mask) → mask.eq-value.it a b ≡ true → a ≡ b
same-mask a b e =
    let k = five a.src a.dst a.proto a.sport a.dport b.src b.dst b.proto b.sport b.dport e in
    λ i. record { src = k.0 i; dst = k.1 i; proto = k.2 i; sport = k.3 i; dport = k.4 i }

same-tuple : (a b : FiveTuple) → tuple.eq-value.it a b ≡ true → a ≡ b
same-tuple a b e =
    let k = five a.src a.dst a.proto a.sport a.dport b.src b.dst b.proto b.sport b.dport e in
    λ i. record { src = k.0 i; dst = k.1 i; proto = k.2 i; sport = k.3 i; dport = k.4 i }

same-target : (a b : Target) → target.eq-value.it a b ≡ true → a ≡ b
same-target (Pipe m) (Pipe n) e = ap Pipe (eqb-true m n e)
same-target (Queue m) (Queue n) e = ap Queue (eqb-true m n e)
same-target a b e = absurd (true≢false (sym e))

all-four : (s t u v : Bool) → (s && (t && (u && v))) ≡ true → (s ≡ true) × (t ≡ true) × (u ≡ true) × (v ≡ true)
all-four true true true v e = (refl, refl, refl, e)
all-four s t u v e = absurd (true≢false (sym e))

same-key : (a b : FlowKey) → key.eq-value.it a b ≡ true → a ≡ b
same-key a b e =
    let parts = all-four (target.eq-value.it a.target b.target) (nat_eq a.pipe b.pipe) (mask.eq-value.it a.mask b.mask) (tuple.eq-value.it a.tuple b.tuple) e in
    let target = same-target a.target b.target parts.0 in
    let pipe = eqb-true a.pipe b.pipe parts.1 in
    let mask = same-mask a.mask b.mask parts.2 in
    let tuple = same-tuple a.tuple b.tuple parts.3 in
    λ i. record { target = target i; pipe = pipe i; mask = mask i; tuple = tuple i }

abbrev same-counts : FlowStatus → FlowStatus → Bool
same-counts a b = nat_eq a.queued b.queued && (nat_eq a.bytes b.bytes && (nat_eq a.lost b.lost && (nat_eq a.full b.full && (nat_eq a.started b.started && nat_eq a.discarded b.discarded))))

status-of : (a b : FlowStatus) → a.flow ≡ b.flow → a.key ≡ b.key → same-counts a b ≡ true → a ≡ b
status-of a b flow key e =
    let queued : a.queued ≡ b.queued = grind (arith, nat_tests) in
    let bytes : a.bytes ≡ b.bytes = grind (arith, nat_tests) in
    let lost : a.lost ≡ b.lost = grind (arith, nat_tests) in
    let full : a.full ≡ b.full = grind (arith, nat_tests) in
    let started : a.started ≡ b.started = grind (arith, nat_tests) in
    let discarded : a.discarded ≡ b.discarded = grind (arith, nat_tests) in
    λ i. record { flow = flow i; key = key i; queued = queued i; bytes = bytes i; lost = lost i; full = full i; started = started i; discarded = discarded i }

same-status : (a b : FlowStatus) → status.eq-value.it a b ≡ true → a ≡ b
same-status a b e =
    let flows = nat_eq a.flow b.flow in
    let keys = key.eq-value.it a.key b.key in
    let behind = second_so flows (keys && same-counts a b) e in
    status-of a b (eqb-true a.flow b.flow (first_so flows (keys && same-counts a b) e)) (same-key a.key b.key (first_so keys (same-counts a b) behind)) (second_so keys (same-counts a b) behind)

same-list : {X : Type 0} (eq : X → X → Bool) → ((x y : X) → eq x y ≡ true → x ≡ y) → (xs ys : List X) → pointwise eq xs ys ≡ true → xs ≡ ys
same-list eq same [] [] e = refl
same-list eq same (x ∷ xs) (y ∷ ys) e = λ i. same x y (first_so (eq x y) (pointwise eq xs ys) e) i ∷ same-list eq same xs ys (second_so (eq x y) (pointwise eq xs ys) e) i
same-list eq same xs ys e = absurd (true≢false (sym e))

three : (a b c a' b' c' : ℕ) → (nat_eq a a' && (nat_eq b b' && nat_eq c c')) ≡ true → Queued a b c ≡ Queued a' b' c'
three a b c a' b' c' e =
    let at : a ≡ a' = grind (arith, nat_tests) in
    let flow : b ≡ b' = grind (arith, nat_tests) in
    let packet : c ≡ c' = grind (arith, nat_tests) in
    λ i. Queued (at i) (flow i) (packet i)

same : (r s : Reply) → reply.eq-value.it r s ≡ true → r ≡ s
same Configured Configured e = refl
same NoSuchPipe NoSuchPipe e = refl
same Deleted Deleted e = refl
same PipeHasQueues PipeHasQueues e = refl
same NoSuchQueue NoSuchQueue e = refl
same (Queued at flow packet) (Queued at' flow' packet') e = three at flow packet at' flow' packet' e
same (Lost at flow) (Lost at' flow') e = λ i. Lost (eqb-true at at' (first_so _ _ e) i) (eqb-true flow flow' (second_so _ _ e) i)
same (Full at flow) (Full at' flow') e = λ i. Full (eqb-true at at' (first_so _ _ e) i) (eqb-true flow flow' (second_so _ _ e) i)
same (NoTarget at) (NoTarget at') e = ap NoTarget (eqb-true at at' e)
same (Advanced at) (Advanced at') e = ap Advanced (eqb-true at at' e)
same (Delivered at list) (Delivered at' list') e = λ i. Delivered (eqb-true at at' (first_so _ _ e) i) (same-list delivery.eq-value.it same-delivery list list' (second_so _ _ e) i)
same (Status list) (Status list') e = ap Status (same-list status.eq-value.it same-status list list' e)
same Exhausted Exhausted e = refl
same r s e = absurd (true≢false (sym e))

-- What `!=` tells of two replies.
module _ (r s : Reply) (differ : Bool) (is : differ ≡ not (reply.eq-value.it r s)) where
  pub same-reply : differ ≡ false → r ≡ s
  same-reply e = same r s (not-false (reply.eq-value.it r s) (sym is ∙ e))

  pub other-reply : differ ≡ true → r ≢ s
  other-reply e equal = true≢false (sym e ∙ is ∙ ap (λ b. not b) (sym (ap (reply.eq-value.it r) equal) ∙ laws-law.refl r))
