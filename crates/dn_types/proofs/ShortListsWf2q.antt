-- Short lists of calls, each for a slip in the rules of shared links that no worked example shows. The prover
-- computes the replies; those expected are of an independent reference.
use Rattle.dn_types.proofs.Words.{Collect, Configured, Delivered, Ordered, Queued, Submit, [], refl, ◌∷◌}
use Rattle.dn_types.proofs.ExampleWords.{Answers, ◌⇒◌, delivery, pipe, queue, sized, to_queue}
use Rattle.dn_types.specs.declared.target.Target.TheVariants.{Queue as ToQueue}

-- Virtual time stays raised after the pick that raised it.
virtual_time_stays_raised : Answers Ordered (
    (pipe 1 8000000 0 ⇒ Configured) ∷
    (queue 1 1 3 ⇒ Configured) ∷
    (queue 2 1 3 ⇒ Configured) ∷
    (to_queue 1 0 ⇒ Queued 0 0 0) ∷
    (to_queue 1 0 ⇒ Queued 0 0 1) ∷
    (to_queue 1 0 ⇒ Queued 0 0 2) ∷
    (to_queue 1 0 ⇒ Queued 0 0 3) ∷
    (to_queue 2 0 ⇒ Queued 0 1 4) ∷
    (to_queue 2 3000000 ⇒ Queued 3000000 1 5) ∷
    (Collect 27500000 ⇒ Delivered 27500000 (delivery 0 0 0 1000000 ∷ delivery 1 0 1000000 2000000 ∷ delivery 4 1 2000000 3000000 ∷
    delivery 2 0 3000000 4000000 ∷ delivery 3 0 4000000 5000000 ∷ delivery 5 1 5000000 6000000 ∷ [])) ∷
    [])
virtual_time_stays_raised = refl

-- A head whose start tag is virtual time itself is eligible beside others.
a_start_tag_equal_to_virtual_time_is_eligible : Answers Ordered (
    (pipe 1 8000000 0 ⇒ Configured) ∷
    (queue 3 1 1 ⇒ Configured) ∷
    (queue 1 1 1 ⇒ Configured) ∷
    (to_queue 1 15000000 ⇒ Queued 15000000 0 0) ∷
    (to_queue 1 0 ⇒ Queued 15000000 0 1) ∷
    (to_queue 3 0 ⇒ Queued 15000000 1 2) ∷
    (to_queue 3 0 ⇒ Queued 15000000 1 3) ∷
    (Submit (ToQueue 1) (sized 64) 17000000 ⇒ Queued 17000000 0 4) ∷
    (Collect 26000000 ⇒ Delivered 26000000 (delivery 0 0 15000000 16000000 ∷ delivery 1 0 16000000 17000000 ∷ delivery 2 1 17000000 18000000 ∷
    delivery 4 0 18000000 18064000 ∷ delivery 3 1 18064000 19064000 ∷ [])) ∷
    [])
a_start_tag_equal_to_virtual_time_is_eligible = refl

-- Behind a waiting packet the start tag is that packet's finish tag, also where virtual time has passed it.
a_start_tag_behind_a_waiting_packet : Answers Ordered (
    (pipe 1 8000000 0 ⇒ Configured) ∷
    (queue 1 1 2 ⇒ Configured) ∷
    (queue 2 1 2 ⇒ Configured) ∷
    (queue 3 1 1 ⇒ Configured) ∷
    (Submit (ToQueue 2) (sized 3000) 0 ⇒ Queued 0 0 0) ∷
    (to_queue 1 0 ⇒ Queued 0 1 1) ∷
    (to_queue 1 0 ⇒ Queued 0 1 2) ∷
    (Submit (ToQueue 3) (sized 3000) 0 ⇒ Queued 0 2 3) ∷
    (to_queue 1 6000000 ⇒ Queued 6000000 1 4) ∷
    (to_queue 2 0 ⇒ Queued 6000000 0 5) ∷
    (Collect 10500004 ⇒ Delivered 10500004 (delivery 0 0 0 3000000 ∷ delivery 1 1 3000000 4000000 ∷ delivery 3 2 4000000 7000000 ∷
    delivery 2 1 7000000 8000000 ∷ delivery 4 1 8000000 9000000 ∷ delivery 5 0 9000000 10000000 ∷ [])) ∷
    [])
a_start_tag_behind_a_waiting_packet = refl

-- A third of a length is rounded down, so the tags are equal where three packets make up one.
a_cost_is_rounded_down : Answers Ordered (
    (pipe 1 8000000 0 ⇒ Configured) ∷
    (queue 1 1 3 ⇒ Configured) ∷
    (queue 2 1 1 ⇒ Configured) ∷
    (to_queue 1 0 ⇒ Queued 0 0 0) ∷
    (to_queue 2 0 ⇒ Queued 0 1 1) ∷
    (to_queue 1 0 ⇒ Queued 0 0 2) ∷
    (Collect 49500002 ⇒ Delivered 49500002 (delivery 0 0 0 1000000 ∷ delivery 2 0 1000000 2000000 ∷ delivery 1 1 2000000 3000000 ∷ [])) ∷
    [])
a_cost_is_rounded_down = refl

-- A later weight changes neither the tags nor the sum of weights of the packets that wait.
weights_in_force_at_arrival : Answers Ordered (
    (pipe 1 8000000 0 ⇒ Configured) ∷
    (queue 1 1 2 ⇒ Configured) ∷
    (queue 3 1 1 ⇒ Configured) ∷
    (to_queue 1 0 ⇒ Queued 0 0 0) ∷
    (to_queue 1 0 ⇒ Queued 0 0 1) ∷
    (queue 1 1 1 ⇒ Configured) ∷
    (to_queue 3 0 ⇒ Queued 0 1 2) ∷
    (Submit (ToQueue 1) (sized 64) 0 ⇒ Queued 0 0 3) ∷
    (Collect 26000000 ⇒ Delivered 26000000 (delivery 0 0 0 1000000 ∷ delivery 1 0 1000000 2000000 ∷ delivery 2 1 2000000 3000000 ∷ delivery 3 0 3000000 3064000 ∷ [])) ∷
    [])
weights_in_force_at_arrival = refl

-- No busy period begins while the link still sends, though no packet waits.
no_busy_period_while_a_link_sends : Answers Ordered (
    (pipe 1 8000000 0 ⇒ Configured) ∷
    (queue 1 1 1 ⇒ Configured) ∷
    (queue 2 1 10 ⇒ Configured) ∷
    (Submit (ToQueue 1) (sized 65535) 353000000 ⇒ Queued 353000000 0 0) ∷
    (Submit (ToQueue 1) (sized 20000) 0 ⇒ Queued 353000000 0 1) ∷
    (to_queue 2 0 ⇒ Queued 353000000 1 2) ∷
    (Submit (ToQueue 2) (sized 65535) 0 ⇒ Queued 353000000 1 3) ∷
    (to_queue 1 483000000 ⇒ Queued 483000000 0 4) ∷
    (Submit (ToQueue 2) (sized 20000) 0 ⇒ Queued 483000000 1 5) ∷
    (Collect 733000000 ⇒ Delivered 733000000 (delivery 0 0 353000000 418535000 ∷ delivery 2 1 418535000 419535000 ∷ delivery 1 0 419535000 439535000 ∷
    delivery 3 1 439535000 505070000 ∷ delivery 5 1 505070000 525070000 ∷ delivery 4 0 525070000 526070000 ∷ [])) ∷
    [])
no_busy_period_while_a_link_sends = refl
