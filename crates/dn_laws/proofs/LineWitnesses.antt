-- The laws of configuration lines at examples.
use Rattle.dn_laws.proofs.Words.{Err, Kbytes, None, OutOfRange, Says, Slots, [], arith, codes, command_of, decimal, inl, inr, refl, ◌++◌, ◌∷◌, ◌≡◌}
use Rattle.dn_types.specs.declared.command.Command.TheVariants.{Pipe, Queue}
use Rattle.dn_laws.proofs.LineLawsHold.{defaults-are-known, others-are-refused, pipes-are-set, queues-are-set}
use Rattle.dn_laws.specs.LineLaws.{no_bits}

-- `pipe 1 config bw 3Mbit/s`
defaults-and-bandwidth : Says (codes "pipe") 1 ([] ++ codes "bw" ∷ (decimal 3 ++ codes "Mbit/s") ∷ []) (Pipe 1 3000000 0 (Slots 50) 0 None no_bits)
defaults-and-bandwidth =
    (pipes-are-set 1 0 0 0 (Slots 50) None no_bits [] (omega arith) (omega arith) (defaults-are-known.pipe 1 (omega arith) (omega arith))).bw
    (decimal 3 ++ codes "Mbit/s") 3000000 (3, codes "Mbit/s", (codes "m", 1000000), (codes "bit/s", 1), inr (inr (inl refl)), inr (inl refl), refl, refl, refl) (omega arith)

-- `pipe 1 config plr 0.5`
half-is-lost : Says (codes "pipe") 1 ([] ++ codes "plr" ∷ codes "0.5" ∷ []) (Pipe 1 0 0 (Slots 50) 1073741824 None no_bits)
half-is-lost =
    (pipes-are-set 1 0 0 0 (Slots 50) None no_bits [] (omega arith) (omega arith) (defaults-are-known.pipe 1 (omega arith) (omega arith))).plr
    (codes "0.5") 1073741824 (record { whole = codes "0"; places = codes "5"; text = refl; digits = refl; few = (omega arith, omega arith, omega arith); rate = omega arith; holds = omega arith; no_more = omega arith })

-- `queue 2 config pipe 1 weight 7 queue 20KB`
weight-and-limit : Says (codes "queue") 2 ((codes "pipe" ∷ decimal 1 ∷ codes "weight" ∷ decimal 7 ∷ []) ++ codes "queue" ∷ (decimal 20 ++ codes "KB") ∷ []) (Queue 2 1 7 (Kbytes 20) 0 None no_bits)
weight-and-limit =
    (queues-are-set 2 1 7 0 (Slots 50) None no_bits (codes "pipe" ∷ decimal 1 ∷ codes "weight" ∷ decimal 7 ∷ []) (omega arith) (omega arith) weighed).queue
    (decimal 20 ++ codes "KB") (Kbytes 20) (codes "KB", refl, omega arith, omega arith, inr (inl refl))
  where
    weighed : Says (codes "queue") 2 ((codes "pipe" ∷ decimal 1 ∷ []) ++ codes "weight" ∷ decimal 7 ∷ []) (Queue 2 1 7 (Slots 50) 0 None no_bits)
    weighed = (queues-are-set 2 1 1 0 (Slots 50) None no_bits (codes "pipe" ∷ decimal 1 ∷ []) (omega arith) (omega arith)
        (defaults-are-known.queue 2 1 (omega arith) (omega arith) (omega arith) (omega arith))).weight 7 (omega arith) (omega arith)

-- `queue 2 config weight 101` and `pipe 1 config plr 1.1`
weight-and-loss-refused : (command_of (codes "queue" ∷ decimal 2 ∷ codes "config" ∷ codes "weight" ∷ (decimal 101 ++ codes "") ∷ []) ≡ Err (OutOfRange 5))
    × (command_of (codes "pipe" ∷ decimal 1 ∷ codes "config" ∷ codes "plr" ∷ codes "1.1" ∷ []) ≡ Err (OutOfRange 5))
weight-and-loss-refused = (
  (others-are-refused 2 (omega arith) (omega arith)).numbers 101 (codes "queue", codes "weight", codes "", 1, 100) (inr (inr (inr (inr (inr (inl refl)))))) (omega arith) (inr (omega arith)),
  (others-are-refused 1 (omega arith) (omega arith)).losses (codes "1") (codes "1") refl (omega arith) (omega arith) (omega arith) (omega arith),
)
