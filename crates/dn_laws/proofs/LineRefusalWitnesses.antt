-- The laws of what is refused in configuration lines at examples.
use Rattle.dn_laws.proofs.Words.{DeletePipe, Err, LeftOut, List, MissingValue, NeedsPipe, None, Ok, Slots, Some, UnknownWord, [], ap, arith, codes, command_of, decimal, inl, inr, later, refl}
use Rattle.dn_laws.proofs.Words.{slice_index, words, ℕ, ◌++◌, ◌∷◌, ◌≡◌}
use Rattle.std.specs.Fmt.{digits}
use Rattle.dn_types.specs.declared.command.Command.TheVariants.{Pipe, Queue}
use Rattle.dn_laws.proofs.LineDeletesHold.{deletes-are-known, heads-are-known, kinds-are-known}
use Rattle.dn_laws.proofs.LineLawsHold.{defaults-are-known}
use Rattle.dn_laws.proofs.LineOptionsHold.{left-out-is-told, other-words-are-refused, pipes-are-needed}
use Rattle.dn_laws.proofs.LinePrefixHolds.{prefix-says-nothing}
use Rattle.dn_laws.proofs.LineWordsHold.{words-are-known}
use Rattle.dn_laws.specs.LineLaws.{no_bits}

-- a tab before `1`, and a comment behind it
tab-and-comment : (words (9 ∷ codes "1") ≡ words (codes "1")) × (words (codes "1" ++ 35 ∷ codes "x") ≡ words (codes "1"))
tab-and-comment = (words-are-known.gap 9 (codes "1") (inr (inl refl)), words-are-known.comment (codes "1") (codes "x"))

-- `pipe delete 1`, and what follows it
deleted : (command_of (codes "pipe" ∷ codes "delete" ∷ decimal 1 ∷ []) ≡ Ok (Some (DeletePipe 1)))
    × (command_of (codes "pipe" ∷ codes "delete" ∷ decimal 1 ∷ codes "x" ∷ []) ≡ Err (UnknownWord 4))
deleted = (
  (deletes-are-known 1 (codes "pipe" ∷ codes "delete" ∷ decimal 1 ∷ [])).1 ([], inl refl, omega arith, omega arith, inl refl),
  (kinds-are-known (codes "pipe") 1 (inl refl) (omega arith) (omega arith)).more (codes "x") [],
)

-- `ipfw sched` and `sched`
prefixed : (command_of (codes "ipfw" ∷ codes "sched" ∷ []) ≡ later (command_of (codes "sched" ∷ []))) × (command_of (codes "sched" ∷ []) ≡ Err (LeftOut 1))
prefixed = (
  prefix-says-nothing.before (codes "sched") [] (λ e. let first : 115 ≡ 105 = ap (λ w. slice_index w 0) e in absurd (omega (arith, first))),
  heads-are-known.sched [],
)

-- `pipe 1 config bw`, `pipe 1 config red` and `queue 1 config`
refused : (command_of (codes "pipe" ∷ decimal 1 ∷ codes "config" ∷ codes "bw" ∷ []) ≡ Err (MissingValue 4))
    × (command_of (codes "pipe" ∷ decimal 1 ∷ codes "config" ∷ codes "red" ∷ []) ≡ Err (LeftOut 4))
    × (command_of (codes "queue" ∷ decimal 1 ∷ codes "config" ∷ []) ≡ Err (NeedsPipe 1))
unfolding digits
refused =
    let own = codes "bw" ∷ codes "delay" ∷ codes "queue" ∷ codes "plr" ∷ codes "buckets" ∷ [] in (
      (other-words-are-refused (codes "pipe") 1 [] own (omega arith) (omega arith) (inl refl)
          ([], Pipe 1 0 0 (Slots 50) 0 None no_bits, inl refl, defaults-are-known.pipe 1 (omega arith) (omega arith))).missing (codes "bw") (inl refl),
      left-out-is-told (codes "pipe") 1 (codes "red") [] (inl refl) (omega arith) (omega arith) (inl refl),
      pipes-are-needed 1 [] (omega arith) (omega arith) (
        codes "pipe" ∷ codes "1" ∷ [],
        Queue 1 1 1 (Slots 50) 0 None no_bits,
        inr (inl refl),
        defaults-are-known.queue 1 1 (omega arith) (omega arith) (omega arith) (omega arith),
      ) tt,
    )
