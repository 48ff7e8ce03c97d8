-- One read of a record, by the records that are left.
use Rattle.dn_records.proofs.Words.{Bool, Bor, Fields, IsReading, IsSome, List, NextIs, None, Option, Read, ReadRecord, Reader, ReadsNext, Some, Takes, [], add-one, arith, default_config}
use Rattle.dn_records.proofs.Words.{ends_at_end, false, false≢true, inl, is_flexible, length, next_record, not, not-false, pending_of, reader_state, records_after, records_between, records_from}
use Rattle.dn_records.proofs.Words.{records_left, records_next, refl, sym, text_left, took_first, true, ℕ, ◌+◌, ◌<◌, ◌∙◌, ◌∷◌, ◌≡◌}
use Rattle.csv.specs.declared.parser.State.{State}
use Rattle.dn_records.proofs.NextRecord.{next-between, next-shorter, turns}

-- the records of a text are what its first read gives
pub first_read : (s : State) (y : List ℕ) (o : Option Read) → next_record default_config s [] [] y ≡ o → records_after s y ≡ records_next (records_from default_config (length y)) o
unfolding records_from
first_read s y o e = rw (add-one, e) refl

taken : (s s2 : State) (y z : List ℕ) (found : Bool) (f : List (List ℕ)) → ends_at_end s ≡ false
    → (o : Option Read) → next_record default_config s [] [] y ≡ o → NextIs o found f s2 z
    → Takes (records_next (records_from default_config (length y)) o) (records_between (not found) s2 (Some z)) found f × (found ≡ true → ends_at_end s2 ≡ false)
taken s s2 y z true f between None e n = cc n
taken s s2 y z false f between None e n = ((refl, refl), λ bad. cc bad)
taken s s2 y z true f between (Some q) e n =
    let settled = next-between s [] [] y q e in
    let shorter = next-shorter s y q between e in
    let left : records_after s2 z ≡ records_from default_config (length y) q.1 q.2 =
    rw (n.2, n.3) (turns (length q.2 + 1) (length y) q.1 q.2 settled (omega arith) shorter) in
    ((refl, n.1, left), λ good. rw (n.2) settled)
taken s s2 y z false f between (Some q) e n = let bad = n.0 in cc

step-takes : (s s2 : State) (y : List ℕ) (k : Option (List ℕ)) (found : Bool) (f : List (List ℕ)) → ends_at_end s ≡ false → ReadsNext default_config s (Some y) k found f s2
    → Takes (records_after s y) (records_between (not found) s2 k) found f × (found ≡ true → (ends_at_end s2 ≡ false) × IsSome k)
step-takes s s2 y None found f between r = absurd r
step-takes s s2 y (Some z) found f between r =
    let t = taken s s2 y z found f between (next_record default_config s [] [] y) refl r in
    (rw (first_read s y _ refl) t.0, λ good. (t.1 good, refl))

some_of : (o : Option (List ℕ)) → IsSome o → (y : List ℕ) × (o ≡ Some y)
some_of None e = cc e
some_of (Some y) e = (y, refl)

-- a read of a reader that stands between two records
pub reads : (a b : Reader (Bor (List ℕ))) (found : Bool) (f : List (List ℕ)) → IsReading a → took_first b ≡ true → is_flexible b ≡ is_flexible a
    → ReadRecord (λ s. Some s.now) a b found f
    → Takes (records_left false a) (records_left (not found) b) found f × (not found ≡ false → IsReading b)
unfolding records_left
reads a b found f reading first flexible r =
    let (y, left) = some_of (text_left a) reading.known in
    let next = rw (reading.config, left) at r.0 in
    let (takes, goes_on) = step-takes (reader_state a) (reader_state b) y (pending_of (Some b.rdr.now) b) found f reading.between next in (
      rw (left, r.1) takes,
      λ going. record {
        config = r.2 ∙ reading.config;
        plain = r.3 ∙ reading.plain;
        flexible = flexible ∙ reading.flexible;
        ready = inl first;
        between = (goes_on (not-false found going)).0;
        known = rw r.1 ((goes_on (not-false found going)).1);
      },
    )

-- where there was a next record, fewer are left
pub shorter : (old new : List Fields) (found : Bool) (fields : Fields) → Takes old new found fields → found ≡ true → length new < length old
shorter [] new found fields takes e = absurd (false≢true (sym takes.0 ∙ e))
shorter (first ∷ rest) new found fields takes e = rw takes.2 (omega arith)
