use Rattle.dn_history.proofs.Words.{Fields, List, ap, arith, behind-feed, drop, is_ok, length, records_after, records_of, refl, sym, take, take_rest, true, ◌-◌, ◌∙◌, ◌≡◌}
use Rattle.csv.specs.declared.parser.State.TheVariants as st
use Rattle.dn_history.proofs.PartsRead.{none-read, one-read}
use Rattle.dn_history.proofs.read.batch.read_batch.Goals as goal

pub loop-entry-init : goal.loop-entry-init
loop-entry-init c =
    let text = c.args.text.now in
    let front : records_of text ≡ records_after st.StartRecord (take (length text - 1) (drop 1 text)) =
    ap records_of c.requires.feed ∙ behind-feed (drop 1 text) ∙ ap (records_after st.StartRecord) (sym (take_rest text 1)) in
    record {
      read = rw c.in_ok-with_capacity.ensures.items (none-read c.args.version c.args.given _ c.from-records.result c.from-records.ensures);
      left = c.from-records.ensures ∙ ap (λ (rs : List Fields). record { number = c.args.number; records = rs }) front;
      few = c.requires.few;
    }

pub loop-entry-preserved : goal.loop-entry-preserved
loop-entry-preserved c =
    let good : is_ok c.push.result ≡ true = c.if-is_err.ensures.negation in
    let step = rw c.in-Ok-Some.field-0-is at c.in-Ok-Some.ensures.ok in
    record {
      read = rw (rw good at c.push.ensures.items)
          (one-read c.args.version c.args.given c.loop-entry.batch.given _ c.loop-entry.records c.next_entry.new.records c.loop-entry.batch.entries.items c.in-Ok-Some.entry
          c.loop-entry.invariant.read step c.in-Ok-Some.ensures.fewer);
      left = rw (c.number-in-Ok-Some.ensures, ← c.lines-left.ensures) refl;
      few = (omega (arith, c.if-batch-ge-MOST.false), omega (arith, c.if-number-ge-MOST.false, c.number.ensures, c.number-in-Ok-Some.ensures));
    }
