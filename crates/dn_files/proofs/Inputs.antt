-- Inputs and their faults.
use Rattle.dn_files.proofs.Words.{BadCount, BadRecord, BadRow, Bool, ConfigText, Consumes, Err, IfSome, IsFaultOf, IsRefusal, IsRefusedFor, IsTextOf, List, NoSuchPipe, NoSuchQueue, None, Ok}
use Rattle.dn_files.proofs.Words.{Option, OutOfMemory, PipeHasQueues, ReplayFault, Result, Some, Source, TooLong, Write, [], append_assoc, arith, false, length, length-replicate, nat_le}
use Rattle.dn_files.proofs.Words.{nat_tests, refl, replicate, subst, sym, true, within_limit, ℕ, ◌++◌, ◌+◌, ◌<◌, ◌≡◌, ◌≤◌}
use Rattle.dn_files.specs.Reading.{◌>>=◌}
use Rattle.dn_files.specs.declared.replay_fault.ReplayFault.TheVariants.{Config, Read}

-- The fault of a text that was read whole is one of the input.
pub refused : {A : Type 0} (source : Source) (limit : ℕ) (read : List ℕ → Result A ReplayFault) (known : Option (List ℕ)) (failed : Bool) (text : List ℕ) (fault : ReplayFault)
    → failed ≡ false → IsTextOf known text → within_limit limit source text ≡ Ok text → IsFaultOf (read text) fault → IsRefusal source (λ t. within_limit limit source t >>= read) known failed fault
refused source limit read known failed text OutOfMemory sound is whole fault = sound
refused source limit read known failed text (Read what) sound is whole fault = absurd fault
refused source limit read known failed text (Write what) sound is whole fault = absurd fault
refused source limit read known failed text (Config line f) sound is whole fault = (sound, (text, is, rw whole fault))
refused source limit read known failed text (ConfigText line) sound is whole fault = (sound, (text, is, rw whole fault))
refused source limit read known failed text (NoSuchPipe line) sound is whole fault = (sound, (text, is, rw whole fault))
refused source limit read known failed text (BadRow row field) sound is whole fault = (sound, (text, is, rw whole fault))
refused source limit read known failed text (BadRecord number) sound is whole fault = (sound, (text, is, rw whole fault))
refused source limit read known failed text (TooLong what) sound is whole fault = (sound, (text, is, rw whole fault))
refused source limit read known failed text BadCount sound is whole fault = (sound, (text, is, rw whole fault))
refused source limit read known failed text (PipeHasQueues line) sound is whole fault = (sound, (text, is, rw whole fault))
refused source limit read known failed text (NoSuchQueue line) sound is whole fault = (sound, (text, is, rw whole fault))

-- A refusal before the text was read is one of the whole input.
pub passed_on : {A : Type 0} (source : Source) (limit : ℕ) (read : List ℕ → Result A ReplayFault) (known : Option (List ℕ)) (failed : Bool) (fault : ReplayFault)
    → IsRefusal source (within_limit limit source) known failed fault → IsRefusal source (λ t. within_limit limit source t >>= read) known failed fault
passed_on source limit read known failed OutOfMemory is = is
passed_on source limit read known failed (Read what) is = is
passed_on source limit read known failed (Write what) is = is
passed_on source limit read known failed (Config line f) is = (is.0, (is.1.0, is.1.1, rw is.1.2 refl))
passed_on source limit read known failed (ConfigText line) is = (is.0, (is.1.0, is.1.1, rw is.1.2 refl))
passed_on source limit read known failed (NoSuchPipe line) is = (is.0, (is.1.0, is.1.1, rw is.1.2 refl))
passed_on source limit read known failed (BadRow row field) is = (is.0, (is.1.0, is.1.1, rw is.1.2 refl))
passed_on source limit read known failed (BadRecord number) is = (is.0, (is.1.0, is.1.1, rw is.1.2 refl))
passed_on source limit read known failed (TooLong what) is = (is.0, (is.1.0, is.1.1, rw is.1.2 refl))
passed_on source limit read known failed BadCount is = (is.0, (is.1.0, is.1.1, rw is.1.2 refl))
passed_on source limit read known failed (PipeHasQueues line) is = (is.0, (is.1.0, is.1.1, rw is.1.2 refl))
passed_on source limit read known failed (NoSuchQueue line) is = (is.0, (is.1.0, is.1.1, rw is.1.2 refl))

-- A text that is longer than its limit.
longer : (source : Source) (limit : ℕ) (text : List ℕ) → limit < length text → within_limit limit source text ≡ Err (TooLong source)
longer source limit text long = let over : nat_le (length text) limit ≡ false = grind (arith, nat_tests) in rw over refl

pub too_long : (source : Source) (limit : ℕ) (known : Option (List ℕ)) → IfSome known (λ bytes. limit < length bytes) → IsRefusedFor (within_limit limit source) known (TooLong source)
too_long source limit None long = (replicate (limit + 1) 0, tt, longer source limit (replicate (limit + 1) 0) (rw (length-replicate {A = ℕ} (limit + 1) 0) (omega arith)))
too_long source limit (Some bytes) long = (bytes, refl, longer source limit bytes long)

-- A text within its limit.
pub short : (source : Source) (limit : ℕ) (text : List ℕ) → length text ≤ limit → within_limit limit source text ≡ Ok text
short source limit text le = let under : nat_le (length text) limit ≡ true = grind (arith, nat_tests) in rw under refl

-- The fault of a part is that of the whole, where each fault of the part is.
pub carried : {A B : Type 0} (read : Result A ReplayFault) (whole : Result B ReplayFault) (fault : ReplayFault) → ((f : ReplayFault) → read ≡ Err f → whole ≡ Err f)
    → IsFaultOf read fault → IsFaultOf whole fault
carried read whole OutOfMemory h is = tt
carried read whole (Read source) h is = absurd is
carried read whole (Write source) h is = absurd is
carried read whole (Config line f) h is = h (Config line f) is
carried read whole (ConfigText line) h is = h (ConfigText line) is
carried read whole (NoSuchPipe line) h is = h (NoSuchPipe line) is
carried read whole (BadRow row field) h is = h (BadRow row field) is
carried read whole (BadRecord number) h is = h (BadRecord number) is
carried read whole (TooLong source) h is = h (TooLong source) is
carried read whole BadCount h is = h BadCount is
carried read whole (PipeHasQueues line) h is = h (PipeHasQueues line) is
carried read whole (NoSuchQueue line) h is = h (NoSuchQueue line) is

-- A whole text of an input begins with what was read of it.
pub begins_whole : (known left : Option (List ℕ)) (text : List ℕ) → Consumes known left text → (more : List ℕ) × IsTextOf known (text ++ more)
begins_whole None left text taken = ([], tt)
begins_whole (Some bytes) None text taken = absurd taken
begins_whole (Some bytes) (Some rest) text taken = (rest, sym taken)

-- The fault of a text is why an input that holds it is refused.
module _ {A : Type 0} (source : Source) (read : List ℕ → Result A ReplayFault) (known : Option (List ℕ)) (failed : Bool) (text : List ℕ) (sound : failed ≡ false) (is : IsTextOf known text) where
  pub refused_for : (fault : ReplayFault) → IsFaultOf (read text) fault → IsRefusal source read known failed fault
  refused_for OutOfMemory bad = sound
  refused_for (Read what) bad = absurd bad
  refused_for (Write what) bad = absurd bad
  refused_for (Config line f) bad = (sound, (text, is, bad))
  refused_for (ConfigText line) bad = (sound, (text, is, bad))
  refused_for (NoSuchPipe line) bad = (sound, (text, is, bad))
  refused_for (BadRow row field) bad = (sound, (text, is, bad))
  refused_for (BadRecord number) bad = (sound, (text, is, bad))
  refused_for (TooLong what) bad = (sound, (text, is, bad))
  refused_for BadCount bad = (sound, (text, is, bad))
  refused_for (PipeHasQueues line) bad = (sound, (text, is, bad))
  refused_for (NoSuchQueue line) bad = (sound, (text, is, bad))

-- The same of a text that goes on behind what was read of it.
pub refused_behind : {A : Type 0} (source : Source) (read : List ℕ → Result A ReplayFault) (known left : Option (List ℕ)) (failed : Bool) (text part : List ℕ) (fault : ReplayFault)
    → failed ≡ false → Consumes known left (text ++ part) → ((more : List ℕ) → IsFaultOf (read (text ++ (part ++ more))) fault) → IsRefusal source read known failed fault
refused_behind source read known left failed text part fault sound taken bad =
    let (more, is) = begins_whole known left (text ++ part) taken in
    refused_for source read known failed ((text ++ part) ++ more) sound is fault (subst (λ (t : List ℕ). IsFaultOf (read t) fault) (sym (append_assoc text part more)) (bad more))
