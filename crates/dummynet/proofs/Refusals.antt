-- Why words ask for nothing.
use Rattle.std.proofs.Common.{◌≡◌, ◌∙◌, List, ap, inl, inr, subst, sym}
use Rattle.clap.specs.Words.{HasKind, IsAmong, Text, fault_of, kind_of, subcommand_of}
use Rattle.clap.specs.declared.error.Error.{Error}
use Rattle.clap.specs.declared.error.kind.ErrorKind.TheVariants.{ArgumentConflict}
use Rattle.dummynet.specs.Program.{program}
use Rattle.dummynet.specs.Requests.{AsksFor, Conflicts, IsRefusedFor, IsToldAs}
use Rattle.dummynet.specs.declared.refusal.Refusal.{Refusal}
use Rattle.dummynet.specs.declared.refusal.Refusal.TheVariants.{NotUtf8, OutOfMemory, Told}
use Rattle.dummynet.specs.declared.request.Request.{Request}

-- clap's error, of a kind that the words have
pub told_refused : (words : List Text) (e : Error) (r : Refusal) → IsToldAs e r → HasKind (fault_of program words) e → IsRefusedFor words r
told_refused words e OutOfMemory told kind = tt
told_refused words e NotUtf8 told kind = absurd told
told_refused words e (Told x) told (inl memory) = absurd (told.1 memory)
told_refused words e (Told x) told (inr among) = inl (subst (λ (y : Error). IsAmong (kind_of y) (fault_of program words)) (sym told.0) among)

-- the program's own error, where a replay's arguments don't go together
pub conflict_refused : (words : List Text) (e : Error) (r : Refusal) (q : Request) → IsToldAs e r → kind_of e ≡ ArgumentConflict
    → AsksFor (subcommand_of program words) q → Conflicts q → IsRefusedFor words r
conflict_refused words e OutOfMemory q told conflict asks clash = tt
conflict_refused words e NotUtf8 q told conflict asks clash = absurd told
conflict_refused words e (Told x) q told conflict asks clash = inr (ap kind_of told.0 ∙ conflict, (q, asks, clash))
