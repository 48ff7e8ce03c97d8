use Rattle.std.proofs.Common.{◌≡◌, ◌∙◌, List, ap, inl, inr, map, string_bytes, subst, sym}
use Rattle.std.proofs.lemmas.Result.{err_from_is_err_and}
use Rattle.clap.specs.Words.{App, HasKind, Text, app_of, fault_of, is_simple, is_simple_and_free, subcommand_of}
use Rattle.dummynet.proofs.Forms.{program_is_free, program_is_simple}
use Rattle.dummynet.proofs.Refusals.{conflict_refused, told_refused}
use Rattle.dummynet.specs.Program.{program}
use Rattle.dummynet.specs.Requests.{AsksFor}
use Rattle.dummynet.proofs.asked.request_of.Goals as goal

pub returns-in_err-matches-clause-err : goal.returns-in_err-matches-clause-err
returns-in_err-matches-clause-err c =
    let is : app_of c.in_ok-form.form ≡ program = c.in_ok-form.ensures.0 in
    let words : List Text = map (λ s. string_bytes s) c.args.words.now in
    let p = err_from_is_err_and c.from_residual-in_err-matches.result c.from_residual-in_err-matches.ensures.1 in
    let kind = c.in_err-matches.ensures.kinds (ap is_simple_and_free is ∙ program_is_free) in
    rw p.1 (told_refused words c.in_err-matches.field-0.0 p.0 p.2 (subst (λ (a : App). HasKind (fault_of a words) c.in_err-matches.field-0.0) is kind))

pub returns-in-Some-clause-err : goal.returns-in-Some-clause-err
returns-in-Some-clause-err c =
    let is : app_of c.in_ok-form.form ≡ program = c.in_ok-form.ensures.0 in
    let words : List Text = map (λ s. string_bytes s) c.args.words.now in
    let q = c.asked-request.result in
    let read = (c.in_ok-matches.ensures.ok.2 (ap is_simple is ∙ program_is_simple)).1 ∙ ap (λ (a : App). subcommand_of a words) is in
    let asks : AsksFor (subcommand_of program words) q = subst (λ command. AsksFor command q) read c.asked-request.ensures in
    conflict_refused words c.in_ok-error.field-0 c.from.result q c.from.ensures c.in_ok-error.ensures.kind asks (rw c.in-Some.is at c.conflict_of.ensures)

pub returns-clause-ok : goal.returns-clause-ok
returns-clause-ok c =
    let is : app_of c.in_ok-form.form ≡ program = c.in_ok-form.ensures.0 in
    let words : List Text = map (λ s. string_bytes s) c.args.words.now in
    let q = c.asked-request.result in
    let read = (c.in_ok-matches.ensures.ok.2 (ap is_simple is ∙ program_is_simple)).1 ∙ ap (λ (a : App). subcommand_of a words) is in
    record {
      understood = sym (ap (λ (a : App). fault_of a words) is) ∙ c.in_ok-matches.ensures.kinds (ap is_simple_and_free is ∙ program_is_free);
      asked = subst (λ command. AsksFor command q) read c.asked-request.ensures;
      spares_inputs = λ overwrites. c.in_default.ensures (inl overwrites);
      fits = λ limits. c.in_default.ensures (inr limits);
    }
