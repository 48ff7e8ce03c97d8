-- What the getters of the matches read, as the values of the rows.
use Rattle.std.proofs.Common.{◌≡◌, ◌∙◌, ℕ, [], Option, Some, None, Result, Ok, Err, ap, refl, subst}
use Rattle.std.specs.Borrow.{Bor}
use Rattle.std.specs.Option.{option_map, unwrap_or}
use Rattle.std.specs.Str.Parse.{ParsesUnsigned}
use Rattle.clap.specs.Words.{ReadsOne, Text, first_value, one_of, one_text, rows_of}
use Rattle.clap.specs.declared.parser.matches.Found.{Found}
use Rattle.clap.proofs.WalkLemmas.{first_value-rows, one_text-rows}
use Rattle.dummynet.specs.Requests.{IsCountOf, value_of}

-- a value, or the empty text in its place
pub value_read : (o : Option (Bor Text)) (d : Bor Text) (f : Found) (id : Text) → option_map (λ s. s.now) o ≡ first_value f id → d.now ≡ []
    → (unwrap_or o d).now ≡ value_of id (rows_of f)
value_read None d f id read empty = empty ∙ ap (λ t. unwrap_or t []) (read ∙ first_value-rows f id)
value_read (Some s) d f id read empty = ap (λ t. unwrap_or t []) (read ∙ first_value-rows f id)

-- a number, where its type reads what `ParsesUnsigned` says
pub count_read : (E : Type 0) (gives : Text → Result ℕ E → Type 0) (f : Found) (id : Text) (o : Option ℕ) → (one_text f id ≡ None → o ≡ None)
    → ((t : Text) → one_text f id ≡ Some t → ReadsOne gives t o) → ((t : Text) (r : Result ℕ E) → gives t r → ParsesUnsigned 64 10 t r) → IsCountOf (one_of id (rows_of f)) o
count_read E gives f id o none value parses = subst (λ text. IsCountOf text o) (one_text-rows f id) (read (one_text f id) refl)
  where
    count : (t : Text) (n : Option ℕ) → ReadsOne gives t n → IsCountOf (Some t) n
    count t (Some n) r = parses t (Ok n) r
    count t None r = parses t (Err r.0) r.1

    read : (text : Option Text) → one_text f id ≡ text → IsCountOf text o
    read None e = none e
    read (Some t) e = count t o (value t e)
