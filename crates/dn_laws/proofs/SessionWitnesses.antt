-- The laws of live sessions at examples.
use Rattle.std.proofs.Common.{All, List, Ok, Some, [], arith, refl, ℕ, ◌++◌, ◌<◌, ◌∷◌, ◌≡◌, ◌≢◌, ◌⊎◌, codes, decimal, true}
use Rattle.std.proofs.lemmas.Str.Ascii.{IsAscii-from_all}
use Rattle.std.proofs.lemmas.Str.{IsUtf8-from_ascii, is_utf8-from_IsUtf8}
use Rattle.std.proofs.lemmas.List.Elements.{All-cons, All-nil}
use Rattle.std.specs.Fmt.{digits}
use Rattle.std.specs.Str.{is_utf8}
use Rattle.dn_laws.proofs.AskedHold.{calls-are-read, lines-are-asked, only-calls-are-made}
use Rattle.dn_laws.proofs.SessionLawsHold.{lines-are-answered, sessions-are-histories, transcripts-are-written}
use Rattle.dn_laws.proofs.WakesHold.{wakes-are-first}
use Rattle.dn_laws.specs.HistoryRefusals.{IsAsked}
use Rattle.dn_laws.specs.RecordLaws.{Texts}
use Rattle.dn_laws.specs.SessionLaws.{IsBare, IsFirst, IsHistoryOf, IsOwn, IsRecord, IsTail, Wakes}
use Rattle.dn_live.specs.Asked.{asked}
use Rattle.dn_live.specs.Session.{answers, begun, calls_of, closing}
use Rattle.dn_live.specs.declared.asked.Asked.TheVariants.{Calls, Nothing}
use Rattle.dn_records.specs.Records.{records_of}
use Rattle.dn_types.specs.Trace.{Accepted, arrived, shared}
use Rattle.dn_types.specs.declared.call.Call.TheVariants.{Configure, Show}
use Rattle.dn_types.specs.declared.command.Command.{Command}
use Rattle.dn_types.specs.declared.entry.Entry.{Entry}
use Rattle.dn_types.specs.declared.rule.Rule.TheVariants.{Ordered}
use Rattle.dn_config.specs.Line.{answer}

comment : asked (codes "# now") ≡ Nothing
comment = lines-are-asked.comments (codes " now")

-- Caller 3 asks for a Show.
abbrev IsField : List ℕ → Type 0
IsField field = IsBare field × All (λ b. b ≢ 44) field × (is_utf8 field ≡ true)

letters : (text : List ℕ) → All (λ b. (44 < b) × (b < 128)) text → IsField text
letters text h = (
  λ k d lt. (let in_range = h k d lt in (λ e. absurd (omega (arith, in_range.0, e)), λ e. absurd (omega (arith, in_range.0, e)))),
  λ k d lt. (let in_range = h k d lt in λ e. absurd (omega (arith, in_range.0, e))),
  is_utf8-from_IsUtf8 text (IsUtf8-from_ascii text (IsAscii-from_all text (λ k d lt. (h k d lt).1))),
)

show : asked (codes "c,3,show") ≡ Calls 3 Show
unfolding digits
show =
    let both : (b : ℕ) → Type 0 = λ b. (44 < b) × (b < 128) in
    let text : All both (codes "show") = All-cons both 115 (codes "how") (omega arith, omega arith) (All-cons both 104 (codes "ow") (omega arith, omega arith)
    (All-cons both 111 (codes "w") (omega arith, omega arith) (All-cons both 119 [] (omega arith, omega arith) (All-nil both)))) in
    calls-are-read 3 Show (codes "show" ∷ []) (omega arith) tt refl (All-cons IsField (codes "show") [] (letters (codes "show") text) (All-nil IsField))

shown : ((told : Texts) × (3 < 16) × IsAsked Show told × IsRecord (codes "c,3,show") (codes "c" ∷ decimal 3 ∷ told)) ⊎ ((command : Command) × (let n : ℕ = 3 in n ≡ 0) × (Show ≡ Configure command)
    × (answer (codes "c,3,show") ≡ Ok (Some command)))
shown = only-calls-are-made (codes "c,3,show") 3 Show show

answered : (own : List Texts) × (answers (codes "c,3,show" ∷ []) ≡ answers [] ++ own) × IsOwn 1 (calls_of []) (asked (codes "c,3,show")) own
answered = lines-are-answered (codes "c,3,show") []

history : (entries : List Entry) × IsHistoryOf (codes "c,3,show" ∷ []) entries
history = sessions-are-histories (codes "c,3,show" ∷ [])

-- A packet waits for a link that is free.
abbrev waits : Accepted
waits = record { packet = 0; link = shared 1; stamped = record { flow = 0; len = 1000; weight = 1; start_tag = 0; finish_tag = 1 } }

wake : IsFirst (Wakes Ordered (arrived waits ∷ [])) (Some 0)
wake = wakes-are-first Ordered (arrived waits ∷ [])

written : (last : List Texts) × IsTail 1 (codes "c,3") last
    × (records_of (begun [] ++ closing [] (codes "c,3")) ≡ (codes "dummynet-live" ∷ codes "1" ∷ []) ∷ (answers [] ++ (last ++ (codes "end" ∷ decimal 0 ∷ []) ∷ [])))
unfolding calls_of
written = transcripts-are-written [] (codes "c,3")
