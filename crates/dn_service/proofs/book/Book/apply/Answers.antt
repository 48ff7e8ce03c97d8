use Rattle.dn_service.proofs.Words.{BookView, Call, Entry, FitsRoom, Keeps, List, Ordered, Pages, StandsAfter, [], ap, append_assoc, calls_of, calls_of-more, entry_of, lawful-more, subst, sym}
use Rattle.dn_service.proofs.Words.{vec_capacity, ℕ, ◌++◌, ◌∙◌, ◌∷◌, ◌≡◌}
use Rattle.dn_service.proofs.HistoryLaws.{noted}
use Rattle.dn_service.proofs.Outcomes.{on_err}
use Rattle.dn_service.proofs.Replying.{room_for}
use Rattle.dn_service.proofs.book.Book.apply.Goals as goal

-- a book with these pages
abbrev book_of : Pages → BookView
book_of p = record { shaper = p.shaper; kept = p.history.items; gone = p.gone }

pub copy_of-copy-requires-clause-room : goal.copy_of-copy-requires-clause-room
copy_of-copy-requires-clause-room c =
    let pages : Pages = c.deref_mut-pages.result.now in
    let kept : Keeps c.requires.0 (book_of pages) = subst (λ p. Keeps c.requires.0 (book_of p)) (sym c.deref_mut-pages.ensures.value) (subst (Keeps c.requires.0) (sym c.self.view_is) c.requires.1) in
    let calls : List Call = calls_of c.requires.0.history in
    let d : ℕ = vec_capacity c.reserve-2.new.self.deliveries in
    let s : ℕ = vec_capacity c.reserve-2.new.self.statuses in
    subst (FitsRoom d s) (sym (c.in_ok-reply.ensures.ok Ordered calls kept.stands).0)
    (room_for Ordered calls c.args.call.now c.reply_room.result d s (c.reply_room.ensures.room Ordered calls kept.stands c.args.call.now) c.in_ok-reserve-2.ensures.room)

-- with the new entry the history is lawful, and the shaper stands after its calls
pub returns-clause-ok : goal.returns-clause-ok
returns-clause-ok c = λ past was.
    let pages : Pages = c.deref_mut-pages.result.now in
    let kept : Keeps past (book_of pages) = subst (λ p. Keeps past (book_of p)) (sym c.deref_mut-pages.ensures.value) (subst (Keeps past) (sym c.self.view_is) was) in
    let calls : List Call = calls_of past.history in
    let e : Entry = entry_of c.args.caller c.args.call.now c.in_ok-reply.reply in
    let now : c.push_reserved.new.self.items ≡ pages.history.items ++ e ∷ [] = noted _ _ _ _ _ _ _ c.push_reserved.ensures.items c.reserve.ensures.items c.copy_of-copy.ensures in
    let told = c.in_ok-reply.ensures.ok Ordered calls kept.stands in record {
      lawful = lawful-more Ordered past.history e kept.lawful told.0;
      stands = subst (StandsAfter Ordered c.apply.new.self) (sym (calls_of-more past.history e)) told.1;
      whole = ap (λ h. h ++ e ∷ []) kept.whole ∙ (append_assoc past.shed pages.history.items (e ∷ []) ∙ ap (λ h. past.shed ++ h) (sym now));
      gone = kept.gone;
    }

-- a refused call has left the shaper after the same calls
pub returns-in_err-reply-clause-err : goal.returns-in_err-reply-clause-err
returns-in_err-reply-clause-err c = on_err c.from_residual-in_err-reply.result (λ past was.
    let pages : Pages = c.deref_mut-pages.result.now in
    let kept : Keeps past (book_of pages) = subst (λ p. Keeps past (book_of p)) (sym c.deref_mut-pages.ensures.value) (subst (Keeps past) (sym c.self.view_is) was) in
    let same : c.reserve.new.self.items ≡ pages.history.items = c.reserve.ensures.items in record {
      lawful = kept.lawful;
      stands = c.in_err-reply.ensures.err Ordered (calls_of past.history) kept.stands;
      whole = kept.whole ∙ ap (λ h. past.shed ++ h) (sym same);
      gone = kept.gone;
    })
