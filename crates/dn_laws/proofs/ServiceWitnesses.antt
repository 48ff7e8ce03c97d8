-- The laws of closed services at a service of one caller, who sent two packets at 0 and collected both at 2 ms.
-- Whatever obeys the laws tells this Collect both. The first three entries may be taken before, and the Collect's caller may learn of them.
use Rattle.dn_laws.proofs.Words.{All, All-cons, All-nil, All-take, Answered, Call, CallerView, Closes, Collect, Configured, Delivered, Delivery, Emulator, Entry, IsAccountedFor, IsFaced, List, ObeysTheLaws}
use Rattle.dn_laws.proofs.Words.{Ordered, Queued, Reply, ServiceView, Some, [], arith, delivery, drop, has_number, having_lost, inl, inr, length, new_callers, pipe, refl, slice_get, suc, take, to_pipe, true, zero, ℕ, ◌<◌, ◌∷◌}
use Rattle.dn_laws.proofs.Words.{◌++◌, ◌≡◌, ◌≤◌}
use Rattle.dn_laws.proofs.CallerLawsHold.{absent-callers-are-missing, callers-begin, refusals-are-noted, segments-are-the-history, tokens-are-told}
use Rattle.dn_laws.proofs.ServiceHeadline.{services-by-the-laws, calls-by-the-laws}
use Rattle.dn_laws.proofs.ServiceLawsHold.{callers-are-left, none-is-foreign, none-is-overtaken}
use Rattle.dn_laws.specs.CallerLaws.{ComesAfter, joined}
use Rattle.dn_service.specs.Lasting.{LastingView, Learns, Takes}
use Rattle.dn_service.specs.declared.try_fault.TryFault.TheVariants.{Busy}

abbrev entry : Call → Reply → Entry
entry c r = record { caller = 0; call = c; reply = r }

abbrev list : List Delivery
list = delivery 0 0 0 1000000 ∷ delivery 1 0 1000000 2000000 ∷ []

abbrev history : List Entry
history = entry (pipe 1 8000000 0) Configured ∷ entry (to_pipe 1 0) (Queued 0 0 0) ∷ entry (to_pipe 1 0) (Queued 0 0 1) ∷ entry (Collect 2000000) (Delivered 2000000 list) ∷ []

module _ (any : ServiceView) where
  abbrev service : ServiceView
  service = record { table = any.table; callers = 1 }

  abbrev caller : CallerView
  caller = record { service = service; number = 0; front = history; own = history; lost = []; faced = 0 }

  all-first : All (λ e. e.caller < 1) history
  all-first = All-cons (λ e. e.caller < 1) _ (drop 1 history) (omega arith) (All-cons (λ e. e.caller < 1) _ (drop 2 history) (omega arith)
      (All-cons (λ e. e.caller < 1) _ (drop 3 history) (omega arith) (All-cons (λ e. e.caller < 1) _ [] (omega arith) (All-nil (λ e. e.caller < 1)))))

  closes : Closes service (caller ∷ []) history
  closes = record {
    lawful = (refl, (refl, (refl, (refl, tt))));
    below = all-first;
    accounts = All-cons (IsAccountedFor history) caller [] (record { front = ([], refl); own = refl }) (All-nil (IsAccountedFor history));
    faced = All-cons (IsFaced (caller ∷ [])) caller [] refl (All-nil (IsFaced (caller ∷ [])));
    whole = one;
  }
    where
      one : (k : ℕ) → k < 1 → has_number k (caller ∷ []) ≡ true
      one zero l = refl
      one (suc k) l = absurd (omega arith)

  sees-the-second : slice_get history 1 ≡ Some (entry (to_pipe 1 0) (Queued 0 0 0))
  sees-the-second = (callers-are-left service (caller ∷ []) history caller closes (inl refl)).seen 1 (entry (to_pipe 1 0) (Queued 0 0 0)) refl

  whose-is-it : (none-is-foreign service (caller ∷ []) history (entry (pipe 1 8000000 0) Configured) closes (inl refl)).0.number ≡ 0
  whose-is-it = (none-is-foreign service (caller ∷ []) history (entry (pipe 1 8000000 0) Configured) closes (inl refl)).2

  in-order : 1000000 ≤ 2000000
  in-order = none-is-overtaken service (caller ∷ []) history (delivery 0 0 0 1000000) (delivery 1 0 1000000 2000000) closes
      (entry (Collect 2000000) (Delivered 2000000 list), 2000000, 2000000, list, inr (inr (inr (inl refl))), refl, refl, inl refl)
      (entry (Collect 2000000) (Delivered 2000000 list), 2000000, 2000000, list, inr (inr (inr (inl refl))), refl, refl, inr (inl refl)) refl (omega arith)

  abbrev before : CallerView
  before = record { service = service; number = 0; front = take 3 history; own = take 3 history; lost = []; faced = 0 }

  answered : Answered before (Collect 2000000) (Delivered 2000000 list) caller
  answered = record { lawful = closes.lawful; below = all-first; between = []; front = refl; own = refl; all_own = refl }

  one-caller : length (new_callers service 0 1) ≡ 1
  one-caller = (callers-begin service).many

  noted : (having_lost 0 before).lost ≡ [] ++ 0 ∷ []
  noted = (refusals-are-noted.tries before (having_lost 0 before) (Busy 0) refl).lost

  abbrev unaware : CallerView
  unaware = record before { front = [] }

  learns : Learns unaware (record { service = service; front = take 3 history }) before
  learns = record { had = (take 3 history, refl); told = ([], refl); one = inr ((take 3 history, refl), refl); own = refl; lost = refl; faced = refl }

  comes-after : ComesAfter (take 3 history) before (Collect 2000000) (Delivered 2000000 list) caller
  comes-after = ((tokens-are-told unaware before (record { service = service; front = take 3 history }) learns).comes (Collect 2000000) (Delivered 2000000 list) caller answered).1

  abbrev lasting : List Entry → LastingView
  lasting taken = record { service = service; taken = taken }

  takes : Takes (lasting []) unaware 0 (take 3 history) (lasting (take 3 history)) before
  takes = record { service = refl; taken = refl; start = λ few. refl; lawful = (refl, (refl, (refl, tt))); below = All-take (λ (e : Entry). e.caller < 1) 3 history all-first; front = refl; seen = (take 3 history, refl); own = refl; all_own = refl }

  closes-after : Closes service (caller ∷ []) (joined (take 3 history ∷ []) ++ drop 3 history)
  closes-after = segments-are-the-history.closes service (take 3 history ∷ []) (lasting (take 3 history)) (caller ∷ []) (drop 3 history) (lasting [], unaware, before, 0, refl, takes) closes

  never-closes : (left : List Entry) → Closes service [] left → ⊥
  never-closes = (absent-callers-are-missing service [] 0 (record { below = omega arith; missing = refl; least = λ j l. absurd (omega (arith, l)) })).unclosed

  module _ (e : Emulator) (obeys : ObeysTheLaws Ordered e) where
    tells-both : Delivered 2000000 list ≡ e.told (to_pipe 1 0 ∷ to_pipe 1 0 ∷ pipe 1 8000000 0 ∷ []) (Collect 2000000)
    tells-both = (services-by-the-laws e obeys service (caller ∷ []) history closes).replies.1.1.1.0

    tells-both-at-once : Delivered 2000000 list ≡ e.told (to_pipe 1 0 ∷ to_pipe 1 0 ∷ pipe 1 8000000 0 ∷ []) (Collect 2000000)
    tells-both-at-once = (calls-by-the-laws e obeys before caller (Collect 2000000) (Delivered 2000000 list) answered).2.1.1.1.0
