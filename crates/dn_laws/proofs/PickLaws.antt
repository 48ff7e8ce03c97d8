-- What is picked is one of the heads, it is eligible, and none that is goes before it.
use Rattle.dn_laws.proofs.Words.{All-contains_itself, All-filter, Contains, IsFirstEligible, List, Some, Stamped, filter, filter_passes, first_to_go-one-of, get_or, is_eligible, le-leb, leb-true}
use Rattle.dn_laws.proofs.Words.{pick, raised, true, ℕ, ◌≡◌}
use Rattle.dn_laws.proofs.Least.{pick-least}

pub pick-is-first : (v : ℕ) (hs : List Stamped) (h : Stamped) → pick v hs ≡ Some h → IsFirstEligible v hs h
pick-is-first v hs h e = record {
  is_head = first_to_go-one-of (Contains hs) (filter (is_eligible (raised v hs)) hs) h (All-filter (is_eligible (raised v hs)) (Contains hs) hs (All-contains_itself hs)) e;
  may_go = leb-true h.start_tag (raised v hs) (first_to_go-one-of (λ x. is_eligible (raised v hs) x ≡ true) (filter (is_eligible (raised v hs)) hs) h (filter_passes (is_eligible (raised v hs)) hs) e);
  is_first = λ k d lt low. pick-least v hs h e k d lt (le-leb (get_or hs k d).start_tag (raised v hs) low);
}
