-- When to ask next: the first moment at which a packet under way is due or a link with a backlog is free.
use Rattle.std.specs.Prelude.{ℕ, min, cond, List, [], ◌∷◌, map, nat_lt, Option, Some, None}
use Rattle.dn_types.specs.Deliveries.{undelivered}
use Rattle.dn_types.specs.Links.{free}
use Rattle.dn_types.specs.SharedLinks.{waiting}
use Rattle.dn_types.specs.Trace.{Link, Event, links}
use Rattle.dn_types.specs.declared.rule.Rule.{Rule}

-- The earlier of two moments, where there are both.
abbrev pub earlier : Option ℕ → Option ℕ → Option ℕ
earlier None other = other
earlier (Some a) None = Some a
earlier (Some a) (Some b) = Some (min a b)

-- The earliest of the moments that there are.
abbrev pub earliest : List (Option ℕ) → Option ℕ
earliest [] = None
earliest (m ∷ others) = earlier m (earliest others)

-- The moment from which the link is free, where a packet waits for it.
abbrev pub next_free : List Event → Link → Option ℕ
next_free trace link = cond (nat_lt 0 (waiting link trace)) (Some (free link trace)) None

-- When to ask next: the earliest of the due moments of the packets under way and of the moments from which the links with
-- a backlog are free. There is none where no packet waits or is under way.
abbrev pub wake_of : Rule → List Event → Option ℕ
wake_of rule trace = earlier (earliest (map (λ d. Some d.due) (undelivered rule trace))) (earliest (map (next_free trace) (links trace)))
