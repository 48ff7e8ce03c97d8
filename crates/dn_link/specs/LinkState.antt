-- A link as callers see it.
use Rattle.std.specs.Prelude.{ℕ}

-- The moment from which the link is free, and the due moment of the packet that started last on it.
pub record LinkState : Type 0 where
  pub free : ℕ
  pub last_due : ℕ
