-- A reader of a packet file in parts is seen as what it has left of the text.
use Rattle.std.specs.Prelude.{ℕ, ◌<◌, ◌≤◌, ◌^◌, List}

-- The bytes that are left, and the number of the record that they begin with: 0 for the header, and rows count from 1.
pub record Unread : Type 0 where
  pub number : ℕ
  pub text : List ℕ

-- A reader of a text of this length stands at a place in it. In front of a row there is a byte that has been read, and a
-- row's number is far from the greatest one of 64 bits.
pub record StandsAt (number start len : ℕ) : Type 0 where
  pub within : start ≤ len
  pub behind : 0 < number → 0 < start
  pub counted : number ≤ 2 ^ 62
