-- Ascending numbers.
use Rattle.std.specs.Prelude.{ℕ, ◌<◌, ◌^◌, List, length}
use Rattle.std.specs.List.Sorted.{IsStrictlyIncreasing}

-- ascending keys, so few that a place is a number of 32 bits
pub record IsKeys (keys : List ℕ) : Type 0 where
  pub ascending : IsStrictlyIncreasing keys
  pub few : length keys < 2 ^ 32
