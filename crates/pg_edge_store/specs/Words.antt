-- A word for each edge of a worker, kept in full or once for all.
use Rattle.std.specs.Prelude.{◌≤◌, ℕ, Vec, vec_capacity}
use Rattle.pg_law.specs.EdgeWords.{AreCounted}

-- a list has as many words as are counted, or none, and room for all of them
pub record HaveRoom {Z : Type 0} (count : ℕ) (each : Vec ℕ Z) : Type 0 where
  pub counted : AreCounted count each.items
  pub room : count ≤ vec_capacity each
