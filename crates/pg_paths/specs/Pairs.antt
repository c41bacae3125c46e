-- Pairs of words, each the length of a path and the id of the vertex before its end.
use Rattle.std.specs.Prelude.{ℕ, Bool, cond, ◌==◌, ◌&&◌, ◌||◌, nat_lt}
use Rattle.pg_law.specs.declared.values.Datum.{Datum}
use Rattle.pg_law.specs.Values.{two}
use Rattle.pg_law.specs.Words.{IsU64, greatest}
use Rattle.pg_paths.specs.Plus.{plus}

pub record IsPair (datum : Datum) : Type 0 where
  pub first : IsU64 datum.first
  pub second : IsU64 datum.second

-- by the first word, and then by the second
abbrev pub is_below : Datum → Datum → Bool
is_below a b = nat_lt a.first b.first || ((a.first == b.first) && nat_lt a.second b.second)

abbrev pub smaller_pair : Datum → Datum → Datum
smaller_pair a b = cond (is_below b a) b a

-- no path is known
abbrev pub unreached : Datum
unreached = two greatest greatest

-- a path of this length, and an edge of this weight from the vertex of this id
abbrev pub via : ℕ → ℕ → ℕ → Datum
via length weight id = cond (plus length weight == greatest) unreached (two (plus length weight) id)
