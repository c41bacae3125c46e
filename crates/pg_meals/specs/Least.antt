-- Which vertices of a board are signalled, and which of them goes first.
use Rattle.std.specs.Prelude.{ℕ, ◌≡◌, ◌<◌, ◌⊎◌, ltb, length, List, slice_index_or, Bool, true, false, cond, Option, Some, None, is_some}
use Rattle.pg_graph.specs.Multigraph.{Multigraph, side_at, edges_at}
use Rattle.pg_law.specs.Values.{two}
use Rattle.pg_meals.specs.declared.board.Board.{Board}
use Rattle.pg_meals.specs.declared.ranking.Ranked.{Ranked}
use Rattle.pg_meals.specs.Ranks.{Before, last_entry}
use Rattle.pg_meals.specs.Entries.{at_side, seat_at}
use Rattle.pg_meals.specs.Shown.{carried_on}

-- a message rides to v on the fork of an edge
abbrev pub rides_to : {A : Type 0} → Multigraph → Board A → ℕ → ℕ → Bool
rides_to g b v e = is_some (at_side (side_at g v e) (carried_on b e)).message

-- one of these forks has a message for v, or none has
abbrev pub OneRides : {A : Type 0} → Multigraph → Board A → ℕ → List ℕ → Type 0
OneRides g b v es =
    (i : ℕ) × (i < length es) × (rides_to g b v (slice_index_or es i 0) ≡ true)

abbrev pub NoneRides : {A : Type 0} → Multigraph → Board A → ℕ → List ℕ → Type 0
NoneRides g b v es = (i : ℕ) → i < length es
    → rides_to g b v (slice_index_or es i 0) ≡ false

-- a message waits in the place of a vertex
abbrev pub has_own : {A : Type 0} → Board A → ℕ → Bool
has_own b v = is_some (seat_at (two 0 0) b.seats.items v).message

-- a message waits for v in its place or on a fork, or none does
abbrev pub IsAwaited : {A : Type 0} → Multigraph → Board A → ℕ → Type 0
IsAwaited g b v = (has_own b v ≡ true) ⊎ OneRides g b v (edges_at g v)

abbrev pub IsQuiet : {A : Type 0} → Multigraph → Board A → ℕ → Type 0
IsQuiet g b v = (has_own b v ≡ false) × NoneRides g b v (edges_at g v)

-- of two vertices the one of smaller rank, where the first has the smaller number
abbrev pub lesser : Option Ranked → Ranked → Ranked
lesser None next = next
lesser (Some first) next = cond (ltb next.last first.last) next first

-- a signalled vertex below n, with its last entry, that has the least rank of those
pub record IsLeastBelow {A : Type 0} (g : Multigraph) (b : Board A) (n : ℕ) (first : Ranked) : Type 0 where
  pub below : first.vertex < n
  pub last : first.last ≡ last_entry b.journal.items first.vertex
  pub awaited : IsAwaited g b first.vertex
  pub least : (w : ℕ) → w < n → IsAwaited g b w
      → (w ≡ first.vertex) ⊎ Before b.journal.items first.vertex w

-- no vertex below n is signalled
abbrev pub AllQuiet : {A : Type 0} → Multigraph → Board A → ℕ → Type 0
AllQuiet g b n = (w : ℕ) → w < n → IsQuiet g b w
