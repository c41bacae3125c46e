-- Who can always get all its forks.
use Rattle.std.specs.Prelude.{ℕ, ◌≡◌, ◌<◌, ◌⊎◌, length, List, [], ◌∷◌, IsTrue, None}
use Rattle.pg_graph.specs.Multigraph.{edges_at}
use Rattle.pg_law.specs.declared.values.JournalEntry.{JournalEntry}
use Rattle.pg_law.specs.Program.{Program}
use Rattle.pg_law.specs.Journal.{replay}
use Rattle.pg_law.specs.Configuration.{Configuration, is_signalled}
use Rattle.pg_meals.specs.Words.{PinsAll}
use Rattle.pg_meals.specs.Ranks.{Before}
use Rattle.pg_meals.specs.Core.{Core}
use Rattle.pg_meals.specs.Acts.{Claim, Pin}
use Rattle.pg_meals.specs.Setting.{Setting, shape_in, IsSetting, Stands}
use Rattle.pg_meals.specs.Runs.{Deed, Acts, Runs}

-- one actor pins these edges, one act for each
abbrev pub pinning : ℕ → List ℕ → List (ℕ × Deed)
pinning a [] = []
pinning a (e ∷ es) = (a, Acts (Pin e)) ∷ pinning a es

-- u is signalled in the state `now`, and each other signalled vertex has a larger rank
pub record IsFirst (x : Setting) (now : Configuration) (journal : List JournalEntry) (u : ℕ)
    : Type 0 where
  pub inside : u < length x.graph.ids
  pub signalled : IsTrue (is_signalled now u)
  pub least : (w : ℕ) → w < length x.graph.ids → IsTrue (is_signalled now w)
      → (w ≡ u) ⊎ Before journal u w

module _ {A C : Type 0} (p : Program A C) where
  -- while no vertex is in hand, the signalled vertex of least rank, once claimed, gets each of its
  -- forks by one act, and has them all then
  abbrev pub NeverStuck : Type 0
  NeverStuck = (x : Setting) → IsSetting p x → (c : Core A) (a u : ℕ) → Stands p x c
      → ((b : ℕ) → (c.words.grip b).vertex ≡ None)
      → IsFirst x (replay p x.graph x.opening c.words.journal) c.words.journal u
      → (c' : Core A) × Runs p (shape_in x) x.fuel c
      ((a, Acts (Claim u)) ∷ pinning a (edges_at x.graph u)) c'
      × PinsAll (shape_in x) c'.words a u
