-- The replicas of vertices on one worker.
use Rattle.std.specs.Prelude.{◌≡◌, ◌≢◌, ℕ, ◌<◌, ◌↔◌, true, List, length, slice_index, slice_index_or, map, All, Contains}
use Rattle.pg_law.specs.declared.values.Datum.{Datum}
use Rattle.pg_law.specs.Values.{one}
use Rattle.pg_cut.specs.WorkerSet.{is_in}
use Rattle.pg_cut.specs.Cut.{Division, span_in, vertices_on}

-- the vertices, ascending, and the datum of each
pub record Mirrors : Type 0 where
  pub vertices : List ℕ
  pub values : List Datum

abbrev pub mirrors : List ℕ → List Datum → Mirrors
mirrors vertices values = record { vertices = vertices; values = values }

abbrev pub datum_at : List Datum → ℕ → Datum
datum_at values i = slice_index_or values i (one 0)

-- one replica for each vertex whose span has the worker
abbrev pub mirrors_of : Division → ℕ → List Datum → Mirrors
mirrors_of cut worker values =
    mirrors (vertices_on cut worker) (map (datum_at values) (vertices_on cut worker))

-- each listed vertex that has a replica has the listed datum there, and all else is as before
pub record Pushes (old new : Mirrors) (masters : List (ℕ × Datum)) : Type 0 where
  pub vertices : new.vertices ≡ old.vertices
  pub count : length new.values ≡ length old.values
  pub listed : All (λ master. (i : ℕ) → i < length old.vertices
      → slice_index old.vertices i ≡ master.0 → datum_at new.values i ≡ master.1) masters
  pub others : (i : ℕ) → i < length old.vertices
      → All (λ master. master.0 ≢ slice_index old.vertices i) masters
      → datum_at new.values i ≡ datum_at old.values i

-- a vertex has a replica exactly where its span has the worker
abbrev pub ReplicasAreInSpans : Type 0
ReplicasAreInSpans = (cut : Division) (worker v : ℕ) → v < length cut.spans
    → Contains (vertices_on cut worker) v ↔ (is_in worker (span_in cut v) ≡ true)
