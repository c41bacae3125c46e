-- The desks of a worker: one for each replica, with what an edge reads there, and the signals that came there.
use Rattle.std.specs.Prelude.{◌≡◌, ℕ, ◌<◌, ◌≤◌, ◌==◌, Option, None, List, length, slice_index, slice_index_or}
use Rattle.std.specs.List.{position_or_len}
use Rattle.pg_law.specs.Values.{one}
use Rattle.pg_law.specs.Program.{Program}
use Rattle.pg_law.specs.Laws.{IsOptional}
use Rattle.pg_law.specs.Carries.{carry_at}
use Rattle.pg_law.specs.Round.{IsSent}
use Rattle.pg_graph.specs.Multigraph.{Multigraph}
use Rattle.pg_edge_store.specs.Store.{Store, local_at}
use Rattle.pg_mirrors.specs.Mirrors.{Mirrors, datum_at}
use Rattle.pg_apply_scatter.specs.declared.desk.Desk.{Desk}
use Rattle.pg_apply_scatter.specs.declared.visit.Visits.{Visits}
use Rattle.pg_apply_scatter.specs.Sending.{source_here, target_here}

-- the desk at a place, and the signal there, if any came
abbrev pub desk_at : {Carry : Type 0} → List (Desk Carry) → ℕ → Desk Carry
desk_at desks i = slice_index_or desks i (record { datum = one 0; carry = None; signal = None })

abbrev pub signal_at : {Carry : Type 0} → List (Desk Carry) → ℕ → Option ℕ
signal_at desks i = (desk_at desks i).signal

-- the signal at the desk of a vertex, where it has one
abbrev pub signal_of : {Carry : Type 0} → Mirrors → List (Desk Carry) → ℕ → Option ℕ
signal_of m desks v = signal_at desks (position_or_len (λ u. u == v) m.vertices)

-- the first replicas, those of the vertices below a number, have a desk each, with the datum of the
-- replica and the carry of its vertex
pub record AreDesks {Carry : Type 0} (m : Mirrors) (carries : List (Option Carry)) (below : ℕ)
    (desks : List (Desk Carry)) : Type 0 where
  pub within : length desks ≤ length m.vertices
  pub first : (i : ℕ) → i < length desks → slice_index m.vertices i < below
  pub others : (i : ℕ) → length desks ≤ i → i < length m.vertices → below ≤ slice_index m.vertices i
  pub datum : (i : ℕ) → i < length desks → (desk_at desks i).datum ≡ datum_at m.values i
  pub carry : (i : ℕ) → i < length desks
      → (desk_at desks i).carry ≡ carry_at carries (slice_index m.vertices i)

module _ {Acc Carry : Type 0} (p : Program Acc Carry) where
  -- all signals are the program's
  abbrev pub AreSignalsOf : List (Desk Carry) → Type 0
  AreSignalsOf desks = (i : ℕ) → i < length desks → IsOptional p.IsMessage (signal_at desks i)

  -- the visits of the edge at a place, between its replicas
  pub record AreVisitsAt (g : Multigraph) (m : Mirrors) (carries : List (Option Carry)) (s : Store)
      (place : ℕ) (visits : Visits Acc) : Type 0 where
    pub edge : visits.edge ≡ local_at s place
    pub source : visits.source
        ≡ source_here p g m carries (slice_index s.numbers place) (slice_index s.words place)
    pub target : visits.target
        ≡ target_here p g m carries (slice_index s.numbers place) (slice_index s.words place)

  -- what they give is the program's
  pub record AreSent (visits : Visits Acc) : Type 0 where
    pub source : IsSent p visits.source
    pub target : IsSent p visits.target
