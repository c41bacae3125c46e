use Rattle.std.proofs.Common.{◌≡◌, ℕ, ◌<◌, ◌≤◌, length, get_or}
use Rattle.pg_gather.specs.Partials.{IsReadable}
use Rattle.pg_apply_scatter.specs.Sending.{listing}
use Rattle.pg_apply_scatter.proofs.Visiting.{AreVisited}
use Rattle.pg_apply_scatter.proofs.scatter.scatter_places.Given as goal

-- the listed places so far are visited, and all others before the next one were left out
abbrev pub invariant-loop-place : goal.invariant-loop-place
invariant-loop-place g l = let p = g.P.VertexProgram.meaning l.program in
    record {
      readable : IsReadable p l.graph l.store l.mirrors;
      visited : AreVisited p l.graph l.mirrors l.carries l.initial.store l.next l.store (λ all. l.sent.items ≡ listing l.with_deltas all);
      passed : (i : ℕ) → i < l.place-index → get_or l.ascending i 0 < l.next;
      within : l.next ≤ length l.initial.store.numbers;
    }
