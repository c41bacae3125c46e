use Rattle.std.proofs.Common.{◌≡◌, ◌+◌, ◌<◌, ◌≤◌, ◌⊎◌, true, false, cond, length}
use Rattle.pg_law.specs.Configuration.{IsFit, is_quiet}
use Rattle.pg_cut.specs.Cut.{Division}
use Rattle.pg_meals.specs.Tables.{AreCaches}
use Rattle.pg_virtual.proofs.Course.{SoFar}
use Rattle.pg_virtual.proofs.run.run_virtual.Given as goal

abbrev pub invariant-loop-going : goal.invariant-loop-going
invariant-loop-going g l = let p = g.P.VertexProgram.meaning l.program in
    record {
      so_far : SoFar p l.graph (g.T.EntryText.text l.text l.graph) l.fuel l.fn.state l.state l.left l.tally.all l.tally.seen.items
          (g.K.Sink.written l.fn.journal) (g.K.Sink.written l.journal) l.waiting.items;
      fit : IsFit p l.graph l.state;
      caches : (cut : Division) → AreCaches p l.graph cut l.state l.caches;
      len : length l.tally.seen.items ≡ length l.graph.ids;
      counted : l.fn.steps ≤ l.steps;
      later : g.K.Sink.faults l.fn.journal ≤ g.K.Sink.faults l.journal;
      goes : l.going ≡ true → 0 < l.left;
      over : l.going ≡ false → (is_quiet l.graph l.state ≡ true) ⊎ (l.left ≡ 0);
    }

abbrev pub decreases-loop-going : goal.decreases-loop-going
decreases-loop-going g l = l.left + cond l.going 1 0
