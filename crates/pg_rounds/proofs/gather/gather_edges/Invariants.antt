use Rattle.std.proofs.Common.{◌≡◌, ◌<◌, ◌≤◌, ◌+◌, ◌*◌, true, length}
use Rattle.std.specs.Prelude.{fold, sum_by}
use Rattle.std.specs.List.{range_with_len}
use Rattle.pg_law.specs.Configuration.{is_signalled, signalled}
use Rattle.pg_rounds.specs.Gathers.{acc_at, gather_step, AreAccs}
use Rattle.pg_rounds.proofs.Gathering.{below}
use Rattle.pg_rounds.proofs.gather.gather_edges.Given as goal

-- the edges so far are gone over
abbrev pub invariant-loop-e : goal.invariant-loop-e
invariant-loop-e g l = let p = g.P.VertexProgram.meaning l.program in
    record {
      accs : (v : _) → v < length l.graph.ids → is_signalled l.state v ≡ true → acc_at p l.graph l.accs v ≡ fold (gather_step p l.graph l.state v) p.empty (range_with_len 0 l.e);
      own : AreAccs p l.graph l.accs;
      count : l.count ≡ sum_by (below p l.graph l.state l.e) (signalled l.graph l.state);
      few : l.count ≤ 2 * l.e;
      counted : l.steps ≡ l.initial.steps + l.count;
    }
