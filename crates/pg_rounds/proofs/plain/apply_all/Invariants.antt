use Rattle.std.proofs.Common.{◌≡◌, ◌+◌, ◌*◌, ◌^◌, ◌≤◌, true, length}
use Rattle.std.specs.Prelude.{map, filter, sum_by}
use Rattle.std.specs.List.{range_with_len}
use Rattle.pg_law.specs.Configuration.{is_signalled}
use Rattle.pg_law.specs.Round.{outcome, edges_over}
use Rattle.pg_rounds.proofs.plain.apply_all.Given as goal

abbrev pub invariant-loop-v : goal.invariant-loop-v
invariant-loop-v g l = let p = g.P.VertexProgram.meaning l.program in
    let seen = filter (is_signalled l.state) (range_with_len 0 l.v) in
    record {
      became : l.became.items ≡ map (outcome p l.graph l.state (λ v. true)) (range_with_len 0 l.v);
      executions : l.executions ≡ length seen;
      gathers : l.gathers ≡ sum_by (λ u. length (edges_over p.gather_edges l.graph u)) seen;
      counted : l.steps ≡ l.initial.steps + l.gathers;
      few : l.executions ≤ l.v;
      few_gathers : l.gathers ≤ l.v * 2 ^ 24;
    }
