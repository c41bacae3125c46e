use Rattle.std.proofs.Common.{◌≡◌, ◌+◌, length, take}
use Rattle.std.specs.Prelude.{filter}
use Rattle.pg_graph.specs.Multigraph.{takes, side_at}
use Rattle.pg_meals.specs.Plans.{gather_along}
use Rattle.pg_meals.proofs.gathering.gather_noted.Given as goal

-- the gather edges so far are gathered
abbrev pub invariant-loop-e : goal.invariant-loop-e
invariant-loop-e g l = let p = g.P.VertexProgram.meaning l.program in
    let seen = filter (λ e. takes p.gather_edges (side_at l.graph l.vertex e)) (take l.e-index l.around) in
    record {
      gathered : l.acc ≡ gather_along p l.graph l.forks l.centre l.vertex seen;
      own : p.IsAcc l.acc;
      counted : l.steps ≡ l.initial.steps + length seen;
    }
