use Rattle.std.proofs.Common.{ℕ, ◌+◌, ◌<◌, ◌≡◌, Some, length, arith, sym, ap, subst, ◌∙◌}
use Rattle.pg_law.specs.Values.{two}
use Rattle.pg_meals.specs.declared.seat.Seat.{Seat}
use Rattle.pg_meals.specs.Entries.{no_seat}
use Rattle.pg_meals.proofs.ListReads.{read_any}
use Rattle.pg_meals.proofs.Firsts.{IsFound, quiet_more, least_more}
use Rattle.pg_meals.proofs.board.Board.least_signalled.Goals.{then-is_signalled, else-is_signalled}
use Rattle.pg_meals.proofs.board.Board.least_signalled.Goals as goal

pub loop-vertex-preserved : goal.loop-vertex-preserved
loop-vertex-preserved g c =
    let b = c.args.self.now in
    let graph = c.args.graph.now in
    let n : ℕ = c.loop-vertex.vertex in
    let n_in : n < length b.seats.items = omega (arith, c.loop-vertex-test.true, c.vertices-vertex-end.ensures.value, c.requires.seats) in
    elim c.if-is_signalled.branch [
      | then-is_signalled w ↦
          subst (IsFound graph b (n + 1)) (sym (w.first-is ∙ ap Some w.lesser.ensures))
          (least_more graph b n w.index.result.now.last w.if-is_signalled.ensures (ap (λ (x : Seat _). x.last) (w.index.ensures ∙ read_any b.seats.items n w.index.result.now (no_seat (two 0 0)) n_in) ∙ c.requires.tallied.last n) c.loop-vertex.first c.loop-vertex.invariant)
      | else-is_signalled w ↦
          subst (IsFound graph b (n + 1)) (sym w.first-is) (quiet_more graph b n c.loop-vertex.first c.loop-vertex.invariant w.if-is_signalled.ensures)
    ]

pub returns : goal.returns
returns g c =
    let all : c.loop-vertex.vertex ≡ length c.args.graph.now.ids = omega (arith, c.vertices-vertex-end.ensures.value) in
    subst (λ n. IsFound c.args.graph.now c.args.self.now n c.loop-vertex.first) all c.loop-vertex.invariant
