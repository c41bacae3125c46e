use Rattle.std.proofs.Common.{◌≡◌, ◌<◌, true, ℕ, List, length, sym, subst}
use Rattle.std.specs.List.{All}
use Rattle.pg_graph.proofs.Numbers.{filter_numbers_each}
use Rattle.pg_rounds.specs.Carries.{outcomes_with}
use Rattle.pg_rounds.specs.Visits.{executes_in}
use Rattle.pg_rounds.proofs.sweep.visit_all.Goals as goal

-- each of the frontier is a vertex
pub is_dense-requires : goal.is_dense-requires
is_dense-requires g c = let P = λ (v : ℕ). (v < length c.args.graph.now.ids) × (executes_in (outcomes_with (g.P.VertexProgram.meaning c.args.program.now) c.args.graph.now c.args.carries.now) v ≡ true) in
    let Q = λ (vs : List ℕ). All P vs in
    let each = subst Q (sym c.requires.frontier) (filter_numbers_each (executes_in (outcomes_with (g.P.VertexProgram.meaning c.args.program.now) c.args.graph.now c.args.carries.now)) (length c.args.graph.now.ids)) in
    λ k d h. (each k d h).0
