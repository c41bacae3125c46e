use Rattle.std.proofs.Common.{◌≡◌, length, sym, ◌∙◌, arith}
use Rattle.pg_check.proofs.TailLemmas.{values_end}
use Rattle.pg_check.proofs.tail.value_from.Goals as goal

pub returns-else-vertex-vertices-clause-lines : goal.returns-else-vertex-vertices-clause-lines
returns-else-vertex-vertices-clause-lines c = λ name last.
    (let all : length c.args.graph.now.ids ≡ c.args.vertex =
    omega (arith, c.requires.vertex, c.vertices.ensures.value, c.if-vertex-vertices.false) in
    c.signal_from.ensures.lines name last ∙ sym (values_end c.args.graph.now c.args.state.now last name c.args.vertex all))
