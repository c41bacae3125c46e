use Rattle.std.proofs.Common.{ℕ, ◌<◌, ◌+◌, ◌++◌, ◌∷◌, [], length, get_or, map, take, sym, subst, ◌∙◌, ap, arith}
use Rattle.std.proofs.lemmas.List.{get_or_default, take_all}
use Rattle.pg_law.specs.declared.values.Applied.{Applied}
use Rattle.pg_law.proofs.Lists.{map_twice}
use Rattle.pg_delta.specs.declared.cell.CacheCell.{CacheCell}
use Rattle.pg_delta.specs.Cell.{cleared}
use Rattle.pg_apply_scatter.specs.Applying.{IsMastered, applied_by, applied_masters}
use Rattle.pg_apply_scatter.specs.Delivering.{cell_in}
use Rattle.pg_apply_scatter.proofs.Reading.{map_more}
use Rattle.pg_sync.specs.Cells.{acc_or}
use Rattle.pg_sync.proofs.cells.apply_cells.Goals as goal

pub apply_cell-became-requires-clause-sum : goal.apply_cell-became-requires-clause-sum
apply_cell-became-requires-clause-sum g c κs within = let i = c.loop-i.i in
    let v = get_or c.args.listed.now i 0 in
    let Mastered : CacheCell g.row.P-Acc.Denot → Type 0 = λ cell. IsMastered (g.P.VertexProgram.meaning c.args.program.now) c.args.graph.now c.args.messages.now (v, acc_or (g.P.VertexProgram.meaning c.args.program.now).empty cell.acc) in
    rw c.index-cells-v.is (subst Mastered (get_or_default c.args.cells.now v cleared c.index-cells-v.result (c.requires.vertices i 0 c.loop-i-test.true)) (c.requires.sums i 0 c.loop-i-test.true))

pub loop-i-preserved : goal.loop-i-preserved
loop-i-preserved g c = let i = c.loop-i.i in
    let v = get_or c.args.listed.now i 0 in
    let listed = c.args.listed.now in
    let below : v < length c.args.cells.now = c.requires.vertices i 0 c.loop-i-test.true in
    let By : ℕ × g.row.P-Acc.Denot → Applied g.row.P-Carry.Denot = applied_by (g.P.VertexProgram.meaning c.args.program.now) c.args.graph.now c.args.values.now c.args.messages.now in
    let Both : ℕ × g.row.P-Acc.Denot → ℕ × Applied g.row.P-Carry.Denot = λ sum. (sum.0, By sum) in
    let Sum : ℕ → ℕ × g.row.P-Acc.Denot = (λ (u : ℕ). (u, acc_or (g.P.VertexProgram.meaning c.args.program.now).empty (cell_in c.args.cells.now u).acc)) in
    let Became : ℕ → ℕ × Applied g.row.P-Carry.Denot = λ u. Both (Sum u) in
    let With : CacheCell g.row.P-Acc.Denot → Applied g.row.P-Carry.Denot = λ cell. By (v, acc_or (g.P.VertexProgram.meaning c.args.program.now).empty cell.acc) in
    let is = c.apply_cell-became.ensures ∙ ap With (c.index-cells-v.is ∙ get_or_default c.args.cells.now v c.index-cells-v.result cleared below) in
    c.in_ok-push.ensures.items ∙ ap (λ xs. xs ++ (v, c.apply_cell-became.result) ∷ []) (c.loop-i.invariant ∙ map_twice Both Sum (take i listed))
    ∙ ap (λ (a : Applied g.row.P-Carry.Denot). map Became (take i listed) ++ (v, a) ∷ []) is ∙ sym (map_more Became listed i 0 c.loop-i-test.true) ∙ sym (map_twice Both Sum (take (i + 1) listed))

pub returns : goal.returns
returns g c = c.loop-i.invariant ∙ ap (λ us. applied_masters (g.P.VertexProgram.meaning c.args.program.now) c.args.graph.now c.args.values.now c.args.messages.now (map (λ (u : ℕ). (u, acc_or (g.P.VertexProgram.meaning c.args.program.now).empty (cell_in c.args.cells.now u).acc)) us)) (take_all c.loop-i.i c.args.listed.now (omega (arith, c.loop-i-test.false)))
