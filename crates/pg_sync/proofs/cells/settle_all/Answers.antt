use Rattle.std.proofs.Common.{ℕ, not, cond, ◌<◌, ◌++◌, ◌∷◌, [], length, get_or, take, refl, sym, subst, ◌∙◌, ap, arith}
use Rattle.std.specs.Prelude.{filter}
use Rattle.std.proofs.lemmas.List.{get_or_default, take_all, append-nil}
use Rattle.pg_delta.specs.declared.cell.CacheCell.{CacheCell}
use Rattle.pg_delta.specs.Cell.{IsCell, cleared}
use Rattle.pg_sync.specs.Cells.{keeps}
use Rattle.pg_sync.proofs.Settling.{passes_more, keeps_now, here_more, others_more, own_more}
use Rattle.pg_sync.proofs.cells.settle_all.Goals as goal

pub settle-requires-after_bounds : goal.settle-requires-after_bounds
settle-requires-after_bounds g c κs within = let i = c.loop-i.i in
    let v = get_or c.args.listed.now i 0 in
    let cells = c.loop-i.cells in
    let below : v < length cells = omega (arith, c.requires.vertices i 0 c.loop-i-test.true, c.loop-i.auto.cells) in
    let Own : CacheCell g.row.P-Acc.Denot → Type 0 = λ cell. IsCell (g.P.VertexProgram.meaning c.args.program.now) cell in
    subst Own (get_or_default cells v cleared c.index-cells-v.result below) (c.loop-i.invariant.own v below)

pub loop-i-preserved-then-branch : goal.loop-i-preserved-then-branch
loop-i-preserved-then-branch g c = let i = c.loop-i.i in
    let v = get_or c.args.listed.now i 0 in
    let cells = c.loop-i.cells in
    let below : v < length cells = omega (arith, c.requires.vertices i 0 c.loop-i-test.true, c.loop-i.auto.cells) in
    let q = λ (u : ℕ). not (keeps (g.P.VertexProgram.meaning c.args.program.now) c.args.cells.now u) in
    let kept = sym (keeps_now (g.P.VertexProgram.meaning c.args.program.now) c.args.cells.now cells c.args.listed.now c.requires.apart i c.loop-i-test.true v refl below c.index-cells-v.result c.settle.new.self c.in_ok-settle.ensures.ok c.loop-i.invariant.here c.loop-i.invariant.others) ∙ sym c.in_ok-settle.ensures.there ∙ c.if-branch.true in
    record {
      wanted = c.loop-i.invariant.wanted ∙ sym (append-nil (filter q (take i c.args.listed.now))) ∙ ap (λ b. filter q (take i c.args.listed.now) ++ cond (not b) (v ∷ []) []) (sym kept) ∙ sym (passes_more q c.args.listed.now i 0 c.loop-i-test.true);
      here = here_more (g.P.VertexProgram.meaning c.args.program.now) c.args.cells.now cells c.args.listed.now c.requires.apart i c.loop-i-test.true v refl below c.index-cells-v.result c.settle.new.self c.in_ok-settle.ensures.ok c.loop-i.invariant.here c.loop-i.invariant.others;
      others = others_more (g.P.VertexProgram.meaning c.args.program.now) c.args.cells.now cells c.args.listed.now c.requires.apart i c.loop-i-test.true v refl below c.index-cells-v.result c.settle.new.self c.in_ok-settle.ensures.ok c.loop-i.invariant.here c.loop-i.invariant.others;
      own = own_more (g.P.VertexProgram.meaning c.args.program.now) c.args.cells.now cells c.args.listed.now c.requires.apart i c.loop-i-test.true v refl below c.index-cells-v.result c.settle.new.self c.in_ok-settle.ensures.ok c.loop-i.invariant.here c.loop-i.invariant.others c.loop-i.invariant.own c.in_ok-settle.ensures.own;
    }

pub loop-i-preserved : goal.loop-i-preserved
loop-i-preserved g c = let i = c.loop-i.i in
    let v = get_or c.args.listed.now i 0 in
    let cells = c.loop-i.cells in
    let below : v < length cells = omega (arith, c.requires.vertices i 0 c.loop-i-test.true, c.loop-i.auto.cells) in
    let q = λ (u : ℕ). not (keeps (g.P.VertexProgram.meaning c.args.program.now) c.args.cells.now u) in
    let kept = sym (keeps_now (g.P.VertexProgram.meaning c.args.program.now) c.args.cells.now cells c.args.listed.now c.requires.apart i c.loop-i-test.true v refl below c.index-cells-v.result c.settle.new.self c.in_ok-settle.ensures.ok c.loop-i.invariant.here c.loop-i.invariant.others) ∙ sym c.in_ok-settle.ensures.there ∙ c.if-branch.false in
    record {
      wanted = c.in_ok-push.ensures.items ∙ ap (λ xs. xs ++ v ∷ []) c.loop-i.invariant.wanted ∙ ap (λ b. filter q (take i c.args.listed.now) ++ cond (not b) (v ∷ []) []) (sym kept) ∙ sym (passes_more q c.args.listed.now i 0 c.loop-i-test.true);
      here = here_more (g.P.VertexProgram.meaning c.args.program.now) c.args.cells.now cells c.args.listed.now c.requires.apart i c.loop-i-test.true v refl below c.index-cells-v.result c.settle.new.self c.in_ok-settle.ensures.ok c.loop-i.invariant.here c.loop-i.invariant.others;
      others = others_more (g.P.VertexProgram.meaning c.args.program.now) c.args.cells.now cells c.args.listed.now c.requires.apart i c.loop-i-test.true v refl below c.index-cells-v.result c.settle.new.self c.in_ok-settle.ensures.ok c.loop-i.invariant.here c.loop-i.invariant.others;
      own = own_more (g.P.VertexProgram.meaning c.args.program.now) c.args.cells.now cells c.args.listed.now c.requires.apart i c.loop-i-test.true v refl below c.index-cells-v.result c.settle.new.self c.in_ok-settle.ensures.ok c.loop-i.invariant.here c.loop-i.invariant.others c.loop-i.invariant.own c.in_ok-settle.ensures.own;
    }

pub returns-clause-wanted : goal.returns-clause-wanted
returns-clause-wanted g c = c.loop-i.invariant.wanted ∙ ap (filter (λ u. not (keeps (g.P.VertexProgram.meaning c.args.program.now) c.args.cells.now u))) (take_all c.loop-i.i c.args.listed.now (omega (arith, c.loop-i-test.false)))

pub returns-clause-settled : goal.returns-clause-settled
returns-clause-settled g c = record {
  here = λ k h. c.loop-i.invariant.here k (omega (arith, h, c.loop-i-test.false));
  others = λ v none. c.loop-i.invariant.others v (λ k h. none k (omega (arith, h, c.loop-i.auto.i-end)));
}
