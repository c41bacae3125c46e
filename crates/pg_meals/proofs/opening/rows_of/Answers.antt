use Rattle.std.proofs.Common.{ap, ◌∙◌}
use Rattle.std.specs.Prelude.{Vec, map}
use Rattle.std.specs.declared.alloc.Global.{Global}
use Rattle.std.proofs.lemmas.List.{map_push}
use Rattle.pg_graph.proofs.Numbers.{grown}
use Rattle.pg_cut.specs.ByWorker.{lists_in}
use Rattle.pg_meals.specs.declared.seat.Replica.{Replica}
use Rattle.pg_meals.specs.Opening.{copy_of, row_on}
use Rattle.pg_meals.proofs.opening.rows_of.Goals as goal

pub loop-v-preserved : goal.loop-v-preserved
loop-v-preserved c =
    let row = c.in_ok-row_of.field-0 in
    ap lists_in c.in_ok-push.ensures.items
    ∙ (map_push (λ (r : Vec Replica Global). r.items) c.loop-v.rows.items row
    ∙ grown (row_on c.args.cut.now c.args.values.now) c.loop-v.v (lists_in c.loop-v.rows.items) row.items c.loop-v.invariant
    (c.in_ok-row_of.ensures ∙ ap (map (copy_of _)) c.span.ensures))
