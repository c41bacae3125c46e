use Rattle.std.proofs.Common.{◌<◌, ◌≡◌, length, sym, ap, subst, ◌∙◌, arith}
use Rattle.std.specs.Prelude.{Vec}
use Rattle.std.specs.declared.alloc.Global.{Global}
use Rattle.pg_meals.specs.declared.seat.Replica.{Replica}
use Rattle.pg_meals.specs.Entries.{replicas_at}
use Rattle.pg_meals.proofs.Written.{no_home}
use Rattle.pg_meals.proofs.Copied.{row_at}
use Rattle.pg_meals.proofs.board.Board.home.Goals as goal

pub returns : goal.returns
returns g c =
    let rows = c.args.self.now.replicas.items in
    let same : c.as_slice-row.result.now ≡ replicas_at rows c.args.vertex = c.as_slice-row.ensures.value ∙ (ap (λ (r : Vec Replica Global). r.items) c.index.ensures ∙ sym (row_at rows c.args.vertex c.index.result.now c.requires)) in
    no_home (replicas_at rows c.args.vertex) c.args.worker (λ i d l.
    let l' : i < length c.as_slice-row.result.now = subst (λ xs. i < length xs) (sym same) l in
    c.loop-place.invariant i d (omega (arith, l', c.loop-place-test.false)))
