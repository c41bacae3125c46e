use Rattle.std.proofs.Common.{ℕ, ◌<◌, length, arith, sym, ap, ◌∙◌}
use Rattle.pg_meals.specs.declared.fork.Fork.{Fork}
use Rattle.pg_meals.specs.Entries.{no_fork}
use Rattle.pg_meals.proofs.ListReads.{read_any}
use Rattle.pg_meals.proofs.Riding.{pinner_in}
use Rattle.pg_meals.proofs.board.Board.content.Goals as goal

pub index-requires : goal.index-requires
index-requires g c =
    let b = c.args.self.now in
    let e : ℕ = c.args.edge in
    let e_in : e < length b.forks.items = omega (arith, c.requires.edge, c.requires.board.forks) in
    let fork_is = c.index-fork.ensures ∙ read_any b.forks.items e c.index-fork.result.now (no_fork 0) e_in in
    let inside = pinner_in c.args.graph.now b c.requires.board 0 e c.in-Some.pinner (ap (λ (z : Fork _). z.mark.pinner) (sym fork_is) ∙ c.in-Some.is) in
    omega (arith, inside)
