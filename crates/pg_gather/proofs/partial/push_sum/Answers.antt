use Rattle.std.proofs.Common.{◌≡◌, sym, arith, false}
use Rattle.std.proofs.lemmas.Bool.{false≢true, false_from_ne_true}
use Rattle.std.proofs.lemmas.List.{append-nil}
use Rattle.pg_gather.specs.Partials.{has_replica}
use Rattle.pg_gather.proofs.Reading.{in_is_listed, nothing_here}
use Rattle.pg_gather.proofs.partial.push_sum.Goals as goal

pub returns-in_default-clause-sums : goal.returns-in_default-clause-sums
returns-in_default-clause-sums g c =
    let away : has_replica c.args.mirrors.now c.args.u ≡ false = false_from_ne_true _ (λ is. false≢true (c.in_default.ensures.found.1 (in_is_listed c.args.mirrors.now.vertices c.args.u is))) in
    rw away (sym (append-nil c.args.sums.now.items))

pub returns-in_default-clause-counted : goal.returns-in_default-clause-counted
returns-in_default-clause-counted g c =
    let p = g.P.VertexProgram.meaning c.args.program.now in
    rw (nothing_here p c.args.graph.now c.args.store.now c.args.mirrors.now c.args.u p.gather_edges c.requires (λ has. false≢true (c.in_default.ensures.found.1 has))) (omega arith)
