use Rattle.std.proofs.Common.{length, ap, arith}
use Rattle.pg_edge_store.proofs.Replicas.{rows_count, row_within}
use Rattle.pg_edge_store.proofs.store.EdgeStore.row.Goals as goal

pub row-requires : goal.row-requires
row-requires c = omega (arith, ap (λ s. length s.vertices) c.self.view_is, rows_count _ c.self.invariant, c.requires)

pub returns-clause-within : goal.returns-clause-within
returns-clause-within c =
    let within = row_within _ c.self.invariant c.args.replica (omega (arith, ap (λ s. length s.vertices) c.self.view_is, c.requires)) in
    rw (← c.self.view_is, c.row.ensures) (λ k d h. omega (arith, c.self.invariant.edges_count, within k d h))
