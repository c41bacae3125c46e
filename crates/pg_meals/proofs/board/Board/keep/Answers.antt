use Rattle.std.proofs.Common.{◌<◌, length, slice_set, arith, refl, sym, ap, subst, ◌∙◌}
use Rattle.pg_graph.specs.Multigraph.{edge_at, is_at, edges_at}
use Rattle.pg_law.specs.Values.{two}
use Rattle.std.proofs.Common.{Some}
use Rattle.pg_meals.specs.Once.{Once}
use Rattle.pg_meals.specs.Entries.{no_seat, idle}
use Rattle.pg_meals.specs.Readied.{ArePlanned}
use Rattle.pg_meals.proofs.ListReads.{read_any}
use Rattle.pg_meals.proofs.Around.{distinct_numbers}
use Rattle.pg_meals.proofs.Initial.{once_of}
use Rattle.pg_meals.proofs.board.Board.keep.Goals as goal

pub put_plans-requires-clause-once : goal.put_plans-requires-clause-once
put_plans-requires-clause-once g c =
    subst Once (sym c.edges_of.ensures.value) (once_of (edges_at c.args.graph.now c.args.vertex) (distinct_numbers (λ e. is_at c.args.vertex (edge_at c.args.graph.now e)) (length c.args.graph.now.edges)))

pub returns : goal.returns
returns g c = λ plan is.
    let b = c.args.self.now in
    let es = c.edges_of.ensures.value in
    let v_in : c.args.vertex < length b.seats.items = omega (arith, c.requires.vertex, c.requires.board.seats) in
    let seat = c.index_mut.ensures.value ∙ read_any b.seats.items c.args.vertex c.index_mut.result.now (no_seat (two 0 0)) v_in in
    let actor = c.index-record.ensures ∙ read_any b.actors.items c.args.actor c.index-record.result.now idle c.requires.actor in
    record {
      forks = subst (λ xs. ArePlanned b.forks.items plan xs c.put_plans.new.forks.items) es (c.put_plans.ensures.planned plan (is ∙ ap (Rattle.std.specs.Prelude.map plan) (sym es)));
      count = c.put_plans.ensures.len;
      seats = λ j. slice_set b.seats.items c.args.vertex (record (seat j) { prepared = c.args.cell });
      actors = λ j. slice_set b.actors.items c.args.actor (record (actor j) { ready = Some c.args.ready });
      replicas = refl;
      workers = refl;
      turn = refl;
      journal = refl;
      fuel = refl;
      caches = refl;
    }
