use Rattle.std.proofs.Common.{◌≡◌, ℕ, ◌<◌, length, get_or, ap, ◌∙◌, arith}
use Rattle.pg_graph.specs.Multigraph.{edge_info}
use Rattle.pg_graph.proofs.Numbers.{grown, grown_all}
use Rattle.std.proofs.lemmas.List.FromFn.{get_or-map-range_with_len}
use Rattle.pg_cut.specs.Mix.{random_place, random_places}
use Rattle.pg_cut.proofs.Kept.{made_length}
use Rattle.pg_cut.proofs.mix.random.Goals as goal

pub loop-e-preserved : goal.loop-e-preserved
loop-e-preserved c = c.in_ok-push.ensures.items ∙ grown (λ e. random_place c.args.workers c.args.seed (edge_info c.args.graph.now e)) c.loop-e.e _ _ c.loop-e.invariant
    (c.random_place.ensures.value ∙ ap (random_place c.args.workers c.args.seed) c.edge_info.ensures.value)

all : (c : goal.After-loop-e) → c.loop-e.place.items ≡ random_places c.args.graph.now c.args.workers c.args.seed
all c = grown_all (λ e. random_place c.args.workers c.args.seed (edge_info c.args.graph.now e)) c.loop-e.e (length c.args.graph.now.edges) c.loop-e.place.items c.loop-e.invariant (omega (arith, ap length c.edges-2.ensures.value))

pub of-requires : goal.of-requires
of-requires c = let f = λ (e : ℕ). random_place c.args.workers c.args.seed (edge_info c.args.graph.now e) in
    let n = length c.args.graph.now.edges in
    let count = made_length f n c.loop-e.place.items (all c) in
    record {
      some = c.requires.some;
      few = c.requires.few;
      count = count;
      each = λ e h. let inside : e < n = omega arith in
          rw (ap (λ xs. get_or xs e 0) (all c) ∙ get_or-map-range_with_len f 0 n e e 0 inside (omega arith)) (omega arith);
    }
