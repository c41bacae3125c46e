use Rattle.std.proofs.Common.{◌∙◌, ap, map}
use Rattle.std.specs.Prelude.{slice_index}
use Rattle.pg_law.specs.Configuration.{Configuration}
use Rattle.pg_mirrors.specs.Mirrors.{mirrors_of}
use Rattle.pg_cut_tests.proofs.scatter.parts_of.Goals as goal

pub returns : goal.returns
returns c =
    let words = c.as_slice.ensures.value ∙ c.in_ok-words.ensures ∙ ap (λ (s : Configuration). s.edges) c.state.view_is in
    let values = c.as_slice-2.ensures.value ∙ ap (λ (s : Configuration). s.values) c.state.view_is in
    c.shares_are_readable.ensures c.args.graph.now c.args.cut.now c.args.worker c.args.state.now c.in_ok-store.store c.in_ok-mirrors.mirrors
    c.vertices.ensures.graph c.requires.cut c.requires.worker c.requires.fit
    (record {
      edges = c.in_ok-store.ensures.store;
      words = c.in_ok-store.ensures.words ∙ ap (λ es. map (slice_index es) c.in_ok-store.store.numbers) words;
      replicas = c.in_ok-mirrors.ensures ∙ ap (mirrors_of c.args.cut.now c.args.worker) values;
    })
