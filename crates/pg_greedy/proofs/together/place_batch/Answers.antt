use Rattle.std.proofs.Common.{◌<◌, sym, ◌∙◌, ap, arith}
use Rattle.std.specs.List.{range_with_len}
use Rattle.std.proofs.lemmas.Nat.{mod_below}
use Rattle.pg_greedy.specs.Greedy.{Table}
use Rattle.pg_greedy.specs.Loaders.{coordinated_places, table_after}
use Rattle.pg_greedy.proofs.Tables.{is_after}
use Rattle.pg_greedy.proofs.Merging.{own_of, first_apart, merged_again, stand_more, by_draft}
use Rattle.pg_greedy.proofs.together.place_batch.Goals as goal

pub place_apart-requires-clause-table : goal.place_apart-requires-clause-table
place_apart-requires-clause-table c = first_apart c.args.graph.now c.args.workers c.args.loaders c.args.start c.args.end c.requires.some_loaders c.requires.start c.requires.batch c.loop-loader.loader (omega arith) c.loop-loader.table c.prefer.new.self c.loop-loader.invariant.table c.prefer.ensures

pub place_apart-requires-clause-draft : goal.place_apart-requires-clause-draft
place_apart-requires-clause-draft c = let of = own_of c.args.graph.now c.args.workers c.args.loaders c.args.start c.args.end c.requires.some_loaders c.requires.start c.requires.batch c.loop-loader.loader (omega arith) c.loop-loader.table c.prefer.new.self c.loop-loader.invariant.table c.prefer.ensures in rw of.workers_are c.loop-loader.invariant.draft

pub loop-loader-preserved : goal.loop-loader-preserved
loop-loader-preserved c = let of = own_of c.args.graph.now c.args.workers c.args.loaders c.args.start c.args.end c.requires.some_loaders c.requires.start c.requires.batch c.loop-loader.loader (omega arith) c.loop-loader.table c.prefer.new.self c.loop-loader.invariant.table c.prefer.ensures in
    let W = c.args.workers in
    let still = rw of.workers_are at c.place_apart.ensures.still in
    record {
      workers = ap (λ (t : Table). t.workers) c.place_apart.ensures.table ∙ of.workers_are;
      table = merged_again c.args.graph.now c.args.workers c.args.loaders c.args.start c.args.end c.requires.some_loaders c.requires.start c.requires.batch c.loop-loader.loader (omega arith) c.loop-loader.table c.prefer.new.self c.loop-loader.invariant.table c.prefer.ensures c.place_apart.new.table c.place_apart.ensures.table;
      draft = rw of.workers_are at c.place_apart.ensures.draft;
      before = λ x h. still x (c.loop-loader.invariant.before x h);
      stand = stand_more c.args.graph.now c.args.workers c.args.loaders c.args.start c.args.end c.requires.some_loaders c.requires.start c.requires.batch c.loop-loader.loader (omega arith) c.loop-loader.table c.prefer.new.self c.loop-loader.invariant.table c.prefer.ensures c.loop-loader.draft.place.items c.loop-loader.draft.cases.items c.place_apart.new.draft.place.items c.place_apart.new.draft.cases.items
          c.place_apart.ensures.placed c.place_apart.ensures.still c.loop-loader.invariant.before c.loop-loader.invariant.stand;
    }

pub merge-requires-clause-table : goal.merge-requires-clause-table
merge-requires-clause-table c = let g = c.args.graph.now in
    let first = c.loop-loader.table.first in
    let all = coordinated_places g c.args.workers c.args.loaders in
    let draft = c.loop-loader.draft.place.items in
    let before = range_with_len 0 c.args.start in
    c.loop-loader.invariant.table ∙ sym (by_draft g c.args.workers first c.args.start all draft (λ x h. (c.loop-loader.invariant.before x h).place))
    ∙ ap (λ w. table_after g w first draft before) (sym c.loop-loader.invariant.workers) ∙ ap (λ places. table_after g c.loop-loader.table.workers first places before) (sym c.as_slice.ensures.value)

pub returns-clause-workers : goal.returns-clause-workers
returns-clause-workers c = let g = c.args.graph.now in
    (is_after g c.loop-loader.table.workers c.loop-loader.table.first c.as_slice.result.now (range_with_len 0 c.args.end) c.merge.new.table c.merge.ensures).workers_are ∙ c.loop-loader.invariant.workers

pub returns-clause-table : goal.returns-clause-table
returns-clause-table c = let g = c.args.graph.now in
    let first = c.loop-loader.table.first in
    let all = coordinated_places g c.args.workers c.args.loaders in
    let draft = c.loop-loader.draft.place.items in
    let seen = range_with_len 0 c.args.end in
    let some : 0 < c.args.loaders = (let l = c.requires.some_loaders in omega arith) in
    let of = is_after g c.loop-loader.table.workers first c.as_slice.result.now seen c.merge.new.table c.merge.ensures in
    c.merge.ensures ∙ ap (λ places. table_after g c.loop-loader.table.workers first places seen) c.as_slice.ensures.value ∙ ap (λ w. table_after g w first draft seen) c.loop-loader.invariant.workers
    ∙ by_draft g c.args.workers first c.args.end all draft (λ x h. (c.loop-loader.invariant.stand x h (let low = mod_below x c.args.loaders some in omega arith)).place)
    ∙ ap (λ f. table_after g c.args.workers f all seen) (sym of.first_is)
