use Rattle.std.proofs.Common.{◌≡◌, ℕ, ◌+◌, cond, List, [], ◌∷◌, length, get_or, map, refl, sym, ◌∙◌, ap, arith}
use Rattle.std.specs.Prelude.{filter}
use Rattle.std.specs.List.{range_with_len}
use Rattle.pg_graph.proofs.Numbers.{filter_numbers_more}
use Rattle.pg_cut.specs.WorkerSet.{has}
use Rattle.pg_cut.specs.ByWorker.{lists_in}
use Rattle.pg_cut.proofs.Appending.{grown_lists, no_lists, lists_made}
use Rattle.pg_cut.proofs.by_worker.vertices_by_worker.Goals as goal

-- the vertices below a bound whose sets have a worker
abbrev below : List ℕ → ℕ → ℕ → List ℕ
below spans n w = filter (λ v. has (get_or spans v 0) w) (range_with_len 0 n)

pub loop-v-init : goal.loop-v-init
loop-v-init c = no_lists (below c.args.spans.now 0) c.args.held.now (lists_in c.in_ok-lists.lists.items) c.in_ok-lists.ensures (λ w. refl)

pub loop-v-preserved : goal.loop-v-preserved
loop-v-preserved c =
    let spans = c.args.spans.now in
    let v = c.loop-v.v in
    grown_lists (below spans v) (λ w. cond (has (get_or spans v 0) w) (v ∷ []) []) (below spans (v + 1)) (length c.args.held.now) (lists_in c.loop-v.lists.items) (lists_in c.push_to_each.new.lists.items)
    c.loop-v.invariant c.in_ok-push_to_each.ensures (λ w h. sym (filter_numbers_more (λ u. has (get_or spans u 0) w) v))

pub returns : goal.returns
returns c =
    let spans = c.args.spans.now in
    let all : c.loop-v.v ≡ length spans = omega arith in
    lists_made (below spans c.loop-v.v) (length c.args.held.now) (lists_in c.loop-v.lists.items) c.loop-v.invariant
    ∙ ap (λ n. map (below spans n) (range_with_len 0 (length c.args.held.now))) all
