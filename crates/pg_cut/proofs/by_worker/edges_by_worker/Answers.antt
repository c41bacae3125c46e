use Rattle.std.proofs.Common.{◌≡◌, ℕ, ◌+◌, ◌==◌, cond, List, [], ◌∷◌, length, get_or, map, refl, sym, ◌∙◌, ap, arith}
use Rattle.std.specs.Prelude.{filter}
use Rattle.std.specs.List.{range_with_len}
use Rattle.pg_graph.proofs.Numbers.{filter_numbers_more}
use Rattle.pg_cut.specs.ByWorker.{lists_in}
use Rattle.pg_cut.proofs.Appending.{grown_lists, no_lists, lists_made}
use Rattle.pg_cut.proofs.by_worker.edges_by_worker.Goals as goal

-- the edges below a bound that lie on a worker
abbrev below : List ℕ → ℕ → ℕ → List ℕ
below place n w = filter (λ e. get_or place e 0 == w) (range_with_len 0 n)

pub loop-e-init : goal.loop-e-init
loop-e-init c = no_lists (below c.args.place.now 0) c.args.loads.now (lists_in c.in_ok-lists.lists.items) c.in_ok-lists.ensures (λ w. refl)

pub loop-e-preserved : goal.loop-e-preserved
loop-e-preserved c =
    let place = c.args.place.now in
    let e = c.loop-e.e in
    grown_lists (below place e) (λ w. cond (get_or place e 0 == w) (e ∷ []) []) (below place (e + 1)) (length c.args.loads.now) (lists_in c.loop-e.lists.items) (lists_in c.push_at.new.lists.items)
    c.loop-e.invariant c.in_ok-push_at.ensures (λ w h. sym (filter_numbers_more (λ k. get_or place k 0 == w) e))

pub returns : goal.returns
returns c =
    let place = c.args.place.now in
    let all : c.loop-e.e ≡ length place = omega arith in
    lists_made (below place c.loop-e.e) (length c.args.loads.now) (lists_in c.loop-e.lists.items) c.loop-e.invariant
    ∙ ap (λ n. map (below place n) (range_with_len 0 (length c.args.loads.now))) all
