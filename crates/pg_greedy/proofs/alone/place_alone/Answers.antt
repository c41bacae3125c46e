use Rattle.std.proofs.Common.{◌≡◌, ℕ, ◌*◌, ◌%◌, ◌<◌, length, set, sym, subst, ◌∙◌, ap, arith, ⊎_elim}
use Rattle.std.proofs.lemmas.Bool.{cases_lt}
use Rattle.pg_graph.specs.Multigraph.{Multigraph, edge_at}
use Rattle.pg_greedy.specs.Greedy.{Table, empty_table, greedy}
use Rattle.pg_greedy.specs.Loaders.{oblivious, oblivious_places, table_at, seen, first_of, never}
use Rattle.pg_greedy.specs.Drafts.{StandsAs}
use Rattle.pg_greedy.proofs.Tables.{IsTableOf, is_after, table_after_none}
use Rattle.pg_greedy.proofs.Turns.{next_mod, seen_start, own_before}
use Rattle.pg_greedy.proofs.Placings.{IsSent, placing_sent}
use Rattle.pg_greedy.proofs.Drafting.{room_for, next_table, stands_here, stands_still, first_table}
use Rattle.pg_greedy.proofs.alone.place_alone.Goals as goal

-- how the loaders place alone
sent : (g : Multigraph) (workers loaders : ℕ) → IsSent g workers loaders never (oblivious g workers loaders)
sent g workers loaders = placing_sent g workers loaders never (λ e. omega arith)

pub loop-e-init : goal.loop-e-init
loop-e-init c = let g = c.args.graph.now in
    let places = oblivious_places g c.args.workers c.args.loaders in
    let zero : 0 ≡ 0 * c.args.loaders = omega arith in
    record {
      turn = (seen_start c.args.loaders 0 0 c.args.loader c.args.loader c.requires.loader zero (omega arith)).1;
      table = c.restart.ensures ∙ ap (λ (g : Multigraph). empty_table g c.args.table.now.workers (c.args.loader % c.args.workers)) c.requires.graph ∙ ap (λ w. empty_table g w (c.args.loader % c.args.workers)) c.requires.workers
          ∙ table_after_none g c.args.workers (c.args.loader % c.args.workers) places ∙ sym (first_table g c.args.workers c.args.loaders 0 0 c.args.loader c.args.loader places c.requires.loader zero (omega arith));
      draft = c.requires.draft;
      before = c.requires.before;
      own = λ x h t. absurd (let low : x % c.args.loaders ≡ x = (seen_start c.args.loaders 0 0 x x (let l = c.requires.loader in omega arith) zero (omega arith)).1 in omega arith);
    }

-- the table of the loader, as it comes to an edge
module _ (g : Multigraph) (workers loaders e : ℕ) (table : Table) (at : table ≡ table_at g workers loaders 0 (oblivious_places g workers loaders) e) where
  known : IsTableOf g workers (first_of workers loaders e) (length (seen loaders 0 e)) table
  known = is_after g workers (first_of workers loaders e) (oblivious_places g workers loaders) (seen loaders 0 e) table at

pub place_edge-requires-clause-edge : goal.place_edge-requires-clause-edge
place_edge-requires-clause-edge c = let of = known c.args.graph.now c.args.workers c.args.loaders c.loop-e.e c.loop-e.table c.loop-e.invariant.table in
    rw of.graph (omega (arith, ap length c.edges.ensures.value))

pub place_edge-requires-clause-room : goal.place_edge-requires-clause-room
place_edge-requires-clause-room c = let g = c.args.graph.now in
    room_for g c.args.workers c.args.loaders never (oblivious g c.args.workers c.args.loaders) (sent g c.args.workers c.args.loaders) c.loop-e.e (omega (arith, ap length c.edges.ensures.value))
    c.loop-e.table c.loop-e.invariant.table (omega arith)

pub place_edge-requires-clause-draft : goal.place_edge-requires-clause-draft
place_edge-requires-clause-draft c = let of = known c.args.graph.now c.args.workers c.args.loaders c.loop-e.e c.loop-e.table c.loop-e.invariant.table in
    rw (of.graph, of.workers_are) c.loop-e.invariant.draft

pub loop-e-preserved : goal.loop-e-preserved
loop-e-preserved c = let g = c.args.graph.now in
    let W = c.args.workers in
    let L = c.args.loaders in
    let all = oblivious g W L in
    let e = c.loop-e.e in
    let some : 0 < L = (let l = c.requires.loader in omega arith) in
    let inside : e < length g.edges = omega (arith, ap length c.edges.ensures.value) in
    let of = known g W L e c.loop-e.table c.loop-e.invariant.table in
    let places = c.loop-e.draft.place.items in
    let cases = c.loop-e.draft.cases.items in
    let still = stands_still g W L never all (sent g W L) e inside c.loop-e.table c.loop-e.invariant.table places cases c.loop-e.invariant.draft in
    let here = stands_here g W L never all (sent g W L) e inside c.loop-e.table c.loop-e.invariant.table places cases c.loop-e.invariant.draft in
    record {
      turn = next_mod L e some ∙ c.loop-e.invariant.turn;
      table = c.place_edge.ensures.table ∙ next_table g W L never all (sent g W L) e inside c.loop-e.table c.loop-e.invariant.table some (omega arith);
      draft = rw (of.graph, of.workers_are) at c.place_edge.ensures.draft;
      before = λ x h l. rw (c.place_edge.ensures.place, c.place_edge.ensures.cases) (still x (c.loop-e.invariant.before x h l));
      own = λ x h t. rw (c.place_edge.ensures.place, c.place_edge.ensures.cases) (let le = own_before L e x h (t ∙ sym c.loop-e.invariant.turn) in
          let P : ℕ → Type 0 = λ x. StandsAs all (set places e (greedy c.loop-e.table (edge_at c.loop-e.table.graph e)).worker) (set cases e (greedy c.loop-e.table (edge_at c.loop-e.table.graph e)).case) x in
          ⊎_elim (λ less. still x (c.loop-e.invariant.own x less t)) (λ not_less. let same : e ≡ x = omega arith in subst P same here) (cases_lt x e));
    }

pub returns-clause-graph : goal.returns-clause-graph
returns-clause-graph c = (known c.args.graph.now c.args.workers c.args.loaders c.loop-e.e c.loop-e.table c.loop-e.invariant.table).graph

pub returns-clause-workers : goal.returns-clause-workers
returns-clause-workers c = (known c.args.graph.now c.args.workers c.args.loaders c.loop-e.e c.loop-e.table c.loop-e.invariant.table).workers_are
