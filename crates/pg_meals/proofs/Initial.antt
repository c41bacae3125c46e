-- The entries of a board at the start, read anywhere, and the core that they show.
use Rattle.std.proofs.Common.{ℕ, ◌<◌, ◌≤◌, ◌≡◌, ◌⊎◌, ◌==◌, ◌&&◌, List, [], ◌∷◌, length, slice_index_or, Bool, true, false, cond, Option, Some, None, inl, inr, refl, sym, ap, subst, ◌∙◌, arith, true≢false}
use Rattle.std.specs.Prelude.{map, slice_index, replicate, Vec}
use Rattle.std.specs.List.{range_with_len}
use Rattle.std.specs.Vec.{vec_capacity}
use Rattle.std.specs.declared.alloc.Global.{Global}
use Rattle.std.proofs.lemmas.List.{get_or_default, get_or_past, get_or-replicate, length-replicate, length-map}
use Rattle.std.proofs.lemmas.List.FromFn.{length-map-range_with_len, get_or-map-range_with_len}
use Rattle.pg_graph.specs.declared.edge.Side.{Side}
use Rattle.pg_graph.specs.declared.edge.Side.TheVariants.{Source, Target}
use Rattle.pg_graph.specs.Multigraph.{Multigraph, IsMultigraph, no_edge, edge_at}
use Rattle.pg_law.specs.declared.values.Datum.{Datum}
use Rattle.pg_law.specs.declared.values.Delta.TheVariants.{Nothing}
use Rattle.pg_law.specs.Values.{two}
use Rattle.pg_law.specs.Configuration.{Configuration, message_in}
use Rattle.pg_delta.specs.declared.cell.CacheCell.{CacheCell}
use Rattle.pg_delta.specs.Cell.{cleared}
use Rattle.pg_cut.specs.WorkerSet.{all_workers}
use Rattle.pg_cut.specs.ByWorker.{lists_in}
use Rattle.pg_cut.specs.Cut.{Division, IsCutOf, in_span, span_of, span_in}
use Rattle.pg_meals.specs.declared.fork.Fork.{Fork}
use Rattle.pg_meals.specs.declared.seat.Seat.{Seat}
use Rattle.pg_meals.specs.declared.seat.Replica.{Replica}
use Rattle.pg_meals.specs.declared.actor.Actor.{Actor}
use Rattle.pg_meals.specs.declared.board.Board.{Board}
use Rattle.pg_meals.specs.Core.{Content}
use Rattle.pg_meals.specs.Setting.{cell_at}
use Rattle.pg_meals.specs.Ranks.{last_entry}
use Rattle.pg_meals.specs.Once.{is_among, Once}
use Rattle.pg_meals.specs.Entries.{at_side, is_actor, idle, no_load, no_fork, no_seat, fork_at, seat_at, actor_at, replicas_at, replica_in, homes}
use Rattle.pg_meals.specs.Shown.{carried, content_of, place_of, notes_of}
use Rattle.pg_meals.specs.Tallies.{left_to_write, IsTallied}
use Rattle.pg_meals.specs.Boards.{IsBoard}
use Rattle.pg_meals.specs.Opening.{new_fork, fork_on, new_seat, seat_on, copy_of, row_on}
use Rattle.pg_meals.specs.Opened.{copies_in, IsOpened}
use Rattle.pg_meals.proofs.At.{false_test}
use Rattle.pg_meals.proofs.Gathers.{below_or_past}
use Rattle.pg_meals.proofs.Distinct.{IsNot, Distinct}
use Rattle.pg_meals.proofs.Tallied.{pins_zero}
use Rattle.pg_meals.proofs.Around.{distinct_numbers}

-- lists without repeats
not_among : (k : ℕ) (xs : List ℕ) → IsNot k xs → is_among k xs ≡ false
not_among k [] n = refl
not_among k (x ∷ xs) n = rw (false_test k x (λ q. n.0 (sym q))) (not_among k xs n.1)

pub once_of : (xs : List ℕ) → Distinct xs → Once xs
once_of [] d = tt
once_of (x ∷ xs) d = (not_among x xs d.0, once_of xs d.1)

span_once : (g : Multigraph) (workers : ℕ) (place : List ℕ) (v : ℕ) → Once (span_of g workers place v)
unfolding all_workers
span_once g workers place v = once_of _ (distinct_numbers (in_span g workers place v) 64)

-- copies of a datum for some workers
homes_copies : (d : Datum) (ks : List ℕ) → homes (map (copy_of d) ks) ≡ ks
homes_copies d [] = refl
homes_copies d (k ∷ ks) = ap (λ xs. k ∷ xs) (homes_copies d ks)

copy_in : (d : Datum) (ks : List ℕ) (k : ℕ) → is_among k ks ≡ true → (replica_in (map (copy_of d) ks) k).datum ≡ d
copy_in d [] k t = absurd (true≢false (sym t))
copy_in d (x ∷ ks) k t = go (k == x) t (copy_in d ks k)
  where
    go : (b : Bool) → cond b true (is_among k ks) ≡ true → (is_among k ks ≡ true → (replica_in (map (copy_of d) ks) k).datum ≡ d) → (cond b (copy_of d x) (replica_in (map (copy_of d) ks) k)).datum ≡ d
    go true t rest = refl
    go false t rest = rest t

-- nothing waits for either end
bare_content : {A : Type 0} (w : ℕ) → ◌≡◌ {A = Content A} (content_of (no_load w)) (record { word = w; message = λ _. None; delta = λ _. Nothing })
bare_content {A} w = λ j. record { word = w; message = λ s. none s j; delta = λ s. nothing s j }
  where
    none : (s : Side) → (at_side {A = A} s (no_load w)).message ≡ None
    none Source = refl
    none Target = refl

    nothing : (s : Side) → (at_side {A = A} s (no_load w)).delta ≡ Nothing
    nothing Source = refl
    nothing Target = refl

module _ {A : Type 0} (g : Multigraph) (cut : Division) (s : Configuration) (cells : List (CacheCell A)) (b : Board A)
    (graph : IsMultigraph g) (is_cut : IsCutOf g cut) (values : length s.values ≡ length g.ids) (messages : length s.messages ≡ length g.ids) (words : length s.edges ≡ length g.edges) (few : length cells ≤ length g.ids)
    (seats_are : b.seats.items ≡ map (seat_on s cells) (range_with_len 0 (length s.values))) (forks_are : b.forks.items ≡ map (fork_on g s.edges) (range_with_len 0 (length g.edges)))
    (workers_are : b.workers.items ≡ map (slice_index cut.place) (range_with_len 0 (length g.edges))) (rows_are : lists_in b.replicas.items ≡ map (row_on cut s.values) (range_with_len 0 (length s.values)))
    (n : ℕ) (actors_are : b.actors.items ≡ replicate n idle) (turn_is : b.turn ≡ None) (journal_is : b.journal.items ≡ []) (room : b.fuel ≤ vec_capacity b.journal) where
  seat_is : (d : Datum) (u : ℕ) → seat_at d b.seats.items u ≡ new_seat (slice_index_or s.values u d) (message_in s.messages u) (cell_at cells u)
  seat_is d u = ap (λ xs. seat_at d xs u) seats_are ∙ go (below_or_past u (length s.values))
    where
      go : (u < length s.values) ⊎ (length s.values ≤ u) → seat_at d (map (seat_on s cells) (range_with_len 0 (length s.values))) u ≡ new_seat (slice_index_or s.values u d) (message_in s.messages u) (cell_at cells u)
      go (inl i) = get_or-map-range_with_len (seat_on s cells) 0 (length s.values) u u (no_seat d) i (omega arith) ∙ ap (λ x. new_seat x (message_in s.messages u) (cell_at cells u)) (get_or_default s.values u (two 0 0) d i)
      go (inr i) =
          let past : seat_at d (map (seat_on s cells) (range_with_len 0 (length s.values))) u ≡ no_seat d = get_or_past _ u (no_seat d) (omega (arith, i, length-map-range_with_len (seat_on s cells) 0 (length s.values))) in
          let value = get_or_past s.values u d i in
          let message = get_or_past s.messages u None (omega (arith, i, values, messages)) in
          let cell = get_or_past cells u cleared (omega (arith, i, values, few)) in
          past ∙ (λ j. new_seat (sym value j) (sym message j) (sym cell j))

  fork_is : (w e : ℕ) → fork_at w b.forks.items e ≡ new_fork (edge_at g e) (slice_index_or s.edges e w)
  fork_is w e = ap (λ xs. fork_at w xs e) forks_are ∙ go (below_or_past e (length g.edges))
    where
      go : (e < length g.edges) ⊎ (length g.edges ≤ e) → fork_at {A = A} w (map (fork_on g s.edges) (range_with_len 0 (length g.edges))) e ≡ new_fork (edge_at g e) (slice_index_or s.edges e w)
      go (inl i) = get_or-map-range_with_len (fork_on g s.edges) 0 (length g.edges) e e (no_fork w) i (omega arith) ∙ ap (new_fork (edge_at g e)) (get_or_default s.edges e 0 w (omega (arith, i, words)))
      go (inr i) =
          let past : fork_at {A = A} w (map (fork_on g s.edges) (range_with_len 0 (length g.edges))) e ≡ no_fork w = get_or_past _ e (no_fork w) (omega (arith, i, length-map-range_with_len (fork_on {A = A} g s.edges) 0 (length g.edges))) in
          let edge = get_or_past g.edges e no_edge i in
          let word = get_or_past s.edges e w (omega (arith, i, words)) in
          past ∙ (λ j. new_fork (sym edge j) (sym word j))

  actor_is : (a : ℕ) → actor_at b.actors.items a ≡ idle
  actor_is a = ap (λ xs. actor_at xs a) actors_are ∙ go (below_or_past a n)
    where
      go : (a < n) ⊎ (n ≤ a) → actor_at (replicate n idle) a ≡ idle
      go (inl i) = get_or-replicate n a idle idle i
      go (inr i) = get_or_past (replicate n idle) a idle (omega (arith, i, length-replicate n idle))

  row_is : (u : ℕ) → replicas_at b.replicas.items u ≡ row_on cut s.values u
  row_is u = ap (λ xs. slice_index_or xs u []) rows_are ∙ go (below_or_past u (length s.values))
    where
      go : (u < length s.values) ⊎ (length s.values ≤ u) → slice_index_or (map (row_on cut s.values) (range_with_len 0 (length s.values))) u [] ≡ row_on cut s.values u
      go (inl i) = get_or-map-range_with_len (row_on cut s.values) 0 (length s.values) u u [] i (omega arith)
      go (inr i) =
          get_or_past _ u [] (omega (arith, i, length-map-range_with_len (row_on cut s.values) 0 (length s.values)))
          ∙ ap (map (copy_of (slice_index_or s.values u (two 0 0)))) (sym (get_or_past cut.spans u [] (omega (arith, i, values, is_cut.count))))

  homes_are : (u : ℕ) → homes (replicas_at b.replicas.items u) ≡ span_in cut u
  homes_are u = ap homes (row_is u) ∙ homes_copies (slice_index_or s.values u (two 0 0)) (span_in cut u)

  worker_is : (e : ℕ) → slice_index_or b.workers.items e 0 ≡ slice_index_or cut.place e 0
  worker_is e = ap (λ xs. slice_index_or xs e 0) workers_are ∙ go (below_or_past e (length g.edges))
    where
      go : (e < length g.edges) ⊎ (length g.edges ≤ e) → slice_index_or (map (slice_index cut.place) (range_with_len 0 (length g.edges))) e 0 ≡ slice_index_or cut.place e 0
      go (inl i) = get_or-map-range_with_len (slice_index cut.place) 0 (length g.edges) e e 0 i (omega arith)
      go (inr i) = get_or_past _ e 0 (omega (arith, i, length-map-range_with_len (slice_index cut.place) 0 (length g.edges))) ∙ sym (get_or_past cut.place e 0 (omega (arith, i, is_cut.placed.count)))

  copies_are : (d : Datum) (v k : ℕ) → is_among k (span_in cut v) ≡ true → (replica_in (replicas_at b.replicas.items v) k).datum ≡ slice_index_or s.values v d
  copies_are d v k t = ap (λ xs. (replica_in xs k).datum) (row_is v) ∙ (copy_in (slice_index_or s.values v (two 0 0)) (span_in cut v) k t ∙ go (below_or_past v (length s.values)))
    where
      go : (v < length s.values) ⊎ (length s.values ≤ v) → slice_index_or s.values v (two 0 0) ≡ slice_index_or s.values v d
      go (inl i) = get_or_default s.values v (two 0 0) d i
      go (inr i) = absurd (true≢false (sym t ∙ ap (is_among k) (get_or_past cut.spans v [] (omega (arith, i, values, is_cut.count)))))

  pub is_opened : IsOpened g cut s cells b
  is_opened = record {
    core = λ w d j. record {
      words = record {
        vertex = λ v. (seat_is d v j).holder;
        fork = λ e. (fork_is w e j).mark.word;
        turn = turn_is j;
        grip = λ a. record {
          vertex = (actor_is a j).vertex;
          pins = λ e. is_actor a (fork_is w e j).mark.pinner;
          taken = λ e. is_actor a (fork_is w e j).mark.pinner && (fork_is w e j).mark.taken;
          evidence = (actor_is a j).evidence;
          committed = (actor_is a j).committed;
          turn = (actor_is a j).turn;
        };
        journal = journal_is j;
      };
      content = λ e. (ap (λ (x : Fork A). content_of (carried (actor_at b.actors.items) x)) (fork_is w e) ∙ bare_content (slice_index_or s.edges e w)) j;
      place = λ v. place_of (seat_is d v j);
      replica = copies_in b;
      notes = λ a. notes_of a (actor_is a j) (λ e. fork_is w e j) (seat_at d b.seats.items) (replicas_at b.replicas.items);
    };
    placed = λ j. record { worker = λ e. worker_is e j; spans = λ v k. is_among k (homes_are v j) };
    copies = copies_are;
  }

  span_is_once : (v : ℕ) → (v < length s.values) ⊎ (length s.values ≤ v) → Once (span_in cut v)
  span_is_once v (inl i) =
      let is : span_in cut v ≡ span_of g cut.workers cut.place v = ap (λ xs. slice_index_or xs v []) is_cut.spans_are ∙ get_or-map-range_with_len (span_of g cut.workers cut.place) 0 (length g.ids) v v [] (omega (arith, i, values)) (omega arith) in
      subst Once (sym is) (span_once g cut.workers cut.place v)
  span_is_once v (inr i) = subst Once (sym (get_or_past cut.spans v [] (omega (arith, i, values, is_cut.count)))) tt

  free : (w e : ℕ) → (fork_at w b.forks.items e).mark.pinner ≡ None
  free w e = ap (λ (x : Fork A). x.mark.pinner) (fork_is w e)

  at_none : (a : ℕ) → (actor_at b.actors.items a).vertex ≡ None
  at_none a = ap (λ (x : Actor). x.vertex) (actor_is a)

  none_some : {X : Type 0} (o : Option X) (x : X) → o ≡ None → o ≡ Some x → ⊥
  none_some {X} o x n q = let two : ◌≡◌ {A = Option X} None (Some x) = sym n ∙ q in cc

  tallied : IsTallied b
  tallied = record {
    pinned = λ a. ap (λ (x : Actor). x.pinned) (actor_is a) ∙ sym (pins_zero b.forks.items a 0 (λ e. ap (is_actor a) (free 0 e)));
    stale = λ a. ap (λ (x : Actor). x.stale) (actor_is a) ∙ ap (λ (x : Actor). left_to_write x.vertex x.committed (replicas_at b.replicas.items)) (sym (actor_is a));
    last = λ v. ap (λ (x : Seat A). x.last) (seat_is (two 0 0) v) ∙ ap (λ xs. last_entry xs v) (sym journal_is);
  }

  pub is_board : IsBoard g b
  is_board = record {
    few = graph.vertex_count;
    seats = ap length seats_are ∙ (length-map-range_with_len (seat_on s cells) 0 (length s.values) ∙ values);
    forks = ap length forks_are ∙ length-map-range_with_len (fork_on g s.edges) 0 (length g.edges);
    workers = ap length workers_are ∙ length-map-range_with_len (slice_index cut.place) 0 (length g.edges);
    replicas = sym (length-map b.replicas.items (λ (r : Vec Replica Global). r.items)) ∙ (ap length rows_are ∙ (length-map-range_with_len (row_on cut s.values) 0 (length s.values) ∙ values));
    once = λ v. subst Once (sym (homes_are v)) (span_is_once v (below_or_past v (length s.values)));
    room = room;
    tallied = tallied;
    free = λ w e n. free w e;
    held = λ w a e q. absurd (none_some _ a (free w e) q);
    ready = λ w a v e s x q. absurd (none_some _ x (ap (λ (y : Actor). y.ready) (actor_is a)) q);
    names = λ d a v q. absurd (none_some _ v (at_none a) q);
    inside = λ a v q. absurd (none_some _ v (at_none a) q);
  }
