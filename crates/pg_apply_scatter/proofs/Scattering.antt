-- The scatters of all workers are the scatter of all edges.
use Rattle.std.proofs.Common.{◌≡◌, ℕ, ◌<◌, Bool, true, false, cond, ◌==◌, Option, Some, None, List, [], ◌∷◌, ◌++◌, length, get_or, map, refl, sym, ◌∙◌, ap, arith}
use Rattle.std.specs.Prelude.{All, filter, fold, slice_index}
use Rattle.std.specs.List.{range_with_len, flat_map, AllByRecursion}
use Rattle.std.proofs.lemmas.List.{get_or-map, ext_get_or, length-map}
use Rattle.std.proofs.lemmas.List.Elements.{recursion_from_All}
use Rattle.std.proofs.lemmas.List.FromFn.{get_or-map-range_with_len, length-map-range_with_len}
use Rattle.std.proofs.lemmas.List.Folds.{fold-map, flat_map-map}
use Rattle.pg_graph.specs.declared.edge.Side.{Side}
use Rattle.pg_graph.specs.declared.edge.Side.TheVariants.{Source, Target}
use Rattle.pg_graph.specs.Multigraph.{Multigraph, IsMultigraph, edge_at, edges_at, end_at, side_at, is_at, opposite, edge_numbers}
use Rattle.pg_graph.proofs.Numbers.{numbers_below, filter_numbers_each}
use Rattle.pg_graph.proofs.Stored.{edges_at_below}
use Rattle.pg_law.specs.declared.values.Datum.{Datum}
use Rattle.pg_law.specs.declared.values.Applied.{Applied}
use Rattle.pg_law.specs.declared.values.Scattered.{Scattered}
use Rattle.pg_law.specs.Program.{Program}
use Rattle.pg_law.specs.Laws.{IsLawful, IsOptional}
use Rattle.pg_law.specs.Monoid.{part}
use Rattle.pg_law.specs.Configuration.{Configuration, message_in}
use Rattle.pg_law.specs.Round.{near_of, became_at, word_after, signal_in, received, join, scatter_by, from_source, word_between, from_target, final_word, signal_to, with_signals, values_after, messages_after, scatter_after}
use Rattle.pg_law.specs.Carries.{carry_at, carry_in}
use Rattle.pg_law.proofs.Fitting.{values_after_own, messages_after_own, signal_to_own}
use Rattle.pg_law.proofs.Lists.{every}
use Rattle.pg_law.proofs.Parts.{signals_in_turn}
use Rattle.pg_cut.specs.Cut.{Division, IsCutOf, edges_on}
use Rattle.pg_edge_store.specs.Store.{Store}
use Rattle.pg_mirrors.specs.Mirrors.{Mirrors}
use Rattle.pg_gather.specs.Shares.{IsShareOf}
use Rattle.pg_gather.proofs.Sharing.{word_is, datum_is, all_readable}
use Rattle.pg_apply_scatter.specs.declared.sent.Sent.{Sent}
use Rattle.pg_apply_scatter.specs.Sending.{near_with, scatter_near, scattered_here, source_here, between_here, target_here, final_at, sent_at, sent_to, words_after, sent_from}
use Rattle.pg_apply_scatter.specs.Delivering.{signals_of}
use Rattle.pg_apply_scatter.specs.Halves.{AreCarriesOf, applied_state, store_after, WorkersScatter}
use Rattle.pg_apply_scatter.proofs.Taking.{over_edge, told, from_other, part_over, take_edges}

-- folds and lists that agree on what stands there
pub folds_agree : {B X : Type 0} (f h : B → X → B) → ((b : B) (x : X) → f b x ≡ h b x) → (b : B) (xs : List X) → fold f b xs ≡ fold h b xs
folds_agree f h same b [] = refl
folds_agree f h same b (x ∷ xs) = ap (λ a. fold f a xs) (same b x) ∙ folds_agree f h same (h b x) xs

pub folds_agree_on : {B X : Type 0} (f h : B → X → B) (xs : List X) → AllByRecursion (λ x. (b : B) → f b x ≡ h b x) xs → (b : B) → fold f b xs ≡ fold h b xs
folds_agree_on f h [] same b = refl
folds_agree_on f h (x ∷ xs) same b = ap (λ a. fold f a xs) (same.0 b) ∙ folds_agree_on f h xs same.1 (h b x)

flat_map_agree_on : {X Y : Type 0} (f h : X → List Y) (xs : List X) → AllByRecursion (λ x. f x ≡ h x) xs → flat_map f xs ≡ flat_map h xs
flat_map_agree_on f h [] same = refl
flat_map_agree_on f h (x ∷ xs) same = rw (same.0) (ap (λ ys. h x ++ ys) (flat_map_agree_on f h xs same.1))

-- a list read place by place
map_reads : (xs : List ℕ) → map (λ i. get_or xs i 0) (range_with_len 0 (length xs)) ≡ xs
map_reads xs = ext_get_or 0 (map (λ i. get_or xs i 0) (range_with_len 0 (length xs))) xs (length-map-range_with_len (λ i. get_or xs i 0) 0 (length xs))
    (λ i h. get_or-map-range_with_len (λ i. get_or xs i 0) 0 (length xs) i i 0 (omega (arith, h, length-map-range_with_len (λ i. get_or xs i 0) 0 (length xs))) (omega arith))

filter_swap : {A : Type 0} (p q : A → Bool) (xs : List A) → filter p (filter q xs) ≡ filter q (filter p xs)
filter_swap p q [] = refl
filter_swap {A = A} p q (x ∷ xs) = chosen (p x) (q x) refl refl (filter_swap p q xs)
  where
    chosen : (a b : Bool) → p x ≡ a → q x ≡ b → filter p (filter q xs) ≡ filter q (filter p xs) → filter p (cond (q x) (x ∷ filter q xs) (filter q xs)) ≡ filter q (cond (p x) (x ∷ filter p xs) (filter p xs))
    chosen true true ep eq rest = rw (eq, ep, eq) (ap (λ ys. x ∷ ys) rest)
    chosen true false ep eq rest = rw (eq, ep, eq) rest
    chosen false true ep eq rest = rw (eq, ep) rest
    chosen false false ep eq rest = rw (eq, ep) rest

-- a worker's edges are numbers of edges
numbers_inside : (place : List ℕ) (worker : ℕ) → All (λ e. e < length place) (edges_on place worker)
numbers_inside place worker = λ i d h. (filter_numbers_each (λ e. get_or place e 0 == worker) (length place) i d h).0

-- a worker's edges at a vertex
pub own_edges : (g : Multigraph) (cut : Division) (worker v : ℕ) → IsCutOf g cut → filter (λ e. is_at v (edge_at g e)) (edges_on cut.place worker) ≡ part (slice_index cut.place) worker (edges_at g v)
own_edges g cut worker v is = filter_swap (λ e. is_at v (edge_at g e)) (λ e. slice_index cut.place e == worker) (range_with_len 0 (length cut.place))
    ∙ ap (λ n. filter (λ e. slice_index cut.place e == worker) (filter (λ e. is_at v (edge_at g e)) (range_with_len 0 n))) is.placed.count

-- a scatter looks at the carry alone
pub by_carry : {Acc Carry : Type 0} (p : Program Acc Carry) (g : Multigraph) (values : List Datum) (side : Side) (e word : ℕ) (o : Option (Applied Carry)) → scatter_near p (near_of g values side e word) (carry_in o) ≡ scatter_by p g values side e word o
by_carry p g values side e word None = refl
by_carry p g values side e word (Some applied) = refl

module _ {Acc Carry : Type 0} (p : Program Acc Carry) (g : Multigraph) (cut : Division) (s : Configuration) (became : List (Option (Applied Carry))) (carries : List (Option Carry)) (worker : ℕ) (store : Store) (mirrors : Mirrors)
    (ok : IsMultigraph g) (is : IsCutOf g cut) (within : worker < cut.workers) (carried : AreCarriesOf carries became) (share : IsShareOf g cut worker (applied_state p g s became) store mirrors) where
  abbrev values : List Datum
  values = values_after p g s.values became

  near_same : (side : Side) (i word : ℕ) → i < length store.numbers → near_with g mirrors side (get_or store.numbers i 0) word ≡ near_of g values side (get_or store.numbers i 0) word
  near_same side i word h = let e = get_or store.numbers i 0 in
      let ends = (all_readable p g cut worker (applied_state p g s became) store mirrors ok is within share i 0 h).ends in
      rw (
        datum_is p g cut worker (applied_state p g s became) store mirrors ok is within share (end_at g side e) (ends side),
        datum_is p g cut worker (applied_state p g s became) store mirrors ok is within share (end_at g (opposite side) e) (ends (opposite side)),
      ) refl

  -- what an end scatters here is what it scatters over the state
  scatter_same : (side : Side) (i word : ℕ) → i < length store.numbers
      → scattered_here p g mirrors carries side (get_or store.numbers i 0) word ≡ scatter_by p g values side (get_or store.numbers i 0) word (became_at became (end_at g side (get_or store.numbers i 0)))
  scatter_same side i word h = let e = get_or store.numbers i 0 in
      ap (λ near. scatter_near p near (carry_at carries (end_at g side e))) (near_same side i word h)
      ∙ ap (scatter_near p (near_of g values side e word)) (carried (end_at g side e))
      ∙ by_carry p g values side e word (became_at became (end_at g side e))

  word_same : (i : ℕ) → i < length store.numbers → get_or store.words i 0 ≡ get_or s.edges (get_or store.numbers i 0) 0
  word_same i h = word_is p g cut worker (applied_state p g s became) store mirrors ok is within share i h

  source_same : (i : ℕ) → i < length store.numbers → source_here p g mirrors carries (get_or store.numbers i 0) (get_or store.words i 0) ≡ from_source p g values s.edges became (get_or store.numbers i 0)
  source_same i h = let e = get_or store.numbers i 0 in
      scatter_same Source i (get_or store.words i 0) h ∙ ap (λ w. scatter_by p g values Source e w (became_at became (end_at g Source e))) (word_same i h)

  between_same : (i : ℕ) → i < length store.numbers → between_here p g mirrors carries (get_or store.numbers i 0) (get_or store.words i 0) ≡ word_between p g values s.edges became (get_or store.numbers i 0)
  between_same i h = let e = get_or store.numbers i 0 in
      ap (word_after (get_or store.words i 0)) (source_same i h) ∙ ap (λ w. word_after w (from_source p g values s.edges became e)) (word_same i h)

  target_same : (i : ℕ) → i < length store.numbers → target_here p g mirrors carries (get_or store.numbers i 0) (get_or store.words i 0) ≡ from_target p g values s.edges became (get_or store.numbers i 0)
  target_same i h = let e = get_or store.numbers i 0 in
      scatter_same Target i (between_here p g mirrors carries e (get_or store.words i 0)) h ∙ ap (λ w. scatter_by p g values Target e w (became_at became (end_at g Target e))) (between_same i h)

  final_same : (i : ℕ) → i < length store.numbers → final_at p g mirrors carries store i ≡ final_word p g values s.edges became (get_or store.numbers i 0)
  final_same i h = let e = get_or store.numbers i 0 in
      ap (λ w. word_after w (target_here p g mirrors carries e (get_or store.words i 0))) (between_same i h) ∙ ap (word_after (word_between p g values s.edges became e)) (target_same i h)

  -- the words here are those of the state after the scatter
  words_same : words_after p g mirrors carries store ≡ map (slice_index (map (final_word p g values s.edges became) (edge_numbers g))) store.numbers
  words_same = ext_get_or 0 (words_after p g mirrors carries store) (map (slice_index (map (final_word p g values s.edges became) (edge_numbers g))) store.numbers)
      (count ∙ sym (length-map store.numbers (slice_index (map (final_word p g values s.edges became) (edge_numbers g)))))
      (λ i h. let inside : i < length store.numbers = omega (arith, h, count) in
      let e = get_or store.numbers i 0 in
      let below = (all_readable p g cut worker (applied_state p g s became) store mirrors ok is within share i 0 inside).edge in
      get_or-map-range_with_len (final_at p g mirrors carries store) 0 (length store.numbers) i i 0 inside (omega arith) ∙ final_same i inside
      ∙ sym (get_or-map-range_with_len (final_word p g values s.edges became) 0 (length g.edges) e e 0 below (omega arith))
      ∙ sym (get_or-map (slice_index (map (final_word p g values s.edges became) (edge_numbers g))) store.numbers i 0 0 inside))
    where
      count : length (words_after p g mirrors carries store) ≡ length store.numbers
      count = length-map-range_with_len (final_at p g mirrors carries store) 0 (length store.numbers)

  -- the worker has its share of the state after the scatter
  pub share_after : IsShareOf g cut worker (scatter_after p g s became) (store_after p g mirrors carries store) mirrors
  share_after = record {
    edges = record {
      numbers = share.edges.numbers;
      vertices = share.edges.vertices;
      over = record { count = share.edges.over.count; ascending = share.edges.over.ascending; within = share.edges.over.within; ends = share.edges.over.ends; rows_are = share.edges.over.rows_are };
    };
    words = words_same;
    replicas = share.replicas;
  }

  abbrev over : ℕ → List (Sent Acc)
  over = over_edge g (from_source p g values s.edges became) (from_target p g values s.edges became)

  abbrev Agree : ℕ → Type 0
  Agree i = sent_at p g mirrors carries store i ≡ over (get_or store.numbers i 0)

  -- what is sent from here is what these edges send
  pub sent_same : sent_from p g mirrors carries store ≡ flat_map (over_edge g (from_source p g values s.edges became) (from_target p g values s.edges became)) (edges_on cut.place worker)
  sent_same = flat_map_agree_on (sent_at p g mirrors carries store) (λ i. over (get_or store.numbers i 0)) (range_with_len 0 (length store.numbers))
      (recursion_from_All Agree (range_with_len 0 (length store.numbers)) (λ k d h. let i = get_or (range_with_len 0 (length store.numbers)) k d in
      each i (numbers_below (length store.numbers) k d h)))
      ∙ sym (flat_map-map over (λ i. get_or store.numbers i 0) (range_with_len 0 (length store.numbers)))
      ∙ ap (flat_map over) (map_reads store.numbers ∙ share.edges.numbers)
    where
      each : (i : ℕ) → i < length store.numbers → sent_at p g mirrors carries store i ≡ over (get_or store.numbers i 0)
      each i h = let e = get_or store.numbers i 0 in
          ap (λ o. sent_to (end_at g Target e) o ++ sent_to (end_at g Source e) (target_here p g mirrors carries e (get_or store.words i 0))) (source_same i h)
          ∙ ap (λ o. sent_to (end_at g Target e) (from_source p g values s.edges became e) ++ sent_to (end_at g Source e) o) (target_same i h)

  pub own_below : AllByRecursion (λ e. e < length g.edges) (edges_on cut.place worker)
  own_below = let Below : ℕ → Type 0 = λ e. e < length g.edges in
      recursion_from_All Below (edges_on cut.place worker) (λ i d h. omega (arith, numbers_inside cut.place worker i d h, is.placed.count))

  -- a vertex hears from this worker over its edges here
  pub signals_here : (v : ℕ) (m : Option ℕ) → signals_of p v m (sent_from p g mirrors carries store) ≡ with_signals p g values s.edges became v m (part (slice_index cut.place) worker (edges_at g v))
  signals_here v m = ap (signals_of p v m) sent_same
      ∙ take_edges (join p.combine) None (λ signal delta. signal) hears_nothing g ok (from_source p g values s.edges became) (from_target p g values s.edges became) v m (edges_on cut.place worker) own_below
      ∙ folds_agree (λ b e. join p.combine b (part_over (join p.combine) None (λ signal delta. signal) hears_nothing g ok (from_source p g values s.edges became) (from_target p g values s.edges became) v e)) (λ b e. join p.combine b (signal_to p g values s.edges became v e)) (λ b e. ap (join p.combine b) (heard e)) m (filter (λ e. is_at v (edge_at g e)) (edges_on cut.place worker))
      ∙ ap (with_signals p g values s.edges became v m) (own_edges g cut worker v is)
    where
      hears_nothing : (m : Option ℕ) → join p.combine m None ≡ m
      hears_nothing None = refl
      hears_nothing (Some m) = refl

      signal_told : (o : Option (Scattered Acc)) → told (join p.combine) None (λ signal delta. signal) hears_nothing o ≡ signal_in o
      signal_told None = refl
      signal_told (Some scattered) = refl

      received_from : (side : Side) (a b : Option ℕ) → from_other side a b ≡ received side a b
      received_from Source a b = refl
      received_from Target a b = refl

      heard : (e : ℕ) → part_over (join p.combine) None (λ signal delta. signal) hears_nothing g ok (from_source p g values s.edges became) (from_target p g values s.edges became) v e ≡ signal_to p g values s.edges became v e
      heard e = received_from (side_at g v e) _ _ ∙ ap (λ a. received (side_at g v e) a (told (join p.combine) None (λ signal delta. signal) hears_nothing (from_target p g values s.edges became e))) (signal_told (from_source p g values s.edges became e))
          ∙ ap (received (side_at g v e) (signal_in (from_source p g values s.edges became e))) (signal_told (from_target p g values s.edges became e))

module _ {Acc Carry : Type 0} (p : Program Acc Carry) (law : IsLawful p) where
  -- every edge at a vertex is placed
  pub edges_placed : (g : Multigraph) (cut : Division) → IsCutOf g cut → (v : ℕ) → AllByRecursion (λ e. slice_index cut.place e < cut.workers) (edges_at g v)
  edges_placed g cut is v = every (λ e. e < length g.edges) (λ e. slice_index cut.place e < cut.workers) (λ e h. is.placed.each e (omega (arith, h, is.placed.count))) (edges_at g v) (edges_at_below g v)

  pub workers_scatter : WorkersScatter p
  workers_scatter g cut s became carries stores mirrors ok is fit applied carried shares = record {
    shares = λ w h. share_after p g cut s became carries w (stores w) (mirrors w) ok is h carried (shares w h);
    messages = λ v h. let m = message_in (messages_after p g s.messages became) v in
        fold-map (signals_of p v) (λ w. sent_from p g (mirrors w) carries (stores w)) m (range_with_len 0 cut.workers)
        ∙ folds_agree_on (λ b w. signals_of p v b (sent_from p g (mirrors w) carries (stores w))) (λ b w. with_signals p g (values_after p g s.values became) s.edges became v b (part (slice_index cut.place) w (edges_at g v))) (range_with_len 0 cut.workers)
        (recursion_from_All (λ w. (b : Option ℕ) → signals_of p v b (sent_from p g (mirrors w) carries (stores w)) ≡ with_signals p g (values_after p g s.values became) s.edges became v b (part (slice_index cut.place) w (edges_at g v))) (range_with_len 0 cut.workers) (λ i d inside. let w = get_or (range_with_len 0 cut.workers) i d in let below = numbers_below cut.workers i d inside in
        λ b. signals_here p g cut s became carries w (stores w) (mirrors w) ok is below carried (shares w below) v b)) m
        ∙ signals_in_turn p law g (values_after p g s.values became) s.edges became v m (slice_index cut.place) cut.workers (edges_at g v) ((messages_after_own p g law ok s.messages became fit.messages applied).each v h) (edges_placed g cut is v)
        (every (λ e. e < length g.edges) (λ e. IsOptional p.IsMessage (signal_to p g (values_after p g s.values became) s.edges became v e)) (λ e below. signal_to_own p g law ok (values_after p g s.values became) s.edges became (values_after_own p g law ok s.values became fit.values applied) fit.words applied v e below) (edges_at g v) (edges_at_below g v))
        ∙ sym (get_or-map-range_with_len (λ u. with_signals p g (values_after p g s.values became) s.edges became u (message_in (messages_after p g s.messages became) u) (edges_at g u)) 0 (length g.ids) v v None h (omega arith));
  }
