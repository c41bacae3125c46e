-- What workers that hold a state gather.
use Rattle.std.proofs.Common.{◌≡◌, ◌≢◌, ℕ, suc, ◌+◌, ◌<◌, Bool, true, false, cond, ◌==◌, Option, Some, None, is_some, List, [], ◌∷◌, length, get_or, map, refl, sym, subst, ◌∙◌, ap, arith}
use Rattle.std.specs.Prelude.{All, AllPairs, IfSome, IsSome, Vec, filter, slice_index}
use Rattle.std.specs.List.{range_with_len, AllByRecursion}
use Rattle.std.specs.declared.alloc.Global.{Global}
use Rattle.std.proofs.lemmas.Bool.{false≢true}
use Rattle.std.proofs.lemmas.List.{get_or_default, get_or-map, length-map}
use Rattle.std.proofs.lemmas.List.Elements.{All-map}
use Rattle.std.proofs.lemmas.List.Kept.{AllPairs-filter}
use Rattle.std.proofs.lemmas.List.FromFn.{length-range_with_len, get_or-range_with_len}
use Rattle.pg_graph.specs.Multigraph.{Multigraph, IsMultigraph, side_at, takes, vertices}
use Rattle.pg_graph.proofs.Numbers.{numbers_below, filter_numbers_each}
use Rattle.pg_graph.proofs.Stored.{edges_passing_below}
use Rattle.pg_law.specs.declared.values.Datum.{Datum}
use Rattle.pg_law.specs.Program.{Program}
use Rattle.pg_law.specs.Laws.{IsLawful}
use Rattle.pg_law.specs.Monoid.{part}
use Rattle.pg_law.specs.Configuration.{Configuration, message_in, signalled, is_signalled}
use Rattle.pg_law.specs.Round.{edges_over, fresh}
use Rattle.pg_law.proofs.Fitting.{sum_over_own, fresh_own}
use Rattle.pg_cut.specs.Cut.{Division, IsCutOf}
use Rattle.pg_cut.specs.ByWorker.{lists_in}
use Rattle.pg_mirrors.specs.Mirrors.{Mirrors}
use Rattle.pg_gather.specs.Partials.{IsReadable, has_replica, partial_sum, partial_sums}
use Rattle.pg_gather.specs.Merging.{AreParts, merged}
use Rattle.pg_gather.proofs.Sharing.{readable, partial_is}
use Rattle.pg_gather.proofs.Parting.{merged_are_fresh}
use Rattle.pg_apply_scatter.specs.Pushing.{table_at}
use Rattle.pg_apply_scatter.specs.Applying.{IsMastered, applied_masters}
use Rattle.pg_apply_scatter.specs.Halves.{applied_round}
use Rattle.pg_sync.specs.declared.worker.Scattering.{Scattering}
use Rattle.pg_sync.specs.Phases.{Seat, AreReadable}
use Rattle.pg_sync.specs.Held.{no_worker, store_at, IsHeld, IsShared}

-- lists that were taken from the seats, each what its worker gathered
gathered_from : {Acc : Type 0} (f : ℕ → List (ℕ × Acc)) (a : ℕ) (parts : List (Vec (ℕ × Acc) Global)) (seats : List (Seat Acc)) → map Some parts ≡ map (λ seat. seat.1) seats
    → ((w : ℕ) (d : Seat Acc) → w < length seats → IfSome (get_or seats w d).1 (λ sums. sums.items ≡ f (a + w))) → lists_in parts ≡ map f (range_with_len a (length seats))
gathered_from f a [] [] taken each = refl
gathered_from f a [] (seat ∷ seats) taken each = absurd (cc)
gathered_from f a (list ∷ parts) [] taken each = absurd (cc)
gathered_from {Acc = Acc} f a (list ∷ parts) (seat ∷ seats) taken each =
    let first : Some list ≡ seat.1 = cc in
    let Is : Option (Vec (ℕ × Acc) Global) → Type 0 = λ o. IfSome o (λ sums. sums.items ≡ f (a + 0)) in
    let here : list.items ≡ f a = subst Is (sym first) (each 0 seat (omega arith)) ∙ ap f (omega arith) in
    rw here (ap (λ xs. f a ∷ xs) (gathered_from f (a + 1) parts seats (cc) (λ w d h. (let At : ℕ → Type 0 = λ k. IfSome (get_or seats w d).1 (λ sums. sums.items ≡ f k) in let e : a + suc w ≡ a + 1 + w = omega arith in subst At e) (each (suc w) d (omega (arith, h))))))

within_part : (q : ℕ → Bool) (n : ℕ) (xs : List ℕ) → AllByRecursion (λ e. e < n) xs → AllByRecursion (λ e. e < n) (filter q xs)
within_part q n [] all = tt
within_part q n (x ∷ xs) all = chosen (q x) (within_part q n xs all.1)
  where
    chosen : (b : Bool) → AllByRecursion (λ e. e < n) (filter q xs) → AllByRecursion (λ e. e < n) (cond b (x ∷ filter q xs) (filter q xs))
    chosen true rest = (all.0, rest)
    chosen false rest = rest

-- what is there is some message
there : (o : Option ℕ) → is_some o ≡ true → (m : ℕ) × (o ≡ Some m)
there None is = absurd (false≢true is)
there (Some m) is = (m, refl)

-- those with a message
abbrev pub waits_in : Multigraph → List (Option ℕ) → List ℕ
waits_in g messages = filter (λ v. is_some (message_in messages v)) (vertices g)

numbers_apart : (n : ℕ) → AllPairs (λ a b. a ≢ b) (range_with_len 0 n)
numbers_apart n = λ i j d lt h. let below : j < n = omega (arith, length-range_with_len 0 n) in
    λ same. absurd (omega (arith, get_or-range_with_len 0 n i d (omega arith), get_or-range_with_len 0 n j d below, same))

module _ {Acc Carry : Type 0} (p : Program Acc Carry) (law : IsLawful p) (g : Multigraph) (ok : IsMultigraph g) (cut : Division) (is : IsCutOf g cut) (s : Configuration)
    (workers : List (Scattering Acc)) (mirrors : List Mirrors) (values : List Datum) (messages : List (Option ℕ)) (held : IsHeld p g cut s workers mirrors values messages) where
  readable_at : (w : ℕ) → w < cut.workers → IsReadable p g (store_at workers w) (table_at mirrors w)
  readable_at w h = readable p g cut w s (store_at workers w) (table_at mirrors w) ok is h (held.shares w h) held.fit

  -- all can read their edges
  pub are_readable : AreReadable p g workers mirrors
  are_readable = record {
    each = λ w d h. let Readable : Scattering Acc → Type 0 = λ worker. IsReadable p g worker.store (table_at mirrors w) in
        subst Readable (get_or_default workers w no_worker d h) (readable_at w (omega (arith, held.stores)));
  }

  abbrev pub partials : List ℕ → ℕ → List (ℕ × Acc)
  partials wanted w = partial_sums p g (store_at workers w) (table_at mirrors w) wanted

  pub lists_gathered : (wanted : List ℕ) (parts : List (Vec (ℕ × Acc) Global)) (seats : List (Seat Acc)) → length seats ≡ cut.workers → map Some parts ≡ map (λ seat. seat.1) seats
      → ((w : ℕ) (d : Seat Acc) → w < length seats → IfSome (get_or seats w d).1 (λ sums. sums.items ≡ partials wanted w)) → lists_in parts ≡ map (partials wanted) (range_with_len 0 cut.workers)
  lists_gathered wanted parts seats count taken each = gathered_from (partials wanted) 0 parts seats taken (λ w d h. (let At : ℕ → Type 0 = λ k. IfSome (get_or seats w d).1 (λ sums. sums.items ≡ partials wanted k) in let e : w ≡ 0 + w = omega arith in subst At e) (each w d h))
      ∙ ap (λ n. map (partials wanted) (range_with_len 0 n)) count

  partial_own : (w u : ℕ) → w < cut.workers → p.IsAcc (partial_sum p g (store_at workers w) (table_at mirrors w) u)
  partial_own w u h = let Own : Acc → Type 0 = p.IsAcc in
      subst Own (sym (partial_is p g cut w s (store_at workers w) (table_at mirrors w) ok is h (held.shares w h) u))
      (sum_over_own p g law ok s.values s.edges u (part (slice_index cut.place) w (edges_over p.gather_edges g u)) held.fit.values held.fit.words
      (within_part (λ e. slice_index cut.place e == w) (length g.edges) (edges_over p.gather_edges g u) (edges_passing_below g (λ e. takes p.gather_edges (side_at g u e)) u)))

  -- all that was gathered is the program's
  pub partials_own : (wanted : List ℕ) → All (AreParts p) (map (partials wanted) (range_with_len 0 cut.workers))
  partials_own wanted = All-map (AreParts p) (partials wanted) (range_with_len 0 cut.workers) (λ i d h. let w = get_or (range_with_len 0 cut.workers) i d in
      let Own : ℕ × Acc → Type 0 = λ sum. p.IsAcc sum.1 in
      All-map Own (λ u. (u, partial_sum p g (store_at workers w) (table_at mirrors w) u)) (filter (has_replica (table_at mirrors w)) wanted) (λ k e inside. partial_own w (get_or (filter (has_replica (table_at mirrors w)) wanted) k e) (numbers_below cut.workers i d h)))

  pub wanted_apart : AllPairs (λ a b. a ≢ b) (signalled g s)
  wanted_apart = AllPairs-filter (λ a b. a ≢ b) (is_signalled s) (vertices g) (numbers_apart (length g.ids))

  -- and it comes to the fresh gathers of those that were wanted
  pub merged_is : (wanted : List ℕ) (lists : List (List (ℕ × Acc))) → AllPairs (λ a b. a ≢ b) wanted → lists ≡ map (partials wanted) (range_with_len 0 cut.workers) → merged p wanted lists ≡ map (λ u. (u, fresh p g s u)) wanted
  merged_is wanted lists apart is_lists = ap (merged p wanted) is_lists ∙ merged_are_fresh p law g cut s ok is held.fit wanted apart (store_at workers) (table_at mirrors) held.shares

  -- all that apply are signalled
  pub are_mastered : All (IsMastered p g s.messages) (map (λ u. (u, fresh p g s u)) (signalled g s))
  are_mastered = All-map (IsMastered p g s.messages) (λ u. (u, fresh p g s u)) (signalled g s) (λ i d h. let each = filter_numbers_each (is_signalled s) (length g.ids) i d h in
      record {
        vertex = each.0;
        signalled = there (message_in s.messages (get_or (signalled g s) i d)) each.1;
        own = fresh_own p g law ok s (get_or (signalled g s) i d) held.fit;
      })

  abbrev pub waits : List ℕ
  waits = filter (λ v. is_some (message_in messages v)) (vertices g)

  pub waits_are : waits ≡ signalled g s
  waits_are = ap (λ ms. filter (λ v. is_some (message_in ms v)) (vertices g)) held.messages

  -- so what applies is what a round applies
  pub applied_is : (sums : List (ℕ × Acc)) → sums ≡ map (λ u. (u, fresh p g s u)) (signalled g s) → applied_masters p g values messages sums ≡ applied_round p g s
  applied_is sums is = ap (applied_masters p g values messages) is ∙ ap (λ vs. applied_masters p g vs messages (map (λ u. (u, fresh p g s u)) (signalled g s))) held.values
      ∙ ap (λ ms. applied_masters p g s.values ms (map (λ u. (u, fresh p g s u)) (signalled g s))) held.messages

  pub sums_mastered : (sums : List (ℕ × Acc)) → sums ≡ map (λ u. (u, fresh p g s u)) (signalled g s) → All (IsMastered p g messages) sums
  sums_mastered sums is = let ByMessages : List (Option ℕ) → Type 0 = λ ms. All (IsMastered p g ms) sums in
      let BySums : List (ℕ × Acc) → Type 0 = λ xs. All (IsMastered p g s.messages) xs in
      subst ByMessages (sym held.messages) (subst BySums (sym is) are_mastered)

  pub wanted_distinct : (wanted : List ℕ) → wanted ≡ waits → AllPairs (λ a b. a ≢ b) wanted
  wanted_distinct wanted is = let Apart : List ℕ → Type 0 = λ us. AllPairs (λ a b. a ≢ b) us in subst Apart (sym (is ∙ waits_are)) wanted_apart

-- the counters that are there stay there
pub still_present : {Acc : Type 0} (mid last : List (Seat Acc)) → map (λ seat. seat.0) last ≡ map (λ seat. seat.0) mid → ((w : ℕ) (d : Seat Acc) → w < length mid → IsSome (get_or mid w d).0) → All (λ seat. IsSome seat.0) last
still_present {Acc = Acc} mid last kept each k d h =
    let count : length last ≡ length mid = sym (length-map last (λ (seat : Seat Acc). seat.0)) ∙ ap length kept ∙ length-map mid (λ (seat : Seat Acc). seat.0) in
    let below : k < length mid = omega (arith, h, count) in
    let same : (get_or last k d).0 ≡ (get_or mid k d).0 = sym (get_or-map (λ (seat : Seat Acc). seat.0) last k d d.0 h) ∙ ap (λ xs. get_or xs k d.0) kept ∙ get_or-map (λ (seat : Seat Acc). seat.0) mid k d d.0 below in
    let There : Option ℕ → Type 0 = λ o. IsSome o in
    subst There (sym same) (each k d below)

-- the workers' shares of a state that is held
pub shared_of : {Acc Carry : Type 0} (p : Program Acc Carry) (g : Multigraph) (cut : Division) (s : Configuration) (workers : List (Scattering Acc)) (mirrors : List Mirrors) (values : List Datum) (messages : List (Option ℕ))
    → IsHeld p g cut s workers mirrors values messages → IsShared p g cut s workers mirrors
shared_of p g cut s workers mirrors values messages held = record { fit = held.fit; stores = held.stores; tables = held.tables; shares = held.shares; values = refl; messages = refl }
