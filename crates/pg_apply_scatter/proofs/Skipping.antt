-- The places at which nobody with a carry scatters, and what is left out with them.
use Rattle.std.proofs.Common.{◌≡◌, ◌≢◌, ℕ, zero, suc, ◌+◌, ◌-◌, ◌<◌, ◌≤◌, Bool, true, false, cond, ◌&&◌, ◌||◌, ◌==◌, Option, Some, None, is_some, List, [], ◌++◌, length, get_or, refl, sym, subst, ◌∙◌, ap, arith, ⊎_elim}
use Rattle.std.specs.Prelude.{All, filter}
use Rattle.std.specs.List.{range_with_len, list_any}
use Rattle.std.specs.List.Sorted.{IsPermutation, IsSorted, IsNonDecreasing}
use Rattle.std.proofs.lemmas.Bool.{eq-eqb, ne_eqb, true≢false, false_from_ne_true, cases_lt}
use Rattle.std.proofs.lemmas.List.{append-nil, get_or_default}
use Rattle.pg_graph.proofs.Numbers.{filter_numbers_each}
use Rattle.std.proofs.lemmas.List.Elements.{All-append, All-nil}
use Rattle.std.proofs.lemmas.List.Folds.{list_any_none, list_any-append, list_any_at}
use Rattle.std.proofs.lemmas.List.Sorted.{All-permutation, list_any-IsPermutation, IsNonDecreasingBy-from_sort}
use Rattle.std.specs.Ordering.{nat_cmp}
use Rattle.pg_graph.specs.declared.edge.Edge.{Edge}
use Rattle.pg_graph.specs.declared.edge.Side.{Side}
use Rattle.pg_graph.specs.declared.edge.Side.TheVariants.{Source, Target}
use Rattle.pg_graph.specs.declared.edge.Dir.{Dir}
use Rattle.pg_graph.specs.Multigraph.{Multigraph, IsMultigraph, edge_at, end_of, end_at, is_at, side_of, takes}
use Rattle.pg_cut.proofs.Passing.{passing_at, passing_longer}
use Rattle.pg_law.specs.Program.{Program}
use Rattle.pg_law.specs.Carries.{carry_at}
use Rattle.pg_law.specs.Round.{word_after}
use Rattle.pg_edge_store.specs.Store.{Store, is_around, places_around}
use Rattle.pg_mirrors.specs.Mirrors.{Mirrors}
use Rattle.pg_gather.proofs.Sharing.{at_end}
use Rattle.pg_apply_scatter.specs.declared.sent.Sent.{Sent}
use Rattle.pg_apply_scatter.specs.Places.{is_listed, ArePlaces}
use Rattle.pg_apply_scatter.specs.Sending.{near_with, scatter_near, scattered_here, source_here, final_at, sent_at, sent_to}
use Rattle.pg_apply_scatter.proofs.Visiting.{AreVisited, sent_below, sent_more}

-- a place that a vertex scatters over is among those around it
among : (g : Multigraph) (numbers : List ℕ) (v : ℕ) (dir : Dir) (k : ℕ) → k < length numbers → is_around v dir (edge_at g (get_or numbers k 0)) ≡ true → (places : List ℕ)
    → All (λ i. is_listed places i ≡ true) (places_around g numbers v dir) → is_listed places k ≡ true
among g numbers v dir k h around places all =
    let at = λ (i : ℕ). is_around v dir (edge_at g (get_or numbers i 0)) in
    let i = length (filter at (range_with_len 0 k)) in
    let Listed : ℕ → Type 0 = λ j. is_listed places j ≡ true in
    subst Listed (passing_at at k (length numbers) h around) (all i 0 (passing_longer at k (length numbers) h around))

-- an end of an edge stands at its side
side_is : (side : Side) (edge : Edge) → edge.src ≢ edge.dst → side_of (end_of side edge) edge ≡ side
side_is Source edge apart = ap (λ b. cond b Source Target) (eq-eqb edge.src edge.src refl)
side_is Target edge apart = ap (λ b. cond b Source Target) (ne_eqb edge.src edge.dst apart)

module _ {Acc Carry : Type 0} (p : Program Acc Carry) (g : Multigraph) (m : Mirrors) (carries : List (Option Carry)) (ok : IsMultigraph g) (count : length carries ≡ length g.ids) (s : Store) (places : List ℕ)
    (are : ArePlaces g s.numbers p.scatter_edges carries (length g.ids) places) (inside : All (λ e. e < length g.edges) s.numbers) where
  -- at a place that isn't listed no end scatters
  silent : (k : ℕ) → k < length s.numbers → is_listed places k ≡ false → (side : Side) (word : ℕ) → scattered_here p g m carries side (get_or s.numbers k 0) word ≡ None
  silent k h absent side word = by_carry (carry_at carries v) refl
    where
      e : ℕ
      e = get_or s.numbers k 0

      v : ℕ
      v = end_at g side (get_or s.numbers k 0)

      below : (side : Side) → end_at g side (get_or s.numbers k 0) < length g.ids
      below Source = (ok.edge (get_or s.numbers k 0) (inside k 0 h)).src
      below Target = (ok.edge (get_or s.numbers k 0) (inside k 0 h)).dst

      not_around : is_some (carry_at carries (end_at g side (get_or s.numbers k 0))) ≡ true → is_around (end_at g side (get_or s.numbers k 0)) p.scatter_edges (edge_at g (get_or s.numbers k 0)) ≡ false
      not_around carried = false_from_ne_true (is_around (end_at g side (get_or s.numbers k 0)) p.scatter_edges (edge_at g (get_or s.numbers k 0)))
          (λ around. true≢false (sym (among g s.numbers (end_at g side (get_or s.numbers k 0)) p.scatter_edges k h around places (are.listed (end_at g side (get_or s.numbers k 0)) (below side) carried)) ∙ absent))

      takes_not : is_some (carry_at carries (end_at g side (get_or s.numbers k 0))) ≡ true → takes p.scatter_edges side ≡ false
      takes_not carried = let edge = edge_at g (get_or s.numbers k 0) in
          sym (ap (λ b. b && takes p.scatter_edges side) (at_end side edge))
          ∙ sym (ap (λ z. is_at (end_of side edge) edge && takes p.scatter_edges z) (side_is side edge (ok.edge (get_or s.numbers k 0) (inside k 0 h)).apart))
          ∙ not_around carried

      by_carry : (carry : Option Carry) → carry_at carries (end_at g side (get_or s.numbers k 0)) ≡ carry → scatter_near p (near_with g m side (get_or s.numbers k 0) word) (carry_at carries (end_at g side (get_or s.numbers k 0))) ≡ None
      by_carry None is = ap (scatter_near p (near_with g m side (get_or s.numbers k 0) word)) is
      by_carry (Some carry) is = ap (scatter_near p (near_with g m side (get_or s.numbers k 0) word)) is
          ∙ ap (λ b. cond b (Some (p.scatter (near_with g m side (get_or s.numbers k 0) word) carry)) None) (takes_not (ap is_some is))

  final_stays : (k : ℕ) → k < length s.numbers → is_listed places k ≡ false → final_at p g m carries s k ≡ get_or s.words k 0
  final_stays k h absent = let e = get_or s.numbers k 0 in let word = get_or s.words k 0 in
      ap (λ o. word_after (word_after word (source_here p g m carries e word)) o) (silent k h absent Target (word_after word (source_here p g m carries e word)))
      ∙ ap (word_after word) (silent k h absent Source word)

  nothing_sent : (k : ℕ) → k < length s.numbers → is_listed places k ≡ false → sent_at p g m carries s k ≡ []
  nothing_sent k h absent = let e = get_or s.numbers k 0 in let word = get_or s.words k 0 in
      ap (λ o. sent_to (end_at g Target e) (source_here p g m carries e word) ++ sent_to (end_at g Source e) o) (silent k h absent Target (word_after word (source_here p g m carries e word)))
      ∙ ap (λ o. sent_to (end_at g Target e) o ++ []) (silent k h absent Source word)

  -- a place that isn't listed may be left out
  skip_one : (n : ℕ) (store : Store) (P : List (Sent Acc) → Type 0) → n < length s.numbers → is_listed places n ≡ false → AreVisited p g m carries s n store P → AreVisited p g m carries s (n + 1) store P
  skip_one n store P h absent visited = record {
    kept = visited.kept;
    count = visited.count;
    done = λ k below. ⊎_elim (λ lt. visited.done k lt) (λ ge. let same : k ≡ n = omega arith in rw same (visited.rest n (omega arith) ∙ sym (final_stays n h absent))) (cases_lt k n);
    rest = λ k above. visited.rest k (omega arith);
    sent = subst P (sym (append-nil (sent_below p g m carries s n)) ∙ ap (λ xs. sent_below p g m carries s n ++ xs) (sym (nothing_sent n h absent)) ∙ sym (sent_more p g m carries s n)) visited.sent;
  }

  -- and so may all from one place to another
  skip_some : (n more : ℕ) (store : Store) (P : List (Sent Acc) → Type 0) → n + more ≤ length s.numbers → ((k : ℕ) → n ≤ k → k < n + more → is_listed places k ≡ false) → AreVisited p g m carries s n store P → AreVisited p g m carries s (n + more) store P
  skip_some n zero store P within absent visited = let Visited : ℕ → Type 0 = λ k. AreVisited p g m carries s k store P in
      let e : n ≡ n + 0 = omega arith in
      subst Visited e visited
  skip_some n (suc more) store P within absent visited = let Visited : ℕ → Type 0 = λ k. AreVisited p g m carries s k store P in
      let e : (n + more) + 1 ≡ n + suc more = omega arith in
      subst Visited e (skip_one (n + more) store P (omega arith) (absent (n + more) (omega arith) (omega arith)) (skip_some n more store P (omega arith) (λ k low high. absent k low (omega arith)) visited))

  pub skip_to : (n m' : ℕ) (store : Store) (P : List (Sent Acc) → Type 0) → n ≤ m' → m' ≤ length s.numbers → ((k : ℕ) → n ≤ k → k < m' → is_listed places k ≡ false) → AreVisited p g m carries s n store P → AreVisited p g m carries s m' store P
  skip_to n m' store P up within absent visited = let Visited : ℕ → Type 0 = λ k. AreVisited p g m carries s k store P in
      let e : n + (m' - n) ≡ m' = omega arith in
      subst Visited e (skip_some n (m' - n) store P (omega arith) (λ k low high. absent k low (omega arith)) visited)

-- between the places before and those from here on, none is listed
pub between : (places : List ℕ) (j k : ℕ) → ((i : ℕ) → i < length places → i < j → get_or places i 0 < k) → ((i : ℕ) → i < length places → j ≤ i → k < get_or places i 0) → is_listed places k ≡ false
between places j k before after = list_any_none (λ i. i == k) places
    (λ i d h. ne_eqb (get_or places i d) k (λ same. ⊎_elim (λ lt. absurd (omega (arith, before i h lt, same, get_or_default places i d 0 h))) (λ ge. absurd (omega (arith, after i h ge, same, get_or_default places i d 0 h))) (cases_lt i j)))

module _ {Carry : Type 0} (g : Multigraph) (numbers : List ℕ) (dir : Dir) (carries : List (Option Carry)) where
  -- the places of one more vertex
  pub places_none : ArePlaces g numbers dir carries 0 []
  places_none = record { within = All-nil (λ i. i < length numbers); listed = λ v below carried. absurd (omega arith) }

  pub places_passed : (n : ℕ) (places : List ℕ) → is_some (carry_at carries n) ≡ false → ArePlaces g numbers dir carries n places → ArePlaces g numbers dir carries (n + 1) places
  places_passed n places none are = record {
    within = are.within;
    listed = λ v below carried. ⊎_elim (λ lt. are.listed v lt carried) (λ ge. let same : v ≡ n = omega arith in absurd (true≢false (sym carried ∙ ap (λ u. is_some (carry_at carries u)) same ∙ none))) (cases_lt v n);
  }

  pub places_more : (n : ℕ) (places : List ℕ) → ArePlaces g numbers dir carries n places → ArePlaces g numbers dir carries (n + 1) (places ++ places_around g numbers n dir)
  places_more n places are = record {
    within = All-append (λ i. i < length numbers) places (places_around g numbers n dir) are.within (λ i d h. (filter_numbers_each (λ i. is_around n dir (edge_at g (get_or numbers i 0))) (length numbers) i d h).0);
    listed = λ v below carried. ⊎_elim (λ lt i d h. before v i d h (are.listed v lt carried)) (λ ge. let same : v ≡ n = omega arith in
        let Listed : ℕ → Type 0 = λ u. All (λ i. is_listed (places ++ places_around g numbers n dir) i ≡ true) (places_around g numbers u dir) in subst Listed (sym same) here) (cases_lt v n);
  }
    where
      before : (v i d : ℕ) → i < length (places_around g numbers v dir) → All (λ i. is_listed places i ≡ true) (places_around g numbers v dir) → is_listed (places ++ places_around g numbers n dir) (get_or (places_around g numbers v dir) i d) ≡ true
      before v i d h all = let k = get_or (places_around g numbers v dir) i d in
          list_any-append (λ j. j == k) places (places_around g numbers n dir) ∙ ap (λ b. b || list_any (λ j. j == k) (places_around g numbers n dir)) (all i d h)

      or_true : (b : Bool) → (b || true) ≡ true
      or_true true = refl
      or_true false = refl

      here : All (λ i. is_listed (places ++ places_around g numbers n dir) i ≡ true) (places_around g numbers n dir)
      here i d h = let k = get_or (places_around g numbers n dir) i d in
          list_any-append (λ j. j == k) places (places_around g numbers n dir) ∙ ap (λ b. list_any (λ j. j == k) places || b) (list_any_at (λ j. j == k) (places_around g numbers n dir) i d h (eq-eqb k k refl)) ∙ or_true (list_any (λ j. j == k) places)

  -- the same places in another order
  pub places_sorted : (n : ℕ) (old new : List ℕ) → IsPermutation old new → ArePlaces g numbers dir carries n old → ArePlaces g numbers dir carries n new
  places_sorted n old new same are = record {
    within = All-permutation (λ i. i < length numbers) old new same are.within;
    listed = λ v below carried i d h. sym (list_any-IsPermutation (λ j. j == get_or (places_around g numbers v dir) i d) old new same) ∙ are.listed v below carried i d h;
  }

-- sorted places, once each may stand again
pub record AreAscending {Carry : Type 0} (g : Multigraph) (numbers : List ℕ) (dir : Dir) (carries : List (Option Carry)) (n : ℕ) (places : List ℕ) : Type 0 where
  pub are : ArePlaces g numbers dir carries n places
  pub rises : IsNonDecreasing places

pub ascending : {Carry : Type 0} (g : Multigraph) (numbers : List ℕ) (dir : Dir) (carries : List (Option Carry)) (n : ℕ) (old new slice : List ℕ) → IsPermutation old new → IsSorted nat_cmp new → slice ≡ new
    → ArePlaces g numbers dir carries n old → AreAscending g numbers dir carries n slice
ascending g numbers dir carries n old new slice same order is are = rw is (record {
  are = places_sorted g numbers dir carries n old new same are;
  rises = IsNonDecreasingBy-from_sort (λ (x : ℕ). x) new order;
})

module _ {Acc Carry : Type 0} (p : Program Acc Carry) (g : Multigraph) (m : Mirrors) (carries : List (Option Carry)) (ok : IsMultigraph g) (count : length carries ≡ length g.ids) (s : Store) (places : List ℕ)
    (sorted : AreAscending g s.numbers p.scatter_edges carries (length g.ids) places) (inside : All (λ e. e < length g.edges) s.numbers) where
  -- all before the next listed place may be left out
  pub to_place : (j n : ℕ) (store : Store) (P : List (Sent Acc) → Type 0) → j < length places → ((i : ℕ) → i < j → get_or places i 0 < n) → n ≤ get_or places j 0 → AreVisited p g m carries s n store P → AreVisited p g m carries s (get_or places j 0) store P
  to_place j n store P h passed up visited = let within : get_or places j 0 < length s.numbers = sorted.are.within j 0 h in
      skip_to p g m carries ok count s places sorted.are inside n (get_or places j 0) store P up (omega arith)
      (λ k low high. between places j k (λ i below lt. omega (arith, passed i lt)) (λ i below ge. omega (arith, sorted.rises j i 0 ge below))) visited

  -- and so may all behind the last one
  pub to_end : (n : ℕ) (store : Store) (P : List (Sent Acc) → Type 0) → ((i : ℕ) → i < length places → get_or places i 0 < n) → n ≤ length s.numbers → AreVisited p g m carries s n store P → AreVisited p g m carries s (length s.numbers) store P
  to_end n store P passed within visited = skip_to p g m carries ok count s places sorted.are inside n (length s.numbers) store P within (omega arith)
      (λ k low high. between places (length places) k (λ i below lt. omega (arith, passed i below)) (λ i below ge. absurd (omega arith))) visited
