-- The signalled vertices of a round, which apply by their cells.
use Rattle.std.proofs.Common.{◌≡◌, ◌≢◌, ℕ, ◌<◌, not, ◌&&◌, Option, List, length, get_or, map, sym, subst, ◌∙◌, ap, arith}
use Rattle.std.specs.Prelude.{All, AllPairs, IsSome, filter}
use Rattle.std.proofs.lemmas.List.{get_or-map, length-map}
use Rattle.std.proofs.lemmas.List.Elements.{All-map, All-filter}
use Rattle.std.proofs.lemmas.List.Kept.{AllPairs-filter}
use Rattle.pg_graph.specs.Multigraph.{Multigraph, IsMultigraph, vertices}
use Rattle.pg_law.specs.declared.values.Datum.{Datum}
use Rattle.pg_law.specs.Program.{Program}
use Rattle.pg_law.specs.Laws.{IsLawful}
use Rattle.pg_law.specs.Configuration.{Configuration, signalled, is_signalled}
use Rattle.pg_law.specs.Round.{fresh}
use Rattle.pg_cut.specs.Cut.{Division, IsCutOf}
use Rattle.pg_mirrors.specs.Mirrors.{Mirrors}
use Rattle.pg_delta.specs.declared.cell.CacheCell.{CacheCell}
use Rattle.pg_apply_scatter.specs.Applying.{IsMastered, applied_masters}
use Rattle.pg_apply_scatter.specs.Delivering.{cell_in, AreCellsOf}
use Rattle.pg_apply_scatter.specs.Halves.{applied_round}
use Rattle.pg_sync.specs.declared.worker.Scattering.{Scattering}
use Rattle.pg_sync.specs.Kept.{unkept}
use Rattle.pg_sync.specs.Cells.{acc_or, keeps, AreFilled, AreSettled, AreGathered}
use Rattle.pg_sync.specs.Held.{IsKept}
use Rattle.pg_sync.proofs.Holding.{waits_in, wanted_distinct, applied_is, sums_mastered}
use Rattle.pg_sync.proofs.Keeping.{unkept_are, listed_below, are_gathered, sums_ready, all_there}

module _ {A : Type 0} (f : ℕ → A) (xs : List ℕ) where
  -- each vertex with what it has
  abbrev pub pairs : List (ℕ × A)
  pairs = map (λ u. (u, f u)) xs

  pub pairs_apart : AllPairs (λ a b. a ≢ b) xs → AllPairs (λ a b. a.0 ≢ b.0) pairs
  pairs_apart apart = λ i j d lt h same. let below : j < length xs = omega (arith, h, length-map {B = ℕ × A} xs (λ u. (u, f u))) in
      apart i j d.0 lt below (sym (first i d (omega (arith, lt, below))) ∙ same ∙ first j d below)
    where
      first : (i : ℕ) (d : ℕ × A) → i < length xs → (get_or (map (λ u. (u, f u)) xs) i d).0 ≡ get_or xs i d.0
      first i d h = ap (λ (x : ℕ × A). x.0) (get_or-map (λ u. (u, f u)) xs i d.0 d h)

  pub pairs_below : (n : ℕ) → All (λ u. u < n) xs → All (λ a. a.0 < n) pairs
  pairs_below n below = let Below : ℕ × A → Type 0 = λ a. a.0 < n in All-map Below (λ u. (u, f u)) xs below

module _ {Acc Carry : Type 0} (p : Program Acc Carry) (law : IsLawful p) (g : Multigraph) (ok : IsMultigraph g) (cut : Division) (is : IsCutOf g cut) (s : Configuration)
    (workers : List (Scattering Acc)) (mirrors : List Mirrors) (values : List Datum) (messages : List (Option ℕ)) (old : List (CacheCell Acc)) (kept : IsKept p g cut s workers mirrors values messages old)
    (listed : List ℕ) (waits : listed ≡ waits_in g messages) where
  pub listed_is : listed ≡ signalled g s
  listed_is = waits ∙ ap (waits_in g) kept.held.messages

  pub listed_apart : AllPairs (λ a b. a ≢ b) listed
  listed_apart = wanted_distinct p law g ok cut is s workers mirrors values messages kept.held listed waits

  pub wanted_are : (wanted : List ℕ) → wanted ≡ filter (λ v. not (keeps p old v)) listed → wanted ≡ unkept g (keeps p old) s
  wanted_are wanted wanted_is = wanted_is ∙ ap (filter (λ v. not (keeps p old v))) listed_is

  pub wanted_apart : (wanted : List ℕ) → wanted ≡ filter (λ v. not (keeps p old v)) listed → AllPairs (λ a b. a ≢ b) wanted
  wanted_apart wanted wanted_is = let Apart : List ℕ → Type 0 = λ us. AllPairs (λ a b. a ≢ b) us in
      subst Apart (sym wanted_is) (AllPairs-filter (λ a b. a ≢ b) (λ v. not (keeps p old v)) listed listed_apart)

  module _ (some : 0 < length old) where
    pub all_below : All (λ v. v < length old) listed
    all_below = listed_below p law g ok s kept.held.fit old kept.caches some listed listed_is

    pub wanted_below : (wanted : List ℕ) → wanted ≡ filter (λ v. not (keeps p old v)) listed → All (λ v. v < length old) wanted
    wanted_below wanted wanted_is = let Below : List ℕ → Type 0 = λ us. All (λ v. v < length old) us in
        subst Below (sym wanted_is) (All-filter (λ v. not (keeps p old v)) (λ v. v < length old) listed all_below)

    module _ (mid new : List (CacheCell Acc)) (mid_count : length mid ≡ length old) (new_count : length new ≡ length mid) (settles : AreSettled p listed old mid) (mid_own : AreCellsOf p mid)
        (wanted : List ℕ) (wanted_is : wanted ≡ filter (λ v. not (keeps p old v)) listed) (sums : List (ℕ × Acc)) (sums_are : sums ≡ map (λ u. (u, fresh p g s u)) wanted) (fills : AreFilled sums mid new) where
      settled_them : AreSettled p (signalled g s) old mid
      settled_them = let Settles : List ℕ → Type 0 = λ us. AreSettled p us old mid in subst Settles listed_is settles

      all_sums : sums ≡ map (λ u. (u, fresh p g s u)) (filter (λ v. is_signalled s v && not (keeps p old v)) (vertices g))
      all_sums = sums_are ∙ ap (map (λ u. (u, fresh p g s u))) (wanted_are wanted wanted_is ∙ unkept_are p law g ok s kept.held.fit old kept.caches some)

      pub gathered : AreGathered p g s old new
      gathered = are_gathered p law g ok s kept.held.fit old kept.caches some mid new mid_count new_count settled_them mid_own sums all_sums fills

      abbrev pub sum_in : ℕ → ℕ × Acc
      sum_in v = (v, acc_or p.empty (cell_in new v).acc)

      pub sums_in : map sum_in listed ≡ map (λ u. (u, fresh p g s u)) (signalled g s)
      sums_in = ap (map sum_in) listed_is ∙ sums_ready p law g ok s kept.held.fit old kept.caches some mid new mid_count new_count settled_them mid_own sums all_sums fills

      pub there : All (λ v. IsSome (cell_in new v).acc) listed
      there = let There : List ℕ → Type 0 = λ us. All (λ v. IsSome (cell_in new v).acc) us in
          subst There (sym listed_is) (all_there p law g ok s kept.held.fit old kept.caches some mid new mid_count new_count settled_them mid_own sums all_sums fills)

      pub mastered : All (λ v. IsMastered p g messages (sum_in v)) listed
      mastered = λ k d h. let all = sums_mastered p law g ok cut is s workers mirrors values messages kept.held (map sum_in listed) sums_in k (sum_in d) (omega (arith, h, length-map listed sum_in)) in
          let Mastered : ℕ × Acc → Type 0 = λ sum. IsMastered p g messages sum in
          subst Mastered (get_or-map sum_in listed k d (sum_in d) h) all

      pub applied_all : applied_masters p g values messages (map sum_in listed) ≡ applied_round p g s
      applied_all = applied_is p law g ok cut is s workers mirrors values messages kept.held (map sum_in listed) sums_in
