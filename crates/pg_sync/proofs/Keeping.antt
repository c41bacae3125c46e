-- Cells that are settled, filled and posted to, and what they keep.
use Rattle.std.proofs.Common.{◌≡◌, ◌≢◌, ℕ, zero, suc, ◌<◌, ◌≤◌, ◌⊎◌, inl, inr, Bool, true, false, not, cond, ◌&&◌, ◌||◌, Option, Some, None, is_some, List, [], ◌∷◌, length, get_or, map, refl, sym, subst, ◌∙◌, ap, arith, ⊎_elim}
use Rattle.std.specs.Prelude.{All, IsSome, filter}
use Rattle.std.proofs.lemmas.Bool.{cases_lt, cases_eq, false≢true}
use Rattle.std.proofs.lemmas.List.{get_or_past, get_or_default}
use Rattle.std.proofs.lemmas.List.Elements.{recursion_from_All}
use Rattle.pg_graph.specs.Multigraph.{Multigraph, IsMultigraph, vertices, edges_at, side_at}
use Rattle.pg_graph.specs.declared.edge.Side.{Side}
use Rattle.pg_graph.specs.declared.edge.Side.TheVariants.{Source, Target}
use Rattle.pg_graph.proofs.Numbers.{filter_numbers_each}
use Rattle.pg_law.specs.declared.values.Delta.{Delta}
use Rattle.pg_law.specs.declared.values.Delta.TheVariants.{Nothing, Add, Clear}
use Rattle.pg_law.specs.declared.values.Scattered.{Scattered}
use Rattle.pg_law.specs.Program.{Program}
use Rattle.pg_law.specs.Laws.{IsLawful, KeepsGathers}
use Rattle.pg_law.specs.Configuration.{Configuration, IsFit, signalled, is_signalled}
use Rattle.pg_law.specs.Round.{fresh, outcomes, values_after, from_source, from_target, scatter_after, round}
use Rattle.pg_law.proofs.Fitting.{fresh_own}
use Rattle.pg_law.proofs.Lists.{stands_below}
use Rattle.pg_delta.specs.declared.cell.CacheCell.{CacheCell}
use Rattle.pg_delta.specs.Deltas.{joined, joined_over}
use Rattle.pg_delta.specs.Cell.{IsCell, cleared, filled, settled_of, settled, posted_to, posted}
use Rattle.pg_delta.specs.Truth.{IsTrueOf, PostingKeepsTruth}
use Rattle.pg_apply_scatter.specs.Delivering.{cell_in, AreCellsOf}
use Rattle.pg_apply_scatter.specs.Halves.{entry_of}
use Rattle.pg_apply_scatter.proofs.Applying.{entered, map_agree_on}
use Rattle.pg_apply_scatter.proofs.Taking.{from_other}
use Rattle.pg_apply_scatter.proofs.Scattering.{folds_agree}
use Rattle.pg_apply_scatter.proofs.Leading as leading
use Rattle.pg_apply_scatter.proofs.Caching.{joined_to_own}
use Rattle.pg_sync.specs.Kept.{delta_in, told, is_clear, unkept, kept_now, kept_after, delta_over, delta_of}
use Rattle.pg_sync.specs.Cells.{acc_or, filled_by, keeps, AreFilled, AreCaches, AreSettled, AreGathered, AreTold}
use Rattle.pg_sync.proofs.Degrees.{both_tests}

pub no_cells : {A : Type 0} (cells : List (CacheCell A)) → length cells ≡ 0 → cells ≡ []
no_cells [] none = refl
no_cells (cell ∷ cells) none = absurd (omega (arith, none))

-- a number stands in a list, or it doesn't
found : (xs : List ℕ) (v : ℕ) → ((k : ℕ) × ((k < length xs) × (get_or xs k 0 ≡ v))) ⊎ ((k : ℕ) → k < length xs → get_or xs k 0 ≢ v)
found [] v = inr (λ k h. absurd (omega (arith, h)))
found (x ∷ xs) v = by_first (cases_eq x v) (found xs v)
  where
    Found : Type 0
    Found = ((k : ℕ) × ((k < suc (length xs)) × (get_or (x ∷ xs) k 0 ≡ v))) ⊎ ((k : ℕ) → k < suc (length xs) → get_or (x ∷ xs) k 0 ≢ v)

    away : (x ≡ v → ⊥) → ((k : ℕ) → k < length xs → get_or xs k 0 ≢ v) → (k : ℕ) → k < suc (length xs) → get_or (x ∷ xs) k 0 ≢ v
    away first rest zero h = first
    away first rest (suc k) h = rest k (omega (arith, h))

    by_first : (x ≡ v) ⊎ (x ≡ v → ⊥) → ((k : ℕ) × ((k < length xs) × (get_or xs k 0 ≡ v))) ⊎ ((k : ℕ) → k < length xs → get_or xs k 0 ≢ v) → Found
    by_first (inl same) rest = inl (0, (omega arith, same))
    by_first (inr other) (inl there) = inl (suc there.0, (omega (arith, there.1.0), there.1.1))
    by_first (inr other) (inr none) = inr (away other none)

module _ {Acc Carry : Type 0} (p : Program Acc Carry) where
  -- whether a cell has an accumulator, once it is settled
  abbrev pub keeps_cell : CacheCell Acc → Bool
  keeps_cell cell = is_some (settled p.sum cell).acc

  pub keeps_settled : (cell : CacheCell Acc) → keeps_cell (settled p.sum cell) ≡ keeps_cell cell
  keeps_settled cell = by_parts cell.acc cell.pending
    where
      by_parts : (acc : Option Acc) (pending : Delta Acc) → keeps_cell (settled_of p.sum acc pending) ≡ is_some (settled_of p.sum acc pending).acc
      by_parts None pending = refl
      by_parts (Some a) Nothing = refl
      by_parts (Some a) (Add d) = refl
      by_parts (Some a) Clear = refl

  -- only a Clear takes an accumulator away
  pub keeps_posted : (cell : CacheCell Acc) (delta : Delta Acc) → keeps_cell (posted p.sum cell delta) ≡ (keeps_cell cell && not (is_clear delta))
  keeps_posted cell delta = by_parts cell.acc cell.pending delta
    where
      by_parts : (acc : Option Acc) (pending delta : Delta Acc) → keeps_cell (posted_to p.sum acc pending delta) ≡ (is_some (settled_of p.sum acc pending).acc && not (is_clear delta))
      by_parts None pending delta = refl
      by_parts (Some a) Nothing Nothing = refl
      by_parts (Some a) Nothing (Add d) = refl
      by_parts (Some a) Nothing Clear = refl
      by_parts (Some a) (Add x) Nothing = refl
      by_parts (Some a) (Add x) (Add d) = refl
      by_parts (Some a) (Add x) Clear = refl
      by_parts (Some a) Clear delta = refl

  settled_true : (cell : CacheCell Acc) (x : Acc) → IsTrueOf p.sum cell x → IsTrueOf p.sum (settled p.sum cell) x
  settled_true cell x is = by_parts cell.acc cell.pending is
    where
      by_parts : (acc : Option Acc) (pending : Delta Acc) → IsTrueOf p.sum (record { acc = acc; pending = pending }) x → IsTrueOf p.sum (settled_of p.sum acc pending) x
      by_parts None pending is = tt
      by_parts (Some a) Nothing is = is
      by_parts (Some a) (Add d) is = is
      by_parts (Some a) Clear is = tt

  -- a cell that is true and keeps an accumulator keeps the gather
  kept_is : (cell : CacheCell Acc) (x : Acc) → IsTrueOf p.sum cell x → keeps_cell cell ≡ true → settled p.sum cell ≡ filled x
  kept_is cell x is keeping = by_parts cell.acc cell.pending is keeping
    where
      by_parts : (acc : Option Acc) (pending : Delta Acc) → IsTrueOf p.sum (record { acc = acc; pending = pending }) x → is_some (settled_of p.sum acc pending).acc ≡ true → settled_of p.sum acc pending ≡ filled x
      by_parts None pending is keeping = absurd (false≢true keeping)
      by_parts (Some a) Nothing is keeping = ap (λ (y : Acc). filled y) is
      by_parts (Some a) (Add d) is keeping = ap (λ (y : Acc). filled y) is
      by_parts (Some a) Clear is keeping = absurd (false≢true keeping)

  -- a cell that is filled where its vertex is signalled and it keeps nothing
  abbrev filling : Bool → Bool → Acc → CacheCell Acc → CacheCell Acc
  filling signal kept x cell = filled_by (cond (signal && not kept) (Some x) None) cell

  filled_keeps : (signal kept : Bool) (x : Acc) (cell : CacheCell Acc) → keeps_cell cell ≡ kept → keeps_cell (filling signal kept x cell) ≡ (kept || signal)
  filled_keeps true true x cell is = is
  filled_keeps true false x cell is = refl
  filled_keeps false true x cell is = is
  filled_keeps false false x cell is = is

  filled_true : (signal kept : Bool) (x : Acc) (cell : CacheCell Acc) → IsTrueOf p.sum cell x → IsTrueOf p.sum (filling signal kept x cell) x
  filled_true true true x cell is = is
  filled_true true false x cell is = refl
  filled_true false kept x cell is = is

  filled_own : (signal kept : Bool) (x : Acc) (cell : CacheCell Acc) → p.IsAcc x → IsCell p cell → IsCell p (filling signal kept x cell)
  filled_own true true x cell own is = is
  filled_own true false x cell own is = record { acc = own; pending = tt }
  filled_own false kept x cell own is = is

  -- a signalled vertex has its gather then
  filled_ready : (kept : Bool) (x : Acc) (old cell : CacheCell Acc) → keeps_cell old ≡ kept → IsTrueOf p.sum old x → cell ≡ settled p.sum old → filling true kept x cell ≡ filled x
  filled_ready true x old cell is true_of settled_is = settled_is ∙ kept_is old x true_of is
  filled_ready false x old cell is true_of settled_is = refl

  pub nothing_kept : (cells : List (CacheCell Acc)) (v : ℕ) → length cells ≤ v → keeps p cells v ≡ false
  nothing_kept cells v past = ap keeps_cell (get_or_past cells v cleared past)

  pub cells_own : (g : Multigraph) (s : Configuration) (cells : List (CacheCell Acc)) → AreCaches p g s cells → AreCellsOf p cells
  cells_own g s cells caches = λ v h. caches.kept.own v (omega (arith, h, caches.all (omega (arith, h))))

-- the gathers of a round, by cells
module _ {Acc Carry : Type 0} (p : Program Acc Carry) (law : IsLawful p) (g : Multigraph) (ok : IsMultigraph g) (s : Configuration) (fit : IsFit p g s)
    (old : List (CacheCell Acc)) (caches : AreCaches p g s old) (some : 0 < length old) where
  count : length old ≡ length g.ids
  count = caches.all some

  abbrev wants : ℕ → Bool
  wants v = is_signalled s v && not (keeps p old v)

  pub unkept_are : unkept g (keeps p old) s ≡ filter wants (vertices g)
  unkept_are = both_tests (is_signalled s) (λ v. not (keeps p old v)) (vertices g)

  pub listed_below : (listed : List ℕ) → listed ≡ signalled g s → All (λ v. v < length old) listed
  listed_below listed is = let Below : List ℕ → Type 0 = λ us. All (λ v. v < length old) us in
      subst Below (sym is) (λ k d h. (let below = (filter_numbers_each (is_signalled s) (length g.ids) k d h).0 in omega (arith, below, count)))

  module _ (mid new : List (CacheCell Acc)) (mid_count : length mid ≡ length old) (new_count : length new ≡ length mid) (settles : AreSettled p (signalled g s) old mid) (mid_own : AreCellsOf p mid)
      (sums : List (ℕ × Acc)) (sums_are : sums ≡ map (λ u. (u, fresh p g s u)) (filter wants (vertices g))) (fills : AreFilled sums mid new) where
    -- a cell that was settled, or not
    mid_is : (P : CacheCell Acc → Type 0) (v : ℕ) → P (cell_in old v) → P (settled p.sum (cell_in old v)) → P (cell_in mid v)
    mid_is P v before after = ⊎_elim (λ there. let At : ℕ → Type 0 = λ u. P (settled p.sum (cell_in old u)) → P (cell_in mid u) in
        subst At there.1.1 (subst P (sym (settles.here there.0 there.1.0))) after) (λ none. subst P (sym (settles.others v none)) before) (found (signalled g s) v)

    mid_keeps : (v : ℕ) → keeps_cell p (cell_in mid v) ≡ keeps p old v
    mid_keeps v = mid_is (λ c. keeps_cell p c ≡ keeps p old v) v refl (keeps_settled p (cell_in old v))

    mid_true : (v : ℕ) → v < length g.ids → IsTrueOf p.sum (cell_in mid v) (fresh p g s v)
    mid_true v h = mid_is (λ c. IsTrueOf p.sum c (fresh p g s v)) v (caches.kept.true_of v h) (settled_true p (cell_in old v) (fresh p g s v) (caches.kept.true_of v h))

    new_is : (v : ℕ) → v < length g.ids → cell_in new v ≡ filling p (is_signalled s v) (keeps p old v) (fresh p g s v) (cell_in mid v)
    new_is v h = fills v ∙ ap (λ xs. filled_by (entry_of xs v) (cell_in mid v)) sums_are ∙ ap (λ o. filled_by o (cell_in mid v)) (entered (fresh p g s) wants (vertices g) v (stands_below v (length g.ids) h))

    new_past : (v : ℕ) → length g.ids ≤ v → keeps p new v ≡ kept_now (keeps p old) s v
    new_past v past = nothing_kept p new v (omega (arith, past, count, mid_count, new_count))
        ∙ sym (ap (λ b. b || is_signalled s v) (nothing_kept p old v (omega (arith, past, count))) ∙ ap (λ (o : Option ℕ). is_some o) (get_or_past s.messages v None (omega (arith, past, fit.messages.count))))

    new_keeps : (v : ℕ) → keeps p new v ≡ kept_now (keeps p old) s v
    new_keeps v = ⊎_elim (λ h. ap (keeps_cell p) (new_is v h) ∙ filled_keeps p (is_signalled s v) (keeps p old v) (fresh p g s v) (cell_in mid v) (mid_keeps v)) (new_past v) (cases_lt v (length g.ids))

    pub are_gathered : AreGathered p g s old new
    are_gathered = record {
      caches = record {
        all = λ any. omega (arith, count, mid_count, new_count);
        speaks = λ any. caches.speaks some;
        kept = record {
          own = λ v h. (let Own : CacheCell Acc → Type 0 = λ c. IsCell p c in subst Own (sym (new_is v h)) (filled_own p (is_signalled s v) (keeps p old v) (fresh p g s v) (cell_in mid v) (fresh_own p g law ok s v fit) (mid_own v (omega (arith, h, count, mid_count)))));
          true_of = λ v h. (let True : CacheCell Acc → Type 0 = λ c. IsTrueOf p.sum c (fresh p g s v) in subst True (sym (new_is v h)) (filled_true p (is_signalled s v) (keeps p old v) (fresh p g s v) (cell_in mid v) (mid_true v h)));
        };
      };
      kept = λ any v. new_keeps v;
    }

    -- each signalled vertex has its fresh gather
    pub ready : (k : ℕ) (d : ℕ) → k < length (signalled g s) → cell_in new (get_or (signalled g s) k d) ≡ filled (fresh p g s (get_or (signalled g s) k d))
    ready k d h = let v = get_or (signalled g s) k d in
        let each = filter_numbers_each (is_signalled s) (length g.ids) k d h in
        let settled_is : cell_in mid v ≡ settled p.sum (cell_in old v) = (let At : ℕ → Type 0 = λ u. cell_in mid u ≡ settled p.sum (cell_in old u) in subst At (get_or_default (signalled g s) k 0 d h) (settles.here k h)) in
        new_is v each.0 ∙ ap (λ b. filling p b (keeps p old v) (fresh p g s v) (cell_in mid v)) each.1
        ∙ filled_ready p (keeps p old v) (fresh p g s v) (cell_in old v) (cell_in mid v) refl (caches.kept.true_of v each.0) settled_is

    abbrev pub sum_in : ℕ → ℕ × Acc
    sum_in v = (v, acc_or p.empty (cell_in new v).acc)

    pub sums_ready : map sum_in (signalled g s) ≡ map (λ u. (u, fresh p g s u)) (signalled g s)
    sums_ready = let Same : ℕ → Type 0 = λ u. sum_in u ≡ (u, fresh p g s u) in
        map_agree_on sum_in (λ u. (u, fresh p g s u)) (signalled g s) (recursion_from_All Same (signalled g s) (λ k d h. ap (λ (c : CacheCell Acc). (get_or (signalled g s) k d, acc_or p.empty c.acc)) (ready k d h)))

    pub all_there : All (λ v. IsSome (cell_in new v).acc) (signalled g s)
    all_there k d h = let There : CacheCell Acc → Type 0 = λ c. IsSome c.acc in subst There (sym (ready k d h)) refl

-- after a round, in which all was posted that was sent
module _ {Acc Carry : Type 0} (p : Program Acc Carry) (law : IsLawful p) (g : Multigraph) (ok : IsMultigraph g) (s : Configuration) (fit : IsFit p g s) where
  delta_in_is : (o : Option (Scattered Acc)) → delta_in o ≡ leading.delta_in o
  delta_in_is None = refl
  delta_in_is (Some scattered) = refl

  told_is : (side : Side) (a b : Delta Acc) → told side a b ≡ from_other side a b
  told_is Source a b = refl
  told_is Target a b = refl

  pub delta_is : (speaks : KeepsGathers p) (v : ℕ) → delta_of p g s v ≡ joined_over p (leading.delta_to p law speaks g ok s fit v) (edges_at g v)
  delta_is speaks v = let became = outcomes p g s (λ u. true) in
      let values = values_after p g s.values became in
      folds_agree (λ d e. joined p.sum d (delta_over p g s v e)) (λ d e. joined p.sum d (leading.delta_to p law speaks g ok s fit v e))
      (λ d e. ap (joined p.sum d) (ap (λ x. told (side_at g v e) x (delta_in (from_target p g values s.edges became e))) (delta_in_is (from_source p g values s.edges became e))
      ∙ ap (told (side_at g v e) (leading.delta_in (from_source p g values s.edges became e))) (delta_in_is (from_target p g values s.edges became e))
      ∙ told_is (side_at g v e) (leading.delta_in (from_source p g values s.edges became e)) (leading.delta_in (from_target p g values s.edges became e)))) Nothing (edges_at g v)

  module _ (keeps_truth : PostingKeepsTruth p) (old mid new : List (CacheCell Acc)) (mid_count : length mid ≡ length old) (new_count : length new ≡ length mid) (gathered : AreGathered p g s old mid) (tells : 0 < length mid → AreTold p g s mid new) (new_own : AreCellsOf p new) where
    posted_true : (some : 0 < length mid) (v : ℕ) → v < length g.ids → IsTrueOf p.sum (cell_in new v) (fresh p g (scatter_after p g s (outcomes p g s (λ u. true))) v)
    posted_true some v h = let speaks = law.deltas (gathered.caches.speaks some) in
        let after = fresh p g (scatter_after p g s (outcomes p g s (λ u. true))) v in
        let sent = joined_over p (leading.delta_to p law speaks g ok s fit v) (edges_at g v) in
        let below : v < length mid = omega (arith, h, gathered.caches.all some) in
        let True : CacheCell Acc → Type 0 = λ c. IsTrueOf p.sum c after in
        subst True (sym (tells some v below ∙ ap (posted p.sum (cell_in mid v)) (delta_is speaks v)))
        (keeps_truth (cell_in mid v) sent (fresh p g s v) after (gathered.caches.kept.own v h) (joined_to_own p law speaks g ok s fit v) (fresh_own p g law ok s v fit) (gathered.caches.kept.true_of v h) (leading.fresh_leads p law speaks g ok s fit v))

    none_own : (v : ℕ) → length new ≤ v → IsCell p (cell_in new v)
    none_own v past = let Own : CacheCell Acc → Type 0 = λ c. IsCell p c in subst Own (sym (get_or_past new v cleared past)) (record { acc = tt; pending = tt })

    none_true : (x : Acc) (v : ℕ) → length new ≤ v → IsTrueOf p.sum (cell_in new v) x
    none_true x v past = let True : CacheCell Acc → Type 0 = λ c. IsTrueOf p.sum c x in subst True (sym (get_or_past new v cleared past)) tt

    pub caches_follow : AreCaches p g (round p g s) new
    unfolding round
    caches_follow = record {
      all = λ any. omega (arith, gathered.caches.all (omega (arith, any, new_count)), new_count);
      speaks = λ any. gathered.caches.speaks (omega (arith, any, new_count));
      kept = record {
        own = λ v h. ⊎_elim (λ below. new_own v below) (none_own v) (cases_lt v (length new));
        true_of = λ v h. ⊎_elim (λ below. posted_true (omega (arith, below, new_count)) v h) (none_true _ v) (cases_lt v (length new));
      };
    }

    keeps_past : (v : ℕ) → length mid ≤ v → keeps p new v ≡ (keeps p mid v && not (is_clear (delta_of p g s v)))
    keeps_past v past = nothing_kept p new v (omega (arith, past, new_count)) ∙ sym (ap (λ b. b && not (is_clear (delta_of p g s v))) (nothing_kept p mid v past))

    pub keeps_follow : 0 < length old → (v : ℕ) → keeps p new v ≡ kept_after p g (keeps p old) s v
    keeps_follow some v = ⊎_elim (λ h. ap (keeps_cell p) (tells (omega (arith, some, mid_count)) v h) ∙ keeps_posted p (cell_in mid v) (delta_of p g s v)) (keeps_past v) (cases_lt v (length mid))
        ∙ ap (λ b. b && not (is_clear (delta_of p g s v))) (gathered.kept some v)
