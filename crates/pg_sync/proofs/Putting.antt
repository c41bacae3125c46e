-- Words that are put in their places, store by store.
use Rattle.std.proofs.Common.{◌≡◌, ℕ, ◌+◌, ◌<◌, ◌==◌, true, List, length, get_or, set, refl, subst, sym, ◌∙◌, ap, arith, ⊎_elim}
use Rattle.std.specs.Prelude.{All, slice_index, filter}
use Rattle.std.specs.List.{range_with_len}
use Rattle.std.proofs.lemmas.Bool.{cases_eq, cases_lt, eq-eqb}
use Rattle.std.proofs.lemmas.List.{get_or_default, get_or-map, get_or-set_same, get_or-set_other}
use Rattle.std.proofs.lemmas.List.FromFn.{fill_by_all}
use Rattle.pg_graph.specs.Multigraph.{Multigraph}
use Rattle.pg_graph.proofs.Numbers.{filter_numbers_each}
use Rattle.pg_cut.specs.Cut.{Division, IsCutOf}
use Rattle.pg_cut.proofs.Passing.{passing_longer, passing_at}
use Rattle.pg_edge_store.specs.Store.{Store, IsStoreOf}
use Rattle.pg_sync.specs.declared.worker.Scattering.{Scattering}
use Rattle.pg_sync.specs.Held.{no_worker, store_at}
use Rattle.pg_sync.specs.Putting.{HasWordsOf}

-- one more word is put
pub kept_more : (s : Store) (t words : List ℕ) (i : ℕ) → HasWordsOf t s → i < length s.numbers → get_or s.numbers i 0 < length words → (e : ℕ) → get_or words e 0 ≡ get_or t e 0
    → get_or (set words (get_or s.numbers i 0) (get_or s.words i 0)) e 0 ≡ get_or t e 0
kept_more s t words i own h inside e right = let n = get_or s.numbers i 0 in
    let word : get_or s.words i 0 ≡ get_or t n 0 = ap (λ ws. get_or ws i 0) own ∙ get_or-map (slice_index t) s.numbers i 0 0 h in
    ⊎_elim
    (λ same. ap (λ k. get_or (set words n (get_or s.words i 0)) k 0) same ∙ get_or-set_same words n (get_or s.words i 0) 0 inside ∙ word ∙ ap (λ k. get_or t k 0) (sym same))
    (λ other. get_or-set_other words n e (get_or s.words i 0) 0 other ∙ right)
    (cases_eq e n)

pub here_more : (s : Store) (t words : List ℕ) (i : ℕ) → HasWordsOf t s → i < length s.numbers → get_or s.numbers i 0 < length words
    → ((k : ℕ) → k < i → get_or words (get_or s.numbers k 0) 0 ≡ get_or t (get_or s.numbers k 0) 0)
    → (k : ℕ) → k < i + 1 → get_or (set words (get_or s.numbers i 0) (get_or s.words i 0)) (get_or s.numbers k 0) 0 ≡ get_or t (get_or s.numbers k 0) 0
here_more s t words i own h inside before k below = let n = get_or s.numbers i 0 in
    let word : get_or s.words i 0 ≡ get_or t n 0 = ap (λ ws. get_or ws i 0) own ∙ get_or-map (slice_index t) s.numbers i 0 0 h in
    ⊎_elim
    (λ lt. kept_more s t words i own h inside (get_or s.numbers k 0) (before k lt))
    (λ ge. let same : k ≡ i = omega arith in
    ap (λ j. get_or (set words n (get_or s.words i 0)) (get_or s.numbers j 0) 0) same ∙ get_or-set_same words n (get_or s.words i 0) 0 inside ∙ word ∙ ap (λ j. get_or t (get_or s.numbers j 0) 0) (sym same))
    (cases_lt k i)

-- the words of these workers are right
abbrev pub AreRight : {Acc : Type 0} → List (Scattering Acc) → List ℕ → ℕ → List ℕ → Type 0
AreRight workers t n words = (w : ℕ) → w < n → (k : ℕ) → k < length (store_at workers w).numbers
    → slice_index words (slice_index (store_at workers w).numbers k) ≡ slice_index t (slice_index (store_at workers w).numbers k)

module _ (g : Multigraph) (cut : Division) (is : IsCutOf g cut) where
  pub numbers_inside : (w : ℕ) (s : Store) → IsStoreOf g cut w s → All (λ e. e < length g.edges) s.numbers
  numbers_inside w s store = let Inside : List ℕ → Type 0 = λ es. All (λ e. e < length g.edges) es in
      subst Inside (sym store.numbers) (λ i d h. omega (arith, (filter_numbers_each (λ e. slice_index cut.place e == w) (length cut.place) i d h).0, is.placed.count))

  -- all workers' are all words
  pub right_all : {Acc : Type 0} (workers : List (Scattering Acc)) (t words : List ℕ) → ((w : ℕ) → w < cut.workers → IsStoreOf g cut w (store_at workers w))
      → AreRight workers t cut.workers words → length t ≡ length g.edges → length words ≡ length g.edges → words ≡ t
  right_all workers t words stores right count_t count = fill_by_all (slice_index t) words (length g.edges) 0 count each ∙ sym (fill_by_all (slice_index t) t (length g.edges) 0 count_t (λ k h. refl))
    where
      each : (e : ℕ) → e < length g.edges → get_or words e 0 ≡ slice_index t e
      each e h = let w = slice_index cut.place e in
          let on = λ (k : ℕ). slice_index cut.place k == w in
          let below : e < length cut.place = omega (arith, h, is.placed.count) in
          let within = is.placed.each e below in
          let k = length (filter on (range_with_len 0 e)) in
          let here : on e ≡ true = eq-eqb w w refl in
          let numbers = (stores w within).numbers in
          let found : slice_index (store_at workers w).numbers k ≡ e = ap (λ ns. slice_index ns k) numbers ∙ passing_at on e (length cut.place) below here in
          let inside : k < length (store_at workers w).numbers = omega (arith, ap length numbers, passing_longer on e (length cut.place) below here) in
          sym (ap (λ n. slice_index words n) found) ∙ right w within k inside ∙ ap (slice_index t) found

  -- the same, however a list is read past its end
  pub inside_any : {Acc : Type 0} (workers : List (Scattering Acc)) (w n : ℕ) (d : Scattering Acc) → w < length workers → IsStoreOf g cut w (store_at workers w) → n ≡ length g.edges → All (λ e. e < n) (get_or workers w d).store.numbers
  inside_any {Acc = Acc} workers w n d h store count = let Inside : Scattering Acc → Type 0 = λ worker. All (λ e. e < n) worker.store.numbers in
      let Below : ℕ → Type 0 = λ m. All (λ e. e < m) (store_at workers w).numbers in
      subst Inside (get_or_default workers w no_worker d h) (subst Below (sym count) (numbers_inside w (store_at workers w) store))
