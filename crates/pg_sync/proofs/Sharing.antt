-- A state that is shared out, worker by worker.
use Rattle.std.proofs.Common.{◌≡◌, ℕ, suc, ◌+◌, ◌<◌, ◌≤◌, Option, Ok, List, [], ◌∷◌, ◌++◌, length, get_or, map, refl, sym, subst, ◌∙◌, ap, arith, ⊎_elim, length-append}
use Rattle.std.specs.Prelude.{slice_index, IfOk, Result}
use Rattle.std.specs.declared.alloc.AllocError.{AllocError}
use Rattle.std.proofs.lemmas.Bool.{cases_lt}
use Rattle.std.proofs.lemmas.List.{get_or_at, get_or_append_left}
use Rattle.pg_graph.specs.Multigraph.{Multigraph}
use Rattle.pg_law.specs.declared.values.Datum.{Datum}
use Rattle.pg_law.specs.Program.{Program}
use Rattle.pg_law.specs.Configuration.{Configuration, IsFit}
use Rattle.pg_cut.specs.Cut.{Division}
use Rattle.pg_apply_scatter.specs.Pushing.{table_at}
use Rattle.pg_mirrors.specs.Mirrors.{Mirrors, mirrors, mirrors_of}
use Rattle.pg_edge_store.specs.Store.{Store, IsStoreOf}
use Rattle.pg_sync.specs.declared.worker.Scattering.{Scattering}
use Rattle.pg_sync.specs.Held.{no_worker, store_at, IsHeld}
use Rattle.pg_sync.specs.Shared.{IsMade, HaveEdges, HaveReplicas}

-- one more of a list: what holds of each store so far, and of the new one
stores_more : {Acc : Type 0} (P : ℕ → Store → Type 0) (n : ℕ) (workers : List (Scattering Acc)) (worker : Scattering Acc) → length workers ≡ n
    → ((w : ℕ) → w < n → P w (store_at workers w)) → P n worker.store → (w : ℕ) → w < n + 1 → P w (store_at (workers ++ worker ∷ []) w)
stores_more {Acc = Acc} P n workers worker count each last w h = ⊎_elim
    (λ lt. let same = ap (λ (x : Scattering Acc). x.store) (get_or_append_left workers (worker ∷ []) (no_worker {Acc = Acc}) w (omega (arith, lt, count))) in
    (let At : Store → Type 0 = λ s. P w s in subst At (sym same) (each w lt)))
    (λ ge. let here : n ≡ w = omega arith in
    let same = ap (λ (x : Scattering Acc). x.store) (get_or_at workers worker [] (no_worker {Acc = Acc}) n count) in
    (let At : Store → Type 0 = λ s. P n s in let To : ℕ → Type 0 = λ k. P k (store_at (workers ++ worker ∷ []) k) in subst To here (subst At (sym same) last)))
    (cases_lt w n)

-- one worker more
pub have_more : {Acc : Type 0} (g : Multigraph) (cut : Division) (words : List ℕ) (n : ℕ) (workers : List (Scattering Acc)) (worker : Scattering Acc) → HaveEdges g cut words n workers
    → IsStoreOf g cut n worker.store → worker.store.words ≡ map (slice_index words) worker.store.numbers → HaveEdges g cut words (n + 1) (workers ++ worker ∷ [])
have_more g cut words n workers worker have store store_words = record {
  count = length-append workers (worker ∷ []) ∙ ap (λ k. k + 1) have.count;
  stores = stores_more (λ w s. IsStoreOf g cut w s) n workers worker have.count have.stores store;
  words_are = stores_more (λ w s. s.words ≡ map (slice_index words) s.numbers) n workers worker have.count have.words_are store_words;
}

-- of a list that is taken item by item: what holds of the first, and of those behind it
module _ {X : Type 0} (P : ℕ → X → Type 0) (n : ℕ) (x : X) (xs ys : List X) (is : ys ≡ x ∷ xs) (each : (k : ℕ) (d : X) → k < length ys → P (n + k) (get_or ys k d)) where
  each_of : (k : ℕ) (d : X) → k < length (x ∷ xs) → P (n + k) (get_or (x ∷ xs) k d)
  each_of = let Each : List X → Type 0 = λ zs. (k : ℕ) (d : X) → k < length zs → P (n + k) (get_or zs k d) in subst Each is each

  taken_first : P n x
  taken_first = let At : ℕ → Type 0 = λ i. P i x in
      let e : n + 0 ≡ n = omega arith in subst At e (each_of 0 x (omega arith))

  taken_rest : (m : ℕ) → m ≡ n + 1 → (k : ℕ) (d : X) → k < length xs → P (m + k) (get_or xs k d)
  taken_rest m next k d h = let At : ℕ → Type 0 = λ i. P i (get_or xs k d) in
      let e : n + suc k ≡ m + k = omega arith in subst At e (each_of (suc k) d (omega (arith, h)))

-- before any item is taken
taken_none : {X : Type 0} (P : ℕ → X → Type 0) (ys : List X) → ((w : ℕ) (d : X) → w < length ys → P w (get_or ys w d)) → (k : ℕ) (d : X) → k < length ys → P (0 + k) (get_or ys k d)
taken_none P ys each k d h = let At : ℕ → Type 0 = λ i. P i (get_or ys k d) in
    let e : k ≡ 0 + k = omega arith in subst At e (each k d h)

-- workers whose stores are taken one after another: those so far have their edges, and what is left
-- is made for the next ones
pub record AreTaken {Acc : Type 0} (g : Multigraph) (cut : Division) (words : List ℕ) (workers : List (Scattering Acc)) (left : List (Result Store AllocError)) : Type 0 where
  pub have : HaveEdges g cut words (length workers) workers
  pub count : length workers + length left ≡ cut.workers
  pub each : (k : ℕ) (d : Result Store AllocError) → k < length left → IfOk (get_or left k d) (IsMade g cut words (length workers + k))

pub none_taken : {Acc : Type 0} (g : Multigraph) (cut : Division) (words : List ℕ) (workers : List (Scattering Acc)) (made left : List (Result Store AllocError)) → workers ≡ [] → left ≡ made → length made ≡ cut.workers
    → ((w : ℕ) (d : Result Store AllocError) → w < cut.workers → IfOk (get_or made w d) (IsMade g cut words w)) → AreTaken g cut words workers left
none_taken g cut words workers made left empty is count each = rw (empty, is) (record {
  have = record {
    count = refl;
    stores = λ w h. absurd (omega (arith, h));
    words_are = λ w h. absurd (omega (arith, h));
  };
  count = omega (arith, count);
  each = taken_none (λ w r. IfOk r (IsMade g cut words w)) made (λ w d h. each w d (omega (arith, h, count)));
})

pub taken_more : {Acc : Type 0} (g : Multigraph) (cut : Division) (words : List ℕ) (workers : List (Scattering Acc)) (worker : Scattering Acc) (more : List (Scattering Acc)) (one : Result Store AllocError) (left all : List (Result Store AllocError))
    → all ≡ one ∷ left → one ≡ Ok worker.store → more ≡ workers ++ worker ∷ [] → AreTaken g cut words workers all → AreTaken g cut words more left
taken_more {Acc = Acc} g cut words workers worker more one left all is made grown taken =
    let Made : ℕ → Result Store AllocError → Type 0 = λ w r. IfOk r (IsMade g cut words w) in
    let n = length workers in
    let At : Result Store AllocError → Type 0 = λ r. IfOk r (IsMade g cut words n) in
    let here = subst At made (taken_first Made n one left all is taken.each) in
    let count : length more ≡ n + 1 = ap length grown ∙ length-append workers (worker ∷ []) in
    let Have : ℕ → Type 0 = λ m. HaveEdges g cut words m more in
    let Grown : List (Scattering Acc) → Type 0 = λ ws. HaveEdges g cut words (n + 1) ws in
    record {
      have = subst Have (sym count) (subst Grown (sym grown) (have_more g cut words n workers worker taken.have here.edges here.words_are));
      count = omega (arith, count, taken.count, ap length is);
      each = taken_rest Made n one left all is taken.each (length more) count;
    }

pub all_taken : {Acc : Type 0} (g : Multigraph) (cut : Division) (words : List ℕ) (workers : List (Scattering Acc)) (left : List (Result Store AllocError)) → left ≡ [] → AreTaken g cut words workers left → HaveEdges g cut words cut.workers workers
all_taken g cut words workers left is taken = let Have : ℕ → Type 0 = λ m. HaveEdges g cut words m workers in
    let e : length workers ≡ cut.workers = omega (arith, taken.count, ap length is) in subst Have e taken.have

-- the same of replicas
pub record AreTablesTaken (cut : Division) (values : List Datum) (tables : List Mirrors) (left : List (Result Mirrors AllocError)) : Type 0 where
  pub have : HaveReplicas cut values (length tables) tables
  pub count : length tables + length left ≡ cut.workers
  pub each : (k : ℕ) (d : Result Mirrors AllocError) → k < length left → IfOk (get_or left k d) (λ table. table ≡ mirrors_of cut (length tables + k) values)

pub no_table_taken : (cut : Division) (values : List Datum) (tables : List Mirrors) (made left : List (Result Mirrors AllocError)) → tables ≡ [] → left ≡ made → length made ≡ cut.workers
    → ((w : ℕ) (d : Result Mirrors AllocError) → w < cut.workers → IfOk (get_or made w d) (λ table. table ≡ mirrors_of cut w values)) → AreTablesTaken cut values tables left
no_table_taken cut values tables made left empty is count each = rw (empty, is) (record {
  have = record { count = refl; each = λ w h. absurd (omega (arith, h)) };
  count = omega (arith, count);
  each = taken_none (λ w r. IfOk r (λ table. table ≡ mirrors_of cut w values)) made (λ w d h. each w d (omega (arith, h, count)));
})

table_more : (cut : Division) (values : List Datum) (n : ℕ) (tables : List Mirrors) (table : Mirrors) → HaveReplicas cut values n tables → table ≡ mirrors_of cut n values → HaveReplicas cut values (n + 1) (tables ++ table ∷ [])
table_more cut values n tables table have is = record {
  count = length-append tables (table ∷ []) ∙ ap (λ k. k + 1) have.count;
  each = λ w h. ⊎_elim (λ (l : w < n). get_or_append_left tables (table ∷ []) (mirrors [] []) w (omega (arith, l, have.count)) ∙ have.each w l)
      (λ (l : n ≤ w). let here : n ≡ w = omega arith in
      (let To : ℕ → Type 0 = λ k. table_at (tables ++ table ∷ []) k ≡ mirrors_of cut k values in subst To here (get_or_at tables table [] (mirrors [] []) n have.count ∙ is)))
      (cases_lt w n);
}

pub table_taken : (cut : Division) (values : List Datum) (tables : List Mirrors) (table : Mirrors) (more : List Mirrors) (one : Result Mirrors AllocError) (left all : List (Result Mirrors AllocError))
    → all ≡ one ∷ left → one ≡ Ok table → more ≡ tables ++ table ∷ [] → AreTablesTaken cut values tables all → AreTablesTaken cut values more left
table_taken cut values tables table more one left all is made grown taken =
    let Made : ℕ → Result Mirrors AllocError → Type 0 = λ w r. IfOk r (λ t. t ≡ mirrors_of cut w values) in
    let n = length tables in
    let At : Result Mirrors AllocError → Type 0 = λ r. IfOk r (λ t. t ≡ mirrors_of cut n values) in
    let here = subst At made (taken_first Made n one left all is taken.each) in
    let count : length more ≡ n + 1 = ap length grown ∙ length-append tables (table ∷ []) in
    let Have : ℕ → Type 0 = λ m. HaveReplicas cut values m more in
    let Grown : List Mirrors → Type 0 = λ ts. HaveReplicas cut values (n + 1) ts in
    record {
      have = subst Have (sym count) (subst Grown (sym grown) (table_more cut values n tables table taken.have here));
      count = omega (arith, count, taken.count, ap length is);
      each = taken_rest Made n one left all is taken.each (length more) count;
    }

pub all_tables_taken : (cut : Division) (values : List Datum) (tables : List Mirrors) (left : List (Result Mirrors AllocError)) → left ≡ [] → AreTablesTaken cut values tables left → HaveReplicas cut values cut.workers tables
all_tables_taken cut values tables left is taken = let Have : ℕ → Type 0 = λ m. HaveReplicas cut values m tables in
    let e : length tables ≡ cut.workers = omega (arith, taken.count, ap length is) in subst Have e taken.have

-- the shares of a state hold it, where the masters have its data and messages
pub shared_held : {Acc Carry : Type 0} (p : Program Acc Carry) (g : Multigraph) (cut : Division) (s : Configuration) (words : List ℕ) (values : List Datum) (shared workers : List (Scattering Acc)) (replicas mirrors : List Mirrors)
    (data_kept : List Datum) (waiting : List (Option ℕ)) → IsFit p g s → HaveEdges g cut words cut.workers shared → HaveReplicas cut values cut.workers replicas
    → words ≡ s.edges → values ≡ s.values → workers ≡ shared → mirrors ≡ replicas → data_kept ≡ s.values → waiting ≡ s.messages → IsHeld p g cut s workers mirrors data_kept waiting
shared_held p g cut s words values shared workers replicas mirrors data_kept waiting fit edges tables words_are values_are same_workers same_mirrors data_are waiting_are = record {
  fit = fit;
  stores = ap length same_workers ∙ edges.count;
  tables = ap length same_mirrors ∙ tables.count;
  shares = λ w h. rw (same_workers, same_mirrors) (record {
    edges = edges.stores w h;
    words = edges.words_are w h ∙ ap (λ ws. map (slice_index ws) (store_at shared w).numbers) words_are;
    replicas = tables.each w h ∙ ap (mirrors_of cut w) values_are;
  });
  values = data_are;
  messages = waiting_are;
}

-- a state by its parts
pub state_is : (s : Configuration) (values : List Datum) (edges : List ℕ) (messages : List (Option ℕ)) → values ≡ s.values → edges ≡ s.edges → messages ≡ s.messages → ◌≡◌ {A = Configuration} (record { values = values; edges = edges; messages = messages }) s
state_is s values edges messages a b c = rw (a, b, c) refl
