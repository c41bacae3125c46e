-- Data that are pushed to replicas.
use Rattle.std.proofs.Common.{◌≡◌, ◌≢◌, ℕ, zero, suc, ◌+◌, ◌<◌, List, [], ◌∷◌, ◌++◌, length, get_or, set, refl, sym, ◌∙◌, ap, arith, ⊎_elim}
use Rattle.std.specs.Prelude.{All, Contains}
use Rattle.std.specs.List.Sorted.{IsStrictlyIncreasing}
use Rattle.std.proofs.lemmas.Bool.{cases_lt}
use Rattle.std.proofs.lemmas.List.{get_or-set_same, get_or-set_other, length-set, length_push, get_or_push, get_or_append_left, get_or_default}
use Rattle.std.proofs.lemmas.List.Elements.{All-push}
use Rattle.pg_law.specs.declared.values.Datum.{Datum}
use Rattle.pg_law.specs.Values.{one}
use Rattle.pg_cut.proofs.Replicas.{spans_have, has_replica}
pub use Rattle.pg_cut.proofs.Replicas.{vertices_rise, vertices_inside, vertices_fewer}
use Rattle.pg_cut.proofs.Searching.{below_at}
use Rattle.pg_mirrors.specs.Mirrors.{Mirrors, mirrors, datum_at, Pushes, ReplicasAreInSpans}

-- a vertex stands at one place
same_place : (xs : List ℕ) → IsStrictlyIncreasing xs → (i j : ℕ) → i < length xs → j < length xs → get_or xs i 0 ≡ get_or xs j 0 → i ≡ j
same_place xs up i j hi hj e = ⊎_elim
    (λ below. absurd (omega (arith, e, up i (omega arith), below_at xs up (i + 1) j (omega arith) hj)))
    (λ above. ⊎_elim
    (λ higher. absurd (omega (arith, e, up j (omega arith), below_at xs up (j + 1) i (omega arith) hi)))
    (λ le. let same : i ≡ j = omega arith in same)
    (cases_lt j i))
    (cases_lt i j)

-- one replica gets a datum
pub set_one : (vertices : List ℕ) (values : List Datum) (v place : ℕ) (datum : Datum) → IsStrictlyIncreasing vertices → length values ≡ length vertices → place < length vertices → get_or vertices place 0 ≡ v
    → Pushes (mirrors vertices values) (mirrors vertices (set values place datum)) ((v, datum) ∷ [])
set_one vertices values v place datum up count h is = record {
  vertices = refl;
  count = length-set values place datum;
  listed = λ k d inside. first k inside d;
  others = λ i hi apart. get_or-set_other values place i datum (one 0) (λ e. apart 0 (v, datum) (omega arith) (sym is ∙ ap (λ j. get_or vertices j 0) (sym e)));
}
  where
    here : (i : ℕ) → i < length vertices → get_or vertices i 0 ≡ v → datum_at (set values place datum) i ≡ datum
    here i hi e = ap (datum_at (set values place datum)) (same_place vertices up i place hi h (e ∙ sym is)) ∙ get_or-set_same values place datum (one 0) (omega (arith, count))

    first : (k : ℕ) → k < 1 → (d : ℕ × Datum) (i : ℕ) → i < length vertices → get_or vertices i 0 ≡ (get_or ((v, datum) ∷ []) k d).0 → datum_at (set values place datum) i ≡ (get_or ((v, datum) ∷ []) k d).1
    first zero inside d i hi e = here i hi e
    first (suc k) inside d i hi e = absurd (omega arith)

-- one more is pushed
pub pushes_more : (old between new : Mirrors) (masters : List (ℕ × Datum)) (v : ℕ) (datum : Datum) → All (λ master. master.0 ≢ v) masters → Pushes old between masters → Pushes between new ((v, datum) ∷ []) → Pushes old new (masters ++ (v, datum) ∷ [])
pushes_more old between new masters v datum apart first second =
    let Has : ℕ × Datum → Type 0 = λ master. (i : ℕ) → i < length old.vertices → get_or old.vertices i 0 ≡ master.0 → datum_at new.values i ≡ master.1 in
    record {
      vertices = second.vertices ∙ first.vertices;
      count = second.count ∙ first.count;
      listed = All-push Has masters (v, datum) earlier last;
      others = λ i hi none. second.others i (inside i hi) (λ k d h. by_one i k h d (λ e. none (length masters) (v, datum) (omega (arith, length_push masters (v, datum))) (ap (λ m. m.0) (get_or_push masters (v, datum) (v, datum) (length masters) refl) ∙ e)))
          ∙ first.others i hi (λ k d h e. none k d (omega (arith, length_push masters (v, datum))) (ap (λ m. m.0) (get_or_append_left masters ((v, datum) ∷ []) d k h) ∙ e));
    }
  where
    inside : (i : ℕ) → i < length old.vertices → i < length between.vertices
    inside i hi = omega (arith, ap length first.vertices)

    vertex_is : (i : ℕ) → get_or between.vertices i 0 ≡ get_or old.vertices i 0
    vertex_is i = ap (λ xs. get_or xs i 0) first.vertices

    by_one : (i k : ℕ) → k < 1 → (d : ℕ × Datum) → (v ≡ get_or old.vertices i 0 → ⊥) → (get_or ((v, datum) ∷ []) k d).0 ≡ get_or between.vertices i 0 → ⊥
    by_one i zero h d ne e = ne (e ∙ vertex_is i)
    by_one i (suc k) h d ne e = absurd (omega arith)

    earlier : All (λ master. (i : ℕ) → i < length old.vertices → get_or old.vertices i 0 ≡ master.0 → datum_at new.values i ≡ master.1) masters
    earlier = λ k d h i hi e. second.others i (inside i hi) (λ m dm hm. by_one i m hm dm (λ same. apart k d h (sym e ∙ sym same))) ∙ first.listed k d h i hi e

    last : (i : ℕ) → i < length old.vertices → get_or old.vertices i 0 ≡ v → datum_at new.values i ≡ datum
    last i hi e = second.listed 0 (v, datum) (omega arith) i (inside i hi) (vertex_is i ∙ e)

-- replicas are where spans have the worker
pub replicas_in_spans : ReplicasAreInSpans
replicas_in_spans cut worker v h = (spans_have cut worker v, has_replica cut worker v h)
