-- What the vertices became, read from the list of those that applied.
use Rattle.std.proofs.Common.{◌≡◌, ◌≢◌, ℕ, suc, ◌<◌, Bool, true, false, cond, ◌==◌, ◌||◌, Option, Some, None, is_some, List, [], ◌∷◌, length, get_or, map, refl, sym, ◌∙◌, ap, arith}
use Rattle.std.specs.Prelude.{All, filter}
use Rattle.std.specs.List.{list_any, range_with_len, AllByRecursion}
use Rattle.std.proofs.lemmas.Bool.{ne_eqb, eqb-true, eqb-false}
use Rattle.std.proofs.lemmas.List.{get_or-map, ext_get_or, length-map}
use Rattle.std.proofs.lemmas.List.Elements.{recursion_from_All, All-nil, All-cons}
use Rattle.std.proofs.lemmas.List.FromFn.{get_or-map-range_with_len}
use Rattle.pg_graph.specs.Multigraph.{Multigraph, vertices, info}
use Rattle.pg_graph.proofs.Numbers.{numbers_below}
use Rattle.pg_law.specs.declared.values.Datum.{Datum}
use Rattle.pg_law.specs.declared.values.Applied.{Applied}
use Rattle.pg_law.specs.Values.{one}
use Rattle.pg_law.specs.Program.{Program}
use Rattle.pg_law.specs.Configuration.{Configuration, is_signalled, signalled, message_in, datum_in}
use Rattle.pg_law.specs.Round.{became_at, datum_after, values_after, fresh, apply_to, outcome}
use Rattle.pg_law.proofs.Lists.{stands_below, map_twice}
use Rattle.pg_cut.specs.Cut.{Division, IsCutOf, vertices_on}
use Rattle.pg_mirrors.specs.Mirrors.{Mirrors, mirrors, Pushes, datum_at, mirrors_of}
use Rattle.pg_mirrors.proofs.Pushing.{vertices_inside}
use Rattle.pg_apply_scatter.specs.Applying.{message_of, applied_by, applied_masters}
use Rattle.pg_apply_scatter.specs.Halves.{entry_of, became_by, data_of, MastersBecome, PushesShare}

-- maps that agree on what stands in the list
pub map_agree_on : {X Y : Type 0} (f h : X → Y) (xs : List X) → AllByRecursion (λ x. f x ≡ h x) xs → map f xs ≡ map h xs
map_agree_on f h [] same = refl
map_agree_on f h (x ∷ xs) same = rw (same.0) (ap (λ ys. h x ∷ ys) (map_agree_on f h xs same.1))

pub numbers_agree : {Y : Type 0} (f h : ℕ → Y) (n : ℕ) → ((k : ℕ) → k < n → f k ≡ h k) → map f (range_with_len 0 n) ≡ map h (range_with_len 0 n)
numbers_agree f h n same = let Agree : ℕ → Type 0 = λ k. f k ≡ h k in
    map_agree_on f h (range_with_len 0 n) (recursion_from_All Agree (range_with_len 0 n) (λ i d inside. same (get_or (range_with_len 0 n) i d) (numbers_below n i d inside)))

module _ {A : Type 0} (F : ℕ → A) (q : ℕ → Bool) where
  abbrev entries : List ℕ → List (ℕ × A)
  entries xs = map (λ u. (u, F u)) xs

  -- who doesn't pass has no entry
  none_entered : (xs : List ℕ) (v : ℕ) → q v ≡ false → entry_of (entries (filter q xs)) v ≡ None
  none_entered [] v fails = refl
  none_entered (x ∷ xs) v fails = chosen (q x) refl (none_entered xs v fails)
    where
      chosen : (b : Bool) → q x ≡ b → entry_of (entries (filter q xs)) v ≡ None → entry_of (entries (cond b (x ∷ filter q xs) (filter q xs))) v ≡ None
      chosen true passes rest = ap (λ t. cond t (Some (F x)) (entry_of (entries (filter q xs)) v)) (ne_eqb x v (λ same. false_true (sym fails ∙ ap q (sym same) ∙ passes))) ∙ rest
        where
          false_true : false ≡ true → ⊥
          false_true e = absurd (cc)
      chosen false passes rest = rest

  -- who passes has its own
  pub entered : (xs : List ℕ) (v : ℕ) → list_any (λ u. u == v) xs ≡ true → entry_of (entries (filter q xs)) v ≡ cond (q v) (Some (F v)) None
  entered [] v among = absurd (cc)
  entered (x ∷ xs) v among = by_first (x == v) refl among (entered xs v)
    where
      Goal : Bool → Type 0
      Goal b = entry_of (entries (cond b (x ∷ filter q xs) (filter q xs))) v ≡ cond (q v) (Some (F v)) None

      by_first : (same : Bool) → (x == v) ≡ same → (same || list_any (λ u. u == v) xs) ≡ true → (list_any (λ u. u == v) xs ≡ true → entry_of (entries (filter q xs)) v ≡ cond (q v) (Some (F v)) None) → Goal (q x)
      by_first true is h rest = here (q x) refl
        where
          same : x ≡ v
          same = eqb-true x v is

          here : (b : Bool) → q x ≡ b → Goal b
          here true passes = ap (λ t. cond t (Some (F x)) (entry_of (entries (filter q xs)) v)) is ∙ rw (← same, passes) refl
          here false fails = let fails_too : q v ≡ false = ap q (sym same) ∙ fails in none_entered xs v fails_too ∙ rw fails_too refl
      by_first false is h rest = there (q x)
        where
          there : (b : Bool) → Goal b
          there true = ap (λ t. cond t (Some (F x)) (entry_of (entries (filter q xs)) v)) is ∙ rest h
          there false = rest h

-- the datum after a push, by the entry of the vertex
module _ (new old : Datum) (v : ℕ) where
  abbrev Listed : ℕ × Datum → Type 0
  Listed master = master.0 ≡ v → new ≡ master.1

  abbrev Other : ℕ × Datum → Type 0
  Other master = master.0 ≢ v

  pushed_entry : {Carry : Type 0} (applied : List (ℕ × Applied Carry)) → All Listed (data_of applied) → (All Other (data_of applied) → new ≡ old) → new ≡ datum_after old (entry_of applied v)
  pushed_entry [] listed others = others (All-nil Other)
  pushed_entry (entry ∷ applied) listed others = by_first (entry.0 == v) refl (pushed_entry applied (λ k d h. listed (suc k) d (omega (arith, h))))
    where
      by_first : (same : Bool) → (entry.0 == v) ≡ same → ((All Other (data_of applied) → new ≡ old) → new ≡ datum_after old (entry_of applied v)) → new ≡ datum_after old (cond (entry.0 == v) (Some entry.1) (entry_of applied v))
      by_first true is rest = listed 0 (v, old) (omega arith) (eqb-true entry.0 v is) ∙ sym (ap (λ b. datum_after old (cond b (Some entry.1) (entry_of applied v))) is)
      by_first false is rest = rest (λ none. others (All-cons Other (entry.0, entry.1.datum) (data_of applied) (eqb-false entry.0 v is) none)) ∙ sym (ap (λ b. datum_after old (cond b (Some entry.1) (entry_of applied v))) is)

module _ {Acc Carry : Type 0} (p : Program Acc Carry) where
  -- a signalled vertex applies
  applies : (g : Multigraph) (s : Configuration) (u : ℕ) (message : Option ℕ) → cond (is_some message) (Some (p.apply (info g u) (datum_in s.values u) (fresh p g s u) (message_of message))) None ≡ apply_to p g s u message
  applies g s u None = refl
  applies g s u (Some message) = refl

  pub masters_become : MastersBecome p
  masters_become g s = numbers_agree (entry_of (applied_masters p g s.values s.messages (map (λ u. (u, fresh p g s u)) (signalled g s)))) (outcome p g s (λ v. true)) (length g.ids)
      (λ v h. ap (λ entries. entry_of entries v) (map_twice (λ (sum : ℕ × Acc). (sum.0, applied_by p g s.values s.messages sum)) (λ u. (u, fresh p g s u)) (signalled g s))
      ∙ entered (λ u. applied_by p g s.values s.messages (u, fresh p g s u)) (is_signalled s) (vertices g) v (stands_below v (length g.ids) h)
      ∙ applies g s v (message_in s.messages v))

  module _ (g : Multigraph) (cut : Division) (worker : ℕ) (s : Configuration) (applied : List (ℕ × Applied Carry)) (old new : Mirrors)
      (is : IsCutOf g cut) (was : old ≡ mirrors_of cut worker s.values) (pushed : Pushes old new (data_of applied)) where
    -- each replica has the datum after apply
    datum_pushed : (i : ℕ) → i < length (vertices_on cut worker) → datum_at new.values i ≡ datum_at (values_after p g s.values (became_by g applied)) (get_or (vertices_on cut worker) i 0)
    datum_pushed i h = pushed_entry (datum_at new.values i) (datum_in s.values v) v applied
        (λ k d inside same. pushed.listed k d inside i here (vertex ∙ sym same))
        (λ none. pushed.others i here (λ k d inside same. none k d inside (same ∙ vertex)) ∙ datum)
        ∙ ap (datum_after (datum_in s.values v)) (sym (get_or-map-range_with_len (entry_of applied) 0 (length g.ids) v v None below (omega arith)))
        ∙ sym (get_or-map-range_with_len (λ u. datum_after (datum_in s.values u) (became_at (became_by g applied) u)) 0 (length g.ids) v v (one 0) below (omega arith))
      where
        v : ℕ
        v = get_or (vertices_on cut worker) i 0

        below : get_or (vertices_on cut worker) i 0 < length g.ids
        below = omega (arith, vertices_inside cut worker i 0 h, is.count)

        here : i < length old.vertices
        here = omega (arith, ap (λ (m : Mirrors). length m.vertices) was, h)

        vertex : get_or old.vertices i 0 ≡ get_or (vertices_on cut worker) i 0
        vertex = ap (λ (m : Mirrors). get_or m.vertices i 0) was

        datum : datum_at old.values i ≡ datum_in s.values (get_or (vertices_on cut worker) i 0)
        datum = ap (λ (m : Mirrors). datum_at m.values i) was ∙ get_or-map (datum_at s.values) (vertices_on cut worker) i 0 (one 0) h

    pushed_table : new ≡ mirrors_of cut worker (values_after p g s.values (became_by g applied))
    pushed_table = table_is new (vertices_on cut worker) (map (datum_at (values_after p g s.values (became_by g applied))) (vertices_on cut worker))
        (pushed.vertices ∙ ap (λ (m : Mirrors). m.vertices) was)
        (ext_get_or (one 0) new.values (map (datum_at (values_after p g s.values (became_by g applied))) (vertices_on cut worker)) (count ∙ sym (length-map (vertices_on cut worker) (datum_at (values_after p g s.values (became_by g applied)))))
        (λ i h. let inside : i < length (vertices_on cut worker) = omega (arith, h, count) in
        datum_pushed i inside ∙ sym (get_or-map (datum_at (values_after p g s.values (became_by g applied))) (vertices_on cut worker) i 0 (one 0) inside)))
      where
        count : length new.values ≡ length (vertices_on cut worker)
        count = pushed.count ∙ ap (λ (m : Mirrors). length m.values) was ∙ length-map (vertices_on cut worker) (datum_at s.values)

        table_is : (m : Mirrors) (vertices : List ℕ) (values : List Datum) → m.vertices ≡ vertices → m.values ≡ values → m ≡ mirrors vertices values
        table_is m vertices values a b = rw (← a, ← b) refl

  pub pushes_share : PushesShare p
  pushes_share g cut worker s applied store old new is share pushed = record {
    edges = share.edges;
    words = share.words;
    replicas = pushed_table g cut worker s applied old new is share.replicas pushed;
  }
