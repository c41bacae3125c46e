-- Desks, once the sum at one of them is another.
use Rattle.std.proofs.Common.{◌≡◌, ◌≢◌, ℕ, ◌+◌, ◌<◌, ◌||◌, [], ◌∷◌, map, take, Bool, true, false, cond, ◌==◌, Option, Some, None, List, length, get_or, set, refl, sym, ◌∙◌, ap, subst, arith, ⊎_elim}
use Rattle.std.specs.Prelude.{IfSome, is_some}
use Rattle.std.specs.Option.{option_map}
use Rattle.std.proofs.lemmas.Bool.{cases_eq, cases_lt, eq-eqb, ne_eqb, eqb-true}
use Rattle.std.proofs.lemmas.List.{take_more, set-set, get_or-set_same, get_or-set_other, get_or_default, length-set}
use Rattle.std.specs.List.{range_with_len}
use Rattle.std.specs.List.Sorted.{IsStrictlyIncreasing}
use Rattle.std.proofs.lemmas.List.Folds.{list_any-append}
use Rattle.std.proofs.lemmas.List.FromFn.{length-map-range_with_len, get_or-map-range_with_len}
use Rattle.pg_law.specs.declared.values.Datum.{Datum}
use Rattle.pg_edge_store.proofs.Replicas.{apart_from}
use Rattle.pg_graph.specs.declared.edge.Side.{Side}
use Rattle.pg_graph.specs.Multigraph.{Multigraph, end_of, end_at}
use Rattle.pg_law.specs.Values.{one}
use Rattle.pg_law.specs.Program.{Program}
use Rattle.pg_edge_store.specs.Store.{Store, local_at}
use Rattle.pg_mirrors.specs.Mirrors.{Mirrors, datum_at}
use Rattle.pg_gather.specs.declared.desk.Desk.{Desk}
use Rattle.pg_gather.specs.Partials.{IsReadable, replica_of}
use Rattle.pg_gather.specs.Desks.{desk, desk_at, is_wanted, AreDesks}
use Rattle.pg_gather.proofs.Reading.{end_within, end_datum}

-- a desk is another one, or not
pub desk_at-set : {Acc : Type 0} (desks : List (Desk Acc)) (i r : ℕ) (x : Desk Acc) → i < length desks → desk_at (set desks i x) r ≡ cond (i == r) x (desk_at desks r)
desk_at-set desks i r x h = ⊎_elim
    (λ same. rw (eq-eqb i r same) (ap (λ k. desk_at (set desks i x) k) (sym same) ∙ get_or-set_same desks i x _ h))
    (λ other. rw (ne_eqb i r other) (get_or-set_other desks i r x _ (λ e. other (sym e))))
    (cases_eq i r)

module _ {Acc Carry : Type 0} (p : Program Acc Carry) (m : Mirrors) (desks : List (Desk Acc)) (are : AreDesks p m desks) where
  -- they stay desks, where the new one has the old datum and a sum of the program
  pub AreDesks-set : (i : ℕ) (x : Desk Acc) → i < length desks → x.datum ≡ (desk_at desks i).datum → IfSome x.sum p.IsAcc → AreDesks p m (set desks i x)
  AreDesks-set i x h datum own = record {
    count = length-set desks i x ∙ are.count;
    datum = λ r hr. ap (λ (d : Desk Acc). d.datum) (desk_at-set desks i r x h) ∙ datum_of r (i == r) refl ∙ are.datum r hr;
    own = λ r hr. rw (desk_at-set desks i r x h) (own_of r hr (i == r));
  }
    where
      datum_of : (r : ℕ) (b : Bool) → (i == r) ≡ b → (cond b x (desk_at desks r)).datum ≡ (desk_at desks r).datum
      datum_of r true is = datum ∙ ap (λ k. (desk_at desks k).datum) (eqb-true i r is)
      datum_of r false is = refl

      own_of : (r : ℕ) → r < length m.vertices → (b : Bool) → IfSome (cond b x (desk_at desks r)).sum p.IsAcc
      own_of r hr true = own
      own_of r hr false = are.own r hr

-- the sum at one desk has a part more
pub sum_added : {Acc : Type 0} (desks : List (Desk Acc)) (k r : ℕ) (f : Acc → Acc) → k < length desks
    → (desk_at (set desks k (desk (desk_at desks k).datum (option_map f (desk_at desks k).sum))) r).sum ≡ cond (k == r) (option_map f (desk_at desks r).sum) (desk_at desks r).sum
sum_added desks k r f h = ⊎_elim
    (λ same. ap (λ (d : Desk _). d.sum) (desk_at-set desks k r (desk (desk_at desks k).datum (option_map f (desk_at desks k).sum)) h) ∙ rw (eq-eqb k r same) (ap (λ j. option_map f (desk_at desks j).sum) same))
    (λ other. ap (λ (d : Desk _). d.sum) (desk_at-set desks k r (desk (desk_at desks k).datum (option_map f (desk_at desks k).sum)) h) ∙ rw (ne_eqb k r other) refl)
    (cases_eq k r)

-- a sum that is taken and put back with a part
pub put_back : {Acc : Type 0} (desks : List (Desk Acc)) (r : ℕ) (i j : Desk Acc) (gone : Option Acc) (f : Acc → Acc) (a b : Acc) → r < length desks → (desk_at desks r).sum ≡ Some a → b ≡ f a
    → set (set desks r (desk (get_or desks r i).datum gone)) r (desk (get_or (set desks r (desk (get_or desks r i).datum gone)) r j).datum (Some b)) ≡ set desks r (desk (desk_at desks r).datum (option_map f (desk_at desks r).sum))
put_back desks r i j gone f a b h held is =
    let first = desk (get_or desks r i).datum gone in
    let datum : (get_or (set desks r first) r j).datum ≡ (desk_at desks r).datum = ap (λ (d : Desk _). d.datum) (get_or-set_same desks r first j h) ∙ ap (λ (d : Desk _). d.datum) (get_or_default desks r i (desk (one 0) None) h) in
    set-set desks r first _ ∙ rw (datum, held, is) refl

-- the desk at an end of an edge has the datum of the replica there
module _ {Acc Carry : Type 0} (p : Program Acc Carry) (g : Multigraph) (s : Store) (m : Mirrors) (desks : List (Desk Acc)) (readable : IsReadable p g s m) (are : AreDesks p m desks)
    (place : ℕ) (h : place < length s.numbers) (side : Side) (r : ℕ) (is : r ≡ end_of side (local_at s place)) where
  pub end_inside : r < length m.vertices
  end_inside = omega (arith, is, end_within p g s m readable place h side)

  pub end_desk : r < length desks
  end_desk = omega (arith, end_inside, are.count)

  read : (d : Desk Acc) → (get_or desks r d).datum ≡ datum_at m.values r
  read d = ap (λ (x : Desk Acc). x.datum) (get_or_default desks r d (desk (one 0) None) end_desk) ∙ are.datum r end_inside

  pub read_end : (d : Desk Acc) → (get_or desks r d).datum ≡ replica_of m (end_at g side (get_or s.numbers place 0))
  read_end d = read d ∙ ap (datum_at m.values) is ∙ end_datum p g s m readable place h side

  pub read_own : (d : Desk Acc) → p.IsDatum (get_or desks r d).datum
  read_own d = subst p.IsDatum (sym (read d)) (readable.values r end_inside)

-- blank desks
module _ {Acc Carry : Type 0} (p : Program Acc Carry) (m : Mirrors) where
  abbrev blank : List (Desk Acc)
  blank = map (λ r. desk (datum_at m.values r) None) (range_with_len 0 (length m.vertices))

  pub blank_at : (r : ℕ) → r < length m.vertices → desk_at blank r ≡ desk (datum_at m.values r) None
  blank_at r h = get_or-map-range_with_len (λ r. desk (datum_at m.values r) None) 0 (length m.vertices) r r (desk (one 0) None) h (omega arith)

  pub blank_are : AreDesks p m blank
  blank_are = record {
    count = length-map-range_with_len (λ r. desk {Acc = Acc} (datum_at m.values r) None) 0 (length m.vertices);
    datum = λ r h. ap (λ (d : Desk Acc). d.datum) (blank_at r h);
    own = λ r h. rw (blank_at r h) tt;
  }

-- one wanted vertex more
or_false : (b : Bool) → (b || false) ≡ b
or_false true = refl
or_false false = refl

or_true : (b : Bool) → (b || true) ≡ true
or_true true = refl
or_true false = refl

wanted_more : (xs : List ℕ) (k v : ℕ) → k < length xs → is_wanted (take (k + 1) xs) v ≡ (is_wanted (take k xs) v || (get_or xs k 0 == v))
wanted_more xs k v h = ap (λ ys. is_wanted ys v) (take_more xs k 0 h) ∙ list_any-append (λ u. u == v) (take k xs) (get_or xs k 0 ∷ []) ∙ ap (λ b. is_wanted (take k xs) v || b) (or_false (get_or xs k 0 == v))

wanted_now : (xs : List ℕ) (k v : ℕ) → k < length xs → get_or xs k 0 ≡ v → is_wanted (take (k + 1) xs) v ≡ true
wanted_now xs k v h is = wanted_more xs k v h ∙ ap (λ b. is_wanted (take k xs) v || b) (eq-eqb _ v is) ∙ or_true (is_wanted (take k xs) v)

pub wanted_before : (xs : List ℕ) (k v : ℕ) → k < length xs → get_or xs k 0 ≢ v → is_wanted (take (k + 1) xs) v ≡ is_wanted (take k xs) v
wanted_before xs k v h other = wanted_more xs k v h ∙ ap (λ b. is_wanted (take k xs) v || b) (ne_eqb _ v other) ∙ or_false (is_wanted (take k xs) v)

-- ascending vertices stand at one place each
pub one_place : (xs : List ℕ) → IsStrictlyIncreasing xs → (i r : ℕ) → i < length xs → r < length xs → i ≢ r → get_or xs i 0 ≢ get_or xs r 0
one_place xs up i r hi hr other same = ⊎_elim (λ below. apart_from xs up i r below hr same) (λ behind. apart_from xs up r i (omega arith) hi (sym same)) (cases_lt i r)

-- once the desk of a wanted vertex is open
pub opened : {Acc : Type 0} (vertices wanted : List ℕ) (up : IsStrictlyIncreasing vertices) (k i r : ℕ) (empty : Acc) (desks : List (Desk Acc)) (datum : Datum) → i < length desks → i < length vertices → r < length vertices → k < length wanted
    → get_or vertices i 0 ≡ get_or wanted k 0 → (desk_at desks r).sum ≡ cond (is_wanted (take k wanted) (get_or vertices r 0)) (Some empty) None
    → (desk_at (set desks i (desk datum (Some empty))) r).sum ≡ cond (is_wanted (take (k + 1) wanted) (get_or vertices r 0)) (Some empty) None
opened vertices wanted up k i r empty desks datum hd hi hr hk is old =
    let chosen : (cond (i == r) (desk datum (Some empty)) (desk_at desks r)).sum ≡ cond (is_wanted (take (k + 1) wanted) (get_or vertices r 0)) (Some empty) None = ⊎_elim
    (λ same. rw (eq-eqb i r same, wanted_now wanted k (get_or vertices r 0) hk (sym is ∙ ap (λ j. get_or vertices j 0) same)) refl)
    (λ other. let kept : (cond (i == r) (desk datum (Some empty)) (desk_at desks r)).sum ≡ cond (is_wanted (take k wanted) (get_or vertices r 0)) (Some empty) None = rw (ne_eqb i r other) old in
    kept ∙ ap (λ b. cond b (Some empty) None) (sym (wanted_before wanted k (get_or vertices r 0) hk (λ same. one_place vertices up i r hi hr other (is ∙ same)))))
    (cases_eq i r) in
    ap (λ (d : Desk _). d.sum) (desk_at-set desks i r (desk datum (Some empty)) hd) ∙ chosen

-- what is there, from an equation
abbrev held_or : {A : Type 0} → A → Option A → A
held_or x None = x
held_or x (Some y) = y

pub some_same : {A : Type 0} (x y : A) → Some x ≡ Some y → x ≡ y
some_same x y e = ap (held_or x) e

-- nothing is not something
pub none_some : {A : Type 0} (x : A) → None ≡ Some x → ⊥
none_some x e = absurd (cc)

-- a sum of the program, with a part
pub own_added : {Acc : Type 0} (P : Acc → Type 0) (f : Acc → Acc) (o : Option Acc) → ((a : Acc) → P a → P (f a)) → IfSome o P → IfSome (option_map f o) P
own_added P f None keeps own = tt
own_added P f (Some a) keeps own = keeps a own

-- what isn't there gets nothing
pub none_added : {Acc : Type 0} (b : Bool) (f : Acc → Acc) (o : Option Acc) → is_some o ≡ false → cond b (option_map f o) o ≡ o
none_added true f None is = refl
none_added true f (Some a) is = absurd (cc)
none_added false f o is = refl

-- an option that a test alone makes
pub some_made : {A : Type 0} (b : Bool) (x : A) → is_some (cond b (Some x) None) ≡ b
some_made true x = refl
some_made false x = refl

-- a part leaves a sum where there was one
pub some_added : {A : Type 0} (a b : Bool) (f : A → A) (o : Option A) → is_some (cond a (cond b (option_map f o) o) o) ≡ is_some o
some_added true true f None = refl
some_added true true f (Some x) = refl
some_added true false f o = refl
some_added false b f o = refl
