use Rattle.std.proofs.Common.{◌≡◌, ℕ, zero, suc, ◌+◌, ◌<◌, Bool, true, false, cond, List, [], ◌∷◌, refl, sym, subst, ◌∙◌, ap, arith, add-one, inl, inr, Option, Some, None}
use Rattle.std.specs.Prelude.{fold, ◌==◌, nat_lt, ◌⊎◌}
use Rattle.std.specs.List.{range_with_len, AllByRecursion}
use Rattle.std.proofs.lemmas.Bool.{cases_order, lt-ltb, le-ltb, eq-eqb, ne_eqb, cond-true, cond-false}
use Rattle.std.proofs.lemmas.List.Sums.{fold_push}
use Rattle.pg_graph.proofs.Numbers.{numbers_more}
use Rattle.pg_graph.specs.Multigraph.{Multigraph}
use Rattle.pg_law.specs.declared.values.Datum.{Datum}
use Rattle.pg_law.specs.declared.values.Applied.{Applied}
use Rattle.pg_law.specs.Program.{Program}
use Rattle.pg_law.specs.Laws.{IsLawful, IsOptional}
use Rattle.pg_law.specs.Round.{gathered, sum_over, signal_to, with_signals, join}
use Rattle.pg_law.specs.Monoid.{IsCommutativeMonoid, total, part}

module _ {A : Type 0} (P : A → Type 0) (unit : A) (op : A → A → A) (monoid : IsCommutativeMonoid P unit op) where
  right_unit : (a : A) → P a → op a unit ≡ a
  right_unit a pa = monoid.comm a unit pa monoid.unit_own ∙ monoid.left_unit a pa

  -- moving one value past another
  swap : (a b c : A) → P a → P b → P c → op a (op b c) ≡ op b (op a c)
  swap a b c pa pb pc = sym (monoid.assoc a b c pa pb pc) ∙ ap (λ x. op x c) (monoid.comm a b pa pb) ∙ monoid.assoc b a c pb pa pc

  -- a total of own values is an own value, from any start
  fold_own : {X : Type 0} (f : X → A) (a : A) (xs : List X) → P a → AllByRecursion (λ x. P (f x)) xs → P (fold (λ a x. op a (f x)) a xs)
  fold_own f a [] pa all = pa
  fold_own f a (x ∷ xs) pa all = fold_own f (op a (f x)) xs (monoid.closed a (f x) pa all.0) all.1

  -- a start can be taken out in front
  pub fold_from : {X : Type 0} (f : X → A) (a : A) (xs : List X) → P a → AllByRecursion (λ x. P (f x)) xs → fold (λ a x. op a (f x)) a xs ≡ op a (total unit op f xs)
  fold_from f a [] pa all = sym (right_unit a pa)
  fold_from f a (x ∷ xs) pa all = let rest = total unit op f xs in
      let own_rest = fold_own f unit xs monoid.unit_own all.1 in
      let first = monoid.left_unit (f x) all.0 in
      let own_first = monoid.closed unit (f x) monoid.unit_own all.0 in
      fold_from f (op a (f x)) xs (monoid.closed a (f x) pa all.0) all.1
      ∙ monoid.assoc a (f x) rest pa all.0 own_rest
      ∙ ap (λ b. op a (op b rest)) (sym first)
      ∙ ap (op a) (sym (fold_from f (op unit (f x)) xs own_first all.1))

  pub total_cons : {X : Type 0} (f : X → A) (x : X) (xs : List X) → P (f x) → AllByRecursion (λ x. P (f x)) xs → total unit op f (x ∷ xs) ≡ op (f x) (total unit op f xs)
  total_cons f x xs px all = fold_from f (op unit (f x)) xs (monoid.closed unit (f x) monoid.unit_own px) all ∙ ap (λ b. op b (total unit op f xs)) (monoid.left_unit (f x) px)

  part_own : {X : Type 0} (f : X → A) (place : X → ℕ) (w : ℕ) (xs : List X) → AllByRecursion (λ x. P (f x)) xs → AllByRecursion (λ x. P (f x)) (part place w xs)
  part_own f place w [] all = tt
  part_own {X = X} f place w (x ∷ xs) all = chosen (place x == w) (part_own f place w xs all.1)
    where
      chosen : (b : Bool) → AllByRecursion (λ x. P (f x)) (part place w xs) → AllByRecursion (λ x. P (f x)) (cond b (x ∷ part place w xs) (part place w xs))
      chosen true rest = (all.0, rest)
      chosen false rest = rest

  -- the totals of the parts of the workers below n
  abbrev pub totals_below : {X : Type 0} → (X → A) → (X → ℕ) → List X → ℕ → A
  totals_below f place xs n = total unit op (λ w. total unit op f (part place w xs)) (range_with_len 0 n)

  totals_next : {X : Type 0} (f : X → A) (place : X → ℕ) (xs : List X) (n : ℕ) → totals_below f place xs (n + 1) ≡ op (totals_below f place xs n) (total unit op f (part place n xs))
  totals_next f place xs n = ap (total unit op (λ w. total unit op f (part place w xs))) (numbers_more n) ∙ fold_push (λ a w. op a (total unit op f (part place w xs))) unit (range_with_len 0 n) n

  totals_own : {X : Type 0} (f : X → A) (place : X → ℕ) (xs : List X) (n : ℕ) → AllByRecursion (λ x. P (f x)) xs → P (totals_below f place xs n)
  totals_own f place xs zero all = monoid.unit_own
  totals_own f place xs (suc n) all = let Q : ℕ → Type 0 = λ k. P (totals_below f place xs k) in
      subst Q (add-one n) (subst P (sym (totals_next f place xs n)) (monoid.closed _ _ (totals_own f place xs n all) (fold_own f unit (part place n xs) monoid.unit_own (part_own f place n xs all))))

  totals_of_none : {X : Type 0} (f : X → A) (place : X → ℕ) (n : ℕ) → totals_below f place [] n ≡ unit
  totals_of_none f place zero = refl
  totals_of_none f place (suc n) = let Q : ℕ → Type 0 = λ k. totals_below f place [] k ≡ unit in
      subst Q (add-one n) (totals_next f place [] n ∙ ap (λ a. op a unit) (totals_of_none f place n) ∙ monoid.left_unit unit monoid.unit_own)

  -- one more item in front goes to just one worker
  one_more : {X : Type 0} (f : X → A) (place : X → ℕ) (x : X) (xs : List X) (n : ℕ) → P (f x) → AllByRecursion (λ x. P (f x)) xs
      → totals_below f place (x ∷ xs) n ≡ cond (nat_lt (place x) n) (op (f x) (totals_below f place xs n)) (totals_below f place xs n)
  one_more f place x xs zero px all = sym (cond-false (nat_lt (place x) 0) _ _ (le-ltb (place x) 0 (omega arith)))
  one_more {X = X} f place x xs (suc n) px all = let Q : ℕ → Type 0 = λ k. totals_below f place (x ∷ xs) k ≡ cond (nat_lt (place x) k) (op (f x) (totals_below f place xs k)) (totals_below f place xs k) in
      subst Q (add-one n) (next (one_more f place x xs n px all))
    where
      T : A
      T = totals_below f place xs n

      G : A
      G = total unit op f (part place n xs)

      next : totals_below f place (x ∷ xs) n ≡ cond (nat_lt (place x) n) (op (f x) (totals_below f place xs n)) (totals_below f place xs n)
          → totals_below f place (x ∷ xs) (n + 1) ≡ cond (nat_lt (place x) (n + 1)) (op (f x) (totals_below f place xs (n + 1))) (totals_below f place xs (n + 1))
      next before = chosen (cases_order (place x) n)
        where
          new : A
          new = totals_below f place xs (n + 1)

          own_T : P T
          own_T = totals_own f place xs n all

          own_G : P G
          own_G = fold_own f unit (part place n xs) monoid.unit_own (part_own f place n xs all)

          same : place x == n ≡ true → total unit op f (part place n (x ∷ xs)) ≡ op (f x) G
          same e = ap (λ b. total unit op f (cond b (x ∷ part place n xs) (part place n xs))) e ∙ total_cons f x (part place n xs) px (part_own f place n xs all)

          other : place x == n ≡ false → total unit op f (part place n (x ∷ xs)) ≡ G
          other e = ap (λ b. total unit op f (cond b (x ∷ part place n xs) (part place n xs))) e

          step : (a b : A) → totals_below f place (x ∷ xs) n ≡ a → total unit op f (part place n (x ∷ xs)) ≡ b → totals_below f place (x ∷ xs) (n + 1) ≡ op a b
          step a b ea eb = totals_next f place (x ∷ xs) n ∙ ap (λ t. op t (total unit op f (part place n (x ∷ xs)))) ea ∙ ap (op a) eb

          chosen : (place x ≡ n) ⊎ ((place x < n) ⊎ (n < place x)) → totals_below f place (x ∷ xs) (n + 1) ≡ cond (nat_lt (place x) (n + 1)) (op (f x) new) new
          chosen (inl e) = step T (op (f x) G) (before ∙ cond-false (nat_lt (place x) n) _ _ (le-ltb (place x) n (omega arith))) (same (eq-eqb (place x) n e))
              ∙ swap T (f x) G own_T px own_G ∙ ap (op (f x)) (sym (totals_next f place xs n)) ∙ sym (cond-true (nat_lt (place x) (n + 1)) _ _ (lt-ltb (place x) (n + 1) (omega arith)))
          chosen (inr (inl h)) = step (op (f x) T) G (before ∙ cond-true (nat_lt (place x) n) _ _ (lt-ltb (place x) n h)) (other (ne_eqb (place x) n (λ e. absurd (omega arith))))
              ∙ monoid.assoc (f x) T G px own_T own_G ∙ ap (op (f x)) (sym (totals_next f place xs n)) ∙ sym (cond-true (nat_lt (place x) (n + 1)) _ _ (lt-ltb (place x) (n + 1) (omega arith)))
          chosen (inr (inr h)) = step T G (before ∙ cond-false (nat_lt (place x) n) _ _ (le-ltb (place x) n (omega arith))) (other (ne_eqb (place x) n (λ e. absurd (omega arith))))
              ∙ sym (totals_next f place xs n) ∙ sym (cond-false (nat_lt (place x) (n + 1)) _ _ (le-ltb (place x) (n + 1) (omega arith)))

  -- the totals of the workers' parts sum up to the total of the list
  pub parts_sum_up : {X : Type 0} (f : X → A) (place : X → ℕ) (n : ℕ) (xs : List X) → AllByRecursion (λ x. place x < n) xs → AllByRecursion (λ x. P (f x)) xs → totals_below f place xs n ≡ total unit op f xs
  parts_sum_up f place n [] below all = totals_of_none f place n
  parts_sum_up f place n (x ∷ xs) below all = one_more f place x xs n all.0 all.1 ∙ cond-true (nat_lt (place x) n) _ _ (lt-ltb (place x) n below.0)
      ∙ ap (op (f x)) (parts_sum_up f place n xs below.1 all.1) ∙ sym (total_cons f x xs all.0 all.1)

  each_part_own : {X : Type 0} (f : X → A) (place : X → ℕ) (xs : List X) (ws : List ℕ) → AllByRecursion (λ x. P (f x)) xs → AllByRecursion (λ w. P (total unit op f (part place w xs))) ws
  each_part_own f place xs [] all = tt
  each_part_own f place xs (w ∷ ws) all = (fold_own f unit (part place w xs) monoid.unit_own (part_own f place w xs all), each_part_own f place xs ws all)

  -- going through the parts one after another adds their totals
  part_by_part : {X : Type 0} (f : X → A) (place : X → ℕ) (xs : List X) (a : A) (ws : List ℕ) → P a → AllByRecursion (λ x. P (f x)) xs
      → fold (λ b w. fold (λ c x. op c (f x)) b (part place w xs)) a ws ≡ fold (λ b w. op b (total unit op f (part place w xs))) a ws
  part_by_part f place xs a [] pa all = refl
  part_by_part f place xs a (w ∷ ws) pa all = let own = part_own f place w xs all in
      ap (λ b. fold (λ b v. fold (λ c x. op c (f x)) b (part place v xs)) b ws) (fold_from f a (part place w xs) pa own)
      ∙ part_by_part f place xs (op a (total unit op f (part place w xs))) ws (monoid.closed a _ pa (fold_own f unit (part place w xs) monoid.unit_own own)) all

  -- going through the parts one after another, from any start, is going through the list
  pub parts_in_turn : {X : Type 0} (f : X → A) (place : X → ℕ) (n : ℕ) (a : A) (xs : List X) → P a → AllByRecursion (λ x. place x < n) xs → AllByRecursion (λ x. P (f x)) xs
      → fold (λ b w. fold (λ c x. op c (f x)) b (part place w xs)) a (range_with_len 0 n) ≡ fold (λ c x. op c (f x)) a xs
  parts_in_turn f place n a xs pa below all = part_by_part f place xs a (range_with_len 0 n) pa all
      ∙ fold_from (λ w. total unit op f (part place w xs)) a (range_with_len 0 n) pa (each_part_own f place xs (range_with_len 0 n) all)
      ∙ ap (op a) (parts_sum_up f place n xs below all)
      ∙ sym (fold_from f a xs pa all)

module _ {Acc Carry : Type 0} (p : Program Acc Carry) (law : IsLawful p) where
  pub sum_monoid : IsCommutativeMonoid p.IsAcc p.empty p.sum
  sum_monoid = record {
    unit_own = law.closed.empty;
    closed = law.closed.sum;
    left_unit = law.monoidal.sum_unit;
    comm = law.monoidal.sum_comm;
    assoc = law.monoidal.sum_assoc;
  }

  join_closed : (a b : Option ℕ) → IsOptional p.IsMessage a → IsOptional p.IsMessage b → IsOptional p.IsMessage (join p.combine a b)
  join_closed None b ha hb = hb
  join_closed (Some a) None ha hb = ha
  join_closed (Some a) (Some b) ha hb = law.closed.combine a b ha hb

  join_comm : (a b : Option ℕ) → IsOptional p.IsMessage a → IsOptional p.IsMessage b → join p.combine a b ≡ join p.combine b a
  join_comm None None ha hb = refl
  join_comm None (Some b) ha hb = refl
  join_comm (Some a) None ha hb = refl
  join_comm (Some a) (Some b) ha hb = ap Some (law.monoidal.combine_comm a b ha hb)

  join_assoc : (a b c : Option ℕ) → IsOptional p.IsMessage a → IsOptional p.IsMessage b → IsOptional p.IsMessage c → join p.combine (join p.combine a b) c ≡ join p.combine a (join p.combine b c)
  join_assoc None b c ha hb hc = refl
  join_assoc (Some a) None c ha hb hc = refl
  join_assoc (Some a) (Some b) None ha hb hc = refl
  join_assoc (Some a) (Some b) (Some c) ha hb hc = ap Some (law.monoidal.combine_assoc a b c ha hb hc)

  pub join_monoid : IsCommutativeMonoid (IsOptional p.IsMessage) None (join p.combine)
  join_monoid = record { unit_own = tt; closed = join_closed; left_unit = λ a h. refl; comm = join_comm; assoc = join_assoc }

  -- what the workers gathered, each over the edges placed on it, sums up to the fresh gather over these edges
  pub partial_sums : (g : Multigraph) (values : List Datum) (words : List ℕ) (u : ℕ) (place : ℕ → ℕ) (workers : ℕ) (edges : List ℕ)
      → AllByRecursion (λ e. place e < workers) edges → AllByRecursion (λ e. p.IsAcc (gathered p g values words u e)) edges
      → fold (λ a w. p.sum a (sum_over p g values words u (part place w edges))) p.empty (range_with_len 0 workers) ≡ sum_over p g values words u edges
  partial_sums g values words u place workers edges below own = parts_sum_up p.IsAcc p.empty p.sum sum_monoid (gathered p g values words u) place workers edges below own

  -- the signals of the workers' edges, received worker by worker, are those of all edges
  pub signals_in_turn : (g : Multigraph) (values : List Datum) (words : List ℕ) (became : List (Option (Applied Carry))) (v : ℕ) (message : Option ℕ) (place : ℕ → ℕ) (workers : ℕ) (edges : List ℕ)
      → IsOptional p.IsMessage message → AllByRecursion (λ e. place e < workers) edges → AllByRecursion (λ e. IsOptional p.IsMessage (signal_to p g values words became v e)) edges
      → fold (λ m w. with_signals p g values words became v m (part place w edges)) message (range_with_len 0 workers) ≡ with_signals p g values words became v message edges
  signals_in_turn g values words became v message place workers edges m below own =
      parts_in_turn (IsOptional p.IsMessage) None (join p.combine) join_monoid (signal_to p g values words became v) place workers message edges m below own
