-- How a draft is filled, vertex by vertex, and is blank again.
use Rattle.std.proofs.Common.{◌≡◌, ℕ, ◌+◌, ◌<◌, ◌≤◌, Bool, true, false, cond, ◌||◌, ◌&&◌, Option, Some, None, List, [], ◌∷◌, ◌++◌, length, get_or, set, refl, sym, ◌∙◌, ap, inl, inr, arith, zero, suc, subst, add-one}
use Rattle.std.specs.Prelude.{◌==◌, filter, map, is_some, ltb}
use Rattle.std.specs.List.{range_with_len}
use Rattle.std.proofs.lemmas.Bool.{cases_lt, cases_eq, eq-eqb, ne_eqb, lt-ltb, le-ltb}
use Rattle.std.proofs.lemmas.List.{get_or-set_same, get_or-set_other, length-set, ext_get_or}
use Rattle.std.proofs.lemmas.List.FromFn.{length-range_with_len, length-map-range_with_len, get_or-map-range_with_len, fill_by_all}
use Rattle.std.proofs.lemmas.List.Folds.{list_any-append}
use Rattle.pg_graph.specs.Multigraph.{Multigraph, vertices}
use Rattle.pg_graph.proofs.Numbers.{filter_numbers_more, filter_numbers_each, length_filter_within}
use Rattle.pg_law.specs.declared.values.Applied.{Applied}
use Rattle.pg_law.specs.declared.values.Datum.{Datum}
use Rattle.pg_law.specs.Values.{one}
use Rattle.pg_law.specs.Carries.{carry_at, carry_in}
use Rattle.pg_law.specs.Program.{Program}
use Rattle.pg_law.specs.Configuration.{Configuration, IsFit, is_signalled, signalled, datum_in, message_in}
use Rattle.pg_law.specs.Round.{apply_to, outcomes, became_at, datum_after, message_after, values_after, messages_after}
use Rattle.pg_rounds.specs.Drafts.{is_among, becomes, IsDraftOf}

-- one vertex more
pub among_more : (done : List ℕ) (u v : ℕ) → is_among (done ++ u ∷ []) v ≡ (is_among done v || (u == v))
among_more done u v = list_any-append (λ k. k == v) done (u ∷ []) ∙ ap (λ b. is_among done v || b) (or_false (u == v))
  where
    or_false : (b : Bool) → (b || false) ≡ b
    or_false true = refl
    or_false false = refl

among_itself : (done : List ℕ) (u : ℕ) → is_among (done ++ u ∷ []) u ≡ true
among_itself done u = among_more done u u ∙ ap (λ b. is_among done u || b) (eq-eqb u u refl) ∙ or_true (is_among done u)
  where
    or_true : (b : Bool) → (b || true) ≡ true
    or_true true = refl
    or_true false = refl

among_others : (done : List ℕ) (u v : ℕ) → (u ≡ v → ⊥) → is_among (done ++ u ∷ []) v ≡ is_among done v
among_others done u v apart = among_more done u v ∙ ap (λ b. is_among done v || b) (ne_eqb u v apart) ∙ or_false (is_among done v)
  where
    or_false : (b : Bool) → (b || false) ≡ b
    or_false true = refl
    or_false false = refl

-- a list that has the new at the vertices so far, and the old elsewhere, with one vertex more
pub set_more : {X : Type 0} (d : X) (old new : ℕ → X) (xs : List X) (n : ℕ) (done : List ℕ) (u : ℕ) (x : X) → length xs ≡ n → u < n → x ≡ new u
    → ((v : ℕ) → v < n → get_or xs v d ≡ cond (is_among done v) (new v) (old v))
    → (v : ℕ) → v < n → get_or (set xs u x) v d ≡ cond (is_among (done ++ u ∷ []) v) (new v) (old v)
set_more d old new xs n done u x count inside is each v within = elim (cases_eq u v) [
  | inl same ↦ rw (← same) (get_or-set_same xs u x d (omega (arith, count, inside)) ∙ is ∙ ap (λ b. cond b (new u) (old u)) (sym (among_itself done u)))
  | inr apart ↦ get_or-set_other xs u v x d (λ e. apart (sym e)) ∙ each v within ∙ ap (λ b. cond b (new v) (old v)) (sym (among_others done u v apart))
]

-- who is among the first numbers that pass
module _ (test : ℕ → Bool) (v : ℕ) where
  or_not : (a b : Bool) → (a || (b && false)) ≡ a
  or_not true true = refl
  or_not true false = refl
  or_not false true = refl
  or_not false false = refl

  and_true : (b : Bool) → (b && true) ≡ b
  and_true true = refl
  and_true false = refl

  last : (n : ℕ) (t : Bool) → is_among (cond t (n ∷ []) []) v ≡ (t && (n == v))
  last n true = or_none (n == v)
    where
      or_none : (b : Bool) → (b || false) ≡ b
      or_none true = refl
      or_none false = refl
  last n false = refl

  one_more : (n : ℕ) → ((ltb v n && test v) || (test n && (n == v))) ≡ (ltb v (n + 1) && test v)
  one_more n = elim (cases_lt v n) [
    | inl below ↦ rw (lt-ltb v n below, lt-ltb v (n + 1) (omega (arith, below)), ne_eqb n v (omega (arith, below))) (or_not (test v) (test n))
    | inr above ↦ elim (cases_eq n v) [
      | inl same ↦ rw (← same, le-ltb n n (omega arith), lt-ltb n (n + 1) (omega arith), eq-eqb n n refl) (and_true (test n))
      | inr apart ↦ rw (le-ltb v n above, le-ltb v (n + 1) (omega (arith, above, apart)), ne_eqb n v apart) (or_not false (test n))
    ]
  ]

  pub among_passing : (n : ℕ) → is_among (filter test (range_with_len 0 n)) v ≡ (ltb v n && test v)
  among_passing zero = rw (le-ltb v 0 (omega arith)) refl
  among_passing (suc n) =
      let P : ℕ → Type 0 = λ k. is_among (filter test (range_with_len 0 k)) v ≡ (ltb v k && test v) in
      let at_next : P (n + 1) = ap (λ xs. is_among xs v) (filter_numbers_more test n)
      ∙ list_any-append (λ k. k == v) (filter test (range_with_len 0 n)) (cond (test n) (n ∷ []) [])
      ∙ ap (λ b. b || is_among (cond (test n) (n ∷ []) []) v) (among_passing n) ∙ ap (λ b. (ltb v n && test v) || b) (last n (test n)) ∙ one_more n in
      subst P (add-one n) at_next

-- the signalled vertices are those of a message
pub among_signalled : (g : Multigraph) (s : Configuration) (v : ℕ) → v < length g.ids → is_among (signalled g s) v ≡ is_signalled s v
among_signalled g s v within = among_passing (is_signalled s) v (length g.ids) ∙ rw (lt-ltb v (length g.ids) within) refl

-- each of the signalled vertices is one
pub each_signalled : (g : Multigraph) (s : Configuration) (k d : ℕ) → k < length (signalled g s) → (get_or (signalled g s) k d < length g.ids) × (is_signalled s (get_or (signalled g s) k d) ≡ true)
each_signalled g s k d within = filter_numbers_each (is_signalled s) (length g.ids) k d within

-- and they are no more than the vertices
pub signalled_few : (g : Multigraph) (s : Configuration) → length (signalled g s) ≤ length g.ids
signalled_few g s = omega (arith, length_filter_within (is_signalled s) (vertices g), length-range_with_len 0 (length g.ids))

module _ {Acc Carry : Type 0} (p : Program Acc Carry) (g : Multigraph) (s : Configuration) where
  -- one vertex more in the draft
  pub drafted_more : (done : List ℕ) (u : ℕ) (applied : Applied Carry) (carries : List (Option Carry)) (values : List Datum) (messages : List (Option ℕ)) → u < length g.ids → becomes p g s u ≡ Some applied
      → IsDraftOf p g s done carries values messages → IsDraftOf p g s (done ++ u ∷ []) (set carries u (Some applied.carry)) (set values u applied.datum) (set messages u applied.again)
  drafted_more done u applied carries values messages inside is old = record {
    carry_count = length-set carries u (Some applied.carry) ∙ old.carry_count;
    value_count = length-set values u applied.datum ∙ old.value_count;
    message_count = length-set messages u applied.again ∙ old.message_count;
    carry = set_more None (λ v. None) (λ v. carry_in (becomes p g s v)) carries (length g.ids) done u (Some applied.carry) old.carry_count inside (sym (ap carry_in is)) old.carry;
    datum = set_more (one 0) (datum_in s.values) (λ v. datum_after (datum_in s.values v) (becomes p g s v)) values (length g.ids) done u applied.datum old.value_count inside (sym (ap (datum_after (datum_in s.values u)) is)) old.datum;
    message = set_more None (λ v. None) (λ v. message_after None (becomes p g s v)) messages (length g.ids) done u applied.again old.message_count inside (sym (ap (message_after None) is)) old.message;
  }

  -- what a vertex becomes, read from the list
  became_is : (v : ℕ) → v < length g.ids → became_at (outcomes p g s (λ u. true)) v ≡ becomes p g s v
  became_is v within = get_or-map-range_with_len (becomes p g s) 0 (length g.ids) v v None within (omega arith)

  -- all signalled vertices stand in the draft
  module _ (carries : List (Option Carry)) (values : List Datum) (messages : List (Option ℕ)) (all : IsDraftOf p g s (signalled g s) carries values messages) where
    pub carries_all : carries ≡ map (λ v. carry_in (becomes p g s v)) (vertices g)
    carries_all = fill_by_all (λ v. carry_in (becomes p g s v)) carries (length g.ids) None all.carry_count
        (λ v h. all.carry v h ∙ ap (λ b. cond b (carry_in (becomes p g s v)) None) (among_signalled g s v h) ∙ by_message v (message_in s.messages v))
      where
        by_message : (v : ℕ) (m : Option ℕ) → cond (is_some m) (carry_in (apply_to p g s v m)) None ≡ carry_in (apply_to p g s v m)
        by_message v None = refl
        by_message v (Some m) = refl

    pub values_all : values ≡ values_after p g s.values (outcomes p g s (λ u. true))
    values_all = fill_by_all (λ v. datum_after (datum_in s.values v) (became_at (outcomes p g s (λ u. true)) v)) values (length g.ids) (one 0) all.value_count
        (λ v h. all.datum v h ∙ ap (λ b. cond b (datum_after (datum_in s.values v) (becomes p g s v)) (datum_in s.values v)) (among_signalled g s v h)
        ∙ by_message v (message_in s.messages v) ∙ ap (datum_after (datum_in s.values v)) (sym (became_is v h)))
      where
        by_message : (v : ℕ) (m : Option ℕ) → cond (is_some m) (datum_after (datum_in s.values v) (apply_to p g s v m)) (datum_in s.values v) ≡ datum_after (datum_in s.values v) (apply_to p g s v m)
        by_message v None = refl
        by_message v (Some m) = refl

    pub messages_all : messages ≡ messages_after p g s.messages (outcomes p g s (λ u. true))
    messages_all = fill_by_all (λ v. message_after (message_in s.messages v) (became_at (outcomes p g s (λ u. true)) v)) messages (length g.ids) None all.message_count
        (λ v h. all.message v h ∙ ap (λ b. cond b (message_after None (becomes p g s v)) None) (among_signalled g s v h)
        ∙ by_message v (message_in s.messages v) ∙ ap (message_after (message_in s.messages v)) (sym (became_is v h)))
      where
        by_message : (v : ℕ) (m : Option ℕ) → cond (is_some m) (message_after None (apply_to p g s v m)) None ≡ message_after m (apply_to p g s v m)
        by_message v None = refl
        by_message v (Some m) = refl

  -- the frontier hands over
  module _ (fit : IsFit p g s) (carries after_carries : List (Option Carry)) (values : List Datum) (after_values : List Datum) (after_messages : List (Option ℕ))
      (carried : carries ≡ map (λ v. carry_in (becomes p g s v)) (vertices g)) (valued : values ≡ values_after p g s.values (outcomes p g s (λ u. true)))
      (carry_count : length after_carries ≡ length carries) (value_count : length after_values ≡ length s.values) (message_count : length after_messages ≡ length s.messages)
      (no_carries : (v : ℕ) → v < length carries → carry_at after_carries v ≡ cond (is_among (signalled g s) v) None (carry_at carries v))
      (new_values : (v : ℕ) → v < length s.values → datum_in after_values v ≡ cond (is_among (signalled g s) v) (datum_in values v) (datum_in s.values v))
      (no_messages : (v : ℕ) → v < length s.messages → message_in after_messages v ≡ cond (is_among (signalled g s) v) None (message_in s.messages v)) where
    carries_count : length carries ≡ length g.ids
    carries_count = ap length carried ∙ length-map-range_with_len (λ v. carry_in (becomes p g s v)) 0 (length g.ids)

    values_count : length values ≡ length g.ids
    values_count = ap length valued ∙ length-map-range_with_len (λ v. datum_after (datum_in s.values v) (became_at (outcomes p g s (λ u. true)) v)) 0 (length g.ids)

    carry_is : (v : ℕ) → v < length g.ids → carry_at carries v ≡ carry_in (becomes p g s v)
    carry_is v h = ap (λ xs. carry_at xs v) carried ∙ get_or-map-range_with_len (λ v. carry_in (becomes p g s v)) 0 (length g.ids) v v None h (omega arith)

    datum_is : (v : ℕ) → v < length g.ids → datum_in values v ≡ datum_after (datum_in s.values v) (becomes p g s v)
    datum_is v h = ap (λ xs. datum_in xs v) valued ∙ get_or-map-range_with_len (λ v. datum_after (datum_in s.values v) (became_at (outcomes p g s (λ u. true)) v)) 0 (length g.ids) v v (one 0) h (omega arith)
        ∙ ap (datum_after (datum_in s.values v)) (became_is v h)

    pub handed_over : after_values ≡ values
    handed_over = ext_get_or (one 0) after_values values (value_count ∙ fit.values.count ∙ sym values_count) (λ v h.
        let inside : v < length g.ids = omega (arith, h, value_count, fit.values.count) in
        new_values v (omega (arith, inside, fit.values.count)) ∙ ap (λ b. cond b (datum_in values v) (datum_in s.values v)) (among_signalled g s v inside)
        ∙ ap (λ d. cond (is_signalled s v) d (datum_in s.values v)) (datum_is v inside) ∙ by_message v (message_in s.messages v) ∙ sym (datum_is v inside))
      where
        by_message : (v : ℕ) (m : Option ℕ) → cond (is_some m) (datum_after (datum_in s.values v) (apply_to p g s v m)) (datum_in s.values v) ≡ datum_after (datum_in s.values v) (apply_to p g s v m)
        by_message v None = refl
        by_message v (Some m) = refl

    -- and the draft is blank for a state that has these data
    pub blank_again : (now : Configuration) → now.values ≡ after_values → IsDraftOf p g now [] after_carries values after_messages
    blank_again now is = record {
      carry_count = carry_count ∙ carries_count;
      value_count = values_count;
      message_count = message_count ∙ fit.messages.count;
      carry = λ v h. no_carries v (omega (arith, h, carries_count)) ∙ ap (λ b. cond b None (carry_at carries v)) (among_signalled g s v h) ∙ ap (cond (is_signalled s v) None) (carry_is v h) ∙ none_carried v (message_in s.messages v);
      datum = λ v h. ap (λ xs. datum_in xs v) (sym handed_over ∙ sym is);
      message = λ v h. no_messages v (omega (arith, h, fit.messages.count)) ∙ ap (λ b. cond b None (message_in s.messages v)) (among_signalled g s v h) ∙ none_left (message_in s.messages v);
    }
      where
        none_carried : (v : ℕ) (m : Option ℕ) → cond (is_some m) None (carry_in (apply_to p g s v m)) ≡ None
        none_carried v None = refl
        none_carried v (Some m) = refl

        none_left : (m : Option ℕ) → cond (is_some m) None m ≡ None
        none_left None = refl
        none_left (Some m) = refl
