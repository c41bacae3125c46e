-- What a board counts stays true with each act.
use Rattle.std.proofs.Common.{ℕ, ◌+◌, ◌-◌, ◌<◌, ◌≤◌, ◌≡◌, ◌≢◌, ◌⊎◌, ◌==◌, ◌++◌, length, List, [], ◌∷◌, slice_index_or, slice_set, Bool, true, false, cond, Option, Some, None, inl, inr, arith, refl, sym, ap, ◌∙◌}
use Rattle.std.specs.Prelude.{map, Vec}
use Rattle.std.specs.declared.alloc.Global.{Global}
use Rattle.std.proofs.lemmas.Bool.Decides.{Decides-eqb}
use Rattle.std.proofs.lemmas.List.{get_or_default, get_or_past}
use Rattle.pg_law.specs.declared.values.JournalEntry.{JournalEntry}
use Rattle.pg_law.specs.Values.{two}
use Rattle.pg_meals.specs.declared.fork.Carried.{Carried}
use Rattle.pg_meals.specs.declared.fork.Fork.{Fork}
use Rattle.pg_meals.specs.declared.seat.Seat.{Seat}
use Rattle.pg_meals.specs.declared.seat.Replica.{Replica}
use Rattle.pg_meals.specs.declared.actor.Actor.{Actor}
use Rattle.pg_meals.specs.Ranks.{last_entry}
use Rattle.pg_meals.specs.Entries.{is_actor, no_fork, no_seat, idle, fork_at, seat_at, actor_at, replicas_at, made_stale}
use Rattle.pg_meals.specs.Once.{is_among}
use Rattle.pg_meals.specs.Readied.{with_plan, ArePlanned}
use Rattle.pg_meals.specs.Tallies.{pins_among, stale_among, left_to_write, ArePinsCounted, AreStaleCounted, AreLastKept}
use Rattle.pg_meals.proofs.At.{false_test}
use Rattle.pg_meals.proofs.Gathers.{below_or_past}
use Rattle.pg_meals.proofs.ListReads.{each_set}
use Rattle.pg_meals.proofs.Counts.{count_by-cons, count_by-set, count_none, none_passes, count_like}
use Rattle.pg_meals.proofs.Copied.{rows_set}
use Rattle.pg_meals.proofs.Turns.{last_from-append}

-- an actor has pinned no fork
pub pins_zero : {A : Type 0} (forks : List (Fork A)) (a w : ℕ) → ((e : ℕ) → is_actor a (fork_at w forks e).mark.pinner ≡ false) → pins_among a forks ≡ 0
pins_zero forks a w none = count_none (λ x. is_actor a x.mark.pinner) forks (λ e d i. ap (λ (x : Fork _). is_actor a x.mark.pinner) (get_or_default forks e d (no_fork w) i) ∙ none e)

pub none_pinned : {A : Type 0} (forks : List (Fork A)) (a : ℕ) → pins_among a forks ≡ 0 → (w e : ℕ) → is_actor a (fork_at w forks e).mark.pinner ≡ false
none_pinned forks a none w e = go (below_or_past e (length forks))
  where
    go : (e < length forks) ⊎ (length forks ≤ e) → is_actor a (fork_at w forks e).mark.pinner ≡ false
    go (inl i) = none_passes (λ x. is_actor a x.mark.pinner) forks none e (no_fork w) i
    go (inr i) = ap (λ (x : Fork _). is_actor a x.mark.pinner) (get_or_past forks e (no_fork w) i)

-- who has pinned a fork stays, where something is planned for it
pub planned_pinner : {A : Type 0} (forks after : List (Fork A)) (plan : ℕ → Carried A) (es : List ℕ) → ArePlanned forks plan es after → (e : ℕ) (d : Fork A) → (slice_index_or after e d).mark.pinner ≡ (slice_index_or forks e d).mark.pinner
planned_pinner {A} forks after plan es planned e d = ap (λ (x : Fork A). x.mark.pinner) (planned e d) ∙ same (is_among e es) (slice_index_or forks e d)
  where
    same : (t : Bool) (x : Fork A) → (cond t (with_plan (plan e) x) x).mark.pinner ≡ x.mark.pinner
    same true x = refl
    same false x = refl

-- the forks that are pinned
module _ {A : Type 0} (forks : List (Fork A)) (actors : List Actor) (counted : ArePinsCounted forks actors) where
  -- one actor changes, and not in what it has pinned
  pub pins_actor : (a : ℕ) (y : Actor) → a < length actors → y.pinned ≡ (actor_at actors a).pinned → ArePinsCounted forks (slice_set actors a y)
  pins_actor a y l same = each_set (λ b (z : Actor). z.pinned ≡ pins_among b forks) actors a y idle l (same ∙ counted a) (λ b n. counted b)

  -- one that has pinned nothing begins anew
  pub pins_new : (a : ℕ) (y : Actor) → a < length actors → y.pinned ≡ 0 → ((e : ℕ) → is_actor a (fork_at 0 forks e).mark.pinner ≡ false) → ArePinsCounted forks (slice_set actors a y)
  pins_new a y l new none = each_set (λ b (z : Actor). z.pinned ≡ pins_among b forks) actors a y idle l (new ∙ sym (pins_zero forks a 0 none)) (λ b n. counted b)

  -- forks change, and not in who has pinned them
  pub pins_forks : (after : List (Fork A)) → length after ≡ length forks → ((e : ℕ) (d : Fork A) → (slice_index_or after e d).mark.pinner ≡ (slice_index_or forks e d).mark.pinner) → ArePinsCounted after actors
  pins_forks after same like b = counted b ∙ sym (count_like (λ x. is_actor b x.mark.pinner) after forks same (λ e d. ap (is_actor b) (like e d)))

  module _ (a e : ℕ) (x : Fork A) (y : Actor) (a_in : a < length actors) (e_in : e < length forks) where
    abbrev after : List (Fork A)
    after = slice_set forks e x

    abbrev was : Option ℕ
    was = (fork_at 0 forks e).mark.pinner

    moved : (b : ℕ) → pins_among b after + cond (is_actor b was) 1 0 ≡ pins_among b forks + cond (is_actor b x.mark.pinner) 1 0
    moved b = count_by-set (λ z. is_actor b z.mark.pinner) forks e x (no_fork 0) e_in

    self : (a == a) ≡ true
    self = (Decides-eqb a a).1 refl

    -- an actor pins one more fork, or gives one back
    pub pins_more : was ≡ None → x.mark.pinner ≡ Some a → y.pinned ≡ (actor_at actors a).pinned + 1 → ArePinsCounted after (slice_set actors a y)
    pins_more lone is more = each_set (λ b (z : Actor). z.pinned ≡ pins_among b after) actors a y idle a_in here there
      where
        step : (b : ℕ) → pins_among b after ≡ pins_among b forks + cond (a == b) 1 0
        step b =
            let m : pins_among b after + 0 ≡ pins_among b forks + cond (a == b) 1 0
            = ap (λ o. pins_among b after + cond (is_actor b o) 1 0) (sym lone) ∙ (moved b ∙ ap (λ o. pins_among b forks + cond (is_actor b o) 1 0) is) in
            omega (arith, m)

        here : y.pinned ≡ pins_among a after
        here = more ∙ (ap (λ n. n + 1) (counted a) ∙ sym (step a ∙ ap (λ t. pins_among a forks + cond t 1 0) self))

        there : (b : ℕ) → b ≢ a → (actor_at actors b).pinned ≡ pins_among b after
        there b n = counted b ∙ sym (step b ∙ (ap (λ t. pins_among b forks + cond t 1 0) (false_test a b (λ q. n (sym q))) ∙ omega arith))

    pub pins_less : was ≡ Some a → x.mark.pinner ≡ None → y.pinned ≡ (actor_at actors a).pinned - 1 → ArePinsCounted after (slice_set actors a y)
    pins_less mine is less = each_set (λ b (z : Actor). z.pinned ≡ pins_among b after) actors a y idle a_in here there
      where
        step : (b : ℕ) → pins_among b after + cond (a == b) 1 0 ≡ pins_among b forks
        step b =
            let m : pins_among b after + cond (a == b) 1 0 ≡ pins_among b forks + 0
            = ap (λ o. pins_among b after + cond (is_actor b o) 1 0) (sym mine) ∙ (moved b ∙ ap (λ o. pins_among b forks + cond (is_actor b o) 1 0) is) in
            omega (arith, m)

        here : y.pinned ≡ pins_among a after
        here =
            let s : pins_among a after + 1 ≡ pins_among a forks = ap (λ t. pins_among a after + cond t 1 0) (sym self) ∙ step a in
            omega (arith, less, counted a, s)

        there : (b : ℕ) → b ≢ a → (actor_at actors b).pinned ≡ pins_among b after
        there b n =
            let s : pins_among b after + 0 ≡ pins_among b forks = ap (λ t. pins_among b after + cond t 1 0) (sym (false_test a b (λ q. n (sym q)))) ∙ step b in
            omega (arith, counted b, s)

-- what an actor has yet to write, as its record has it
pub left_of : (rows : List (Vec Replica Global)) (actors : List Actor) (a : ℕ) (r : Actor) → AreStaleCounted rows actors → r ≡ actor_at actors a → r.stale ≡ left_to_write r.vertex r.committed (replicas_at rows)
left_of rows actors a r counted is = ap (λ (z : Actor). z.stale) is ∙ (counted a ∙ ap (λ (z : Actor). left_to_write z.vertex z.committed (replicas_at rows)) (sym is))

-- one that hasn't committed has nothing left to write
pub left_none : (rows : List (Vec Replica Global)) (y : Actor) (has : Option ℕ) (evidence : Bool) → y ≡ record idle { vertex = has; evidence = evidence } → y.stale ≡ left_to_write y.vertex y.committed (replicas_at rows)
left_none rows y has evidence is = ap (λ (z : Actor). z.stale) is ∙ (nothing has ∙ ap (λ (z : Actor). left_to_write z.vertex z.committed (replicas_at rows)) (sym is))
  where
    nothing : (o : Option ℕ) → 0 ≡ left_to_write o false (replicas_at rows)
    nothing None = refl
    nothing (Some v) = refl

-- the replicas that are stale
pub all_are_stale : (xs : List Replica) → stale_among (map made_stale xs) ≡ length xs
all_are_stale [] = refl
all_are_stale (x ∷ xs) = count_by-cons (λ (r : Replica). r.stale) (made_stale x) (map made_stale xs) ∙ omega (arith, all_are_stale xs)

-- one fewer is stale once one was written
written_one : (xs : List Replica) (i : ℕ) (y d : Replica) → i < length xs → (slice_index_or xs i d).stale ≡ true → y.stale ≡ false → stale_among (slice_set xs i y) + 1 ≡ stale_among xs + 0
written_one xs i y d l was is =
    ap (λ t. stale_among (slice_set xs i y) + cond t 1 0) (sym was) ∙ (count_by-set (λ (r : Replica). r.stale) xs i y d l ∙ ap (λ t. stale_among xs + cond t 1 0) is)

pub one_written : (xs : List Replica) (i : ℕ) (y d : Replica) → i < length xs → (slice_index_or xs i d).stale ≡ true → y.stale ≡ false → stale_among (slice_set xs i y) ≡ stale_among xs - 1
one_written xs i y d l was is = omega (arith, written_one xs i y d l was is)

pub one_stale : (xs : List Replica) (i : ℕ) (d : Replica) → i < length xs → (slice_index_or xs i d).stale ≡ true → 1 ≤ stale_among xs
one_stale xs i d l was = omega (arith, written_one xs i (record d { stale = false }) d l was refl)

module _ (rows : List (Vec Replica Global)) (actors : List Actor) (counted : AreStaleCounted rows actors) (a : ℕ) (y : Actor) (a_in : a < length actors) where
  -- one actor changes
  pub stale_actor : y.stale ≡ left_to_write y.vertex y.committed (replicas_at rows) → AreStaleCounted rows (slice_set actors a y)
  stale_actor is = each_set (λ b (z : Actor). z.stale ≡ left_to_write z.vertex z.committed (replicas_at rows)) actors a y idle a_in is (λ b n. counted b)

  -- and so does the row of its vertex
  module _ (v : ℕ) (row : Vec Replica Global) (v_in : v < length rows) (busy : y.vertex ≡ Some v) (committed : y.committed ≡ true) (is : y.stale ≡ stale_among row.items) (alone : (b : ℕ) → (actor_at actors b).vertex ≡ Some v → b ≡ a) where
    abbrev rewritten : List (Vec Replica Global)
    rewritten = slice_set rows v row

    row_is : replicas_at rewritten v ≡ row.items
    row_is = rows_set rows v row v v_in ∙ ap (λ t. cond t row.items (replicas_at rows v)) ((Decides-eqb v v).1 refl)

    here : y.stale ≡ left_to_write y.vertex y.committed (replicas_at rewritten)
    here = is ∙ (ap stale_among (sym row_is) ∙ (λ j. left_to_write (sym busy j) (sym committed j) (replicas_at rewritten)))

    like : (o : Option ℕ) (c : Bool) → (o ≡ Some v → ⊥) → left_to_write o c (replicas_at rows) ≡ left_to_write o c (replicas_at rewritten)
    like None c n = refl
    like (Some u) c n = ap (λ xs. cond c (stale_among xs) 0) (sym (rows_set rows v row u v_in ∙ ap (λ t. cond t row.items (replicas_at rows u)) (false_test u v (λ q. n (ap Some q)))))

    pub stale_row : AreStaleCounted rewritten (slice_set actors a y)
    stale_row = each_set (λ b (z : Actor). z.stale ≡ left_to_write z.vertex z.committed (replicas_at rewritten)) actors a y idle a_in here
        (λ b n. counted b ∙ like (actor_at actors b).vertex (actor_at actors b).committed (λ q. n (alone b q)))

-- the last entries
module _ {A : Type 0} (seats : List (Seat A)) (journal : List JournalEntry) (kept : AreLastKept seats journal) (v : ℕ) (x : Seat A) (v_in : v < length seats) where
  -- one seat changes, and not in its last entry
  pub last_seat : x.last ≡ (seat_at (two 0 0) seats v).last → AreLastKept (slice_set seats v x) journal
  last_seat same = each_set (λ u (z : Seat A). z.last ≡ last_entry journal u) seats v x (no_seat (two 0 0)) v_in (same ∙ kept v) (λ u n. kept u)

  -- one more entry
  pub last_more : (entry : JournalEntry) → entry.vertex ≡ v → x.last ≡ length journal + 1 → AreLastKept (slice_set seats v x) (journal ++ entry ∷ [])
  last_more entry at is = each_set (λ u (z : Seat A). z.last ≡ last_entry (journal ++ entry ∷ []) u) seats v x (no_seat (two 0 0)) v_in here there
    where
      more : (u : ℕ) → last_entry (journal ++ entry ∷ []) u ≡ cond (entry.vertex == u) (length journal + 1) (last_entry journal u)
      more u = last_from-append 0 0 journal entry u ∙ ap (λ k. cond (entry.vertex == u) k (last_entry journal u)) (omega arith)

      here : x.last ≡ last_entry (journal ++ entry ∷ []) v
      here = is ∙ sym (more v ∙ ap (λ t. cond t (length journal + 1) (last_entry journal v)) ((Decides-eqb entry.vertex v).1 at))

      there : (u : ℕ) → u ≢ v → (seat_at (two 0 0) seats u).last ≡ last_entry (journal ++ entry ∷ []) u
      there u n = kept u ∙ sym (more u ∙ ap (λ t. cond t (length journal + 1) (last_entry journal u)) (false_test entry.vertex u (λ q. n (sym q ∙ at))))
