-- Rounds that go on until nothing is signalled, or to their limit.
use Rattle.std.proofs.Common.{◌≡◌, ℕ, ◌+◌, ◌-◌, ◌<◌, ◌==◌, Bool, true, false, cond, Option, List, length, refl, sym, ◌∙◌, ap, arith, subst, ⊎_elim}
use Rattle.std.specs.Prelude.{All, IsTrue, is_some, sum_by}
use Rattle.std.proofs.lemmas.Bool.{eq-eqb, ne_eqb, cases_lt}
use Rattle.std.proofs.lemmas.List.{get_or_past}
use Rattle.std.proofs.lemmas.List.FromFn.{length-range_with_len}
use Rattle.pg_graph.specs.Multigraph.{Multigraph, vertices}
use Rattle.pg_graph.proofs.Numbers.{filter_numbers_each, length_filter_within}
use Rattle.pg_law.specs.declared.values.Datum.{Datum}
use Rattle.pg_law.specs.declared.values.End.{End}
use Rattle.pg_law.specs.declared.values.End.TheVariants.{Quiescent, Spent}
use Rattle.pg_law.specs.Program.{Program}
use Rattle.pg_law.specs.Configuration.{Configuration, message_in, signalled, is_signalled, is_quiet}
use Rattle.pg_law.specs.Round.{fresh, round}
use Rattle.pg_law.specs.Rounds.{Run, rounds, no_rounds, end_of}
use Rattle.pg_law.proofs.Repeating.{rounds_none, rounds_stop, rounds_go}
use Rattle.pg_cut.specs.Cut.{Division}
use Rattle.pg_mirrors.specs.Mirrors.{Mirrors}
use Rattle.pg_delta.specs.declared.cell.CacheCell.{CacheCell}
use Rattle.pg_delta.specs.Cell.{IsCell, cleared}
use Rattle.pg_delta.specs.Truth.{IsTrueOf}
use Rattle.pg_apply_scatter.specs.Delivering.{cell_in}
use Rattle.pg_sync.specs.declared.worker.Scattering.{Scattering}
use Rattle.pg_sync.specs.Kept.{unkept, kept_after, gather_degree, gather_degree_on}
use Rattle.pg_sync.specs.Cells.{keeps, AreCaches}
use Rattle.pg_sync.specs.Held.{IsHeld, IsKept}
use Rattle.pg_sync.specs.Counting.{gathers_on, gathers_by, AreRaised, AreCounted}
use Rattle.pg_sync.specs.Going.{gathers_left, gathers_left_on, IsGoing, IsDone}
use Rattle.pg_sync.proofs.Summing.{gathers_none, gathers_stop, gathers_go}
use Rattle.pg_sync.proofs.Raising.{raised_more, raised_none, raised_same}
use Rattle.pg_sync.proofs.Holding.{waits_in}
use Rattle.pg_sync.proofs.Costs.{cost_none, cost_stop, cost_go, cost_agree, all_wanted}
use Rattle.pg_sync.proofs.Keeping.{keeps_cell, nothing_kept}

-- cells of nothing are true of every state
module _ {Acc Carry : Type 0} (p : Program Acc Carry) (g : Multigraph) (cache : Bool) (cells : List (CacheCell Acc)) (count : length cells ≡ cond cache (length g.ids) 0) (all : All (λ (cell : CacheCell Acc). cell ≡ cleared) cells) where
  nothing_in : (v : ℕ) → cell_in cells v ≡ cleared
  nothing_in v = ⊎_elim (λ h. all v cleared h) (λ past. get_or_past cells v cleared past) (cases_lt v (length cells))

  none_at_first : (v : ℕ) → keeps p cells v ≡ false
  none_at_first v = ap (keeps_cell p) (nothing_in v)

  pub caches_first : (IsTrue cache → IsTrue p.keeps_deltas) → (s : Configuration) → AreCaches p g s cells
  caches_first deltas s = record {
    all = λ any. by_cache cache refl any count;
    speaks = λ any. deltas (there cache any count);
    kept = record {
      own = λ v h. (let Own : CacheCell Acc → Type 0 = λ c. IsCell p c in subst Own (sym (nothing_in v)) (record { acc = tt; pending = tt }));
      true_of = λ v h. (let True : CacheCell Acc → Type 0 = λ c. IsTrueOf p.sum c (fresh p g s v) in subst True (sym (nothing_in v)) tt);
    };
  }
    where
      by_cache : (c : Bool) → cache ≡ c → 0 < length cells → length cells ≡ cond c (length g.ids) 0 → length cells ≡ length g.ids
      by_cache true is any n = n
      by_cache false is any n = absurd (omega (arith, any, n))

      there : (c : Bool) → 0 < length cells → length cells ≡ cond c (length g.ids) 0 → IsTrue c
      there true any n = refl
      there false any n = absurd (omega (arith, any, n))

module _ {Acc Carry : Type 0} (p : Program Acc Carry) (g : Multigraph) where
  -- what is left with other words for what is kept, at the end, and after one more round
  left_agrees : (cache : Bool) (kept kept' : ℕ → Bool) (s : Configuration) (n : ℕ) → ((u : ℕ) → kept u ≡ kept' u) → gathers_left p g cache kept s n ≡ gathers_left p g cache kept' s n
  left_agrees true kept kept' s n same = cost_agree p g (gather_degree p g) (gather_degree p g) (λ u. refl) n kept kept' s same
  left_agrees false kept kept' s n same = refl

  left_on_agrees : (cache : Bool) (kept kept' : ℕ → Bool) (s : Configuration) (n : ℕ) (cut : Division) (w : ℕ) → ((u : ℕ) → kept u ≡ kept' u) → gathers_left_on p g cache kept s n cut w ≡ gathers_left_on p g cache kept' s n cut w
  left_on_agrees true kept kept' s n cut w same = cost_agree p g (gather_degree_on p g cut w) (gather_degree_on p g cut w) (λ u. refl) n kept kept' s same
  left_on_agrees false kept kept' s n cut w same = refl

  left_none : (cache : Bool) (kept : ℕ → Bool) (s : Configuration) → gathers_left p g cache kept s 0 ≡ 0
  left_none true kept s = cost_none p g (gather_degree p g) kept s
  left_none false kept s = ap (λ (r : Run). r.gathers) (rounds_none p g s)

  left_on_none : (cache : Bool) (kept : ℕ → Bool) (s : Configuration) (cut : Division) (w : ℕ) → gathers_left_on p g cache kept s 0 cut w ≡ 0
  left_on_none true kept s cut w = cost_none p g (gather_degree_on p g cut w) kept s
  left_on_none false kept s cut w = gathers_none p g cut s w

  left_stop : (cache : Bool) (kept : ℕ → Bool) (s : Configuration) (n : ℕ) → is_quiet g s ≡ true → gathers_left p g cache kept s n ≡ 0
  left_stop true kept s n quiet = cost_stop p g (gather_degree p g) kept s n quiet
  left_stop false kept s n quiet = ap (λ (r : Run). r.gathers) (rounds_stop p g s n quiet)

  left_on_stop : (cache : Bool) (kept : ℕ → Bool) (s : Configuration) (n : ℕ) (cut : Division) (w : ℕ) → is_quiet g s ≡ true → gathers_left_on p g cache kept s n cut w ≡ 0
  left_on_stop true kept s n cut w quiet = cost_stop p g (gather_degree_on p g cut w) kept s n quiet
  left_on_stop false kept s n cut w quiet = gathers_stop p g cut s n w quiet

  -- without caches nothing is kept; with them what is kept follows
  abbrev Follows : Bool → (ℕ → Bool) → (ℕ → Bool) → Configuration → Type 0
  Follows true kept later s = (u : ℕ) → later u ≡ kept_after p g kept s u
  Follows false kept later s = (u : ℕ) → kept u ≡ false

  left_go : (cache : Bool) (kept later : ℕ → Bool) (s : Configuration) (n m : ℕ) → Follows cache kept later s → is_quiet g s ≡ false → n ≡ m + 1
      → gathers_left p g cache kept s n ≡ sum_by (gather_degree p g) (unkept g kept s) + gathers_left p g cache later (round p g s) m
  left_go true kept later s n m follows busy is = cost_go p g (gather_degree p g) kept s n m busy is
      ∙ ap (λ k. sum_by (gather_degree p g) (unkept g kept s) + k) (cost_agree p g (gather_degree p g) (gather_degree p g) (λ u. refl) m (kept_after p g kept s) later (round p g s) (λ u. sym (follows u)))
  left_go false kept later s n m follows busy is = ap (λ (r : Run). r.gathers) (rounds_go p g s n m busy is)
      ∙ ap (λ xs. sum_by (gather_degree p g) xs + (rounds p g (round p g s) m).gathers) (sym (all_wanted g kept s follows))

  left_on_go : (cache : Bool) (kept later : ℕ → Bool) (s : Configuration) (n m : ℕ) (cut : Division) (w : ℕ) → Follows cache kept later s → is_quiet g s ≡ false → n ≡ m + 1
      → gathers_left_on p g cache kept s n cut w ≡ sum_by (gather_degree_on p g cut w) (unkept g kept s) + gathers_left_on p g cache later (round p g s) m cut w
  left_on_go true kept later s n m cut w follows busy is = cost_go p g (gather_degree_on p g cut w) kept s n m busy is
      ∙ ap (λ k. sum_by (gather_degree_on p g cut w) (unkept g kept s) + k) (cost_agree p g (gather_degree_on p g cut w) (gather_degree_on p g cut w) (λ u. refl) m (kept_after p g kept s) later (round p g s) (λ u. sym (follows u)))
  left_on_go false kept later s n m cut w follows busy is = gathers_go p g cut s n m w busy is
      ∙ ap (λ xs. sum_by (gather_degree_on p g cut w) xs + gathers_on p g cut (round p g s) m w) (sym (all_wanted g kept s follows))

  -- as one round has it
  follows_by : (cache : Bool) (old new : List (CacheCell Acc)) (s : Configuration) → length old ≡ cond cache (length g.ids) 0 → 0 < length g.ids
      → (0 < length old → (u : ℕ) → keeps p new u ≡ kept_after p g (keeps p old) s u) → Follows cache (keeps p old) (keeps p new) s
  follows_by true old new s count some follows = follows (omega (arith, count, some))
  follows_by false old new s count some follows = λ u. nothing_kept p old u (omega (arith, count))

-- where something is signalled there is a vertex
some_vertex : (g : Multigraph) (s : Configuration) → 0 < length (signalled g s) → 0 < length g.ids
some_vertex g s some = omega (arith, some, length_filter_within (is_signalled s) (vertices g), length-range_with_len 0 (length g.ids))

module _ {Acc Carry : Type 0} (p : Program Acc Carry) (g : Multigraph) (cut : Division) (cache : Bool) (s : Configuration) (limit : ℕ) where
  pub going_first : (workers : List (Scattering Acc)) (mirrors : List Mirrors) (values : List Datum) (messages : List (Option ℕ)) (cells : List (CacheCell Acc)) (counters : List (Option ℕ)) → IsHeld p g cut s workers mirrors values messages
      → length cells ≡ cond cache (length g.ids) 0 → All (λ (cell : CacheCell Acc). cell ≡ cleared) cells → (IsTrue cache → IsTrue p.keeps_deltas) → IsGoing p g cut cache s limit 0 0 0 workers mirrors values messages cells counters counters
  going_first workers mirrors values messages cells counters held count nothing deltas = let all : limit - 0 ≡ limit = omega arith in
      let none : (u : ℕ) → false ≡ keeps p cells u = λ u. sym (none_at_first p g cache cells count nothing u) in
      record {
        state = s;
        kept = record { held = held; caches = caches_first p g cache cells count nothing deltas s };
        count = count;
        same_state = ap (λ n. (rounds p g s n).state) (sym all);
        same_rounds = ap (λ n. (rounds p g s n).rounds) (sym all) ∙ sym (omega arith);
        same_executions = ap (λ n. (rounds p g s n).executions) (sym all) ∙ sym (omega arith);
        same_gathers = left_agrees p g cache (λ u. false) (keeps p cells) s limit none ∙ ap (gathers_left p g cache (keeps p cells) s) (sym all) ∙ sym (omega arith);
        taken = λ w. 0;
        raised = raised_none (λ w. 0) cut.workers counters (λ w. refl);
        same_taken = λ w. left_on_agrees p g cache (λ u. false) (keeps p cells) s limit cut w none ∙ ap (λ n. gathers_left_on p g cache (keeps p cells) s n cut w) (sym all) ∙ sym (omega arith);
      }

  module _ (made executions gathers : ℕ) (workers : List (Scattering Acc)) (mirrors : List Mirrors) (values : List Datum) (messages : List (Option ℕ)) (cells : List (CacheCell Acc)) (before now : List (Option ℕ))
      (going : IsGoing p g cut cache s limit made executions gathers workers mirrors values messages cells before now) where
    -- nothing is signalled: these are all rounds
    pub going_quiet : length (signalled g going.state) ≡ 0 → IsDone p g cut cache s limit made executions gathers workers mirrors values messages Quiescent
    going_quiet none = let quiet : is_quiet g going.state ≡ true = eq-eqb (length (signalled g going.state)) 0 none in
        let stop = rounds_stop p g going.state (limit - made) quiet in
        let state : (rounds p g s limit).state ≡ going.state = going.same_state ∙ ap (λ (r : Run). r.state) stop in
        let Held : Configuration → Type 0 = λ t. IsHeld p g cut t workers mirrors values messages in
        record {
          held = subst Held (sym state) going.kept.held;
          rounds_are = sym (going.same_rounds ∙ ap (λ (r : Run). made + r.rounds) stop ∙ omega arith);
          executions_are = sym (going.same_executions ∙ ap (λ (r : Run). executions + r.executions) stop ∙ omega arith);
          gathers_are = sym (going.same_gathers ∙ ap (λ n. gathers + n) (left_stop p g cache (keeps p cells) going.state (limit - made) quiet) ∙ omega arith);
          ends = sym (ap (λ t. end_of g t) state ∙ ap (λ b. cond b Quiescent Spent) quiet);
        }

    -- the limit is reached
    pub going_all : (quiet : Bool) → made ≡ limit → quiet ≡ is_quiet g going.state → (end : End) → end ≡ cond quiet Quiescent Spent → IsDone p g cut cache s limit made executions gathers workers mirrors values messages end
    going_all quiet all is end ends = let none : limit - made ≡ 0 = omega arith in
        let stop : rounds p g going.state (limit - made) ≡ no_rounds going.state = ap (rounds p g going.state) none ∙ rounds_none p g going.state in
        let state : (rounds p g s limit).state ≡ going.state = going.same_state ∙ ap (λ (r : Run). r.state) stop in
        let Held : Configuration → Type 0 = λ t. IsHeld p g cut t workers mirrors values messages in
        record {
          held = subst Held (sym state) going.kept.held;
          rounds_are = sym (going.same_rounds ∙ ap (λ (r : Run). made + r.rounds) stop ∙ omega arith);
          executions_are = sym (going.same_executions ∙ ap (λ (r : Run). executions + r.executions) stop ∙ omega arith);
          gathers_are = sym (going.same_gathers ∙ ap (λ n. gathers + gathers_left p g cache (keeps p cells) going.state n) none ∙ ap (λ n. gathers + n) (left_none p g cache (keeps p cells) going.state) ∙ omega arith);
          ends = ends ∙ ap (λ b. cond b Quiescent Spent) is ∙ sym (ap (λ t. end_of g t) state);
        }

    -- and the counters took all their gathers
    counted_by : ((w : ℕ) → gathers_left_on p g cache (keeps p cells) going.state (limit - made) cut w ≡ 0) → AreCounted p g cut cache s limit before now
    counted_by none = record { each = raised_same going.taken (gathers_by p g cut cache s limit) cut.workers before now (λ w. omega (arith, going.same_taken w, none w)) going.raised }

    pub counted_quiet : length (signalled g going.state) ≡ 0 → AreCounted p g cut cache s limit before now
    counted_quiet none = counted_by (λ w. left_on_stop p g cache (keeps p cells) going.state (limit - made) cut w (eq-eqb (length (signalled g going.state)) 0 none))

    pub counted_all : made ≡ limit → AreCounted p g cut cache s limit before now
    counted_all all = let none : limit - made ≡ 0 = omega arith in
        counted_by (λ w. ap (λ n. gathers_left_on p g cache (keeps p cells) going.state n cut w) none ∙ left_on_none p g cache (keeps p cells) going.state cut w)

    -- one more round
    pub going_more : (workers' : List (Scattering Acc)) (mirrors' : List Mirrors) (values' : List Datum) (messages' : List (Option ℕ)) (cells' : List (CacheCell Acc)) (later : List (Option ℕ)) → made < limit → 0 < length (signalled g going.state)
        → IsKept p g cut (round p g going.state) workers' mirrors' values' messages' cells' → length cells' ≡ length cells → (0 < length cells → (u : ℕ) → keeps p cells' u ≡ kept_after p g (keeps p cells) going.state u)
        → AreRaised (λ w. sum_by (gather_degree_on p g cut w) (unkept g (keeps p cells) going.state)) cut.workers now later
        → IsGoing p g cut cache s limit (made + 1) (executions + length (signalled g going.state)) (gathers + sum_by (gather_degree p g) (unkept g (keeps p cells) going.state)) workers' mirrors' values' messages' cells' before later
    going_more workers' mirrors' values' messages' cells' later h some kept same_count follow once =
        let busy : is_quiet g going.state ≡ false = ne_eqb (length (signalled g going.state)) 0 (λ none. absurd (omega (arith, none, some))) in
        let go = rounds_go p g going.state (limit - made) (limit - (made + 1)) busy (omega arith) in
        let follows = follows_by p g cache cells cells' going.state going.count (some_vertex g going.state some) follow in
        let on = λ (w : ℕ). sum_by (gather_degree_on p g cut w) (unkept g (keeps p cells) going.state) in
        record {
          state = round p g going.state;
          kept = kept;
          count = same_count ∙ going.count;
          same_state = going.same_state ∙ ap (λ (r : Run). r.state) go;
          same_rounds = going.same_rounds ∙ ap (λ (r : Run). made + r.rounds) go ∙ omega arith;
          same_executions = going.same_executions ∙ ap (λ (r : Run). executions + r.executions) go ∙ omega arith;
          same_gathers = omega (arith, going.same_gathers, left_go p g cache (keeps p cells) (keeps p cells') going.state (limit - made) (limit - (made + 1)) follows busy (omega arith));
          taken = λ w. going.taken w + on w;
          raised = raised_more going.taken on cut.workers before now later going.raised once;
          same_taken = λ w. omega (arith, going.same_taken w, left_on_go p g cache (keeps p cells) (keeps p cells') going.state (limit - made) (limit - (made + 1)) cut w follows busy (omega arith));
        }

-- those with a message are as many as are signalled
pub waits_count : (g : Multigraph) (messages : List (Option ℕ)) (t : Configuration) (wanted : List ℕ) → messages ≡ t.messages → wanted ≡ waits_in g messages → length wanted ≡ length (signalled g t)
waits_count g messages t wanted same is = ap length (is ∙ ap (waits_in g) same)

-- they are vertices
pub waits_below : (g : Multigraph) (messages : List (Option ℕ)) (wanted : List ℕ) → wanted ≡ waits_in g messages → All (λ v. v < length g.ids) wanted
waits_below g messages wanted is = let Below : List ℕ → Type 0 = λ us. All (λ v. v < length g.ids) us in
    subst Below (sym is) (λ i d h. (filter_numbers_each (λ v. is_some (message_in messages v)) (length g.ids) i d h).0)

-- the test of a list that is empty
pub empty_is : (wanted : List ℕ) (count : ℕ) (b : Bool) → length wanted ≡ count → b ≡ (count == 0) → b ≡ (length wanted == 0)
empty_is wanted count b same is = is ∙ ap (λ n. n == 0) (sym same)
