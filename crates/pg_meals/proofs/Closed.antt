-- What a table that is closed gives back is the state after the replay, and cells that are true of it.
use Rattle.std.proofs.Common.{ℕ, zero, suc, ◌<◌, ◌≤◌, ◌≡◌, ◌⊎◌, ◌==◌, ◌||◌, length, List, slice_index_or, Bool, true, false, cond, Option, Some, None, inl, inr, arith, refl, sym, ap, subst, ◌∙◌, true≢false}
use Rattle.std.specs.Prelude.{map, Vec}
use Rattle.std.specs.List.{range_with_len}
use Rattle.std.specs.declared.alloc.Global.{Global}
use Rattle.std.proofs.lemmas.List.{get_or_default, get_or_past, get_or-map}
use Rattle.std.proofs.lemmas.List.FromFn.{fill_by_all, get_or-map-range_with_len, length-map-range_with_len}
use Rattle.std.proofs.lemmas.List.{length-map}
use Rattle.pg_graph.specs.declared.edge.Side.{Side}
use Rattle.pg_graph.specs.declared.edge.Side.TheVariants.{Source, Target}
use Rattle.pg_graph.specs.Multigraph.{Multigraph, end_at}
use Rattle.pg_law.specs.declared.values.Datum.{Datum}
use Rattle.pg_law.specs.declared.values.Delta.{Delta}
use Rattle.pg_law.specs.declared.values.Delta.TheVariants.{Nothing, Add, Clear}
use Rattle.pg_law.specs.Program.{Program}
use Rattle.pg_law.specs.Laws.{IsLawful, IsOptional}
use Rattle.pg_law.specs.Values.{two}
use Rattle.pg_law.specs.Round.{join, fresh as fresh_of}
use Rattle.pg_law.specs.Configuration.{Configuration, message_in}
use Rattle.pg_delta.specs.declared.cell.CacheCell.{CacheCell}
use Rattle.pg_delta.specs.Cell.{IsCell, cleared}
use Rattle.pg_delta.specs.Deltas.{joined}
use Rattle.pg_delta.specs.Truth.{IsTrueOf}
use Rattle.pg_delta.proofs.Joining.{joined-nothing, delta_monoid}
use Rattle.pg_meals.specs.declared.fork.Carried.{Carried}
use Rattle.pg_meals.specs.declared.fork.Fork.{Fork}
use Rattle.pg_meals.specs.declared.seat.Seat.{Seat}
use Rattle.pg_meals.specs.declared.board.Board.{Board}
use Rattle.pg_cut.specs.Cut.{Division}
use Rattle.pg_meals.specs.Families.{total}
use Rattle.pg_meals.specs.Serial.{Serial, fresh}
use Rattle.pg_meals.specs.Standing.{stands, message_at, delta_at, cell_in}
use Rattle.pg_meals.specs.Listed.{any_word, any_datum}
use Rattle.pg_meals.specs.Setting.{cell_at}
use Rattle.pg_meals.specs.Entries.{at_side, no_fork, no_seat, fork_at, seat_at, actor_at}
use Rattle.pg_meals.specs.Shown.{carried, shape_on, cut_of}
use Rattle.pg_meals.specs.Carrying.{setting_of, core_by, IsKept}
use Rattle.pg_meals.specs.Tables.{AreCaches, state_of_board}
use Rattle.pg_meals.specs.Closing.{AllFree, for_end, ride_for, delivered, waits_on, waits_below, is_delta, cell_left, AreLeft}
use Rattle.pg_meals.proofs.Totals.{total_like, total_unit}
use Rattle.pg_meals.proofs.Gathers.{fresh_same, below_or_past}
use Rattle.pg_meals.proofs.Settings.{state_is}
use Rattle.pg_meals.proofs.Seen.{fork_same}
use Rattle.pg_meals.proofs.Riding.{lone_carries, all_lone}
use Rattle.pg_meals.proofs.Carried.{board_is}

module _ {A C : Type 0} (p : Program A C) (law : IsLawful p) (g : Multigraph) (s : Configuration) (b : Board A) (kept : IsKept p g s b) (free : AllFree b.actors.items) where
  abbrev st : Serial
  st = stands p (shape_on g b) (core_by p b)

  seat_same : (v : ℕ) → v < length g.ids → seat_at (two 0 0) b.seats.items v ≡ seat_at (any_datum p) b.seats.items v
  seat_same v i = get_or_default b.seats.items v (no_seat (two 0 0)) (no_seat (any_datum p)) (omega (arith, i, kept.laid.seats))

  -- the data
  values_left : (values : List Datum) → values ≡ map (λ v. (seat_at (two 0 0) b.seats.items v).datum) (range_with_len 0 (length b.seats.items)) → values ≡ map st.value (range_with_len 0 (length g.ids))
  values_left values is = fill_by_all st.value values (length g.ids) (two 0 0) (ap length is ∙ (length-map-range_with_len (λ v. (seat_at (two 0 0) b.seats.items v).datum) 0 (length b.seats.items) ∙ kept.laid.seats)) each
    where
      each : (k : ℕ) → k < length g.ids → slice_index_or values k (two 0 0) ≡ st.value k
      each k i =
          ap (λ xs. slice_index_or xs k (two 0 0)) is
          ∙ (get_or-map-range_with_len (λ v. (seat_at (two 0 0) b.seats.items v).datum) 0 (length b.seats.items) k k (two 0 0) (omega (arith, i, kept.laid.seats)) (omega arith)
          ∙ ap (λ (x : Seat A). x.datum) (seat_same k i))

  -- nobody has pinned a fork, so each carries its content
  content_same : (e : ℕ) → e < length g.edges → (fork_at 0 b.forks.items e).content ≡ carried (actor_at b.actors.items) (fork_at (any_word p) b.forks.items e)
  content_same e i =
      ap (λ (x : Fork A). x.content) (fork_same p law g s b kept e i)
      ∙ sym (lone_carries (actor_at b.actors.items) (fork_at (any_word p) b.forks.items e) (all_lone g b (board_is p g s b kept) free (any_word p) e))

  -- the words
  words_left : (words : List ℕ) → words ≡ map (λ (x : Fork A). x.content.word) b.forks.items → words ≡ map st.word (range_with_len 0 (length g.edges))
  words_left words is = fill_by_all st.word words (length g.edges) 0 (ap length is ∙ (length-map b.forks.items (λ (x : Fork A). x.content.word) ∙ kept.laid.forks)) each
    where
      each : (k : ℕ) → k < length g.edges → slice_index_or words k 0 ≡ st.word k
      each k i =
          ap (λ xs. slice_index_or xs k 0) is
          ∙ (get_or-map (λ (x : Fork A). x.content.word) b.forks.items k (no_fork 0) 0 (omega (arith, i, kept.laid.forks))
          ∙ ap (λ (x : Carried A). x.word) (content_same k i))

  ride_same : (v e : ℕ) → e < length g.edges → ride_for g b.forks.items v e ≡ message_at (shape_on g b) (core_by p b).content v e
  ride_same v e i = ap (λ (x : Carried A). for_end g v e x.source.message x.target.message None) (content_same e i)

  -- the messages
  messages_left : (own messages : List (Option ℕ)) → own ≡ map (λ v. (seat_at (two 0 0) b.seats.items v).message) (range_with_len 0 (length b.seats.items)) → length messages ≡ length g.ids
      → ((v : ℕ) → v < length g.ids → message_in messages v ≡ delivered p.combine g b.forks.items v (length g.edges) (message_in own v)) → messages ≡ map st.message (range_with_len 0 (length g.ids))
  messages_left own messages is count all = fill_by_all st.message messages (length g.ids) None count each
    where
      each : (k : ℕ) → k < length g.ids → slice_index_or messages k None ≡ st.message k
      each k i =
          let mine : message_in own k ≡ (seat_at (any_datum p) b.seats.items k).message
          = ap (λ xs. message_in xs k) is
          ∙ (get_or-map-range_with_len (λ v. (seat_at (two 0 0) b.seats.items v).message) 0 (length b.seats.items) k k None (omega (arith, i, kept.laid.seats)) (omega arith)
          ∙ ap (λ (x : Seat A). x.message) (seat_same k i)) in
          all k i ∙ (λ j. join p.combine (mine j) (total_like (join p.combine) None (ride_for g b.forks.items k) _ (length g.edges) (λ e l. ride_same k e l) j))

  -- the state
  pub state_left : (values : List Datum) (words : List ℕ) (own messages : List (Option ℕ))
      → values ≡ map (λ v. (seat_at (two 0 0) b.seats.items v).datum) (range_with_len 0 (length b.seats.items))
      → words ≡ map (λ (x : Fork A). x.content.word) b.forks.items
      → own ≡ map (λ v. (seat_at (two 0 0) b.seats.items v).message) (range_with_len 0 (length b.seats.items)) → length messages ≡ length g.ids
      → ((v : ℕ) → v < length g.ids → message_in messages v ≡ delivered p.combine g b.forks.items v (length g.edges) (message_in own v))
      → record { values = values; edges = words; messages = messages } ≡ state_of_board p g s b
  state_left values words own messages v_is w_is o_is count all =
      (λ j. record { values = values_left values v_is j; edges = words_left words w_is j; messages = messages_left own messages o_is count all j })
      ∙ kept.stands.replayed

  -- what stands in places and rides are messages of the program
  pub own_fits : (own : List (Option ℕ)) → own ≡ map (λ v. (seat_at (two 0 0) b.seats.items v).message) (range_with_len 0 (length b.seats.items)) → (v : ℕ) → IsOptional p.IsMessage (message_in own v)
  own_fits own is v = go (below_or_past v (length g.ids))
    where
      go : (v < length g.ids) ⊎ (length g.ids ≤ v) → IsOptional p.IsMessage (message_in own v)
      go (inl i) =
          subst (IsOptional p.IsMessage)
          (sym (ap (λ xs. message_in xs v) is
          ∙ (get_or-map-range_with_len (λ v. (seat_at (two 0 0) b.seats.items v).message) 0 (length b.seats.items) v v None (omega (arith, i, kept.laid.seats)) (omega arith)
          ∙ ap (λ (x : Seat A). x.message) (seat_same v i))))
          (kept.stands.kept.true_of.own_message v)
      go (inr l) = subst (IsOptional p.IsMessage) (sym (get_or_past own v None (omega (arith, l, kept.laid.seats, ap length is ∙ length-map-range_with_len (λ v. (seat_at (two 0 0) b.seats.items v).message) 0 (length b.seats.items))))) tt

  pub rides_fit : (t : Side) (e : ℕ) → IsOptional p.IsMessage (at_side t (fork_at 0 b.forks.items e).content).message
  rides_fit t e = go (below_or_past e (length g.edges))
    where
      none : (t : Side) → IsOptional p.IsMessage (at_side t (no_fork {A = A} 0).content).message
      none Source = tt
      none Target = tt

      go : (e < length g.edges) ⊎ (length g.edges ≤ e) → IsOptional p.IsMessage (at_side t (fork_at 0 b.forks.items e).content).message
      go (inl i) = subst (λ (x : Carried A). IsOptional p.IsMessage (at_side t x).message) (sym (content_same e i)) ((kept.stands.kept.true_of.content_fits e).message t)
      go (inr l) = subst (λ (x : Fork A). IsOptional p.IsMessage (at_side t x.content).message) (sym (get_or_past b.forks.items e (no_fork 0) (omega (arith, l, kept.laid.forks)))) (none t)

  -- where no delta waits for a vertex, none is on its forks
  none_waits : (v n : ℕ) → waits_below g b.forks.items v n ≡ false → (e : ℕ) → e < n → waits_on g b.forks.items v e ≡ false
  none_waits v zero t e i = absurd (omega (arith, i))
  none_waits v (suc n) t e i = go (λ q l. none_waits v n q e l) (waits_below g b.forks.items v n) refl (waits_on g b.forks.items v n) refl t (last e n i)
    where
      last : (e n : ℕ) → e < suc n → (e < n) ⊎ (e ≡ n)
      last e n i = grind arith

      go : (waits_below g b.forks.items v n ≡ false → e < n → waits_on g b.forks.items v e ≡ false) → (k : Bool) → waits_below g b.forks.items v n ≡ k → (l : Bool) → waits_on g b.forks.items v n ≡ l → (k || l) ≡ false → (e < n) ⊎ (e ≡ n) → waits_on g b.forks.items v e ≡ false
      go before true q l r t h = absurd (true≢false t)
      go before false q true r t h = absurd (true≢false t)
      go before false q false r t (inl i) = before q i
      go before false q false r t (inr at) = ap (waits_on g b.forks.items v) at ∙ r

  nothing_is : (d : Delta A) → is_delta d ≡ false → d ≡ Nothing
  nothing_is Nothing t = refl
  nothing_is (Add a) t = absurd (true≢false t)
  nothing_is Clear t = absurd (true≢false t)

  delta_none : (v e : ℕ) → e < length g.edges → waits_on g b.forks.items v e ≡ false → delta_at (shape_on g b) (core_by p b).content v e ≡ Nothing
  delta_none v e i t =
      ap (λ (x : Carried A). for_end g v e x.source.delta x.target.delta Nothing) (sym (content_same e i))
      ∙ go (end_at g Source e == v) refl (end_at g Target e == v) refl t
    where
      go : (k : Bool) → (end_at g Source e == v) ≡ k → (l : Bool) → (end_at g Target e == v) ≡ l
          → cond k (is_delta (fork_at 0 b.forks.items e).content.source.delta) (cond l (is_delta (fork_at 0 b.forks.items e).content.target.delta) false) ≡ false
          → cond k (fork_at 0 b.forks.items e).content.source.delta (cond l (fork_at 0 b.forks.items e).content.target.delta Nothing) ≡ Nothing
      go true q l r t = nothing_is _ t
      go false q true r t = nothing_is _ t
      go false q false r t = refl

  -- a cell that is left is true of the state
  left_true : (v : ℕ) → v < length g.ids → IsTrueOf p.sum (cell_left g b v) (fresh_of p g (state_of_board p g s b) v)
  left_true v i = go (waits_below g b.forks.items v (length g.edges)) refl
    where
      same : fresh p (shape_on g b) st v ≡ fresh_of p g (state_of_board p g s b) v
      same =
          ap (λ x. fresh p (shape_on g b) x v) (sym (state_is p law (setting_of g s b) kept.setting (core_by p b) kept.stands.kept))
          ∙ fresh_same p g (cut_of b) b.caches law kept.setting.graph (state_of_board p g s b) kept.stands.fit v

      go : (k : Bool) → waits_below g b.forks.items v (length g.edges) ≡ k → IsTrueOf p.sum (cond k cleared (seat_at (two 0 0) b.seats.items v).cell) (fresh_of p g (state_of_board p g s b) v)
      go true t = tt
      go false t =
          let none : total (joined p.sum) Nothing (delta_at (shape_on g b) (core_by p b).content v) (length g.edges) ≡ Nothing
          = total_unit (delta_monoid p law) (delta_at (shape_on g b) (core_by p b).content v) (length g.edges) (λ e l. delta_none v e l (none_waits v (length g.edges) t e l)) in
          let cell_is : cell_in p (shape_on g b) (core_by p b) v ≡ (seat_at (two 0 0) b.seats.items v).cell
          = (λ j. record {
            acc = ((core_by p b).place v).cell.acc;
            pending = (ap (joined p.sum ((core_by p b).place v).cell.pending) none ∙ joined-nothing p.sum ((core_by p b).place v).cell.pending) j;
          }) ∙ ap (λ (x : Seat A). x.cell) (sym (seat_same v i)) in
          subst (λ cell. IsTrueOf p.sum cell (fresh_of p g (state_of_board p g s b) v)) cell_is (subst (IsTrueOf p.sum (cell_in p (shape_on g b) (core_by p b) v)) same (kept.stands.kept.true_of.cell_true v))

  left_own : (v : ℕ) → v < length g.ids → IsCell p (cell_left g b v)
  left_own v i = go (waits_below g b.forks.items v (length g.edges))
    where
      go : (k : Bool) → IsCell p (cond k cleared (seat_at (two 0 0) b.seats.items v).cell)
      go true = record { acc = tt; pending = tt }
      go false = subst (λ (x : Seat A). IsCell p x.cell) (sym (seat_same v i)) (kept.stands.kept.true_of.cell_fits v)

  -- so a table can be opened over them
  pub caches_left : (caches : Option (Vec (CacheCell A) Global)) → AreLeft g b caches → (cut : Division) → AreCaches p g cut (state_of_board p g s b) caches
  caches_left None left cut = tt
  caches_left (Some cells) left cut = (
    kept.setting.deltas left.0,
    omega (arith, ap length left.1 ∙ length-map-range_with_len (cell_left g b) 0 (length g.ids)),
    record {
      own = λ v. at (IsCell p) v (left_own v) (record { acc = tt; pending = tt });
      kept = λ v a q. refl;
      true_of = λ v. at (λ cell. IsTrueOf p.sum cell (fresh_of p g (state_of_board p g s b) v)) v (left_true v) tt;
    },
  )
    where
      count : length cells.items ≡ length g.ids
      count = ap length left.1 ∙ length-map-range_with_len (cell_left g b) 0 (length g.ids)

      at : (P : CacheCell A → Type 0) (v : ℕ) → (v < length g.ids → P (cell_left g b v)) → P cleared → P (cell_at cells.items v)
      at P v here past = go (below_or_past v (length g.ids))
        where
          go : (v < length g.ids) ⊎ (length g.ids ≤ v) → P (cell_at cells.items v)
          go (inl i) = subst P (sym (ap (λ xs. cell_at xs v) left.1 ∙ get_or-map-range_with_len (cell_left g b) 0 (length g.ids) v v cleared i (omega arith))) (here i)
          go (inr l) = subst P (sym (get_or_past cells.items v cleared (omega (arith, l, count)))) past
