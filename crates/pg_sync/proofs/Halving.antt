-- The second half of a round, by workers that hold a state.
use Rattle.std.proofs.Common.{◌≡◌, ◌≢◌, ℕ, zero, suc, ◌<◌, ◌≤◌, ◌⊎◌, inl, inr, Bool, true, Option, Some, None, Ok, Err, List, [], ◌∷◌, length, get_or, map, refl, sym, subst, ◌∙◌, ap, arith}
use Rattle.std.specs.Prelude.{All, AllPairs, IfOk, OnOk, Vec, Result}
use Rattle.std.specs.declared.alloc.Global.{Global}
use Rattle.std.specs.declared.alloc.AllocError.{AllocError}
use Rattle.std.proofs.lemmas.Bool.{cases_lt}
use Rattle.std.proofs.lemmas.List.{get_or-map, get_or_past, length-map, ext_get_or, get_or_default}
use Rattle.std.proofs.lemmas.List.FromFn.{get_or-map-range_with_len, length-map-range_with_len}
use Rattle.pg_graph.specs.Multigraph.{Multigraph, IsMultigraph}
use Rattle.pg_graph.proofs.Numbers.{filter_numbers_each}
use Rattle.pg_law.specs.declared.values.Datum.{Datum}
use Rattle.pg_law.specs.declared.values.Applied.{Applied}
use Rattle.pg_law.specs.Values.{one}
use Rattle.pg_law.specs.Program.{Program}
use Rattle.pg_law.specs.Laws.{IsLawful, KeepsGathers}
use Rattle.pg_law.specs.Configuration.{Configuration, IsFit, datum_in, message_in, signalled, is_signalled}
use Rattle.pg_law.specs.Carries.{carry_at, carry_in, AreCarries, IsCarried}
use Rattle.pg_law.specs.Round.{became_at, AreApplied, IsBecome, datum_after, message_after, outcomes, fresh, values_after, messages_after, round}
use Rattle.pg_law.proofs.Fitting.{outcomes_own, values_after_own, messages_after_own, round_fits}
use Rattle.pg_cut.specs.Cut.{Division, IsCutOf}
use Rattle.pg_cut.specs.ByWorker.{lists_in}
use Rattle.pg_edge_store.specs.Store.{Store}
use Rattle.pg_mirrors.specs.Mirrors.{Mirrors, Pushes}
use Rattle.pg_gather.specs.Partials.{IsReadable}
use Rattle.pg_gather.specs.Shares.{IsShareOf}
use Rattle.pg_gather.proofs.Sharing.{readable}
use Rattle.pg_apply_scatter.specs.declared.sent.Sent.{Sent}
use Rattle.pg_apply_scatter.specs.Pushing.{table_at, ArePushed}
use Rattle.pg_apply_scatter.specs.Sending.{IsSentIn, sent_from}
use Rattle.pg_apply_scatter.specs.Applying.{applied_by}
use Rattle.pg_apply_scatter.specs.Halves.{entry_of, became_by, data_of, applied_state, applied_round, store_after, sent_by_all, AreCarriesOf, AreRounded}
use Rattle.pg_delta.specs.declared.cell.CacheCell.{CacheCell}
use Rattle.pg_delta.specs.Cell.{posted}
use Rattle.pg_apply_scatter.specs.Delivering.{message_from, cell_in, cell_from, AllDeliverTheSame, StandsFor, AreCombined, ArePosted, AreCellsOf}
use Rattle.pg_apply_scatter.proofs.Combining.{equal_signals_deliver_equally}
use Rattle.pg_apply_scatter.proofs.Caching.{cell_posted}
use Rattle.pg_apply_scatter.proofs.Rounding.{parts_are_a_round}
use Rattle.pg_apply_scatter.proofs.Applying.{masters_become, pushes_share}
use Rattle.pg_sync.specs.declared.worker.Scattering.{Scattering}
use Rattle.pg_sync.specs.declared.masters.Masters.{Masters}
use Rattle.pg_sync.specs.Phases.{AreReadable, HasScattered}
use Rattle.pg_sync.specs.Masters.{IsWritten}
use Rattle.pg_sync.specs.Held.{no_worker, store_at, IsHeld}
use Rattle.pg_sync.specs.Cells.{AreTold}
use Rattle.pg_sync.proofs.Holding.{wanted_apart}
use Rattle.pg_sync.proofs.Keeping.{delta_is}

-- what follows from what holds after success
pub on_ok_then : {T E : Type 0} (r : Result T E) (A B : Type 0) → (A → B) → OnOk r A → OnOk r B
on_ok_then (Ok x) A B then on = then on
on_ok_then (Err e) A B then on = tt

abbrev pub ok_of : {A : Type 0} → A → Result A AllocError
ok_of x = Ok x

-- lists that were taken from the workers: what holds of what each of them sent holds of its list
taken_each : {Acc : Type 0} (P : ℕ → List (Sent Acc) → Type 0) (lists : List (Vec (Sent Acc) Global)) (mid : List (Scattering Acc)) → map ok_of lists ≡ map (λ worker. worker.sent) mid
    → ((w : ℕ) (d : Scattering Acc) → w < length mid → IfOk (get_or mid w d).sent (λ sent. P w sent.items)) → (w : ℕ) → w < length mid → P w (get_or (lists_in lists) w [])
taken_each P [] [] taken each w h = absurd (omega (arith, h))
taken_each P [] (worker ∷ mid) taken each w h = absurd (cc)
taken_each P (list ∷ lists) [] taken each w h = absurd (cc)
taken_each {Acc = Acc} P (list ∷ lists) (worker ∷ mid) taken each zero h =
    let first : ok_of list ≡ worker.sent = cc in
    let Has : Result (Vec (Sent Acc) Global) AllocError → Type 0 = λ r. IfOk r (λ sent. P 0 sent.items) in
    subst Has (sym first) (each 0 worker (omega arith))
taken_each P (list ∷ lists) (worker ∷ mid) taken each (suc w) h = taken_each (λ k. P (suc k)) lists mid (cc) (λ k d below. each (suc k) d (omega (arith, below))) w (omega (arith, h))

-- and there are as many
taken_count : {Acc : Type 0} (lists : List (Vec (Sent Acc) Global)) (mid : List (Scattering Acc)) → map ok_of lists ≡ map (λ worker. worker.sent) mid → length (lists_in lists) ≡ length mid
taken_count [] [] taken = refl
taken_count [] (worker ∷ mid) taken = absurd (cc)
taken_count (list ∷ lists) [] taken = absurd (cc)
taken_count (list ∷ lists) (worker ∷ mid) taken = ap suc (taken_count lists mid (cc))

-- so none of them is want of memory
all_sent : {Acc : Type 0} (X : Type 0) (lists : List (Vec (Sent Acc) Global)) (mid : List (Scattering Acc)) → map ok_of lists ≡ map (λ worker. worker.sent) mid → (w : ℕ) (d : Scattering Acc) → w < length mid → OnOk (get_or mid w d).sent X → X
all_sent X [] [] taken w d h on = absurd (omega (arith, h))
all_sent X [] (worker ∷ mid) taken w d h on = absurd (cc)
all_sent X (list ∷ lists) [] taken w d h on = absurd (cc)
all_sent {Acc = Acc} X (list ∷ lists) (worker ∷ mid) taken zero d h on =
    let first : ok_of list ≡ worker.sent = cc in
    let On : Result (Vec (Sent Acc) Global) AllocError → Type 0 = λ r. OnOk r X in
    subst On (sym first) on
all_sent X (list ∷ lists) (worker ∷ mid) taken (suc w) d h on = all_sent X lists mid (cc) w d (omega (arith, h)) on

module _ {Acc Carry : Type 0} (p : Program Acc Carry) (law : IsLawful p) (g : Multigraph) (ok : IsMultigraph g) (cut : Division) (is : IsCutOf g cut) (s : Configuration)
    (workers : List (Scattering Acc)) (old : List Mirrors) (before : Masters Carry) (held : IsHeld p g cut s workers old before.values.items before.messages.items)
    (applied : List (ℕ × Applied Carry)) (applies : applied ≡ applied_round p g s) where
  abbrev pub became : List (Option (Applied Carry))
  became = became_by g applied

  became_is : became ≡ outcomes p g s (λ v. true)
  became_is = ap (became_by g) applies ∙ masters_become p g s

  became_own : AreApplied p g became
  became_own = let Own : List (Option (Applied Carry)) → Type 0 = λ b. AreApplied p g b in subst Own (sym became_is) (outcomes_own p g law ok s (λ v. true) held.fit)

  -- the vertices that applied are the signalled ones
  count : length applied ≡ length (signalled g s)
  count = ap length applies ∙ length-map {B = ℕ × Applied Carry} (map (λ u. (u, fresh p g s u)) (signalled g s)) (λ sum. (sum.0, applied_by p g s.values s.messages sum)) ∙ length-map {B = ℕ × Acc} (signalled g s) (λ u. (u, fresh p g s u))

  first_is : (i : ℕ) (d : ℕ × Applied Carry) → i < length applied → (get_or applied i d).0 ≡ get_or (signalled g s) i 0
  first_is i d h = let below : i < length (signalled g s) = omega (arith, h, count) in
      ap (λ xs. (get_or xs i d).0) applies
      ∙ ap (λ (x : ℕ × Applied Carry). x.0) (get_or-map (λ sum. (sum.0, applied_by p g s.values s.messages sum)) (map (λ u. (u, fresh p g s u)) (signalled g s)) i (0, p.empty) d (omega (arith, below, length-map {B = ℕ × Acc} (signalled g s) (λ u. (u, fresh p g s u)))))
      ∙ ap (λ (x : ℕ × Acc). x.0) (get_or-map (λ u. (u, fresh p g s u)) (signalled g s) i 0 (0, p.empty) below)

  pub firsts_apart : AllPairs (λ a b. a.0 ≢ b.0) applied
  firsts_apart i j d lt h same = wanted_apart p law g ok cut is s workers old before.values.items before.messages.items held i j 0 lt (omega (arith, h, count))
      (sym (first_is i d (omega (arith, lt, h))) ∙ same ∙ first_is j d h)

  pub firsts_below : All (λ a. a.0 < length g.ids) applied
  firsts_below i d h = let below = (filter_numbers_each (is_signalled s) (length g.ids) i 0 (omega (arith, h, count))).0 in rw (first_is i d h) below

  pub data_apart : AllPairs (λ a b. a.0 ≢ b.0) (data_of applied)
  data_apart i j d lt h same = let below : j < length applied = omega (arith, h, length-map {B = ℕ × Datum} applied (λ entry. (entry.0, entry.1.datum))) in
      wanted_apart p law g ok cut is s workers old before.values.items before.messages.items held i j 0 lt (omega (arith, below, count))
      (sym (datum_first i (omega (arith, lt, below))) ∙ sym (ap (λ (x : ℕ × Datum). x.0) (get_or_default (data_of applied) i d (0, one 0) (omega (arith, lt, h)))) ∙ same ∙ ap (λ (x : ℕ × Datum). x.0) (get_or_default (data_of applied) j d (0, one 0) h) ∙ datum_first j below)
    where
      firsts : (xs : List (ℕ × Applied Carry)) → map (λ (x : ℕ × Datum). x.0) (data_of xs) ≡ map (λ (x : ℕ × Applied Carry). x.0) xs
      firsts [] = refl
      firsts (x ∷ xs) = ap (λ ys. x.0 ∷ ys) (firsts xs)

      round_firsts : (xs : List ℕ) → map (λ (x : ℕ × Applied Carry). x.0) (map (λ (sum : ℕ × Acc). (sum.0, applied_by p g s.values s.messages sum)) (map (λ u. (u, fresh p g s u)) xs)) ≡ xs
      round_firsts [] = refl
      round_firsts (x ∷ xs) = ap (λ ys. x ∷ ys) (round_firsts xs)

      datum_first : (i : ℕ) → i < length applied → (get_or (data_of applied) i (0, one 0)).0 ≡ get_or (signalled g s) i 0
      datum_first i h = sym (get_or-map (λ (x : ℕ × Datum). x.0) (data_of applied) i (0, one 0) 0 (omega (arith, h, length-map {B = ℕ × Datum} applied (λ entry. (entry.0, entry.1.datum)))))
          ∙ ap (λ xs. get_or xs i 0) (firsts applied ∙ ap (map (λ (x : ℕ × Applied Carry). x.0)) applies ∙ round_firsts (signalled g s))

  abbrev pub state : Configuration
  state = applied_state p g s became

  pub state_fit : IsFit p g state
  state_fit = record {
    values = values_after_own p g law ok s.values became held.fit.values became_own;
    words = held.fit.words;
    messages = messages_after_own p g law ok s.messages became held.fit.messages became_own;
  }

  module _ (mirrors : List Mirrors) (pushed : ArePushed old mirrors (data_of applied)) where
    share_pushed : (w : ℕ) → w < cut.workers → IsShareOf g cut w state (store_at workers w) (table_at mirrors w)
    share_pushed w h = pushes_share p g cut w s applied (store_at workers w) (table_at old w) (table_at mirrors w) is (held.shares w h) (pushed.each w (omega (arith, h, held.tables)))

    pub readable_at : (w : ℕ) → w < cut.workers → IsReadable p g (store_at workers w) (table_at mirrors w)
    readable_at w h = readable p g cut w state (store_at workers w) (table_at mirrors w) ok is h (share_pushed w h) state_fit

    -- once they are pushed, all can read their edges
    pub readable_pushed : AreReadable p g workers mirrors
    readable_pushed = record {
      each = λ w d h. let Readable : Scattering Acc → Type 0 = λ worker. IsReadable p g worker.store (table_at mirrors w) in
          subst Readable (get_or_default workers w no_worker d h) (readable_at w (omega (arith, h, held.stores)));
    }

  module _ (after : Masters Carry) (written : IsWritten applied before after) (carry_count : length before.carries.items ≡ length g.ids) where
    entry_at : (v : ℕ) → v < length g.ids → became_at became v ≡ entry_of applied v
    entry_at v h = get_or-map-range_with_len (entry_of applied) 0 (length g.ids) v v None h (omega arith)

    -- the carries are those of what applied
    pub carries_of : AreCarriesOf after.carries.items became
    carries_of v = by_order (cases_lt v (length g.ids))
      where
        by_order : (v < length g.ids) ⊎ (length g.ids ≤ v) → carry_at after.carries.items v ≡ carry_in (became_at became v)
        by_order (inl h) = written.each_carry v (omega (arith, h, carry_count)) ∙ sym (ap carry_in (entry_at v h))
        by_order (inr h) = get_or_past after.carries.items v None (omega (arith, h, written.carry_count, carry_count)) ∙ sym (ap carry_in (get_or_past became v None (omega (arith, h, length-map-range_with_len (entry_of applied) 0 (length g.ids)))))

    pub carries_own : AreCarries p g after.carries.items
    carries_own = record {
      count = written.carry_count ∙ carry_count;
      each = λ v h. rw (carries_of v) (by_outcome (became_at became v) (became_own.each v h));
    }
      where
        by_outcome : (o : Option (Applied Carry)) → IsBecome p o → IsCarried p (carry_in o)
        by_outcome None own = tt
        by_outcome (Some a) own = own.carry

    pub values_written : after.values.items ≡ values_after p g s.values became
    values_written = ext_get_or (one 0) after.values.items (values_after p g s.values became) (all ∙ sym made)
        (λ v h. let below : v < length g.ids = omega (arith, h, all) in
        written.each_datum v (omega (arith, below, same)) ∙ ap (λ vs. datum_after (datum_in vs v) (entry_of applied v)) held.values ∙ ap (datum_after (datum_in s.values v)) (sym (entry_at v below))
        ∙ sym (get_or-map-range_with_len (λ u. datum_after (datum_in s.values u) (became_at became u)) 0 (length g.ids) v v (one 0) below (omega arith)))
      where
        same : length before.values.items ≡ length g.ids
        same = ap length held.values ∙ held.fit.values.count

        all : length after.values.items ≡ length g.ids
        all = written.data_count ∙ ap length held.values ∙ held.fit.values.count

        made : length (values_after p g s.values became) ≡ length g.ids
        made = length-map-range_with_len (λ u. datum_after (datum_in s.values u) (became_at became u)) 0 (length g.ids)

    pub messages_written : after.messages.items ≡ messages_after p g s.messages became
    messages_written = ext_get_or None after.messages.items (messages_after p g s.messages became) (all ∙ sym made)
        (λ v h. let below : v < length g.ids = omega (arith, h, all) in
        written.each_message v (omega (arith, below, same)) ∙ ap (λ ms. message_after (message_in ms v) (entry_of applied v)) held.messages ∙ ap (message_after (message_in s.messages v)) (sym (entry_at v below))
        ∙ sym (get_or-map-range_with_len (λ u. message_after (message_in s.messages u) (became_at became u)) 0 (length g.ids) v v None below (omega arith)))
      where
        same : length before.messages.items ≡ length g.ids
        same = ap length held.messages ∙ held.fit.messages.count

        all : length after.messages.items ≡ length g.ids
        all = written.message_count ∙ ap length held.messages ∙ held.fit.messages.count

        made : length (messages_after p g s.messages became) ≡ length g.ids
        made = length-map-range_with_len (λ u. message_after (message_in s.messages u) (became_at became u)) 0 (length g.ids)

    module _ (mirrors : List Mirrors) (pushed : ArePushed old mirrors (data_of applied)) (deltas : Bool) (mid : List (Scattering Acc)) (lists : List (Vec (Sent Acc) Global)) (mid_count : length mid ≡ length workers)
        (taken : map ok_of lists ≡ map (λ worker. worker.sent) mid) (scattered : (w : ℕ) (d : Scattering Acc) → w < length workers → HasScattered p g (table_at mirrors w) after.carries.items deltas (get_or workers w d) (get_or mid w d)) where
      abbrev sent_of : ℕ → List (Sent Acc)
      sent_of w = sent_from p g (table_at mirrors w) after.carries.items (store_at workers w)

      abbrev all_sent_now : List (List (Sent Acc))
      all_sent_now = sent_by_all p g cut after.carries.items (store_at workers) (table_at mirrors)

      lists_count : length (lists_in lists) ≡ cut.workers
      lists_count = taken_count lists mid taken ∙ mid_count ∙ held.stores

      sent_is : (w : ℕ) → w < cut.workers → get_or all_sent_now w [] ≡ sent_of w
      sent_is w h = get_or-map-range_with_len sent_of 0 cut.workers w w [] h (omega arith)

      -- what each worker listed stands for what it sent
      stands : (w : ℕ) → w < cut.workers → StandsFor p deltas (get_or (lists_in lists) w []) (get_or all_sent_now w [])
      stands w h = rw (sent_is w h) (taken_each (λ k list. StandsFor p deltas list (sent_of k)) lists mid taken each w (omega (arith, h, mid_count, held.stores)))
        where
          each : (w : ℕ) (d : Scattering Acc) → w < length mid → IfOk (get_or mid w d).sent (λ sent. StandsFor p deltas sent.items (sent_of w))
          each w d h = let below : w < length workers = omega (arith, h, mid_count) in
              let At : Scattering Acc → Type 0 = λ worker. IfOk (get_or mid w d).sent (λ sent. StandsFor p deltas sent.items (sent_from p g (table_at mirrors w) after.carries.items worker.store)) in
              subst At (get_or_default workers w d no_worker below) (scattered w d below).sent

      pub lists_own : All (All (IsSentIn p (length g.ids))) (lists_in lists)
      lists_own w d h = let Own : List (Sent Acc) → Type 0 = All (IsSentIn p (length g.ids)) in
          subst Own (get_or_default (lists_in lists) w [] d h) (taken_each (λ k list. All (IsSentIn p (length g.ids)) list) lists mid taken
          (λ k e below. (scattered k e (omega (arith, below, mid_count))).own) w (omega (arith, h, taken_count lists mid taken)))

      -- the messages that come of the lists are those that come of all that was sent
      lists_deliver : AllDeliverTheSame p (lists_in lists) all_sent_now
      lists_deliver = equal_signals_deliver_equally p law (length g.ids) (lists_in lists) all_sent_now lists_own
          (lists_count ∙ sym (length-map-range_with_len sent_of 0 cut.workers)) (λ w h. (stands w (omega (arith, h, lists_count))).signals)

      -- with their deltas they are all that was sent
      lists_whole : deltas ≡ true → lists_in lists ≡ all_sent_now
      lists_whole all = ext_get_or [] (lists_in lists) all_sent_now (lists_count ∙ sym (length-map-range_with_len sent_of 0 cut.workers)) (λ w h. (stands w (omega (arith, h, lists_count))).whole all)

      store_left : (w : ℕ) → w < cut.workers → (get_or mid w no_worker).store ≡ store_after p g (table_at mirrors w) after.carries.items (store_at workers w)
      store_left w h = let below : w < length workers = omega (arith, h, held.stores) in
          all_sent ((get_or mid w no_worker).store ≡ store_after p g (table_at mirrors w) after.carries.items (store_at workers w)) lists mid taken w no_worker (omega (arith, below, mid_count)) (scattered w no_worker below).store

      -- the workers hold the state after the round, and so do the masters
      pub holds_round : (last : List (Scattering Acc)) (waiting : List (Option ℕ)) → map (λ worker. worker.store) last ≡ map (λ worker. worker.store) mid → AreCombined p (lists_in lists) after.messages.items waiting → length waiting ≡ length after.messages.items
          → IsHeld p g cut (round p g s) last mirrors after.values.items waiting
      unfolding round
      holds_round last waiting kept combined count_kept = record {
        fit = round_fits p g law ok s held.fit;
        stores = last_count ∙ mid_count ∙ held.stores;
        tables = pushed.count ∙ held.tables;
        shares = λ w h. let Shared : Store → Type 0 = λ store. IsShareOf g cut w (round p g s) store (table_at mirrors w) in
            subst Shared (sym (store_left w h) ∙ sym (store_kept w (omega (arith, h, mid_count, held.stores)))) (rounded.shares w h);
        values = values_written ∙ ap (values_after p g s.values) became_is;
        messages = ext_get_or None waiting (round p g s).messages (count_kept ∙ ap length messages_written ∙ messages_count ∙ sym round_count)
            (λ v h. let below : v < length g.ids = omega (arith, h, count_kept, ap length messages_written, messages_count) in
            combined v (omega (arith, h, count_kept)) ∙ lists_deliver v (message_in after.messages.items v) (rw messages_written (state_fit.messages.each v below))
            ∙ ap (λ ms. message_from p v (message_in ms v) all_sent_now) (messages_written ∙ ap (messages_after p g s.messages) became_is) ∙ rounded.messages v below);
      }
        where
          last_count : length last ≡ length mid
          last_count = sym (length-map last (λ worker. worker.store)) ∙ ap length kept ∙ length-map mid (λ worker. worker.store)

          store_kept : (w : ℕ) → w < length mid → store_at last w ≡ (get_or mid w no_worker).store
          store_kept w h = sym (get_or-map (λ (worker : Scattering Acc). worker.store) last w (no_worker {Acc = Acc}) (no_worker {Acc = Acc}).store (omega (arith, h, last_count))) ∙ ap (λ stores. get_or stores w (no_worker {Acc = Acc}).store) kept ∙ get_or-map (λ (worker : Scattering Acc). worker.store) mid w (no_worker {Acc = Acc}) (no_worker {Acc = Acc}).store h

          messages_count : length (messages_after p g s.messages became) ≡ length g.ids
          messages_count = length-map-range_with_len (λ u. message_after (message_in s.messages u) (became_at became u)) 0 (length g.ids)

          round_count : length (round p g s).messages ≡ length g.ids
          round_count = (round_fits p g law ok s held.fit).messages.count

          rounded : AreRounded p g cut s after.carries.items (store_at workers) (table_at mirrors)
          rounded = parts_are_a_round p law g cut s after.carries.items (store_at workers) (table_at old) (table_at mirrors) ok is held.fit held.shares
              (λ w h. let Pushed : List (ℕ × Applied Carry) → Type 0 = λ xs. Pushes (table_at old w) (table_at mirrors w) (data_of xs) in subst Pushed applies (pushed.each w (omega (arith, h, held.tables))))
              (let Carried : List (ℕ × Applied Carry) → Type 0 = λ xs. AreCarriesOf after.carries.items (became_by g xs) in subst Carried applies carries_of)

      -- the cells have all posted that a round sends to their vertices
      pub cells_told : (speaks : KeepsGathers p) (cells last : List (CacheCell Acc)) → (0 < length cells → deltas ≡ true) → AreCellsOf p cells → ArePosted p (lists_in lists) cells last → AreTold p g s cells last
      cells_told speaks cells last all own posts v h =
          let Carried : List (Option (Applied Carry)) → Type 0 = λ b. AreCarriesOf after.carries.items b in
          let Shared : List (Option (Applied Carry)) → Type 0 = λ b. (w : ℕ) → w < cut.workers → IsShareOf g cut w (applied_state p g s b) (store_at workers w) (table_at mirrors w) in
          posts v h ∙ ap (cell_from p v (cell_in cells v)) (lists_whole (all (omega (arith, h))))
          ∙ cell_posted p law speaks g ok s held.fit cut after.carries.items (store_at workers) (table_at mirrors) (cell_in cells v) is (subst Carried became_is carries_of) (subst Shared became_is (share_pushed mirrors pushed)) (own v h).pending v
          ∙ ap (posted p.sum (cell_in cells v)) (sym (delta_is p law g ok s held.fit speaks v))
