-- Signals that a worker combines before it hands them over, and that the masters come to the same by them.
use Rattle.std.proofs.Common.{◌≡◌, ◌≢◌, ℕ, zero, suc, ◌+◌, ◌<◌, ◌≤◌, Bool, true, false, cond, ◌==◌, Option, Some, None, List, [], ◌∷◌, ◌++◌, get_or, add-one, refl, sym, subst, ◌∙◌, ap, arith, ⊎_elim}
use Rattle.std.specs.Prelude.{All, fold}
use Rattle.std.specs.List.{range_with_len, flat_map}
use Rattle.std.proofs.lemmas.Bool.{eq-eqb, ne_eqb, cases_lt, cases_eq}
use Rattle.std.proofs.lemmas.List.{append-nil}
use Rattle.std.proofs.lemmas.List.Sums.{fold-append}
use Rattle.std.proofs.lemmas.List.Elements.{All-append, All-nil, All-cons, recursion_from_All}
use Rattle.std.proofs.lemmas.Grind.{flat_map-append}
use Rattle.pg_graph.proofs.Numbers.{numbers_more}
use Rattle.pg_law.specs.Program.{Program}
use Rattle.pg_law.specs.Laws.{IsLawful, IsOptional}
use Rattle.pg_law.specs.Round.{join}
use Rattle.pg_law.proofs.Parts.{join_monoid, fold_from}
use Rattle.pg_apply_scatter.specs.declared.sent.Sent.{Sent}
use Rattle.pg_apply_scatter.specs.Sending.{IsSentIn, signal_for, one_each}
use Rattle.pg_apply_scatter.specs.Delivering.{with_signal, signals_of, message_from, DeliverTheSame, EqualSignalsDeliverEqually}
use Rattle.pg_apply_scatter.proofs.Listing.{join-none}

-- one vertex more
one_more : {Acc : Type 0} (message : ℕ → Option ℕ) (n : ℕ) → one_each {Acc = Acc} message (n + 1) ≡ one_each message n ++ signal_for n (message n)
one_more message n = let signal = λ (v : ℕ). signal_for v (message v) in
    ap (flat_map signal) (numbers_more n) ∙ flat_map-append signal (range_with_len 0 n) (n ∷ []) ∙ ap (λ xs. one_each message n ++ xs) (append-nil (signal n))

-- the list after a vertex without a message, and after one with a message
pub one_passed : {Acc : Type 0} (message : ℕ → Option ℕ) (n : ℕ) (sent : List (Sent Acc)) → message n ≡ None → sent ≡ one_each message n → sent ≡ one_each message (n + 1)
one_passed message n sent absent is = is ∙ sym (append-nil (one_each message n)) ∙ ap (λ o. one_each message n ++ signal_for n o) (sym absent) ∙ sym (one_more message n)

pub one_pushed : {Acc : Type 0} (message : ℕ → Option ℕ) (n m : ℕ) (old new : List (Sent Acc)) → message n ≡ Some m → old ≡ one_each message n → new ≡ old ++ signal_for n (Some m) → new ≡ one_each message (n + 1)
one_pushed message n m old new present is step = step ∙ ap (λ xs. xs ++ signal_for n (Some m)) is ∙ ap (λ o. one_each message n ++ signal_for n o) (sym present) ∙ sym (one_more message n)

module _ {Acc Carry : Type 0} (p : Program Acc Carry) where
  -- what is sent to another vertex changes nothing
  to_other : (v u : ℕ) (m o : Option ℕ) → u ≢ v → signals_of p v m (signal_for u o) ≡ m
  to_other v u m None apart = refl
  to_other v u m (Some signal) apart = ap (λ b. cond b (join p.combine m (Some signal)) m) (ne_eqb u v apart)

  to_itself : (v : ℕ) (m o : Option ℕ) → signals_of p v m (signal_for v o) ≡ join p.combine m o
  to_itself v m None = sym (join-none p m)
  to_itself v m (Some signal) = ap (λ b. cond b (join p.combine m (Some signal)) m) (eq-eqb v v refl)

  -- of one each, a vertex takes its own
  module _ (message : ℕ → Option ℕ) (v : ℕ) (m : Option ℕ) where
    one_step : (n : ℕ) → signals_of p v m (one_each message (n + 1)) ≡ signals_of p v (signals_of p v m (one_each message n)) (signal_for n (message n))
    one_step n = ap (signals_of p v m) (one_more message n) ∙ fold-append (with_signal p v) m (one_each message n) (signal_for n (message n))

    none_yet : (n : ℕ) → n ≤ v → signals_of p v m (one_each message n) ≡ m
    none_yet zero h = refl
    none_yet (suc n) h = let Same : ℕ → Type 0 = λ k. signals_of p v m (one_each message k) ≡ m in
        subst Same (add-one n) (one_step n ∙ to_other v n (signals_of p v m (one_each message n)) (message n) (λ same. absurd (omega arith)) ∙ none_yet n (omega arith))

    one_taken : (n : ℕ) → v < n → signals_of p v m (one_each message n) ≡ join p.combine m (message v)
    one_taken zero h = absurd (omega arith)
    one_taken (suc n) h = let Taken : ℕ → Type 0 = λ k. signals_of p v m (one_each message k) ≡ join p.combine m (message v) in
        subst Taken (add-one n) (one_step n ∙ ⊎_elim
        (λ same. let Here : ℕ → Type 0 = λ u. signals_of p v (signals_of p v m (one_each message n)) (signal_for u (message u)) ≡ join p.combine m (message v) in
        subst Here same (to_itself v (signals_of p v m (one_each message n)) (message v) ∙ ap (λ a. join p.combine a (message v)) (none_yet n (omega arith))))
        (λ apart. to_other v n (signals_of p v m (one_each message n)) (message n) (λ same. apart (sym same)) ∙ one_taken n (omega arith)) (cases_eq v n))

  -- one each is the program's
  signal_own : (count v : ℕ) (o : Option ℕ) → v < count → IsOptional p.IsMessage o → All (IsSentIn p count) (signal_for v o)
  signal_own count v None h own = All-nil (IsSentIn p count)
  signal_own count v (Some message) h own = All-cons (IsSentIn p count) _ [] (record { to = h; signal = own; delta = tt }) (All-nil (IsSentIn p count))

  below_own : (message : ℕ → Option ℕ) (count n : ℕ) → n ≤ count → ((v : ℕ) → IsOptional p.IsMessage (message v)) → All (IsSentIn p count) (one_each message n)
  below_own message count zero h own = All-nil (IsSentIn p count)
  below_own message count (suc n) h own = let Own : List (Sent Acc) → Type 0 = All (IsSentIn p count) in
      let Below : ℕ → Type 0 = λ k. Own (one_each message k) in
      subst Below (add-one n) (subst Own (sym (one_more message n)) (All-append (IsSentIn p count) (one_each message n) (signal_for n (message n)) (below_own message count n (omega arith) own)
      (signal_own count n (message n) (omega arith) (own n))))

  pub one_own : (message : ℕ → Option ℕ) (count : ℕ) → ((v : ℕ) → IsOptional p.IsMessage (message v)) → All (IsSentIn p count) (one_each message count)
  one_own message count own = below_own message count count (omega arith) own

  module _ (law : IsLawful p) (count : ℕ) where
    -- the part of one that is sent, for a vertex
    abbrev part_for : ℕ → Sent Acc → Option ℕ
    part_for v sent = cond (sent.to == v) sent.signal None

    part_own : (v : ℕ) (sent : Sent Acc) → IsSentIn p count sent → IsOptional p.IsMessage (part_for v sent)
    part_own v sent own = chosen (sent.to == v)
      where
        chosen : (b : Bool) → IsOptional p.IsMessage (cond b sent.signal None)
        chosen true = own.signal
        chosen false = tt

    as_parts : (v : ℕ) (m : Option ℕ) (list : List (Sent Acc)) → signals_of p v m list ≡ fold (λ a sent. join p.combine a (part_for v sent)) m list
    as_parts v m [] = refl
    as_parts v m (sent ∷ list) = ap (λ a. signals_of p v a list) (chosen (sent.to == v)) ∙ as_parts v (join p.combine m (part_for v sent)) list
      where
        chosen : (b : Bool) → cond b (join p.combine m sent.signal) m ≡ join p.combine m (cond b sent.signal None)
        chosen true = refl
        chosen false = sym (join-none p m)

    -- a message joins what comes of the signals alone
    taken_out : (v : ℕ) (m : Option ℕ) (list : List (Sent Acc)) → IsOptional p.IsMessage m → All (IsSentIn p count) list → signals_of p v m list ≡ join p.combine m (signals_of p v None list)
    taken_out v m list own all = let Own : Sent Acc → Type 0 = λ sent. IsOptional p.IsMessage (part_for v sent) in
        as_parts v m list
        ∙ fold_from (IsOptional p.IsMessage) None (join p.combine) (join_monoid p law) (part_for v) m list own (recursion_from_All Own list (λ i d h. part_own v (get_or list i d) (all i d h)))
        ∙ ap (join p.combine m) (sym (as_parts v None list))

    -- nothing is sent to a number above
    to_none : (v : ℕ) (m : Option ℕ) (list : List (Sent Acc)) → count ≤ v → All (IsSentIn p count) list → signals_of p v m list ≡ m
    to_none v m [] h all = refl
    to_none v m (sent ∷ list) h all = ap (λ a. signals_of p v a list) (ap (λ b. cond b (join p.combine m sent.signal) m) (ne_eqb sent.to v (λ same. absurd (omega (arith, same, (all 0 sent (omega arith)).to)))))
        ∙ to_none v m list h (λ i d k. all (suc i) d (omega (arith, k)))

    -- one each of what was sent delivers the same
    pub one_delivers : (message : ℕ → Option ℕ) (sent : List (Sent Acc)) → All (IsSentIn p count) sent → ((v : ℕ) → message v ≡ signals_of p v None sent) → DeliverTheSame p (one_each message count) sent
    one_delivers message sent all is v m own = ⊎_elim
        (λ below. one_taken message v m count below ∙ ap (join p.combine m) (is v) ∙ sym (taken_out v m sent own all))
        (λ past. none_yet message v m count past ∙ sym (to_none v m sent past all)) (cases_lt v count)

    -- a message with signals is the program's
    pub signals_own : (v : ℕ) (m : Option ℕ) (list : List (Sent Acc)) → IsOptional p.IsMessage m → All (IsSentIn p count) list → IsOptional p.IsMessage (signals_of p v m list)
    signals_own v m [] own all = own
    signals_own v m (sent ∷ list) own all = signals_own v (with_signal p v m sent) list (chosen (sent.to == v)) (λ i d h. all (suc i) d (omega (arith, h)))
      where
        chosen : (b : Bool) → IsOptional p.IsMessage (cond b (join p.combine m sent.signal) m)
        chosen true = (join_monoid p law).closed m sent.signal own (all 0 sent (omega arith)).signal
        chosen false = own

  pub equal_signals_deliver_equally : IsLawful p → EqualSignalsDeliverEqually p
  equal_signals_deliver_equally law count [] [] all same_count same v m own = refl
  equal_signals_deliver_equally law count [] (other ∷ others) all same_count same v m own = absurd (omega (arith, same_count))
  equal_signals_deliver_equally law count (list ∷ lists) [] all same_count same v m own = absurd (omega (arith, same_count))
  equal_signals_deliver_equally law count (list ∷ lists) (other ∷ others) all same_count same v m own =
      equal_signals_deliver_equally law count lists others (λ i d h. all (suc i) d (omega (arith, h))) (omega (arith, same_count)) (λ w h. same (suc w) (omega (arith, h))) v (signals_of p v m list)
      (signals_own law count v m list own (all 0 list (omega arith)))
      ∙ ap (λ a. message_from p v a others) (same 0 (omega arith) v m own)
