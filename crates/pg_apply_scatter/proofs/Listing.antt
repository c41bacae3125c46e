-- What is listed of all that is sent, and that the signals alone give the same messages.
use Rattle.std.proofs.Common.{◌≡◌, ℕ, Bool, true, false, cond, ◌==◌, Option, Some, None, is_some, List, [], ◌∷◌, ◌++◌, map, refl, sym, subst, ◌∙◌, ap}
use Rattle.std.specs.Prelude.{All, filter, fold}
use Rattle.std.proofs.lemmas.Bool.{true≢false}
use Rattle.std.proofs.lemmas.List.{map-append}
use Rattle.std.proofs.lemmas.List.Elements.{filter-append, All-filter, All-map}
use Rattle.pg_law.specs.Program.{Program}
use Rattle.pg_law.specs.Round.{join}
use Rattle.pg_apply_scatter.specs.declared.sent.Sent.{Sent}
use Rattle.pg_apply_scatter.specs.Sending.{IsSentIn, without_delta, signals_in, listing}
use Rattle.pg_apply_scatter.specs.Delivering.{with_signal, signals_of, SignalsAreEnough, StandsFor}

abbrev has_signal : {Acc : Type 0} → Sent Acc → Bool
has_signal sent = is_some sent.signal

-- of nothing nothing is listed, and what is listed of two lists is what is listed of each
pub listing-nil : {Acc : Type 0} (with_deltas : Bool) → [] ≡ listing {Acc = Acc} with_deltas []
listing-nil true = refl
listing-nil false = refl

listing-append : {Acc : Type 0} (with_deltas : Bool) (xs ys : List (Sent Acc)) → listing with_deltas (xs ++ ys) ≡ listing with_deltas xs ++ listing with_deltas ys
listing-append true xs ys = refl
listing-append false xs ys = ap (map without_delta) (filter-append has_signal xs ys) ∙ map-append without_delta (filter has_signal xs) (filter has_signal ys)

-- what is listed so far, after what some visits more send
pub listed_more : {Acc : Type 0} (with_deltas : Bool) (sent more old new : List (Sent Acc)) → old ≡ listing with_deltas sent → new ≡ old ++ listing with_deltas more → new ≡ listing with_deltas (sent ++ more)
listed_more with_deltas sent more old new before step = step ∙ ap (λ xs. xs ++ listing with_deltas more) before ∙ sym (listing-append with_deltas sent more)

module _ {Acc Carry : Type 0} (p : Program Acc Carry) where
  -- it is the program's
  pub listing_own : (count : ℕ) (with_deltas : Bool) (list : List (Sent Acc)) → All (IsSentIn p count) list → All (IsSentIn p count) (listing with_deltas list)
  listing_own count true list own = own
  listing_own count false list own = All-map (IsSentIn p count) without_delta (filter has_signal list)
      (λ i d h. let here = All-filter has_signal (IsSentIn p count) list own i d h in record { to = here.to; signal = here.signal; delta = tt })

  -- no signal leaves a message as it is
  pub join-none : (m : Option ℕ) → join p.combine m None ≡ m
  join-none None = refl
  join-none (Some m) = refl

  idle : (b : Bool) (m : Option ℕ) → cond b (join p.combine m None) m ≡ m
  idle true m = join-none m
  idle false m = refl

  signals_enough : (v : ℕ) (m : Option ℕ) (list : List (Sent Acc)) → signals_of p v m (signals_in list) ≡ signals_of p v m list
  signals_enough v m [] = refl
  signals_enough v m (sent ∷ list) = by_signal sent.signal refl (λ a. signals_enough v a list)
    where
      Goal : Bool → Type 0
      Goal b = signals_of p v m (map without_delta (cond b (sent ∷ filter has_signal list) (filter has_signal list))) ≡ signals_of p v (with_signal p v m sent) list

      by_signal : (o : Option ℕ) → sent.signal ≡ o → ((a : Option ℕ) → signals_of p v a (signals_in list) ≡ signals_of p v a list) → Goal (is_some sent.signal)
      by_signal None is rest = subst Goal (sym (ap is_some is)) (rest m ∙ sym (ap (λ a. signals_of p v a list) (ap (λ o. cond (sent.to == v) (join p.combine m o) m) is ∙ idle (sent.to == v) m)))
      by_signal (Some signal) is rest = subst Goal (sym (ap is_some is)) (rest (with_signal p v m sent))

  -- and it stands for all that is sent
  pub listing_stands : (with_deltas : Bool) (sent : List (Sent Acc)) → StandsFor p with_deltas (listing with_deltas sent) sent
  listing_stands true sent = record { whole = λ is. refl; signals = λ v m own. refl }
  listing_stands false sent = record { whole = λ is. absurd (true≢false (sym is)); signals = λ v m own. signals_enough v m sent }

  pub signals_are_enough : SignalsAreEnough p
  signals_are_enough v m [] = refl
  signals_are_enough v m (list ∷ lists) = ap (λ a. fold (signals_of p v) a (map signals_in lists)) (signals_enough v m list) ∙ signals_are_enough v (signals_of p v m list) lists
