-- Counters that rise by the gathers of their workers.
use Rattle.std.proofs.Common.{◌≡◌, ℕ, zero, suc, ◌+◌, ◌<◌, Option, Some, None, List, [], ◌∷◌, length, get_or, map, refl, sym, subst, ◌∙◌, ap, arith}
use Rattle.std.specs.Prelude.{All, IsSome, Vec, Result, Ok, Err, OnOk, sum_by}
use Rattle.std.specs.declared.alloc.Global.{Global}
use Rattle.std.proofs.lemmas.List.{get_or-map, length-map}
use Rattle.std.proofs.lemmas.List.Elements.{All-map}
use Rattle.pg_graph.specs.Multigraph.{Multigraph, IsMultigraph}
use Rattle.pg_law.specs.declared.values.Datum.{Datum}
use Rattle.pg_law.specs.Program.{Program}
use Rattle.pg_law.specs.Configuration.{Configuration}
use Rattle.pg_cut.specs.Cut.{Division, IsCutOf}
use Rattle.pg_edge_store.specs.Store.{places_around}
use Rattle.pg_mirrors.specs.Mirrors.{Mirrors}
use Rattle.pg_gather.specs.Partials.{gathers_here}
use Rattle.pg_gather.proofs.Sharing.{places_count}
use Rattle.pg_apply_scatter.specs.Pushing.{table_at}
use Rattle.pg_sync.specs.declared.worker.Scattering.{Scattering}
use Rattle.pg_sync.specs.Phases.{Seat, HasGathered}
use Rattle.pg_sync.specs.Held.{store_at, IsHeld}
use Rattle.pg_sync.specs.Kept.{gather_degree_on}
use Rattle.pg_sync.specs.Counting.{counters_of, AreRaised}
use Rattle.pg_sync.proofs.Summing.{sum_agree}

-- what holds anyway holds after success
pub on_ok : {T E : Type 0} {P : Type 0} (r : Result T E) → P → OnOk r P
on_ok (Ok x) h = h
on_ok (Err e) h = tt

-- the sums that were taken were there
taken_there : {Acc : Type 0} (parts : List (Vec (ℕ × Acc) Global)) (seats : List (Seat Acc)) → map Some parts ≡ map (λ seat. seat.1) seats → (w : ℕ) (d : Seat Acc) → w < length seats → IsSome (get_or seats w d).1
taken_there parts [] taken w d h = absurd (omega arith)
taken_there [] (seat ∷ seats) taken w d h = absurd (cc)
taken_there {Acc = Acc} (list ∷ parts) (seat ∷ seats) taken zero d h = let There : Option (Vec (ℕ × Acc) Global) → Type 0 = λ o. IsSome o in
    let first : Some list ≡ seat.1 = cc in
    subst There first refl
taken_there (list ∷ parts) (seat ∷ seats) taken (suc w) d h = taken_there parts seats (cc) w d (omega (arith, h))

-- a counter in its place
pub counter_at : {Acc : Type 0} (seats : List (Seat Acc)) (w : ℕ) (d : Seat Acc) → w < length seats → get_or (counters_of seats) w None ≡ (get_or seats w d).0
counter_at {Acc = Acc} seats w d h = get_or-map (λ (seat : Seat Acc). seat.0) seats w d None h

-- all counters are there, by the counters and by the seats
pub there_in_seats : {Acc : Type 0} (seats : List (Seat Acc)) (counters : List (Option ℕ)) → counters_of seats ≡ counters → All (λ (o : Option ℕ). IsSome o) counters → All (λ (seat : Seat Acc). IsSome seat.0) seats
there_in_seats {Acc = Acc} seats counters same all k d h = let There : Option ℕ → Type 0 = λ o. IsSome o in
    subst There (ap (λ xs. get_or xs k None) (sym same) ∙ counter_at seats k d h) (all k None (omega (arith, h, ap length same, length-map seats (λ (seat : Seat Acc). seat.0))))

pub there_in_counters : {Acc : Type 0} (seats : List (Seat Acc)) → All (λ (seat : Seat Acc). IsSome seat.0) seats → All (λ (o : Option ℕ). IsSome o) (counters_of seats)
there_in_counters {Acc = Acc} seats all = All-map (λ (o : Option ℕ). IsSome o) (λ (seat : Seat Acc). seat.0) seats all

-- counters that rise once more
pub raised_more : (f h : ℕ → ℕ) (count : ℕ) (first mid last : List (Option ℕ)) → AreRaised f count first mid → AreRaised h count mid last → AreRaised (λ w. f w + h w) count first last
raised_more f h count first mid last once more = λ w below n is. more w below (n + f w) (once w below n is) ∙ ap Some (omega arith)

pub raised_none : (f : ℕ → ℕ) (count : ℕ) (seats : List (Option ℕ)) → ((w : ℕ) → f w ≡ 0) → AreRaised f count seats seats
raised_none f count seats none = λ w below n is. is ∙ ap Some (omega (arith, none w))

pub raised_same : (f h : ℕ → ℕ) (count : ℕ) (first last : List (Option ℕ)) → ((w : ℕ) → f w ≡ h w) → AreRaised f count first last → AreRaised h count first last
raised_same f h count first last same raised = λ w below n is. raised w below n is ∙ ap (λ k. Some (n + k)) (same w)

module _ {Acc Carry : Type 0} (p : Program Acc Carry) (g : Multigraph) (ok : IsMultigraph g) (cut : Division) (is : IsCutOf g cut) (s : Configuration)
    (workers : List (Scattering Acc)) (mirrors : List Mirrors) (values : List Datum) (messages : List (Option ℕ)) (held : IsHeld p g cut s workers mirrors values messages)
    (wanted : List ℕ) where
  -- a worker's gathers are over its part of the gather edges
  gathers_are : (w : ℕ) → w < cut.workers → gathers_here p g (store_at workers w) (table_at mirrors w) wanted ≡ sum_by (gather_degree_on p g cut w) wanted
  gathers_are w h = sum_agree (λ u. length (places_around g (store_at workers w).numbers u p.gather_edges)) (gather_degree_on p g cut w)
      (λ u. places_count p g cut w s (store_at workers w) (table_at mirrors w) ok is h (held.shares w h) u) wanted

  pub counters_rise : (old mid last : List (Seat Acc)) (parts : List (Vec (ℕ × Acc) Global)) → length old ≡ cut.workers → length mid ≡ length old → counters_of last ≡ counters_of mid → map Some parts ≡ map (λ seat. seat.1) mid
      → ((w : ℕ) (d : Seat Acc) → w < length old → HasGathered p g (store_at workers w) (table_at mirrors w) wanted (get_or old w d) (get_or mid w d))
      → AreRaised (λ w. sum_by (gather_degree_on p g cut w) wanted) cut.workers (counters_of old) (counters_of last)
  counters_rise old mid last parts count same kept taken each = λ w h n is_n. let d : Seat Acc = (None, None) in
      let in_old : w < length old = omega arith in
      let in_mid : w < length mid = omega arith in
      ap (λ xs. get_or xs w None) kept ∙ counter_at mid w d in_mid
      ∙ (each w d in_old).counted (taken_there parts mid taken w d in_mid) n (sym (counter_at old w d in_old) ∙ is_n)
      ∙ ap (λ k. Some (n + k)) (gathers_are w h)
