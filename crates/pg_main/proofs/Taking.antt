-- What the counters of the workers take.
use Rattle.std.proofs.Common.{◌≡◌, ℕ, zero, suc, ◌==◌, ◌<◌, ◌≤◌, nat_lt, Bool, true, false, List, ◌++◌, length, Option, Some, None, refl, sym, ap, ◌∙◌, subst, ⊎_elim, arith, length-append}
use Rattle.std.specs.Prelude.{All, IsSome, if◌then◌else◌}
use Rattle.std.proofs.lemmas.Bool.{eqb-true, eqb-false, ltb-true, ltb-false, cases_lt}
use Rattle.std.proofs.lemmas.List.{get_or_append_left, get_or-append_right}
use Rattle.pg_graph.specs.Multigraph.{Multigraph, IsMultigraph}
use Rattle.pg_law.specs.Program.{Program}
use Rattle.pg_law.specs.Laws.{IsLawful}
use Rattle.pg_law.specs.Configuration.{Configuration, IsFit, is_quiet}
use Rattle.pg_law.specs.Round.{round}
use Rattle.pg_law.specs.Rounds.{Run, rounds}
use Rattle.pg_law.proofs.Fitting.{round_fits}
use Rattle.pg_law.proofs.Repeating.{rounds_none, rounds_stop, rounds_go}
use Rattle.pg_cut.specs.Cut.{Division}
use Rattle.pg_sync.specs.Counting.{gathers_by, AreCounted}
use Rattle.pg_words.specs.declared.job.CutKind.{CutKind}
use Rattle.pg_words.specs.declared.job.CutKind.TheVariants.{Random, Oblivious, Coordinated}
use Rattle.pg_main.specs.Cuts.{cut_by}
use Rattle.pg_main.specs.Counters.{counter_at, raised_by, ArePresent, FirstTakes, Take}

-- by numbers that are the same
pub take_by : {before after : List (Option ℕ)} {steps others : ℕ → ℕ} → Take before after steps
    → ((worker : ℕ) → steps worker ≡ others worker) → Take before after others
take_by {before} {after} {steps} {others} take same = record {
  each = λ worker. take.each worker ∙ ap (λ n. raised_by n (counter_at before worker)) (same worker);
}

raised_none : (count : Option ℕ) → raised_by 0 count ≡ count
raised_none None = refl
raised_none (Some n) = ap (λ k. Some k) (omega arith)

-- the first counter alone
pub take_first : {before after : List (Option ℕ)} {steps : ℕ} → FirstTakes before after steps
    → Take before after (λ worker. if worker == 0 then steps else 0)
take_first {before} {after} {steps} takes = record { each = λ worker. each worker (worker == 0) refl }
  where
    each : (worker : ℕ) (first : Bool) → (worker == 0) ≡ first → counter_at after worker ≡ raised_by (if first then steps else 0) (counter_at before worker)
    each worker true is = let zeroth : worker ≡ 0 = eqb-true worker 0 is in
        rw zeroth takes.first
    each worker false is = takes.others worker (omega (arith, eqb-false worker 0 is)) ∙ sym (raised_none (counter_at before worker))

-- a counter that is there
pub there : (count : Option ℕ) → IsSome count → (n : ℕ) × (count ≡ Some n)
there None is = absurd (cc)
there (Some n) is = (n, refl)

module _ (front new back : List (Option ℕ)) (same : length new ≡ length front) where
  -- counters that come back before others that nobody had
  ahead : (worker : ℕ) → worker < length front → counter_at (new ++ back) worker ≡ counter_at new worker
  ahead worker h = get_or_append_left new back None worker (omega (arith, h, same))

  ahead_old : (worker : ℕ) → worker < length front → counter_at (front ++ back) worker ≡ counter_at front worker
  ahead_old worker h = get_or_append_left front back None worker h

  behind : (worker : ℕ) → length front ≤ worker → counter_at (new ++ back) worker ≡ counter_at (front ++ back) worker
  behind worker h = get_or-append_right new back (length front) worker None same h ∙ sym (get_or-append_right front back (length front) worker None refl h)

  -- are all there again
  pub back_present : All IsSome new → ArePresent (front ++ back) → ArePresent (new ++ back)
  back_present own present worker h = ⊎_elim
      (λ lt. (let There : Option ℕ → Type 0 = λ o. IsSome o in subst There (sym (ahead worker lt)) (own worker None (omega (arith, lt, same)))))
      (λ ge. (let There : Option ℕ → Type 0 = λ o. IsSome o in subst There (sym (behind worker ge)) (present worker (omega (arith, h, length-append new back, length-append front back, same)))))
      (cases_lt worker (length front))

  module _ {Acc Carry : Type 0} (p : Program Acc Carry) (g : Multigraph) (cut : Division) (cache : Bool) (s : Configuration) (limit : ℕ) (own : length front ≡ cut.workers) (counted : AreCounted p g cut cache s limit front new) (present : ArePresent (front ++ back)) where
    -- and took the gathers of their workers
    pub take_over : (worker : ℕ) → counter_at (new ++ back) worker ≡ raised_by (if nat_lt worker cut.workers then gathers_by p g cut cache s limit worker else 0) (counter_at (front ++ back) worker)
    take_over worker = by_test (nat_lt worker cut.workers) refl
      where
        by_test : (works : Bool) → nat_lt worker cut.workers ≡ works → counter_at (new ++ back) worker ≡ raised_by (if works then gathers_by p g cut cache s limit worker else 0) (counter_at (front ++ back) worker)
        by_test true is = let lt : worker < length front = omega (arith, own, ltb-true worker cut.workers is) in
            let n = there (counter_at (front ++ back) worker) (present worker (omega (arith, lt, length-append front back))) in
            let before : counter_at front worker ≡ Some n.0 = sym (ahead_old worker lt) ∙ n.1 in
            ahead worker lt ∙ counted.each worker (omega (arith, lt, own)) n.0 before ∙ sym (ap (raised_by (gathers_by p g cut cache s limit worker)) n.1)
        by_test false is = let ge : length front ≤ worker = omega (arith, own, ltb-false worker cut.workers is) in
            behind worker ge ∙ sym (raised_none (counter_at (front ++ back) worker))

-- rounds keep what a state has for each vertex
pub rounds_fit : {Acc Carry : Type 0} (p : Program Acc Carry) (g : Multigraph) (law : IsLawful p) (ok : IsMultigraph g) (s : Configuration) (limit : ℕ) → IsFit p g s → IsFit p g (rounds p g s limit).state
rounds_fit p g law ok s zero fit = let Fits : Configuration → Type 0 = IsFit p g in
    subst Fits (sym (ap (λ (r : Run). r.state) (rounds_none p g s))) fit
rounds_fit p g law ok s (suc limit) fit = by_quiet (is_quiet g s) refl (rounds_fit p g law ok (round p g s) limit (round_fits p g law ok s fit))
  where
    by_quiet : (quiet : Bool) → is_quiet g s ≡ quiet → IsFit p g (rounds p g (round p g s) limit).state → IsFit p g (rounds p g s (suc limit)).state
    by_quiet true is rest = let Fits : Configuration → Type 0 = IsFit p g in
        subst Fits (sym (ap (λ (r : Run). r.state) (rounds_stop p g s (suc limit) is))) fit
    by_quiet false is rest = let Fits : Configuration → Type 0 = IsFit p g in
        subst Fits (sym (ap (λ (r : Run). r.state) (rounds_go p g s (suc limit) limit is (omega arith)))) rest

-- a cut has the workers that it was asked for
pub cut_workers : (kind : CutKind) (workers : ℕ) (g : Multigraph) → (cut_by kind workers g).workers ≡ workers
cut_workers (Random seed) workers g = refl
cut_workers Oblivious workers g = refl
cut_workers Coordinated workers g = refl
