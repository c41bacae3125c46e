-- What each worker gathers, by whether it is alone and no gathers are kept.
use Rattle.std.proofs.Common.{◌≡◌, ℕ, Bool, true, false, List, sym, ap, ◌∙◌, subst, refl}
use Rattle.std.specs.Prelude.{Option, Some, [], IsTrue, if◌then◌else◌, cond}
use Rattle.pg_graph.specs.Multigraph.{Multigraph}
use Rattle.pg_law.specs.Program.{Program}
use Rattle.pg_law.specs.declared.values.End.{End}
use Rattle.pg_law.specs.Configuration.{Configuration, start_state}
use Rattle.pg_law.specs.Rounds.{rounds, end_of}
use Rattle.pg_sync.specs.Counting.{gathers_of, gathers_by as gathers_over_cut}
use Rattle.pg_sync.specs.Kept.{NeverClears, GathersAreDistinct}
use Rattle.pg_check.specs.Outcomes.{Outcome, outcome_with, with_kept, distinct_by, left_by}
use Rattle.pg_words.specs.declared.job.CutKind.{CutKind}
use Rattle.pg_words.specs.declared.job.Engine.TheVariants.{Sync}
use Rattle.pg_main.specs.Counters.{FirstTakes, Take}
use Rattle.pg_main.specs.Cuts.{cut_by, at_first, by_workers, is_alone, gathers_by}
use Rattle.pg_main.proofs.Taking.{take_by, take_first, cut_workers}

-- where no gathers are kept, a run leaves what it leaves
pub with_none : (kept : Bool) (n : ℕ) (o : Outcome) → kept ≡ false → with_kept kept n o ≡ o
with_none kept n o none = ap (λ (b : Bool). with_kept b n o) none

-- kept gathers of a program that never clears are made once by each vertex that executes
pub gathers_are : {Acc Carry : Type 0} (p : Program Acc Carry) (g : Multigraph) (limit : ℕ) (kept : Bool) → (IsTrue kept → NeverClears p) → GathersAreDistinct p
    → gathers_of p g kept (start_state p g) limit ≡ cond kept (distinct_by p g (Sync limit) []) (rounds p g (start_state p g) limit).gathers
gathers_are p g limit true never law = (law (never refl) g (start_state p g) limit).once
gathers_are p g limit false never law = refl

-- rounds over a cut leave what a run leaves
pub left_is : {Acc Carry : Type 0} (p : Program Acc Carry) (g : Multigraph) (limit : ℕ) (kept : Bool) → (IsTrue kept → NeverClears p) → GathersAreDistinct p
    → (s : Configuration) → s ≡ start_state p g → (state : Configuration) (end : End) (made executions gathers : ℕ)
    → state ≡ (rounds p g s limit).state → end ≡ end_of g (rounds p g s limit).state → made ≡ (rounds p g s limit).rounds
    → executions ≡ (rounds p g s limit).executions → gathers ≡ gathers_of p g kept s limit
    → outcome_with [] state (record { end = end; rounds = Some made; executions = executions; gathers = gathers }) ≡ left_by p g (Sync limit) kept []
left_is p g limit kept never law s start state end made executions gathers =
    let At : Configuration → Type 0 = λ t. state ≡ (rounds p g t limit).state → end ≡ end_of g (rounds p g t limit).state → made ≡ (rounds p g t limit).rounds
    → executions ≡ (rounds p g t limit).executions → gathers ≡ gathers_of p g kept t limit
    → outcome_with [] state (record { end = end; rounds = Some made; executions = executions; gathers = gathers }) ≡ left_by p g (Sync limit) kept [] in
    let begun : At (start_state p g) = λ of_state of_end of_made of_executions of_gathers.
    (let total = of_gathers ∙ gathers_are p g limit kept never law in
    rw (of_state, of_end, of_made, of_executions, total) refl) in
    subst At (sym start) begun

module _ {Acc Carry : Type 0} (p : Program Acc Carry) (kind : CutKind) (workers : ℕ) (g : Multigraph) (kept : Bool) (limit : ℕ) where
  -- the cut has one worker where one was asked for
  alone_is : (alone : Bool) → is_alone kept workers ≡ alone → is_alone kept (cut_by kind workers g).workers ≡ alone
  alone_is alone is = ap (is_alone kept) (cut_workers kind workers g) ∙ is

  by_alone : (alone : Bool) → is_alone kept workers ≡ alone → (worker : ℕ)
      → (if alone then at_first (rounds p g (start_state p g) limit).gathers worker
      else by_workers (cut_by kind workers g) (gathers_over_cut p g (cut_by kind workers g) kept (start_state p g) limit) worker)
      ≡ gathers_by p (Sync limit) kept g (cut_by kind workers g) worker
  by_alone alone is worker =
      ap (λ (b : Bool). if b then at_first (rounds p g (start_state p g) limit).gathers worker else by_workers (cut_by kind workers g) (gathers_over_cut p g (cut_by kind workers g) kept (start_state p g) limit) worker) (sym (alone_is alone is))

  -- one makes all
  pub take_alone : {before after : List (Option ℕ)} {n : ℕ} → is_alone kept workers ≡ true → n ≡ (rounds p g (start_state p g) limit).gathers → FirstTakes before after n
      → Take before after (gathers_by p (Sync limit) kept g (cut_by kind workers g))
  take_alone {before} {after} {n} alone same takes = let Takes : ℕ → Type 0 = FirstTakes before after in
      take_by (take_first (subst Takes same takes)) (by_alone true alone)

  -- else each makes those over its own edges
  pub gathers_shared : is_alone kept workers ≡ false → (worker : ℕ) → by_workers (cut_by kind workers g) (gathers_over_cut p g (cut_by kind workers g) kept (start_state p g) limit) worker
      ≡ gathers_by p (Sync limit) kept g (cut_by kind workers g) worker
  gathers_shared shared = by_alone false shared
