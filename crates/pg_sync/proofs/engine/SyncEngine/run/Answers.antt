use Rattle.std.proofs.Common.{Option, ℕ, List, sym, subst, ◌∙◌, ap, arith}
use Rattle.std.specs.Prelude.{All, IsSome}
use Rattle.std.proofs.lemmas.List.{with_items_is}
use Rattle.pg_sync.specs.Counting.{counters_of}
use Rattle.pg_sync.proofs.Raising.{there_in_seats, there_in_counters}
use Rattle.pg_sync.proofs.engine.SyncEngine.run.Goals as goal

pub run_seated-ended-requires-clause-steps : goal.run_seated-ended-requires-clause-steps
run_seated-ended-requires-clause-steps g c κs within = there_in_seats c.as_mut_slice-seated.result.now c.args.steps.now (ap counters_of c.as_mut_slice-seated.ensures.value ∙ c.in_ok-seats.ensures.lent) c.requires.present

pub returns-clause-present : goal.returns-clause-present
returns-clause-present g c = let Present : List (Option ℕ) → Type 0 = λ counters. All (λ (o : Option ℕ). IsSome o) counters in
    let whole = c.as_mut_slice.ensures.value ∙ with_items_is c.in_ok-seats.seats c.run_seated-ended.new.seats (omega (arith, c.run_seated-ended.auto.seats, c.as_mut_slice-seated.ensures.len)) in
    subst Present (sym (c.give_back.ensures ∙ ap counters_of whole)) (there_in_counters c.run_seated-ended.new.seats c.run_seated-ended.ensures.present)
