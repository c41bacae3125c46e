-- The counters of the workers, one for each. A counter is absent only while a worker has it.
use Rattle.std.specs.Prelude.{◌≡◌, ℕ, ◌+◌, ◌<◌, List, Option, Some, None, IsSome, length, slice_index_or}
use Rattle.pg_words.specs.declared.job.Engine.{Engine}
use Rattle.pg_words.specs.declared.job.Engine.TheVariants.{Sync, Serial, Virtual}

abbrev pub counter_at : List (Option ℕ) → ℕ → Option ℕ
counter_at counters worker = slice_index_or counters worker None

abbrev pub ArePresent : List (Option ℕ) → Type 0
ArePresent counters = (worker : ℕ) → worker < length counters → IsSome (counter_at counters worker)

abbrev pub raised_by : ℕ → Option ℕ → Option ℕ
raised_by steps None = None
raised_by steps (Some count) = Some (count + steps)

-- the first counter took these steps, and the others none
pub record FirstTakes (before after : List (Option ℕ)) (steps : ℕ) : Type 0 where
  pub first : counter_at after 0 ≡ raised_by steps (counter_at before 0)
  pub others : (worker : ℕ) → 0 < worker → counter_at after worker ≡ counter_at before worker

-- the first counter took some steps, or none, and the others none
pub record FirstRises (before after : List (Option ℕ)) : Type 0 where
  pub steps : ℕ
  pub takes : FirstTakes before after steps

-- each counter took the steps of its worker
pub record Take (before after : List (Option ℕ)) (steps : ℕ → ℕ) : Type 0 where
  pub each : (worker : ℕ) →
      counter_at after worker ≡ raised_by (steps worker) (counter_at before worker)

-- what the counters took in a run: in rounds and by the serial machine the steps of each worker. Actors count on
-- the first, and may gather for an execution that doesn't come about
abbrev pub Counted : Engine → List (Option ℕ) → List (Option ℕ) → (ℕ → ℕ) → Type 0
Counted (Sync limit) before after steps = Take before after steps
Counted (Serial fuel) before after steps = Take before after steps
Counted (Virtual fuel seed) before after steps = FirstRises before after
