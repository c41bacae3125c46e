-- Sets of workers. A worker is below 64, and a set is kept as a number with a bit for each worker.
use Rattle.std.specs.Prelude.{◌≡◌, ℕ, ◌<◌, Bool, true, ◌==◌, List, filter}
use Rattle.std.specs.List.{range_with_len, list_any}
use Rattle.std.specs.Int.{bit_at}

-- all that a worker may be, ascending
unfoldable pub all_workers : List ℕ
all_workers = range_with_len 0 64

-- the workers that pass a test, ascending
abbrev pub workers_that : (ℕ → Bool) → List ℕ
workers_that test = filter test all_workers

-- whether a worker is in the set with these bits
abbrev pub has : ℕ → ℕ → Bool
has bits worker = bit_at bits worker == 1

-- the workers of the set with these bits, ascending
abbrev pub workers_in : ℕ → List ℕ
workers_in bits = workers_that (has bits)

-- whether a worker is in a list of workers
abbrev pub is_in : ℕ → List ℕ → Bool
is_in worker workers = list_any (λ w. w == worker) workers

-- no worker of the set with these bits is out of range
abbrev pub IsWithin : ℕ → ℕ → Type 0
IsWithin workers bits = (w : ℕ) → has bits w ≡ true → w < workers
