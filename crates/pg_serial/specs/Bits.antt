-- Sets of numbers, kept as words with a bit for each number, and sets of their words.
use Rattle.std.specs.Prelude.{◌≡◌, ℕ, ◌<◌, ◌*◌, ◌≤◌, ◌/◌, ◌%◌, ◌^◌, Bool, true, false, nat_lt}
use Rattle.std.specs.Prelude.{◌==◌, List, length}
use Rattle.std.specs.Prelude.{slice_index, Option, Some, None}
use Rattle.std.specs.Int.{bit_at}

-- whether a number is in the set with these words
unfoldable pub has : List ℕ → ℕ → Bool
has words k = bit_at (slice_index words (k / 64)) (k % 64) == 1

-- whether some number of the word at this place is in the set
abbrev pub is_taken : List ℕ → ℕ → Bool
is_taken words i = nat_lt 0 (slice_index words i)

-- the set above has the words of the set below that aren't 0, and room for all of them
pub record IsSummary (above below : List ℕ) : Type 0 where
  pub room : length below ≤ 64 * length above
  pub each : (i : ℕ) → has above i ≡ is_taken below i

-- the least number that passes a test
pub record IsLeast (test : ℕ → Bool) (k : ℕ) : Type 0 where
  pub passes : test k ≡ true
  pub first : (i : ℕ) → i < k → test i ≡ false

-- the least number that passes a test, or that none does
abbrev pub IsLeastOf : (ℕ → Bool) → Option ℕ → Type 0
IsLeastOf test None = (i : ℕ) → test i ≡ false
IsLeastOf test (Some k) = IsLeast test k

-- a set of at most 2^22 numbers, with the sets of its words and of theirs
pub record AreSummaries (bits groups blocks : List ℕ) : Type 0 where
  pub groups_are : IsSummary groups bits
  pub blocks_are : IsSummary blocks groups
  pub few : length bits ≤ 2 ^ 20
  pub few_groups : length groups ≤ 2 ^ 20
  pub few_blocks : length blocks ≤ 2 ^ 20
