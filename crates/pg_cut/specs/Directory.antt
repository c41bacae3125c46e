-- Where the keys of each block of 64 numbers begin among ascending keys, and which they are.
use Rattle.std.specs.Prelude.{◌≡◌, ℕ, ◌+◌, ◌-◌, ◌*◌, ◌/◌, ◌<◌, Bool, ◌==◌, nat_lt, List, length, slice_index, slice_index_or, map, count_by}
use Rattle.std.specs.List.{range_with_len, list_any}
use Rattle.pg_cut.specs.Keys.{IsKeys}
use Rattle.pg_cut.specs.WorkerSet.{has}

-- how many keys are below a number
abbrev pub keys_below : List ℕ → ℕ → ℕ
keys_below keys x = count_by (λ key. nat_lt key x) keys

-- the blocks up to that of the greatest key, and one where there is no key
abbrev pub blocks_of : List ℕ → ℕ
blocks_of keys = slice_index_or keys (length keys - 1) 0 / 64 + 1

-- how many keys are below each block, and below the end of the last one
abbrev pub directory : List ℕ → List ℕ
directory keys = map (λ b. keys_below keys (b * 64)) (range_with_len 0 (blocks_of keys + 1))

-- whether a number is a key
abbrev pub is_key : List ℕ → ℕ → Bool
is_key keys x = list_any (λ key. key == x) keys

-- which numbers of each block are keys, a bit for each
pub record AreMasks (keys masks : List ℕ) : Type 0 where
  pub count : length masks ≡ blocks_of keys
  pub each : (b j : ℕ) → b < blocks_of keys → j < 64
      → has (slice_index masks b) j ≡ is_key keys (b * 64 + j)

-- ascending keys with their directory and their masks
pub record IsIndexed (keys starts masks : List ℕ) : Type 0 where
  pub keys_are : IsKeys keys
  pub starts_are : starts ≡ directory keys
  pub masks_are : AreMasks keys masks
