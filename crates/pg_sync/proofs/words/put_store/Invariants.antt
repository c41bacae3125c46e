use Rattle.std.proofs.Common.{◌≡◌, ◌<◌, ℕ, List}
use Rattle.std.specs.Prelude.{length, slice_index}
use Rattle.pg_sync.specs.Putting.{HasWordsOf}
use Rattle.pg_sync.proofs.words.put_store.Given as goal

-- the words so far are put, and what was right stays right
abbrev pub invariant-loop-i : goal.invariant-loop-i
invariant-loop-i l = record {
  count : length l.words ≡ length l.initial.words;
  each : (t : List ℕ) → HasWordsOf t l.store → (k : ℕ) → k < l.i → slice_index l.words (slice_index l.store.numbers k) ≡ slice_index t (slice_index l.store.numbers k);
  kept : (t : List ℕ) → HasWordsOf t l.store → (e : ℕ) → slice_index l.initial.words e ≡ slice_index t e → slice_index l.words e ≡ slice_index t e;
}
