use Rattle.std.proofs.Common.{◌≡◌, ◌<◌, ℕ, List, length}
use Rattle.pg_sync.specs.Held.{store_at}
use Rattle.pg_sync.specs.Putting.{HasWordsOf}
use Rattle.pg_sync.proofs.Putting.{AreRight}
use Rattle.pg_sync.proofs.words.put_words.Given as goal

-- the words of the workers so far are right
abbrev pub invariant-loop-w : goal.invariant-loop-w
invariant-loop-w g l = record {
  count : length l.words ≡ length l.initial.words;
  right : (t : List ℕ) → ((w : ℕ) → w < l._cut.workers → HasWordsOf t (store_at l.workers w)) → AreRight l.workers t l.w l.words;
}
