use Rattle.std.proofs.Common.{◌≡◌, ◌+◌, ◌≤◌, take, map, Some, string_bytes}
use Rattle.pg_words.specs.Reading.{start, after}
use Rattle.pg_words.proofs.Counting.{IsFresh, words_behind}
use Rattle.pg_words.proofs.reading.read_words.Given as goal

-- what stands is what the words so far leave, and place is one behind them
abbrev pub invariant-loop-word : goal.invariant-loop-word
invariant-loop-word l = record {
  stands : after start (take l.word-index (map string_bytes l.words)) ≡ Some l.standing;
  fresh : IsFresh l.standing;
  behind : l.word-index ≤ words_behind l.standing;
  place : l.place ≡ l.word-index + 1;
}
