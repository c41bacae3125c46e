use Rattle.std.proofs.Common.{◌≡◌, take}
use Rattle.pg_law.specs.EdgeWords.{written}
use Rattle.pg_law.proofs.edge_words.make_changes.Given as goal

-- the changes so far are made
abbrev pub invariant-loop-change : goal.invariant-loop-change
invariant-loop-change l = l.words ≡ written l.initial.words (take l.change-index l.changes)
