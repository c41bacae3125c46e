use Rattle.std.proofs.Common.{◌≡◌, take, slice_index, All}
use Rattle.pg_serial.proofs.writing.keeps_words.Given as goal

-- the words that were sent so far are those of their edges
abbrev pub invariant-loop-sent : goal.invariant-loop-sent
invariant-loop-sent l = All (λ sent. slice_index l.words sent.edge ≡ sent.word) (take l.sent-index l.sents)
