use Rattle.std.proofs.Common.{◌≤◌, ◌++◌, take}
use Rattle.std.specs.Prelude.{flat_map}
use Rattle.pg_base.specs.Writing.{Sent}
use Rattle.pg_virtual.proofs.texts.put_entries.Given as goal

-- the texts of the entries so far were put
abbrev pub invariant-loop-entry : goal.invariant-loop-entry
invariant-loop-entry g l = record {
  sent : Sent (g.K.Sink.written l.fn.journal) (g.K.Sink.written l.journal)
      (l.fn.waiting.items ++ flat_map (g.T.EntryText.text l.text l.graph) (take l.entry-index l.entries)) l.waiting.items;
  later : g.K.Sink.faults l.fn.journal ≤ g.K.Sink.faults l.journal;
}
