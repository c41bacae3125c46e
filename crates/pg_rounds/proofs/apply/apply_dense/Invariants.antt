use Rattle.std.proofs.Common.{◌≡◌, take}
use Rattle.pg_law.specs.Configuration.{signalled}
use Rattle.pg_rounds.specs.Drafts.{IsDraftOf}
use Rattle.pg_rounds.proofs.apply.apply_dense.Given as goal

-- the draft has the frontier so far
abbrev pub invariant-loop-at : goal.invariant-loop-at
invariant-loop-at g l = record {
  drafted : IsDraftOf (g.P.VertexProgram.meaning l.program) l.graph l.state (take l.at (signalled l.graph l.state)) l.draft.carries.items l.draft.values.items l.draft.messages.items;
  frontier : l.draft.frontier.items ≡ signalled l.graph l.state;
  same_frontier : l.draft.frontier.items ≡ l.initial.draft.frontier.items;
  changes : l.draft.changes.items ≡ l.initial.draft.changes.items;
}
