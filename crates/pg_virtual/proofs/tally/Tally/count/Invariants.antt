use Rattle.std.proofs.Common.{◌≡◌, ◌+◌, ◌*◌, ◌^◌, ◌≤◌, ◌<◌, ℕ, ◌||◌, ◌==◌, false, length, take, get_or}
use Rattle.std.specs.Prelude.{sum_by}
use Rattle.std.specs.List.{list_any}
use Rattle.pg_law.specs.declared.values.JournalEntry.{JournalEntry}
use Rattle.pg_law.specs.Round.{edges_over}
use Rattle.pg_virtual.proofs.tally.Tally.count.Given as goal

-- the entries so far are counted
abbrev pub invariant-loop-entry : goal.invariant-loop-entry
invariant-loop-entry l = record {
  len : length l.self.seen.items ≡ length l.graph.ids;
  seen : (v : ℕ) → v < length l.graph.ids → get_or l.self.seen.items v false
      ≡ (get_or l.fn.self.seen.items v false || list_any (λ (entry : JournalEntry). entry.vertex == v) (take l.entry-index l.entries));
  all : l.self.all ≡ l.fn.self.all
      + sum_by (λ (entry : JournalEntry). length (edges_over l.dir l.graph entry.vertex)) (take l.entry-index l.entries);
  few : l.self.all ≤ l.fn.self.all + 2 ^ 24 * l.entry-index;
}
