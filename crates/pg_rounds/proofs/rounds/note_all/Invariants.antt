use Rattle.std.proofs.Common.{◌≡◌, ℕ, ◌<◌, ◌||◌, ◌==◌, false, length, take, get_or}
use Rattle.std.specs.List.{list_any}
use Rattle.pg_rounds.proofs.rounds.note_all.Given as goal

-- the vertices so far are noted
abbrev pub invariant-loop-v : goal.invariant-loop-v
invariant-loop-v l = record {
  len : length l.noted ≡ length l.initial.noted;
  noted : (u : ℕ) → u < length l.initial.noted → get_or l.noted u false
      ≡ (get_or l.initial.noted u false || list_any (λ v. v == u) (take l.v-index l.frontier));
}
