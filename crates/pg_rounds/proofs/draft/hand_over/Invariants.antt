use Rattle.std.proofs.Common.{◌≡◌, ◌<◌, ℕ, None, cond, length, take}
use Rattle.pg_law.specs.Configuration.{datum_in, message_in}
use Rattle.pg_law.specs.Carries.{carry_at}
use Rattle.pg_rounds.specs.Drafts.{is_among}
use Rattle.pg_rounds.proofs.draft.hand_over.Given as goal

-- the frontier so far is handed over
abbrev pub invariant-loop-at : goal.invariant-loop-at
invariant-loop-at g l = let done = take l.at l.frontier in
    record {
      carries : (v : ℕ) → v < length l.initial.carries → carry_at l.carries v ≡ cond (is_among done v) None (carry_at l.initial.carries v);
      values : (v : ℕ) → v < length l.initial.values → datum_in l.values v ≡ cond (is_among done v) (datum_in l.drafted v) (datum_in l.initial.values v);
      messages : (v : ℕ) → v < length l.initial.messages → message_in l.messages v ≡ cond (is_among done v) None (message_in l.initial.messages v);
    }
