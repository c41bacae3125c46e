-- What a round drafts of the vertices, and the draft between rounds.
use Rattle.std.specs.Prelude.{◌≡◌, ℕ, ◌<◌, ◌==◌, Bool, true, cond, Option, None, List, length}
use Rattle.std.specs.List.{list_any}
use Rattle.pg_graph.specs.Multigraph.{Multigraph}
use Rattle.pg_law.specs.declared.values.Datum.{Datum}
use Rattle.pg_law.specs.declared.values.Applied.{Applied}
use Rattle.pg_law.specs.Program.{Program}
use Rattle.pg_law.specs.Configuration.{Configuration, datum_in, message_in}
use Rattle.pg_law.specs.Round.{outcome, datum_after, message_after}
use Rattle.pg_law.specs.Carries.{carry_at, carry_in}

-- whether a vertex is among these
abbrev pub is_among : List ℕ → ℕ → Bool
is_among vertices v = list_any (λ u. u == v) vertices

-- what a vertex becomes in a round
abbrev pub becomes : {Acc Carry : Type 0} → Program Acc Carry → Multigraph → Configuration → ℕ → Option (Applied Carry)
becomes p g s v = outcome p g s (λ u. true) v

-- these vertices stand in the draft as what they become, and the others have their old data, no carry and
-- no message
pub record IsDraftOf {Acc Carry : Type 0} (p : Program Acc Carry) (g : Multigraph) (s : Configuration)
    (done : List ℕ) (carries : List (Option Carry)) (values : List Datum) (messages : List (Option ℕ)) : Type 0 where
  pub carry_count : length carries ≡ length g.ids
  pub value_count : length values ≡ length g.ids
  pub message_count : length messages ≡ length g.ids
  pub carry : (v : ℕ) → v < length g.ids →
      carry_at carries v ≡ cond (is_among done v) (carry_in (becomes p g s v)) None
  pub datum : (v : ℕ) → v < length g.ids →
      datum_in values v ≡ cond (is_among done v) (datum_after (datum_in s.values v) (becomes p g s v)) (datum_in s.values v)
  pub message : (v : ℕ) → v < length g.ids →
      message_in messages v ≡ cond (is_among done v) (message_after None (becomes p g s v)) None
