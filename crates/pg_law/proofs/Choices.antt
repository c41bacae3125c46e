-- What the laws of several programs share: choices, changes and directions.
use Rattle.std.proofs.Common.{◌≡◌, ℕ, min, Bool, true, false, not, cond, Some, None, refl, sym, arith}
use Rattle.std.proofs.lemmas.Bool.{true≢false}
use Rattle.pg_graph.specs.declared.edge.Side.{Side}
use Rattle.pg_graph.specs.declared.edge.Side.TheVariants.{Source, Target}
use Rattle.pg_graph.specs.declared.edge.Dir.TheVariants.{InEdges, OutEdges}
use Rattle.pg_graph.specs.Multigraph.{opposite, takes}
use Rattle.pg_law.specs.declared.values.Delta.TheVariants.{Nothing, Add}
use Rattle.pg_law.specs.Words.{IsU64, greatest}
use Rattle.pg_law.specs.Laws.{IsOptional, IsDelta, LeadsTo}

-- the smaller of two numbers
pub min_unit : (a : ℕ) → IsU64 a → min greatest a ≡ a
min_unit a h = omega arith

pub min_own : (a b : ℕ) → IsU64 a → IsU64 b → IsU64 (min a b)
min_own a b ha hb = omega arith

pub min_comm : (a b : ℕ) → min a b ≡ min b a
min_comm a b = omega arith

pub min_assoc : (a b c : ℕ) → min (min a b) c ≡ min a (min b c)
min_assoc a b c = omega arith

-- a message that is sent only at times, and a delta that is posted only at times
pub sent_own : (P : ℕ → Type 0) (sends : Bool) (m : ℕ) → P m
    → IsOptional P (cond sends (Some m) None)
sent_own P true m own = own
sent_own P false m own = tt

pub posted_own : {A : Type 0} (P : A → Type 0) (posts : Bool) (d : A) → P d
    → IsDelta P (cond posts (Add d) Nothing)
posted_own P true d own = own
posted_own P false d own = tt

-- the new gather is posted where the datum changed; where it didn't, the gather is the old one
pub leads_where_changed : {A : Type 0} (sum : A → A → A) (before after : A) (same : Bool)
    → (same ≡ true → before ≡ after) → sum before after ≡ after
    → LeadsTo sum before (cond (not same) (Add after) Nothing) after
leads_where_changed sum before after true kept joined = kept refl
leads_where_changed sum before after false kept joined = joined

-- who gathers over the edges that lead in is told over those that lead out
pub out_covers_in : (side : Side) → takes InEdges (opposite side) ≡ true
    → takes OutEdges side ≡ true
out_covers_in Source gathers = refl
out_covers_in Target gathers = gathers

pub out_is_gathered : (side : Side) → takes OutEdges side ≡ true
    → takes InEdges (opposite side) ≡ false → ⊥
out_is_gathered Source scatters none = true≢false none
out_is_gathered Target scatters none = true≢false (sym scatters)
