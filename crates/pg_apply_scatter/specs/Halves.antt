-- The second half of a round, by the shares of the workers of a cut.
use Rattle.std.specs.Prelude.{◌≡◌, ℕ, ◌<◌, ◌==◌, cond, true, Option, Some, None, List, [], ◌∷◌, length, map}
use Rattle.std.specs.List.{range_with_len}
use Rattle.pg_graph.specs.Multigraph.{Multigraph, IsMultigraph, vertices}
use Rattle.pg_law.specs.declared.values.Datum.{Datum}
use Rattle.pg_law.specs.declared.values.Applied.{Applied}
use Rattle.pg_law.specs.Program.{Program}
use Rattle.pg_law.specs.Configuration.{Configuration, IsFit, signalled, message_in}
use Rattle.pg_law.specs.Round.{became_at, AreApplied, fresh, outcomes, values_after, messages_after, scatter_after, round}
use Rattle.pg_law.specs.Carries.{carry_at, carry_in}
use Rattle.pg_cut.specs.Cut.{Division, IsCutOf}
use Rattle.pg_edge_store.specs.Store.{Store}
use Rattle.pg_mirrors.specs.Mirrors.{Mirrors, Pushes}
use Rattle.pg_gather.specs.Shares.{IsShareOf}
use Rattle.pg_apply_scatter.specs.declared.sent.Sent.{Sent}
use Rattle.pg_apply_scatter.specs.Applying.{applied_masters}
use Rattle.pg_apply_scatter.specs.Sending.{words_after, sent_from}
use Rattle.pg_apply_scatter.specs.Delivering.{message_from}

-- what a list has for a vertex
abbrev pub entry_of : {A : Type 0} → List (ℕ × A) → ℕ → Option A
entry_of [] v = None
entry_of (entry ∷ entries) v = cond (entry.0 == v) (Some entry.1) (entry_of entries v)

-- what each vertex became, where these are those that applied
abbrev pub became_by : {Carry : Type 0} → Multigraph → List (ℕ × Applied Carry) → List (Option (Applied Carry))
became_by g applied = map (entry_of applied) (vertices g)

-- the data that are pushed
abbrev pub data_of : {Carry : Type 0} → List (ℕ × Applied Carry) → List (ℕ × Datum)
data_of applied = map (λ entry. (entry.0, entry.1.datum)) applied

-- each vertex that applied has its carry
abbrev pub AreCarriesOf : {Carry : Type 0} → List (Option Carry) → List (Option (Applied Carry)) → Type 0
AreCarriesOf carries became = (v : ℕ) → carry_at carries v ≡ carry_in (became_at became v)

-- the store of a worker after its scatter
abbrev pub store_after : {Acc Carry : Type 0} → Program Acc Carry → Multigraph → Mirrors → List (Option Carry) → Store → Store
store_after p g mirrors carries store =
    record store { words = words_after p g mirrors carries store }

module _ {Acc Carry : Type 0} (p : Program Acc Carry) where
  -- a state once these vertices have applied: their edges are still to be scattered
  abbrev pub applied_state : Multigraph → Configuration → List (Option (Applied Carry)) → Configuration
  applied_state g s became = record {
    values = values_after p g s.values became;
    edges = s.edges;
    messages = messages_after p g s.messages became;
  }

  -- what the masters of the signalled vertices apply, by their fresh gathers
  abbrev pub applied_round : Multigraph → Configuration → List (ℕ × Applied Carry)
  applied_round g s = applied_masters p g s.values s.messages
      (map (λ u. (u, fresh p g s u)) (signalled g s))

  -- they become what a round makes them
  abbrev pub MastersBecome : Type 0
  MastersBecome = (g : Multigraph) (s : Configuration)
      → became_by g (applied_round g s) ≡ outcomes p g s (λ v. true)

  -- once the masters are pushed, the replicas have the data after apply
  abbrev pub PushesShare : Type 0
  PushesShare = (g : Multigraph) (cut : Division) (worker : ℕ) (s : Configuration)
      (applied : List (ℕ × Applied Carry)) (store : Store) (old new : Mirrors)
      → IsCutOf g cut → IsShareOf g cut worker s store old
      → Pushes old new (data_of applied)
      → IsShareOf g cut worker (applied_state g s (became_by g applied)) store new

  -- all that the workers send
  abbrev pub sent_by_all : Multigraph → Division → List (Option Carry) → (ℕ → Store) → (ℕ → Mirrors) → List (List (Sent Acc))
  sent_by_all g cut carries stores mirrors =
      map (λ w. sent_from p g (mirrors w) carries (stores w)) (range_with_len 0 cut.workers)

  -- the workers' scatters, and the messages that come of what they send, are those of the state
  -- after the scatter of all edges
  pub record AreScattered (g : Multigraph) (cut : Division) (s : Configuration)
      (became : List (Option (Applied Carry))) (carries : List (Option Carry))
      (stores : ℕ → Store) (mirrors : ℕ → Mirrors) : Type 0 where
    pub shares : (w : ℕ) → w < cut.workers
        → IsShareOf g cut w (scatter_after p g s became)
        (store_after p g (mirrors w) carries (stores w)) (mirrors w)
    pub messages : (v : ℕ) → v < length g.ids
        → message_from p v (message_in (messages_after p g s.messages became) v)
        (sent_by_all g cut carries stores mirrors)
        ≡ message_in (scatter_after p g s became).messages v

  abbrev pub WorkersScatter : Type 0
  WorkersScatter = (g : Multigraph) (cut : Division) (s : Configuration)
      (became : List (Option (Applied Carry))) (carries : List (Option Carry))
      (stores : ℕ → Store) (mirrors : ℕ → Mirrors)
      → IsMultigraph g → IsCutOf g cut → IsFit p g s → AreApplied p g became
      → AreCarriesOf carries became
      → ((w : ℕ) → w < cut.workers
      → IsShareOf g cut w (applied_state g s became) (stores w) (mirrors w))
      → AreScattered g cut s became carries stores mirrors

  -- the same of a whole round: the workers have their shares of the state after it
  pub record AreRounded (g : Multigraph) (cut : Division) (s : Configuration)
      (carries : List (Option Carry)) (stores : ℕ → Store) (mirrors : ℕ → Mirrors) : Type 0 where
    pub shares : (w : ℕ) → w < cut.workers
        → IsShareOf g cut w (round p g s) (store_after p g (mirrors w) carries (stores w)) (mirrors w)
    pub messages : (v : ℕ) → v < length g.ids
        → message_from p v (message_in (messages_after p g s.messages (outcomes p g s (λ v. true))) v)
        (sent_by_all g cut carries stores mirrors)
        ≡ message_in (round p g s).messages v

  -- from the shares of a state: apply at the masters, push, scatter by all workers, deliver
  abbrev pub PartsAreARound : Type 0
  PartsAreARound = (g : Multigraph) (cut : Division) (s : Configuration)
      (carries : List (Option Carry)) (stores : ℕ → Store) (old new : ℕ → Mirrors)
      → IsMultigraph g → IsCutOf g cut → IsFit p g s
      → ((w : ℕ) → w < cut.workers → IsShareOf g cut w s (stores w) (old w))
      → ((w : ℕ) → w < cut.workers → Pushes (old w) (new w) (data_of (applied_round g s)))
      → AreCarriesOf carries (became_by g (applied_round g s))
      → AreRounded g cut s carries stores new
