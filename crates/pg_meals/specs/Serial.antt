-- A serial state as families, and one execution on it, which is proved to be that over lists.
use Rattle.std.specs.Prelude.{ℕ, zero, suc, ◌≡◌, ◌<◌, ◌==◌, ltb, cond, List, [], ◌∷◌, Option, Some, None}
use Rattle.pg_graph.specs.declared.edge.Side.{Side}
use Rattle.pg_graph.specs.Multigraph.{opposite, takes}
use Rattle.pg_law.specs.declared.values.Datum.{Datum}
use Rattle.pg_law.specs.declared.values.JournalEntry.{JournalEntry}
use Rattle.pg_law.specs.declared.values.Near.{Near}
use Rattle.pg_law.specs.declared.values.Applied.{Applied}
use Rattle.pg_law.specs.declared.values.Scattered.{Scattered}
use Rattle.pg_law.specs.Program.{Program}
use Rattle.pg_law.specs.Round.{join}
use Rattle.pg_meals.specs.Families.{set_at, total}
use Rattle.pg_meals.specs.Shape.{Shape, at_end}

pub record Serial : Type 0 where
  pub value : ℕ → Datum
  pub word : ℕ → ℕ
  pub message : ℕ → Option ℕ

abbrev pub or_zero : Option ℕ → ℕ
or_zero None = 0
or_zero (Some m) = m

-- the edge e as its end s sees it
abbrev pub near_in : Shape → Serial → Side → ℕ → Near
near_in g st s e = record {
  side = s;
  edge = g.edge_info e;
  word = st.word e;
  centre = st.value (g.end s e);
  other = st.value (g.end (opposite s) e);
}

module _ {A C : Type 0} (p : Program A C) (g : Shape) where
  -- the gather of v over its edges below n, each as near shows it
  abbrev pub gather_over : (Side → ℕ → Near) → ℕ → ℕ → A
  gather_over near v zero = p.empty
  gather_over near v (suc n) =
      at_end g v n
      (λ s. cond (takes p.gather_edges s)
      (p.sum (gather_over near v n) (p.gather (near s n)))
      (gather_over near v n))
      (gather_over near v n)

  -- the fresh gather of v
  abbrev pub fresh : Serial → ℕ → A
  fresh st v = gather_over (near_in g st) v g.edges

  -- what apply gives for v with the message m
  abbrev pub applied : Serial → ℕ → ℕ → Applied C
  applied st v m = p.apply (g.info v) (st.value v) (fresh st v) m

  -- the edge e as its end s sees it, after apply gave that end the datum d
  abbrev pub near_after : Serial → Datum → Side → ℕ → Near
  near_after st d s e = record {
    side = s;
    edge = g.edge_info e;
    word = st.word e;
    centre = d;
    other = st.value (g.end (opposite s) e);
  }

  -- what the end s scatters over e
  abbrev pub scattered : Serial → Applied C → Side → ℕ → Scattered A
  scattered st x s e = p.scatter (near_after st x.datum s e) x.carry

  -- what v signals to u over e
  abbrev pub signal_to : Serial → Applied C → ℕ → ℕ → ℕ → Option ℕ
  signal_to st x v u e =
      at_end g v e
      (λ s. cond (takes p.scatter_edges s)
      (cond (g.end (opposite s) e == u) (scattered st x s e).signal None)
      None)
      None

  -- the word of e after v scattered
  abbrev pub word_sent : Serial → Applied C → ℕ → ℕ → ℕ
  word_sent st x v e =
      at_end g v e
      (λ s. cond (takes p.scatter_edges s) (scattered st x s e).edge (st.word e))
      (st.word e)

  -- the state after v became x
  abbrev pub exec_with : Serial → ℕ → Applied C → Serial
  exec_with st v x = record {
    value = set_at st.value v x.datum;
    word = λ e. cond (ltb e g.edges) (word_sent st x v e) (st.word e);
    message = λ u. join p.combine
        (set_at st.message v x.again u)
        (total (join p.combine) None (signal_to st x v u) g.edges);
  }

  abbrev pub exec : Serial → ℕ → Serial
  exec st v = exec_with st v (applied st v (or_zero (st.message v)))

  -- the entry is of a signalled vertex, with the datum that its execution gives
  pub record IsStep (st : Serial) (x : JournalEntry) : Type 0 where
    pub inside : x.vertex < g.vertices
    pub message : ℕ
    pub signalled : st.message x.vertex ≡ Some message
    pub datum : x.datum ≡ (applied st x.vertex message).datum

  abbrev pub Legal : Serial → List JournalEntry → Type 0
  Legal st [] = Unit {0}
  Legal st (x ∷ xs) = IsStep st x × Legal (exec st x.vertex) xs

  abbrev pub replay : Serial → List JournalEntry → Serial
  replay st [] = st
  replay st (x ∷ xs) = replay (exec st x.vertex) xs
