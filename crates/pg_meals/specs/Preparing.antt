-- Preparing: what an entry will make of a vertex and its forks, by what the actor holds and noted.
use Rattle.std.specs.Prelude.{ℕ, ◌≡◌, ◌<◌, ◌⊎◌, ltb, Bool, true, false, cond, Some, None, is_some}
use Rattle.pg_graph.specs.declared.edge.Side.{Side}
use Rattle.pg_graph.specs.Multigraph.{opposite, takes}
use Rattle.pg_law.specs.declared.values.Datum.{Datum}
use Rattle.pg_law.specs.declared.values.Near.{Near}
use Rattle.pg_law.specs.declared.values.Applied.{Applied}
use Rattle.pg_law.specs.declared.values.Scattered.{Scattered}
use Rattle.pg_law.specs.declared.values.Delta.TheVariants.{Nothing}
use Rattle.pg_law.specs.Program.{Program}
use Rattle.pg_law.specs.Round.{join}
use Rattle.pg_law.specs.Values.{two}
use Rattle.pg_delta.specs.declared.cell.CacheCell.{CacheCell}
use Rattle.pg_delta.specs.Deltas.{joined}
use Rattle.pg_meals.specs.Families.{set_at}
use Rattle.pg_meals.specs.Shape.{Shape, at_end}
use Rattle.pg_meals.specs.Words.{PinsAll}
use Rattle.pg_meals.specs.Serial.{or_zero, gather_over}
use Rattle.pg_meals.specs.Core.{Content, Prepared, Core, empty_content, by_side}
use Rattle.pg_meals.specs.Standing.{stands}

module _ {A C : Type 0} (p : Program A C) (g : Shape) where
  -- a content once the end s executed, and scattered this over it: what waited for s is used up
  abbrev pub content_sent : Side → Content A → Scattered A → Content A
  content_sent s x sc = record {
    word = sc.edge;
    message = by_side s None (join p.combine (x.message (opposite s)) sc.signal);
    delta = by_side s Nothing (joined p.sum (x.delta (opposite s)) sc.delta);
  }

  -- and where s doesn't scatter over it
  abbrev pub content_kept : Side → Content A → Content A
  content_kept s x = record {
    word = x.word;
    message = by_side s None (x.message (opposite s));
    delta = by_side s Nothing (x.delta (opposite s));
  }

  abbrev pub content_after : Side → Content A → Scattered A → Content A
  content_after s x sc =
      cond (takes p.scatter_edges s) (content_sent s x sc) (content_kept s x)

  -- the datum at the other end of e, as the actor noted it
  abbrev pub noted_datum : Core A → ℕ → ℕ → Datum
  noted_datum c a e =
      two (or_zero ((c.notes a).noted e 0)) (or_zero ((c.notes a).noted e 1))

  -- the edge e as its end s sees it, by what the actor holds and noted
  abbrev pub near_noted : Core A → ℕ → Datum → Side → ℕ → Near
  near_noted c a centre s e = record {
    side = s;
    edge = g.edge_info e;
    word = (c.content e).word;
    centre = centre;
    other = noted_datum c a e;
  }

  abbrev pub gather_noted : Core A → ℕ → ℕ → A
  gather_noted c a v = gather_over p g (near_noted c a (c.place v).datum) v g.edges

  abbrev pub applied_noted : Core A → ℕ → ℕ → ℕ → Applied C
  applied_noted c a v m = p.apply (g.info v) (c.place v).datum (gather_noted c a v) m

  -- a cell that keeps this gather, where gathers are kept
  abbrev pub kept_cell : Bool → A → CacheCell A
  kept_cell caches acc = record { acc = cond caches (Some acc) None; pending = Nothing }

  -- what is prepared for v, which became x: nothing rides on what is no edge of v
  abbrev pub prepared_with : Core A → ℕ → ℕ → Applied C → Prepared A
  prepared_with c a v x = record {
    datum = x.datum;
    again = x.again;
    cell = kept_cell g.caches (gather_noted c a v);
    content = λ e. cond (ltb e g.edges) (at_end g v e
        (λ s. content_after s (c.content e) (p.scatter (near_noted c a x.datum s e) x.carry))
        empty_content) empty_content;
  }

  abbrev pub prepared_by : Core A → ℕ → ℕ → ℕ → Prepared A
  prepared_by c a v m = prepared_with c a v (applied_noted c a v m)

  -- both halves of the datum over e are noted
  abbrev pub IsNoted : Core A → ℕ → ℕ → Type 0
  IsNoted c a e =
      (is_some ((c.notes a).noted e 0) ≡ true) × (is_some ((c.notes a).noted e 1) ≡ true)

  -- the actor has all forks of v, the message m is there, and what is looked at is noted
  pub record MayPrepare (c : Core A) (a v m : ℕ) : Type 0 where
    pub busy : (c.words.grip a).vertex ≡ Some v
    pub fresh : (c.words.grip a).committed ≡ false
    pub all : PinsAll g c.words a v
    pub message : (stands p g c).message v ≡ Some m
    pub noted : (s : Side) (e : ℕ) → e < g.edges → g.end s e ≡ v
        → (takes p.gather_edges s ≡ true) ⊎ (takes p.scatter_edges s ≡ true)
        → IsNoted c a e

  abbrev pub prepared_core : Core A → ℕ → ℕ → ℕ → Core A
  prepared_core c a v m = record c {
    notes = set_at c.notes a (record (c.notes a) { prepared = Some (prepared_by c a v m) });
  }
