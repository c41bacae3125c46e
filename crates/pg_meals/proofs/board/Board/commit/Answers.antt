use Rattle.std.proofs.Common.{ℕ, ◌+◌, ◌<◌, ◌≡◌, length, slice_set, true, false, Some, None, refl, sym, ap, subst, ◌∙◌, arith}
use Rattle.std.specs.Prelude.{map, Vec}
use Rattle.std.specs.declared.alloc.Global.{Global}
use Rattle.std.proofs.lemmas.Grind.{common_steps}
use Rattle.pg_law.specs.Values.{two}
use Rattle.pg_meals.specs.declared.seat.Replica.{Replica}
use Rattle.pg_meals.specs.declared.actor.Ready.{Ready}
use Rattle.pg_meals.specs.declared.actor.Actor.{Actor}
use Rattle.pg_meals.specs.Acts.{Entered}
use Rattle.pg_meals.specs.Entries.{no_seat, idle, actor_at, replicas_at, made_stale}
use Rattle.pg_meals.specs.Shown.{core_from}
use Rattle.pg_meals.specs.Tallies.{stale_among, AreLastKept}
use Rattle.pg_meals.proofs.At.{some_of}
use Rattle.pg_meals.proofs.ListReads.{read_any}
use Rattle.pg_meals.proofs.Marking.{not_false}
use Rattle.pg_meals.proofs.Copied.{row_at}
use Rattle.pg_meals.proofs.Staled.{stale_after}
use Rattle.pg_meals.proofs.Entered.{planned_is, enter_shows}
use Rattle.pg_meals.proofs.Tallied.{pins_actor, stale_row, all_are_stale, last_more}
use Rattle.pg_meals.proofs.board.Board.commit.Goals as goal

pub index-requires : goal.index-requires
index-requires g c =
    let b = c.args.self.now in
    let a : ℕ = c.args.actor in
    let v : ℕ = c.in-Some-vertex.vertex in
    let actor_is = c.index-record.ensures ∙ read_any b.actors.items a c.index-record.result.now idle c.requires.actor in
    let busy : (actor_at b.actors.items a).vertex ≡ Some v = ap (λ (z : Actor). z.vertex) (sym actor_is) ∙ c.in-Some-vertex.is in
    let inside : v < length c.args.graph.now.ids = c.requires.board.inside a v busy in
    omega (arith, inside, c.requires.board.replicas)

pub index_mut-requires : goal.index_mut-requires
index_mut-requires g c =
    let b = c.args.self.now in
    let a : ℕ = c.args.actor in
    let v : ℕ = c.in-Some-vertex.vertex in
    let actor_is = c.index-record.ensures ∙ read_any b.actors.items a c.index-record.result.now idle c.requires.actor in
    let busy : (actor_at b.actors.items a).vertex ≡ Some v = ap (λ (z : Actor). z.vertex) (sym actor_is) ∙ c.in-Some-vertex.is in
    let inside : v < length c.args.graph.now.ids = c.requires.board.inside a v busy in
    omega (arith, inside, c.requires.board.replicas)

pub index_mut-seat-requires : goal.index_mut-seat-requires
index_mut-seat-requires g c =
    let b = c.args.self.now in
    let a : ℕ = c.args.actor in
    let v : ℕ = c.in-Some-vertex.vertex in
    let actor_is = c.index-record.ensures ∙ read_any b.actors.items a c.index-record.result.now idle c.requires.actor in
    let busy : (actor_at b.actors.items a).vertex ≡ Some v = ap (λ (z : Actor). z.vertex) (sym actor_is) ∙ c.in-Some-vertex.is in
    let inside : v < length c.args.graph.now.ids = c.requires.board.inside a v busy in
    omega (arith, inside, c.requires.board.seats)

pub returns-clause-acts : goal.returns-clause-acts
returns-clause-acts g c = λ w d.
    let b = c.args.self.now in
    let a : ℕ = c.args.actor in
    let v : ℕ = c.in-Some-vertex.vertex in
    let actor_is = c.index-record.ensures ∙ read_any b.actors.items a c.index-record.result.now idle c.requires.actor in
    let busy : (actor_at b.actors.items a).vertex ≡ Some v = ap (λ (z : Actor). z.vertex) (sym actor_is) ∙ c.in-Some-vertex.is in
    let inside : v < length c.args.graph.now.ids = c.requires.board.inside a v busy in
    let q : Ready = c.in-Some.ready in
    let v_in : v < length b.seats.items = omega (arith, inside, c.requires.board.seats) in
    let row_in : v < length b.replicas.items = omega (arith, inside, c.requires.board.replicas) in
    let turn : (actor_at b.actors.items a).turn ≡ true = ap (λ (z : Actor). z.turn) (sym actor_is) ∙ not_false c.index-record.result.now.turn c.if-not-record.false in
    let fresh : (actor_at b.actors.items a).committed ≡ false = ap (λ (z : Actor). z.committed) (sym actor_is) ∙ c.if-record.false in
    let ready : (actor_at b.actors.items a).ready ≡ Some q = ap (λ (z : Actor). z.ready) (sym actor_is) ∙ c.in-Some.is in
    let seat_is = c.index_mut-seat.ensures.value ∙ read_any b.seats.items v c.index_mut-seat.result.now (no_seat d) v_in in
    let row_is : c.make_stale.new.row.items ≡ map made_stale (replicas_at b.replicas.items v)
    = c.make_stale.ensures ∙ ap (map made_stale) (ap (λ (r : Vec Replica Global). r.items) c.index_mut.ensures.value ∙ sym (row_at b.replicas.items v c.index_mut.result.now row_in)) in
    let alone : (o : ℕ) → (actor_at b.actors.items o).vertex ≡ Some v → o ≡ a = λ o p. some_of o a (sym (c.requires.board.names d o v p) ∙ c.requires.board.names d a v busy) in
    let shown = enter_shows w d b.seats.items b.forks.items b.replicas.items b.actors.items b.turn b.journal.items a v c.index-record.result.now q c.index_mut-seat.result.now c.swap.new.x c.swap.new.y c.make_stale.new.row (c.len-number.result + 1) c.len-stale.result
    c.requires.actor v_in row_in actor_is seat_is c.swap.ensures.x_after row_is busy ready alone in
    let room : length b.journal.items < b.fuel = omega (arith, c.if-number-self.false, c.len-number.ensures) in
    let number : c.len-number.result ≡ length b.journal.items = omega (arith, c.len-number.ensures) in (
      v,
      _,
      busy,
      turn,
      fresh,
      planned_is w d b.seats.items b.forks.items b.replicas.items b.actors.items b.turn b.journal.items a v c.index-record.result.now q c.index_mut-seat.result.now c.swap.new.x c.swap.new.y c.make_stale.new.row (c.len-number.result + 1) c.len-stale.result
          c.requires.actor v_in row_in actor_is seat_is c.swap.ensures.x_after row_is busy ready alone,
      room,
      ap (core_from _ _ _ (actor_at (slice_set b.actors.items a (record c.index-record.result.now { committed = true; ready = None; before = c.index_mut-seat.result.now.datum; stale = c.len-stale.result }))) b.turn) c.push_reserved.ensures.items ∙ shown,
      ap Entered number,
    )

pub returns-clause-frame : goal.returns-clause-frame
returns-clause-frame g c =
    let b = c.args.self.now in
    let a : ℕ = c.args.actor in
    let v : ℕ = c.in-Some-vertex.vertex in
    let actor_is = c.index-record.ensures ∙ read_any b.actors.items a c.index-record.result.now idle c.requires.actor in
    let busy : (actor_at b.actors.items a).vertex ≡ Some v = ap (λ (z : Actor). z.vertex) (sym actor_is) ∙ c.in-Some-vertex.is in
    let inside : v < length c.args.graph.now.ids = c.requires.board.inside a v busy in
    let row_in : v < length b.replicas.items = omega (arith, inside, c.requires.board.replicas) in
    let row_is : c.make_stale.new.row.items ≡ map made_stale (replicas_at b.replicas.items v)
    = c.make_stale.ensures ∙ ap (map made_stale) (ap (λ (r : Vec Replica Global). r.items) c.index_mut.ensures.value ∙ sym (row_at b.replicas.items v c.index_mut.result.now row_in)) in
    record {
      workers = refl;
      homes = stale_after b.replicas.items v c.make_stale.new.row row_in row_is;
      fuel = refl;
      room = c.push_reserved.ensures.capacity;
      caches = refl;
      seats = grind (arith, common_steps);
      replicas = grind (arith, common_steps);
      forks = refl;
      actors = grind (arith, common_steps);
    }

pub returns-clause-tallied : goal.returns-clause-tallied
returns-clause-tallied g c =
    let b = c.args.self.now in
    let a : ℕ = c.args.actor in
    let v : ℕ = c.in-Some-vertex.vertex in
    let counted = c.requires.board.tallied in
    let actor_is = c.index-record.ensures ∙ read_any b.actors.items a c.index-record.result.now idle c.requires.actor in
    let vertex_is = c.in-Some-vertex.is in
    let busy : (actor_at b.actors.items a).vertex ≡ Some v = ap (λ (z : Actor). z.vertex) (sym actor_is) ∙ vertex_is in
    let inside : v < length c.args.graph.now.ids = c.requires.board.inside a v busy in
    let v_in : v < length b.seats.items = omega (arith, inside, c.requires.board.seats) in
    let row_in : v < length b.replicas.items = omega (arith, inside, c.requires.board.replicas) in
    let alone : (o : ℕ) → (actor_at b.actors.items o).vertex ≡ Some v → o ≡ a = λ o n. some_of o a (sym (c.requires.board.names (two 0 0) o v n) ∙ c.requires.board.names (two 0 0) a v busy) in
    let row_is : c.make_stale.new.row.items ≡ map made_stale (replicas_at b.replicas.items v)
    = c.make_stale.ensures ∙ ap (map made_stale) (ap (λ (r : Vec Replica Global). r.items) c.index_mut.ensures.value ∙ sym (row_at b.replicas.items v c.index_mut.result.now row_in)) in
    let long : c.len-stale.result ≡ length (replicas_at b.replicas.items v)
    = omega (arith, c.len-stale.ensures, ap (λ (r : Vec Replica Global). length r.items) c.index.ensures, ap length (row_at b.replicas.items v c.index.result.now row_in)) in
    record {
      pinned = pins_actor b.forks.items b.actors.items counted.pinned a _ c.requires.actor (ap (λ (z : Actor). z.pinned) actor_is);
      stale = stale_row b.replicas.items b.actors.items counted.stale a _ c.requires.actor v c.make_stale.new.row row_in vertex_is refl (long ∙ sym (ap stale_among row_is ∙ all_are_stale (replicas_at b.replicas.items v))) alone;
      last = subst (AreLastKept _) (sym c.push_reserved.ensures.items) (last_more b.seats.items b.journal.items counted.last v _ v_in _ refl (omega (arith, c.len-number.ensures)));
    }
