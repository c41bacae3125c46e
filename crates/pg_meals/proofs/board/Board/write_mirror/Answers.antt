use Rattle.std.proofs.Common.{ℕ, ◌-◌, ◌<◌, ◌≡◌, length, slice_index_or, slice_set, true, false, Some, refl, sym, ap, subst, ◌∙◌, arith, true≢false}
use Rattle.std.specs.Prelude.{Vec}
use Rattle.std.specs.Vec.{with_item}
use Rattle.std.proofs.lemmas.Grind.{common_steps}
use Rattle.std.specs.declared.alloc.Global.{Global}
use Rattle.pg_law.specs.Values.{two}
use Rattle.pg_meals.specs.declared.seat.Seat.{Seat}
use Rattle.pg_meals.specs.declared.seat.Replica.{Replica}
use Rattle.pg_meals.specs.declared.actor.Actor.{Actor}
use Rattle.pg_meals.specs.Acts.{written_core}
use Rattle.pg_meals.specs.Entries.{no_seat, idle, seat_at, fork_at, actor_at, replicas_at, replica_in, homes}
use Rattle.pg_meals.specs.Shown.{core_of, shape_on}
use Rattle.pg_meals.specs.Tallies.{stale_among, left_to_write}
use Rattle.pg_meals.proofs.At.{some_of}
use Rattle.pg_meals.proofs.Rows.{not_true}
use Rattle.pg_meals.proofs.ListReads.{read_any}
use Rattle.pg_meals.proofs.Marking.{not_false}
use Rattle.pg_meals.proofs.Showing.{left_shows}
use Rattle.pg_meals.proofs.Tallied.{pins_actor, left_of, one_stale, one_written, stale_row}
use Rattle.pg_meals.proofs.Written.{found, home_of, fresh_written, stale_unwritten}
use Rattle.pg_meals.proofs.Copied.{row_at, copy_shows, second_unwritten, homes_after}
use Rattle.pg_meals.proofs.board.Board.write_mirror.Goals as goal

pub home-requires : goal.home-requires
home-requires g c =
    let b = c.args.self.now in
    let actor_is = c.index-record.ensures ∙ read_any b.actors.items c.args.actor c.index-record.result.now idle c.requires.actor in
    let inside = c.requires.board.inside c.args.actor c.in-Some.vertex (ap (λ (z : Actor). z.vertex) (sym actor_is) ∙ c.in-Some.is) in
    omega (arith, inside, c.requires.board.replicas)

pub overflow_sub-record : goal.overflow_sub-record
overflow_sub-record g c =
    let b = c.args.self.now in
    let a : ℕ = c.args.actor in
    let v : ℕ = c.in-Some.vertex in
    let i : ℕ = c.in-Some-home.place in
    let x = c.index-replica.result.now in
    let counted = c.requires.board.tallied in
    let actor_is = c.index-record.ensures ∙ read_any b.actors.items a c.index-record.result.now idle c.requires.actor in
    let inside = c.requires.board.inside a v (ap (λ (z : Actor). z.vertex) (sym actor_is) ∙ c.in-Some.is) in
    let v_in : v < length b.replicas.items = omega (arith, inside, c.requires.board.replicas) in
    let row = replicas_at b.replicas.items v in
    let item_is : x ≡ slice_index_or row i x
    = c.index-replica.ensures ∙ (ap (λ (r : Vec Replica Global). slice_index_or r.items i x) c.index-2.ensures ∙ ap (λ xs. slice_index_or xs i x) (sym (row_at b.replicas.items v c.index-2.result.now v_in))) in
    let stale : (slice_index_or row i x).stale ≡ true = ap (λ (r : Replica). r.stale) (sym item_is) ∙ not_false x.stale c.if-not-replica.false in
    let left : c.index-record.result.now.stale ≡ stale_among row
    = left_of b.replicas.items b.actors.items a c.index-record.result.now counted.stale actor_is ∙ (λ j. left_to_write (c.in-Some.is j) (not_false c.index-record.result.now.committed c.if-not-record.false j) (replicas_at b.replicas.items)) in
    omega (arith, left, one_stale row i x c.in-Some-home.ensures.0 stale)

pub returns-then-not-replica-clause-refused : goal.returns-then-not-replica-clause-refused
returns-then-not-replica-clause-refused g c = λ n h w d core out step.
    let b = c.args.self.now in
    let a : ℕ = c.args.actor in
    let v : ℕ = c.in-Some.vertex in
    let i : ℕ = c.in-Some-home.place in
    let x = c.index-replica.result.now in
    let actor_is = c.index-record.ensures ∙ read_any b.actors.items a c.index-record.result.now idle c.requires.actor in
    let busy : (actor_at b.actors.items a).vertex ≡ Some v = ap (λ (z : Actor). z.vertex) (sym actor_is) ∙ c.in-Some.is in
    let inside = c.requires.board.inside a v busy in
    let v_in : v < length b.replicas.items = omega (arith, inside, c.requires.board.replicas) in
    let item_is : x ≡ slice_index_or (replicas_at b.replicas.items v) i x
    = c.index-replica.ensures ∙ (ap (λ (r : Vec Replica Global). slice_index_or r.items i x) c.index-2.ensures ∙ ap (λ xs. slice_index_or xs i x) (sym (row_at b.replicas.items v c.index-2.result.now v_in))) in
    let that_is : replica_in (replicas_at b.replicas.items v) c.args.worker ≡ x
    = ap (replica_in (replicas_at b.replicas.items v)) (sym (c.in-Some-home.ensures.1 x)) ∙ (found (replicas_at b.replicas.items v) i x (c.requires.board.once v) c.in-Some-home.ensures.0 ∙ sym item_is) in
    let fresh : (replica_in (replicas_at b.replicas.items v) c.args.worker).stale ≡ false = ap (λ (r : Replica). r.stale) that_is ∙ not_true x.stale c.if-not-replica.true in
    true≢false (sym (fresh_written b.actors.items b.replicas.items a v c.args.worker h busy step.3 fresh step.1) ∙ step.6)

pub returns-clause-acts : goal.returns-clause-acts
returns-clause-acts g c = λ w d.
    let b = c.args.self.now in
    let a : ℕ = c.args.actor in
    let v : ℕ = c.in-Some.vertex in
    let k : ℕ = c.args.worker in
    let i : ℕ = c.in-Some-home.place in
    let x = c.index-replica.result.now in
    let actor_is = c.index-record.ensures ∙ read_any b.actors.items a c.index-record.result.now idle c.requires.actor in
    let busy : (actor_at b.actors.items a).vertex ≡ Some v = ap (λ (z : Actor). z.vertex) (sym actor_is) ∙ c.in-Some.is in
    let committed : (actor_at b.actors.items a).committed ≡ true = ap (λ (z : Actor). z.committed) (sym actor_is) ∙ not_false c.index-record.result.now.committed c.if-not-record.false in
    let no_turn : (actor_at b.actors.items a).turn ≡ false = ap (λ (z : Actor). z.turn) (sym actor_is) ∙ c.if-record.false in
    let inside = c.requires.board.inside a v busy in
    let v_in : v < length b.replicas.items = omega (arith, inside, c.requires.board.replicas) in
    let seat_in : v < length b.seats.items = omega (arith, inside, c.requires.board.seats) in
    let row = replicas_at b.replicas.items v in
    let item_is : x ≡ slice_index_or row i x
    = c.index-replica.ensures ∙ (ap (λ (r : Vec Replica Global). slice_index_or r.items i x) c.index-2.ensures ∙ ap (λ xs. slice_index_or xs i x) (sym (row_at b.replicas.items v c.index-2.result.now v_in))) in
    let that_is : replica_in row k ≡ x = ap (replica_in row) (sym (c.in-Some-home.ensures.1 x)) ∙ (found row i x (c.requires.board.once v) c.in-Some-home.ensures.0 ∙ sym item_is) in
    let stale : (replica_in row k).stale ≡ true = ap (λ (r : Replica). r.stale) that_is ∙ not_false x.stale c.if-not-replica.false in
    let unwritten = stale_unwritten b.actors.items b.replicas.items a v k 1 busy committed stale in
    let spans = subst (λ n. Rattle.pg_meals.specs.Once.is_among n (homes row) ≡ true) (c.in-Some-home.ensures.1 x) (home_of row i x c.in-Some-home.ensures.0) in
    let seat_is : c.index.result.now.datum ≡ (seat_at d b.seats.items v).datum = ap (λ (z : Seat _). z.datum) (c.index.ensures ∙ read_any b.seats.items v c.index.result.now (no_seat d) seat_in) in
    let row_is = ap (λ xs. slice_set xs i (record { worker = k; datum = c.index.result.now.datum; stale = false })) (ap (λ (r : Vec Replica Global). r.items) c.index_mut.ensures.value ∙ sym (row_at b.replicas.items v c.index_mut.result.now v_in)) in
    let alone : (o : ℕ) → (actor_at b.actors.items o).vertex ≡ Some v → o ≡ a = λ o q. some_of o a (sym (c.requires.board.names d o v q) ∙ c.requires.board.names d a v busy) in (
      written_core (shape_on c.args.graph.now b) (core_of w d b) a v k 0,
      (v, omega arith, busy, committed, no_turn, spans, stale_unwritten b.actors.items b.replicas.items a v k 0 busy committed stale, refl, refl),
      (
        v,
        omega arith,
        busy,
        committed,
        no_turn,
        spans,
        second_unwritten (seat_at d b.seats.items) (fork_at w b.forks.items) b.replicas.items (actor_at b.actors.items) b.turn b.journal.items a v k i (with_item c.index_mut.result.now i (record { worker = k; datum = c.index.result.now.datum; stale = false })) c.index.result.now.datum x v_in row_is c.in-Some-home.ensures.0 (c.in-Some-home.ensures.1 x) (c.requires.board.once v) seat_is busy committed alone unwritten,
        left_shows (seat_at d b.seats.items) (fork_at w b.forks.items) (replicas_at (slice_set b.replicas.items v (with_item c.index_mut.result.now i (record { worker = k; datum = c.index.result.now.datum; stale = false })))) b.actors.items b.turn b.journal.items a (c.index-record.result.now.stale - 1) c.index-record.result.now c.requires.actor actor_is
            ∙ copy_shows (seat_at d b.seats.items) (fork_at w b.forks.items) b.replicas.items (actor_at b.actors.items) b.turn b.journal.items a v k i (with_item c.index_mut.result.now i (record { worker = k; datum = c.index.result.now.datum; stale = false })) c.index.result.now.datum x v_in row_is c.in-Some-home.ensures.0 (c.in-Some-home.ensures.1 x) (c.requires.board.once v) seat_is busy committed alone,
        refl,
      ),
    )

pub returns-clause-frame : goal.returns-clause-frame
returns-clause-frame g c =
    let b = c.args.self.now in
    let v : ℕ = c.in-Some.vertex in
    let i : ℕ = c.in-Some-home.place in
    let y : Replica = record { worker = c.args.worker; datum = c.index.result.now.datum; stale = false } in
    let actor_is = c.index-record.ensures ∙ read_any b.actors.items c.args.actor c.index-record.result.now idle c.requires.actor in
    let inside = c.requires.board.inside c.args.actor v (ap (λ (z : Actor). z.vertex) (sym actor_is) ∙ c.in-Some.is) in
    let v_in : v < length b.replicas.items = omega (arith, inside, c.requires.board.replicas) in
    let row_is = ap (λ xs. slice_set xs i y) (ap (λ (r : Vec Replica Global). r.items) c.index_mut.ensures.value ∙ sym (row_at b.replicas.items v c.index_mut.result.now v_in)) in
    record {
      workers = refl;
      homes = homes_after b.replicas.items v i (with_item c.index_mut.result.now i y) y y v_in row_is c.in-Some-home.ensures.0 (c.in-Some-home.ensures.1 y);
      fuel = refl;
      room = refl;
      caches = refl;
      seats = refl;
      replicas = grind (arith, common_steps);
      forks = refl;
      actors = grind (arith, common_steps);
    }

pub returns-clause-tallied : goal.returns-clause-tallied
returns-clause-tallied g c =
    let b = c.args.self.now in
    let a : ℕ = c.args.actor in
    let v : ℕ = c.in-Some.vertex in
    let i : ℕ = c.in-Some-home.place in
    let x = c.index-replica.result.now in
    let counted = c.requires.board.tallied in
    let actor_is = c.index-record.ensures ∙ read_any b.actors.items a c.index-record.result.now idle c.requires.actor in
    let busy : (actor_at b.actors.items a).vertex ≡ Some v = ap (λ (z : Actor). z.vertex) (sym actor_is) ∙ c.in-Some.is in
    let committed = not_false c.index-record.result.now.committed c.if-not-record.false in
    let inside = c.requires.board.inside a v busy in
    let v_in : v < length b.replicas.items = omega (arith, inside, c.requires.board.replicas) in
    let row = replicas_at b.replicas.items v in
    let item_is : x ≡ slice_index_or row i x
    = c.index-replica.ensures ∙ (ap (λ (r : Vec Replica Global). slice_index_or r.items i x) c.index-2.ensures ∙ ap (λ xs. slice_index_or xs i x) (sym (row_at b.replicas.items v c.index-2.result.now v_in))) in
    let stale : (slice_index_or row i x).stale ≡ true = ap (λ (r : Replica). r.stale) (sym item_is) ∙ not_false x.stale c.if-not-replica.false in
    let y : Replica = record { worker = c.args.worker; datum = c.index.result.now.datum; stale = false } in
    let row_is = ap (λ xs. slice_set xs i y) (ap (λ (r : Vec Replica Global). r.items) c.index_mut.ensures.value ∙ sym (row_at b.replicas.items v c.index_mut.result.now v_in)) in
    let left : c.index-record.result.now.stale ≡ stale_among row = left_of b.replicas.items b.actors.items a c.index-record.result.now counted.stale actor_is ∙ (λ j. left_to_write (c.in-Some.is j) (committed j) (replicas_at b.replicas.items)) in
    let alone : (o : ℕ) → (actor_at b.actors.items o).vertex ≡ Some v → o ≡ a = λ o q. some_of o a (sym (c.requires.board.names (two 0 0) o v q) ∙ c.requires.board.names (two 0 0) a v busy) in
    record {
      pinned = pins_actor b.forks.items b.actors.items counted.pinned a _ c.requires.actor (ap (λ (z : Actor). z.pinned) actor_is);
      stale = stale_row b.replicas.items b.actors.items counted.stale a _ c.requires.actor v (with_item c.index_mut.result.now i y) v_in c.in-Some.is committed
          (ap (λ n. n - 1) left ∙ sym (ap stale_among row_is ∙ one_written row i y x c.in-Some-home.ensures.0 stale refl)) alone;
      last = counted.last;
    }
