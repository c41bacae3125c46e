-- What an end of an edge may do to its fork, after Chandy and Misra's drinking philosophers.
use Rattle.std.specs.Prelude.{Bool, true, false, cond, not, ◌&&◌, ◌||◌, Option, Some, None}
use Rattle.pg_graph.specs.Multigraph.{opposite}
use Rattle.pg_graph.specs.declared.edge.Side.{Side}
use Rattle.pg_graph.specs.declared.edge.Side.TheVariants.{Source, Target}
use Rattle.pg_forks.specs.declared.fork_word.ForkWord.{ForkWord}
use Rattle.pg_forks.specs.declared.fork_word.Why.{Why}

abbrev pub same_side : Side → Side → Bool
same_side Source Source = true
same_side Target Target = true
same_side _ _ = false

-- a fork that goes to this end, with no mark but that it is dirty or clean
abbrev pub sent_to : Side → Bool → ForkWord
sent_to side dirty = record { side = side; dirty = dirty; asked = false; pinned = false }

-- an end pins a fork that stands there, unless it is dirty and asked for
abbrev pub pin_of : ForkWord → Side → Option ForkWord
pin_of w me =
    cond (same_side w.side me && not w.pinned && not (w.dirty && w.asked))
    (Some (record w { pinned = true }))
    None

-- an end takes a dirty fork from the other end: it is clean and pinned then
abbrev pub take_of : ForkWord → Side → Option ForkWord
take_of w me =
    cond (not (same_side w.side me) && w.dirty && not w.pinned)
    (Some (record { side = me; dirty = false; asked = false; pinned = true }))
    None

-- an end asks, once, for a fork at the other end that can't be taken
abbrev pub ask_of : ForkWord → Side → Option ForkWord
ask_of w me =
    cond (not (same_side w.side me) && not w.asked && (not w.dirty || w.pinned))
    (Some (record w { asked = true }))
    None

-- an end sends its dirty fork to the other end, which asked for it: it is clean then
abbrev pub hand_over_of : ForkWord → Side → Option ForkWord
hand_over_of w me =
    cond (same_side w.side me && w.pinned && w.dirty && w.asked)
    (Some (sent_to (opposite me) false))
    None

-- an end gives back a fork that it pinned, after a commit: it is dirty, and goes to who asked
abbrev pub back_committed : ForkWord → Side → Option ForkWord
back_committed w me =
    cond w.asked (hand_over_of (record w { dirty = true }) me)
    (Some (record w { dirty = true; pinned = false }))

-- and without one: a dirty fork goes to who asked, one that was taken for nothing goes back
-- dirty, and any other stays
abbrev pub back_failed : ForkWord → Side → Why → Option ForkWord
back_failed w me why =
    cond (w.dirty && w.asked) (hand_over_of w me)
    (cond (why.taken && not why.evidence) (Some (sent_to (opposite me) true))
    (Some (record w { pinned = false })))

abbrev pub back_of : ForkWord → Side → Why → Option ForkWord
back_of w me why =
    cond (same_side w.side me && w.pinned)
    (cond why.committed (back_committed w me) (back_failed w me why))
    None
