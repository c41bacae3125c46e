-- What the vertices receive of all that is sent.
use Rattle.std.specs.Prelude.{◌≡◌, ℕ, ◌<◌, ◌==◌, Bool, true, cond, Option, List, [], All, length, slice_index_or, map, fold}
use Rattle.pg_law.specs.Program.{Program}
use Rattle.pg_law.specs.Laws.{IsOptional}
use Rattle.pg_law.specs.Configuration.{message_in}
use Rattle.pg_law.specs.Round.{join}
use Rattle.pg_delta.specs.declared.cell.CacheCell.{CacheCell}
use Rattle.pg_delta.specs.Cell.{IsCell, cleared, posted}
use Rattle.pg_apply_scatter.specs.declared.sent.Sent.{Sent}
use Rattle.pg_apply_scatter.specs.Sending.{IsSentIn, signals_in}

abbrev pub cell_in : {A : Type 0} → List (CacheCell A) → ℕ → CacheCell A
cell_in cells v = slice_index_or cells v cleared

module _ {Acc Carry : Type 0} (p : Program Acc Carry) where
  -- a vertex's message with a signal, and its cell with a delta, where they are sent to it
  abbrev pub with_signal : ℕ → Option ℕ → Sent Acc → Option ℕ
  with_signal v message sent = cond (sent.to == v) (join p.combine message sent.signal) message

  abbrev pub with_delta : ℕ → CacheCell Acc → Sent Acc → CacheCell Acc
  with_delta v cell sent = cond (sent.to == v) (posted p.sum cell sent.delta) cell

  -- the same for all that stands in a list, and in several lists, one after another
  abbrev pub signals_of : ℕ → Option ℕ → List (Sent Acc) → Option ℕ
  signals_of v message list = fold (with_signal v) message list

  abbrev pub deltas_of : ℕ → CacheCell Acc → List (Sent Acc) → CacheCell Acc
  deltas_of v cell list = fold (with_delta v) cell list

  abbrev pub message_from : ℕ → Option ℕ → List (List (Sent Acc)) → Option ℕ
  message_from v message lists = fold (signals_of v) message lists

  abbrev pub cell_from : ℕ → CacheCell Acc → List (List (Sent Acc)) → CacheCell Acc
  cell_from v cell lists = fold (deltas_of v) cell lists

  -- the messages that come of all that is sent come of its signals alone
  abbrev pub SignalsAreEnough : Type 0
  SignalsAreEnough = (v : ℕ) (message : Option ℕ) (lists : List (List (Sent Acc)))
      → message_from v message (map signals_in lists) ≡ message_from v message lists

  -- two lists deliver the same where every vertex comes to the same message by the one and by the
  -- other, whatever message of the program it had before, or none
  abbrev pub DeliverTheSame : List (Sent Acc) → List (Sent Acc) → Type 0
  DeliverTheSame list other = (v : ℕ) (message : Option ℕ) → IsOptional p.IsMessage message
      → signals_of v message list ≡ signals_of v message other

  -- the same for several lists, one after another
  abbrev pub AllDeliverTheSame : List (List (Sent Acc)) → List (List (Sent Acc)) → Type 0
  AllDeliverTheSame lists others = (v : ℕ) (message : Option ℕ) → IsOptional p.IsMessage message
      → message_from v message lists ≡ message_from v message others

  -- lists that deliver the same worker by worker deliver the same all together
  abbrev pub EqualSignalsDeliverEqually : Type 0
  EqualSignalsDeliverEqually = (count : ℕ) (lists others : List (List (Sent Acc)))
      → All (All (IsSentIn p count)) lists → length lists ≡ length others
      → ((w : ℕ) → w < length lists → DeliverTheSame (slice_index_or lists w []) (slice_index_or others w []))
      → AllDeliverTheSame lists others

  -- a list stands for all that is sent: with the deltas it is that list, and for the signals alone it
  -- delivers the same
  pub record StandsFor (with_deltas : Bool) (list sent : List (Sent Acc)) : Type 0 where
    pub whole : with_deltas ≡ true → list ≡ sent
    pub signals : DeliverTheSame list sent

  -- each message is combined with the signals for its vertex
  abbrev pub AreCombined : List (List (Sent Acc)) → List (Option ℕ) → List (Option ℕ) → Type 0
  AreCombined lists old new = (v : ℕ) → v < length old → message_in new v ≡ message_from v (message_in old v) lists

  -- each cell has the deltas for its vertex posted
  abbrev pub ArePosted : List (List (Sent Acc)) → List (CacheCell Acc) → List (CacheCell Acc) → Type 0
  ArePosted lists old new = (v : ℕ) → v < length old → cell_in new v ≡ cell_from v (cell_in old v) lists

  -- all are the program's
  abbrev pub AreMessagesOf : List (Option ℕ) → Type 0
  AreMessagesOf messages = (v : ℕ) → v < length messages → IsOptional p.IsMessage (message_in messages v)

  abbrev pub AreCellsOf : List (CacheCell Acc) → Type 0
  AreCellsOf cells = (v : ℕ) → v < length cells → IsCell p (cell_in cells v)
