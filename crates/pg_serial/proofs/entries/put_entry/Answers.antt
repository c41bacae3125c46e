use Rattle.pg_serial.proofs.Waiting.{front_longer, on_err}
use Rattle.pg_serial.proofs.entries.put_entry.Goals as goal

pub returns-in_err-make_room-clause-front : goal.returns-in_err-make_room-clause-front
returns-in_err-make_room-clause-front g c = on_err _ _ (front_longer _ _ _ _ c.in_err-make_room.ensures.front)

pub returns-in_err-extend_from_slice-clause-front : goal.returns-in_err-extend_from_slice-clause-front
returns-in_err-extend_from_slice-clause-front g c = on_err _ _ (front_longer _ _ _ _ (c.make_room.new.waiting.items, c.in_ok-make_room.ensures.sent))
