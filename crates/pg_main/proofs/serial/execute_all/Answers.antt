use Rattle.std.proofs.Common.{subst}
use Rattle.std.specs.Prelude.{OnErr}
use Rattle.std.specs.List.{flat_map}
use Rattle.pg_base.specs.Writing.{SendsFront}
use Rattle.pg_law.specs.Configuration.{Configuration}
use Rattle.pg_journal.specs.Entry.{entry_line}
use Rattle.pg_serial.specs.Serial.{serial_journal}
use Rattle.pg_main.proofs.serial.execute_all.Goals as goal

pub returns-clause-front : goal.returns-clause-front
returns-clause-front g c = let p = g.P.VertexProgram.meaning c.args.program.now in
    let Front : Configuration → Type 0 = λ s. OnErr c.run_serial-ended.result (SendsFront (g.K.Sink.written c.args.out.now) (g.K.Sink.written c.run_serial-ended.new.journal)
    (flat_map (entry_line c.args.graph.now c.args.wide) (serial_journal p c.args.graph.now s c.args.fuel))) in
    subst Front c.requires.start c.run_serial-ended.ensures.front
