use Rattle.std.proofs.Common.{refl}
use Rattle.pg_meals.proofs.Chosen.{chosen, refused, untold}
use Rattle.pg_meals.proofs.board.Board.step.Goals as goal

pub returns-in-Claim-clause-acts : goal.returns-in-Claim-clause-acts
returns-in-Claim-clause-acts g c = chosen c.args.graph.now c.args.self.now c.claim.new.self c.args.actor c.args.act _ c.in-Claim.is c.claim.result c.moved.result c.claim.ensures.acts c.moved.ensures

pub returns-in-Claim-clause-refused : goal.returns-in-Claim-clause-refused
returns-in-Claim-clause-refused g c = refused c.args.graph.now c.args.self.now c.claim.new.self c.args.actor c.args.act _ c.in-Claim.is c.claim.result c.moved.result (λ n h. c.claim.ensures.refused n) c.moved.ensures

pub returns-in-Drop-clause-acts : goal.returns-in-Drop-clause-acts
returns-in-Drop-clause-acts g c = chosen c.args.graph.now c.args.self.now c.drop_vertex.new.self c.args.actor c.args.act _ c.in-Drop.is c.drop_vertex.result c.moved-in-Drop.result c.drop_vertex.ensures.acts c.moved-in-Drop.ensures

pub returns-in-Drop-clause-refused : goal.returns-in-Drop-clause-refused
returns-in-Drop-clause-refused g c = refused c.args.graph.now c.args.self.now c.drop_vertex.new.self c.args.actor c.args.act _ c.in-Drop.is c.drop_vertex.result c.moved-in-Drop.result (λ n h. c.drop_vertex.ensures.refused n) c.moved-in-Drop.ensures

pub returns-in-Pin-clause-acts : goal.returns-in-Pin-clause-acts
returns-in-Pin-clause-acts g c = chosen c.args.graph.now c.args.self.now c.pin.new.self c.args.actor c.args.act _ c.in-Pin.is c.pin.result c.moved-in-Pin.result c.pin.ensures.acts c.moved-in-Pin.ensures

pub returns-in-Pin-clause-refused : goal.returns-in-Pin-clause-refused
returns-in-Pin-clause-refused g c = refused c.args.graph.now c.args.self.now c.pin.new.self c.args.actor c.args.act _ c.in-Pin.is c.pin.result c.moved-in-Pin.result (λ n h. c.pin.ensures.refused n) c.moved-in-Pin.ensures

pub returns-in-Ask-clause-acts : goal.returns-in-Ask-clause-acts
returns-in-Ask-clause-acts g c = chosen c.args.graph.now c.args.self.now c.ask.new.self c.args.actor c.args.act _ c.in-Ask.is c.ask.result c.moved-in-Ask.result c.ask.ensures.acts c.moved-in-Ask.ensures

pub returns-in-Ask-clause-refused : goal.returns-in-Ask-clause-refused
returns-in-Ask-clause-refused g c = refused c.args.graph.now c.args.self.now c.ask.new.self c.args.actor c.args.act _ c.in-Ask.is c.ask.result c.moved-in-Ask.result (λ n h. c.ask.ensures.refused n) c.moved-in-Ask.ensures

pub returns-in-Back-clause-acts : goal.returns-in-Back-clause-acts
returns-in-Back-clause-acts g c = chosen c.args.graph.now c.args.self.now c.back.new.self c.args.actor c.args.act _ c.in-Back.is c.back.result c.moved-in-Back.result c.back.ensures.acts c.moved-in-Back.ensures

pub returns-in-Back-clause-refused : goal.returns-in-Back-clause-refused
returns-in-Back-clause-refused g c = refused c.args.graph.now c.args.self.now c.back.new.self c.args.actor c.args.act _ c.in-Back.is c.back.result c.moved-in-Back.result (λ n h. c.back.ensures.refused n) c.moved-in-Back.ensures

pub returns-in-Turn-clause-acts : goal.returns-in-Turn-clause-acts
returns-in-Turn-clause-acts g c = chosen c.args.graph.now c.args.self.now c.take_turn.new.self c.args.actor c.args.act _ c.in-Turn.is c.take_turn.result c.moved-in-Turn.result c.take_turn.ensures.acts c.moved-in-Turn.ensures

pub returns-in-Turn-clause-refused : goal.returns-in-Turn-clause-refused
returns-in-Turn-clause-refused g c = refused c.args.graph.now c.args.self.now c.take_turn.new.self c.args.actor c.args.act _ c.in-Turn.is c.take_turn.result c.moved-in-Turn.result (λ n h. c.take_turn.ensures.refused n) c.moved-in-Turn.ensures

pub returns-in-Give-clause-acts : goal.returns-in-Give-clause-acts
returns-in-Give-clause-acts g c = chosen c.args.graph.now c.args.self.now c.give.new.self c.args.actor c.args.act _ c.in-Give.is c.give.result c.moved-in-Give.result c.give.ensures.acts c.moved-in-Give.ensures

pub returns-in-Give-clause-refused : goal.returns-in-Give-clause-refused
returns-in-Give-clause-refused g c = refused c.args.graph.now c.args.self.now c.give.new.self c.args.actor c.args.act _ c.in-Give.is c.give.result c.moved-in-Give.result (λ n h. c.give.ensures.refused n) c.moved-in-Give.ensures

pub returns-in-WriteMirror-clause-acts : goal.returns-in-WriteMirror-clause-acts
returns-in-WriteMirror-clause-acts g c = chosen c.args.graph.now c.args.self.now c.write_mirror.new.self c.args.actor c.args.act _ c.in-WriteMirror.is c.write_mirror.result c.moved-in-WriteMirror.result c.write_mirror.ensures.acts c.moved-in-WriteMirror.ensures

pub returns-in-WriteMirror-clause-refused : goal.returns-in-WriteMirror-clause-refused
returns-in-WriteMirror-clause-refused g c = refused c.args.graph.now c.args.self.now c.write_mirror.new.self c.args.actor c.args.act _ c.in-WriteMirror.is c.write_mirror.result c.moved-in-WriteMirror.result c.write_mirror.ensures.refused c.moved-in-WriteMirror.ensures

pub returns-in-None-clause-refused : goal.returns-in-None-clause-refused
returns-in-None-clause-refused g c = λ n. untold c.args.graph.now c.args.self.now c.look.new.self c.args.actor c.args.act _ c.in-Look.is (λ h. c.in-None.ensures.refused refl)

pub returns-in-None-read_mirror-clause-refused : goal.returns-in-None-read_mirror-clause-refused
returns-in-None-read_mirror-clause-refused g c = λ n. untold c.args.graph.now c.args.self.now c.read_mirror.new.self c.args.actor c.args.act _ c.in-ReadMirror.is (c.in-None-read_mirror.ensures.refused refl)

pub returns-in-None-commit-clause-refused : goal.returns-in-None-commit-clause-refused
returns-in-None-commit-clause-refused g c = λ n. untold c.args.graph.now c.args.self.now c.commit.new.self c.args.actor c.args.act _ c.in-Commit.is (λ h. c.in-None-commit.ensures.refused refl)
