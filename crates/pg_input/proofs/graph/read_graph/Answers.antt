use Rattle.pg_input.proofs.TextLemmas.{all_read}
use Rattle.pg_input.proofs.graph.read_graph.Goals as goal

pub returns-clause-end : goal.returns-clause-end
returns-clause-end g c =
    all_read c.in_ok-cutter.cutter.held (g.S.Source.left c.args.source.now) c.in_ok-cutter.ensures.held c.read_lines.new.cutter.held (g.S.Source.left c.read_lines.new.source)
    c.in_ok-read.ensures.behind
