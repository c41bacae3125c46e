use Rattle.std.proofs.Common.{◌≡◌, ◌∙◌, ap}
use Rattle.std.specs.Prelude.{None}
use Rattle.std.specs.Io.KnownBytes.{append_known}
use Rattle.std.proofs.lemmas.Result.{err_from_is_err_and}
use Rattle.pg_input.specs.Reading.{IsGraphOfText, first_event}
use Rattle.pg_main.specs.Jobs.{IsDivided, IsDividedInPart}
use Rattle.pg_main.proofs.Dividing.{text_by, front_by}
use Rattle.pg_main.proofs.Reports.{if_both}
use Rattle.pg_report.proofs.Sending.{whole_front}
use Rattle.pg_main.proofs.cut_job.cut_job.Goals as goal

pub returns-clause-divided : goal.returns-clause-divided
returns-clause-divided g c =
    let graph = c.in_ok-graph.graph in
    let read = c.in_ok-graph.ensures in
    let made = c.in_ok-made.made in
    let job = c.args.job in
    let limits = c.args.limits in
    let before = g.K.Sink.written c.args.out.now in
    let after = g.K.Sink.written c.finish.new.self in
    if_both {P = λ text. first_event job.format limits text ≡ None} {Q = λ text. IsGraphOfText job.format limits text graph}
    {R = λ text. IsDivided limits before after job text}
    (g.S.Source.left c.args.input.now) (λ text accepted graph_of. record {
      graph = graph;
      accepted = accepted;
      graph_of = graph_of;
      appended = c.finish.ensures.kept ∙ c.in_ok-write_cut.ensures.whole ∙ ap (append_known before) (text_by job graph made.cut made.cases c.in_ok-made.ensures.value c.in_ok-made.ensures.cases);
    }) read.accepted read.graph

pub returns-in_err-write_cut-clause-front : goal.returns-in_err-write_cut-clause-front
returns-in_err-write_cut-clause-front g c =
    let p = err_from_is_err_and c.from_residual-in_err-write_cut.result c.from_residual-in_err-write_cut.ensures.1 in
    let graph = c.in_ok-graph.graph in
    let read = c.in_ok-graph.ensures in
    let made = c.in_ok-made.made in
    let job = c.args.job in
    let limits = c.args.limits in
    let before = g.K.Sink.written c.args.out.now in
    let after = g.K.Sink.written c.write_cut.new.out in
    rw p.1 (λ is. if_both {P = λ text. first_event job.format limits text ≡ None} {Q = λ text. IsGraphOfText job.format limits text graph}
    {R = λ text. IsDividedInPart limits before after job text}
    (g.S.Source.left c.args.input.now) (λ text accepted graph_of. record {
      graph = graph;
      accepted = accepted;
      graph_of = graph_of;
      front = front_by job graph made.cut made.cases c.in_ok-made.ensures.value c.in_ok-made.ensures.cases c.in_err-write_cut.ensures.front;
    }) read.accepted read.graph)

pub returns-in_err-finish-clause-front : goal.returns-in_err-finish-clause-front
returns-in_err-finish-clause-front g c =
    let graph = c.in_ok-graph.graph in
    let read = c.in_ok-graph.ensures in
    let made = c.in_ok-made.made in
    let job = c.args.job in
    let limits = c.args.limits in
    let before = g.K.Sink.written c.args.out.now in
    let after = g.K.Sink.written c.finish.new.self in
    λ is. if_both {P = λ text. first_event job.format limits text ≡ None} {Q = λ text. IsGraphOfText job.format limits text graph}
    {R = λ text. IsDividedInPart limits before after job text}
    (g.S.Source.left c.args.input.now) (λ text accepted graph_of. record {
      graph = graph;
      accepted = accepted;
      graph_of = graph_of;
      front = front_by job graph made.cut made.cases c.in_ok-made.ensures.value c.in_ok-made.ensures.cases (whole_front (c.finish.ensures.kept ∙ c.in_ok-write_cut.ensures.whole));
    }) read.accepted read.graph
