use Rattle.std.proofs.Common.{◌≡◌, ◌∙◌, ◌⊎◌, inr}
use Rattle.std.specs.Prelude.{None}
use Rattle.std.proofs.lemmas.Result.{err_from_is_err_and}
use Rattle.pg_input.specs.Reading.{IsGraphOfText, first_event}
use Rattle.pg_main.specs.Jobs.{IsReported, IsReportedInPart, IsMeant}
use Rattle.pg_main.proofs.Reports.{if_both}
use Rattle.pg_report.proofs.Sending.{whole_front}
use Rattle.pg_main.proofs.job.run_job.Goals as goal

pub returns-clause-reported : goal.returns-clause-reported
returns-clause-reported g c =
    let graph = c.in_ok-graph.graph in
    let read = c.in_ok-graph.ensures in
    let job = c.args.job in
    let limits = c.args.limits in
    let before = g.K.Sink.written c.args.out.now in
    let after = g.K.Sink.written c.finish.new.self in
    if_both {P = λ text. first_event job.format limits text ≡ None} {Q = λ text. IsGraphOfText job.format limits text graph}
    {R = λ text. IsReported limits before after c.args.steps.now c.report_named.new.steps c.in_ok-end.end job text}
    (g.S.Source.left c.args.input.now) (λ text accepted graph_of. record {
      graph = graph;
      accepted = accepted;
      graph_of = graph_of;
      source = c.in_ok-find_source.ensures.there;
      journal = c.in_ok-end.ensures.journal;
      is_journal = c.in_ok-end.ensures.is_journal;
      ended = c.in_ok-end.ensures.end;
      appended = c.finish.ensures.kept ∙ c.in_ok-end.ensures.whole;
      counted = c.in_ok-end.ensures.counted;
    }) read.accepted read.graph

pub returns-clause-meant : goal.returns-clause-meant
returns-clause-meant g c =
    let graph = c.in_ok-graph.graph in
    let read = c.in_ok-graph.ensures in
    let job = c.args.job in
    let limits = c.args.limits in
    let before = g.K.Sink.written c.args.out.now in
    let after = g.K.Sink.written c.finish.new.self in
    λ quiescent. if_both {P = λ text. first_event job.format limits text ≡ None} {Q = λ text. IsGraphOfText job.format limits text graph}
    {R = λ text. IsMeant limits before after job text}
    (g.S.Source.left c.args.input.now) (λ text accepted graph_of. record {
      graph = graph;
      graph_of = graph_of;
      journal = c.in_ok-end.ensures.journal;
      is_journal = c.in_ok-end.ensures.is_journal;
      appended = c.finish.ensures.kept ∙ c.in_ok-end.ensures.whole;
      meaning = c.what_quiescence_means.ensures job graph c.in_ok-end.ensures.journal c.vertices.ensures.graph (c.in_ok-end.ensures.end ∙ quiescent);
    }) read.accepted read.graph

pub returns-in_err-end-clause-front : goal.returns-in_err-end-clause-front
returns-in_err-end-clause-front g c =
    let p = err_from_is_err_and c.from_residual-in_err-end.result c.from_residual-in_err-end.ensures.1 in
    let graph = c.in_ok-graph.graph in
    let read = c.in_ok-graph.ensures in
    let job = c.args.job in
    let limits = c.args.limits in
    let before = g.K.Sink.written c.args.out.now in
    let after = g.K.Sink.written c.report_named.new.out in
    rw p.1 (λ is. if_both {P = λ text. first_event job.format limits text ≡ None} {Q = λ text. IsGraphOfText job.format limits text graph}
    {R = λ text. IsReportedInPart limits before after job text}
    (g.S.Source.left c.args.input.now) (λ text accepted graph_of. record {
      graph = graph;
      accepted = accepted;
      graph_of = graph_of;
      source = c.in_ok-find_source.ensures.there;
      journal = c.in_err-end.ensures.journal;
      is_journal = c.in_err-end.ensures.is_journal;
      front = c.in_err-end.ensures.front;
    }) read.accepted read.graph)

pub returns-in_err-end-clause-memory : goal.returns-in_err-end-clause-memory
returns-in_err-end-clause-memory g c =
    let p = err_from_is_err_and c.from_residual-in_err-end.result c.from_residual-in_err-end.ensures.1 in
    let graph = c.in_ok-graph.graph in
    let read = c.in_ok-graph.ensures in
    let job = c.args.job in
    let limits = c.args.limits in
    let before = g.K.Sink.written c.args.out.now in
    let after = g.K.Sink.written c.report_named.new.out in
    rw p.1 (λ is. if_both {P = λ text. first_event job.format limits text ≡ None} {Q = λ text. IsGraphOfText job.format limits text graph}
    {R = λ text. (after ≡ before) ⊎ IsReportedInPart limits before after job text}
    (g.S.Source.left c.args.input.now) (λ text accepted graph_of. inr (record {
      graph = graph;
      accepted = accepted;
      graph_of = graph_of;
      source = c.in_ok-find_source.ensures.there;
      journal = c.in_err-end.ensures.journal;
      is_journal = c.in_err-end.ensures.is_journal;
      front = c.in_err-end.ensures.front;
    })) read.accepted read.graph)

pub returns-in_err-finish-clause-front : goal.returns-in_err-finish-clause-front
returns-in_err-finish-clause-front g c =
    let graph = c.in_ok-graph.graph in
    let read = c.in_ok-graph.ensures in
    let job = c.args.job in
    let limits = c.args.limits in
    let before = g.K.Sink.written c.args.out.now in
    let after = g.K.Sink.written c.finish.new.self in
    λ is. if_both {P = λ text. first_event job.format limits text ≡ None} {Q = λ text. IsGraphOfText job.format limits text graph}
    {R = λ text. IsReportedInPart limits before after job text}
    (g.S.Source.left c.args.input.now) (λ text accepted graph_of. record {
      graph = graph;
      accepted = accepted;
      graph_of = graph_of;
      source = c.in_ok-find_source.ensures.there;
      journal = c.in_ok-end.ensures.journal;
      is_journal = c.in_ok-end.ensures.is_journal;
      front = whole_front (c.finish.ensures.kept ∙ c.in_ok-end.ensures.whole);
    }) read.accepted read.graph
