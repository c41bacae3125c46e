use Rattle.std.proofs.Common.{◌≡◌, ℕ, false, List, get_or, sym, ◌∙◌, ap, Ok, Err}
use Rattle.std.specs.Prelude.{Result, IfOk}
use Rattle.pg_law.specs.Configuration.{Configuration, start_state}
use Rattle.pg_check.specs.Course.{full, replays_from, behind_counts}
use Rattle.pg_check.specs.Reports.{ReadLine}
use Rattle.pg_check.specs.Verdicts.{judges, counts_once}
use Rattle.pg_check.specs.declared.course.Course.{Course}
use Rattle.pg_words.specs.declared.job.Engine.TheVariants.{Serial, Virtual}
use Rattle.pg_check.proofs.Courses.{serial_full, virtual_full}
use Rattle.pg_check.proofs.begin.begin.Goals as goal

-- two facts of what was begun give a third
begun : {E : Type 0} (result : Result Course E) (P Q R : Course → Type 0) → IfOk result P → IfOk result Q → ((course : Course) → P course → Q course → R course) → IfOk result R
begun (Ok course) P Q R p q both = both course p q
begun (Err e) P Q R p q both = tt

pub returns-in-Serial-clause-judge : goal.returns-in-Serial-clause-judge
returns-in-Serial-clause-judge g c =
    let p = g.P.VertexProgram.meaning c.args.program.now in
    let name = c.args.job.now.program in
    let graph = c.args.graph.now in
    let kept = counts_once c.args.job.now in
    rw c.in-Serial.is (begun c.begin_journal.result (λ course. course.state ≡ start_state p graph) (λ course. (v : ℕ) → get_or course.noted.items v false ≡ false)
    (λ course. (number : ℕ) (lines : List ReadLine) → judges p name graph (Serial c.in-Serial.fuel) kept number lines ≡ behind_counts p name graph (Serial c.in-Serial.fuel) kept course number lines)
    c.begin_journal.ensures.state c.begin_journal.ensures.blank
    (λ course start blank number lines. serial_full p name graph kept course.noted.items blank c.in-Serial.fuel number lines
    ∙ ap (λ (s : Configuration). replays_from p name graph kept course.noted.items s (full c.in-Serial.fuel) number lines) (sym start)))

pub returns-in-Virtual-clause-judge : goal.returns-in-Virtual-clause-judge
returns-in-Virtual-clause-judge g c =
    let p = g.P.VertexProgram.meaning c.args.program.now in
    let name = c.args.job.now.program in
    let graph = c.args.graph.now in
    let kept = counts_once c.args.job.now in
    let fuel = c.in-Virtual.fuel in
    let seed = c.in-Virtual.seed in
    rw c.in-Virtual.is (begun c.begin_journal-in-Virtual.result (λ course. course.state ≡ start_state p graph) (λ course. (v : ℕ) → get_or course.noted.items v false ≡ false)
    (λ course. (number : ℕ) (lines : List ReadLine) → judges p name graph (Virtual fuel seed) kept number lines ≡ behind_counts p name graph (Virtual fuel seed) kept course number lines)
    c.begin_journal-in-Virtual.ensures.state c.begin_journal-in-Virtual.ensures.blank
    (λ course start blank number lines. virtual_full p name graph kept course.noted.items blank fuel seed number lines
    ∙ ap (λ (s : Configuration). replays_from p name graph kept course.noted.items s (full fuel) number lines) (sym start)))
