-- How a job ends where no call of the outside fails.
use Rattle.std.proofs.Common.{◌≡◌, ℕ, List, refl, sym, subst, ◌⊎◌, inl, inr}
use Rattle.std.specs.Prelude.{Result, Ok, Err, IfOk, OnOk, IsErrOf, Option, Some, None, IfSome}
use Rattle.pg_base.specs.declared.limits.Limits.{Limits}
use Rattle.pg_graph.specs.Multigraph.{Multigraph}
use Rattle.pg_input.specs.Reading.{IsGraphOfText, first_event}
use Rattle.pg_input.specs.declared.error.InputError.{InputError}
use Rattle.pg_input.specs.declared.error.InputError.TheVariants as input
use Rattle.pg_input.specs.Events.{IsEventOf}
use Rattle.pg_law.specs.declared.values.End.{End}
use Rattle.pg_law.specs.declared.values.End.TheVariants as run
use Rattle.pg_check.specs.declared.verdict.Verdict.{Verdict}
use Rattle.pg_check.specs.declared.verdict.Verdict.TheVariants as verdict
use Rattle.pg_main.specs.declared.refusal.Refusal.{Refusal}
use Rattle.pg_main.specs.declared.refusal.Refusal.TheVariants as job
use Rattle.pg_main.specs.declared.status.Status.{Status}
use Rattle.pg_main.specs.declared.status.Status.TheVariants.{NoVertex, Memory, Reported}
use Rattle.pg_words.specs.declared.job.CutJob.{CutJob}
use Rattle.pg_words.specs.declared.job.RunJob.{RunJob}
use Rattle.pg_main.specs.Checks.{event_before, IsGraphBefore, event_behind, verdict_on, IsJudged, IsConfirmed, IsAbsentBefore, IsEventBehind, IsEventOfCheck}
use Rattle.pg_main.specs.Jobs.{absent_source, IsAbsent, IsReported, IsDivided}
use Rattle.pg_main.specs.Statuses.{status_of_end, status_of_input, status_of_verdict, status_of_cut, settled, IsEnded, IsAnswerOn, IsAnswerBy, IsAnswer, IsCheckAnswerOn, IsCheckAnswer, IsCutAnswer}
use Rattle.pg_main.proofs.Settled.{if_some, if_any}

done_end : (end : End) → IsEnded (status_of_end end)
done_end run.Quiescent = inl refl
done_end run.Spent = inr refl

module _ (limits : Limits) (run : RunJob) where
  by_event : (event : Option InputError) (text : List ℕ) (s : Status) → event ≡ first_event run.format limits text → IsAnswerBy event (λ t. (graph : Multigraph) × IsGraphOfText run.format limits text graph × IsAnswerOn (absent_source run graph) t) s → IsAnswer limits s run text
  by_event event text s is p = let Q : Option InputError → Type 0 = λ o. IsAnswerBy o (λ t. (graph : Multigraph) × IsGraphOfText run.format limits text graph × IsAnswerOn (absent_source run graph) t) s in subst Q is p

  pub done_answer : (end : End) (text : List ℕ) (graph : Multigraph) → first_event run.format limits text ≡ None → IsGraphOfText run.format limits text graph → absent_source run graph ≡ None → IsAnswer limits (status_of_end end) run text
  done_answer end text graph accepted graph_of there = by_event None text (status_of_end end) (sym accepted) (inl (graph, graph_of, (let Q : Option ℕ → Type 0 = λ o. IsAnswerOn o (status_of_end end) in subst Q (sym there) (done_end end))))

  pub absent_answer : (id : ℕ) (text : List ℕ) → IsAbsent limits id run text → IsAnswer limits (NoVertex id) run text
  absent_answer id text p = by_event None text (NoVertex id) (sym p.accepted) (inl (p.graph, p.graph_of, (let Q : Option ℕ → Type 0 = λ o. IsAnswerOn o (NoVertex id) in subst Q (sym p.absent) refl)))

  event_answer : (e : InputError) (text : List ℕ) → first_event run.format limits text ≡ Some e → IsAnswer limits (status_of_input e) run text
  event_answer e text is = by_event (Some e) text (status_of_input e) (sym is) (inl refl)

  memory_answer : (text : List ℕ) → IsAnswer limits Memory run text
  memory_answer text = by_case (first_event run.format limits text) refl
    where
      by_case : (event : Option InputError) → event ≡ first_event run.format limits text → IsAnswer limits Memory run text
      by_case None is = by_event None text Memory is (inr refl)
      by_case (Some e) is = by_event (Some e) text Memory is (inr refl)

  -- the answer where nothing of the outside fails
  pub answered : {InputFails OutputFails : Type 0} (before after : Option (List ℕ)) (steps_before steps_after : List (Option ℕ)) (left : Option (List ℕ)) (j : Result End Refusal)
      → IfOk j (λ end. IfSome left (IsReported limits before after steps_before steps_after end run))
      → ((e : InputError) → IsErrOf j (job.Input e) → IfSome left (λ text. IsEventOf (first_event run.format limits text) e))
      → ((id : ℕ) → IsErrOf j (job.NoVertex id) → IfSome left (IsAbsent limits id run))
      → (IsErrOf j (job.Input input.ReadFault) → InputFails) → (IsErrOf j job.WriteFault → OutputFails)
      → (InputFails → ⊥) → (OutputFails → ⊥) → IfSome left (IsAnswer limits (settled status_of_end j) run)
  answered before after steps_before steps_after left (Ok end) reported unread absent read write reads writes = if_some left (λ text p. done_answer end text p.graph p.accepted p.graph_of p.source) reported
  answered before after steps_before steps_after left (Err (job.Input (input.Line n k))) reported unread absent read write reads writes =
      if_some {P = λ text. first_event run.format limits text ≡ Some (input.Line n k)} left (λ text is. event_answer (input.Line n k) text is) (unread (input.Line n k) refl)
  answered before after steps_before steps_after left (Err (job.Input (input.Limit w l))) reported unread absent read write reads writes =
      if_some {P = λ text. first_event run.format limits text ≡ Some (input.Limit w l)} left (λ text is. event_answer (input.Limit w l) text is) (unread (input.Limit w l) refl)
  answered before after steps_before steps_after left (Err (job.Input input.ReadFault)) reported unread absent read write reads writes = absurd (reads (read refl))
  answered before after steps_before steps_after left (Err (job.Input input.Memory)) reported unread absent read write reads writes = if_any left memory_answer
  answered before after steps_before steps_after left (Err (job.NoVertex id)) reported unread absent read write reads writes = if_some left (absent_answer id) (absent id refl)
  answered before after steps_before steps_after left (Err job.WriteFault) reported unread absent read write reads writes = absurd (writes (write refl))
  answered before after steps_before steps_after left (Err job.Memory) reported unread absent read write reads writes = if_any left memory_answer

module _ (limits : Limits) (run : RunJob) where
  by_event_before : (event : Option InputError) (text : List ℕ) (s : Status) → event ≡ event_before run.format limits text
      → IsAnswerBy event (λ t. (graph : Multigraph) × IsGraphBefore run.format limits text graph × IsCheckAnswerOn (absent_source run graph) (event_behind run limits graph text) (verdict_on run graph text) t) s
      → IsCheckAnswer limits s run text
  by_event_before event text s is p =
      let Q : Option InputError → Type 0 = λ o. IsAnswerBy o (λ t. (graph : Multigraph) × IsGraphBefore run.format limits text graph × IsCheckAnswerOn (absent_source run graph) (event_behind run limits graph text) (verdict_on run graph text) t) s in
      subst Q is p

  -- by the verdict, by an event of the report, or by a source that is absent
  judged_answer : (found : Verdict) (text : List ℕ) → IsJudged limits found run text → IsCheckAnswer limits (status_of_verdict found) run text
  judged_answer found text p =
      by_event_before None text (status_of_verdict found) (sym p.base.accepted) (inl (p.graph, p.base.graph_of, rw (p.base.source, p.within, p.judged) refl))

  behind_answer : (e : InputError) (text : List ℕ) → IsEventBehind limits e run text → IsCheckAnswer limits (status_of_input e) run text
  behind_answer e text p =
      by_event_before None text (status_of_input e) (sym p.base.accepted) (inl (p.graph, p.base.graph_of, rw (p.base.source, p.behind) refl))

  absent_before : (id : ℕ) (text : List ℕ) → IsAbsentBefore limits id run text → IsCheckAnswer limits (NoVertex id) run text
  absent_before id text p = by_event_before None text (NoVertex id) (sym p.accepted) (inl (p.graph, p.graph_of, rw p.absent refl))

  -- by an event of the text before the report
  event_answer_before : (e : InputError) (text : List ℕ) → event_before run.format limits text ≡ Some e → IsCheckAnswer limits (status_of_input e) run text
  event_answer_before e text is = by_event_before (Some e) text (status_of_input e) (sym is) (inl refl)

  memory_before : (text : List ℕ) → IsCheckAnswer limits Memory run text
  memory_before text = by_case (event_before run.format limits text) refl
    where
      by_case : (event : Option InputError) → event ≡ event_before run.format limits text → IsCheckAnswer limits Memory run text
      by_case None is = by_event_before None text Memory is (inr refl)
      by_case (Some e) is = by_event_before (Some e) text Memory is (inr refl)

  -- an event of either kind
  event_in_check : (e : InputError) (text : List ℕ) → (event_before run.format limits text ≡ Some e) ⊎ IsEventBehind limits e run text → IsCheckAnswer limits (status_of_input e) run text
  event_in_check e text (inl is) = event_answer_before e text is
  event_in_check e text (inr is) = behind_answer e text is

  -- a right report that was told was judged
  confirmed_judged : (before after : Option (List ℕ)) (steps_before steps_after : List (Option ℕ)) (text : List ℕ) → IsConfirmed limits before after steps_before steps_after run text
      → IsJudged limits verdict.Confirmed run text
  confirmed_judged before after steps_before steps_after text p = record { graph = p.graph; base = p.base; within = p.within; judged = p.judged }

  -- the answer of a check where nothing of the outside fails
  pub check_answered : {InputFails OutputFails : Type 0} (before after : Option (List ℕ)) (steps_before steps_after : List (Option ℕ)) (left : Option (List ℕ)) (j : Result Verdict Refusal)
      → (j ≡ Ok verdict.Confirmed → IfSome left (IsConfirmed limits before after steps_before steps_after run))
      → ((line : ℕ) → j ≡ Ok (verdict.Rejected line) → IfSome left (IsJudged limits (verdict.Rejected line) run))
      → ((e : InputError) → IsErrOf j (job.Input e) → IfSome left (IsEventOfCheck limits e run))
      → ((id : ℕ) → IsErrOf j (job.NoVertex id) → IfSome left (IsAbsentBefore limits id run))
      → (IsErrOf j (job.Input input.ReadFault) → InputFails) → (IsErrOf j job.WriteFault → OutputFails)
      → (InputFails → ⊥) → (OutputFails → ⊥) → IfSome left (IsCheckAnswer limits (settled status_of_verdict j) run)
  check_answered before after steps_before steps_after left (Ok verdict.Confirmed) confirmed rejected event absent read write reads writes =
      if_some {P = IsConfirmed limits before after steps_before steps_after run} left (λ text p. judged_answer verdict.Confirmed text (confirmed_judged before after steps_before steps_after text p)) (confirmed refl)
  check_answered before after steps_before steps_after left (Ok (verdict.Rejected line)) confirmed rejected event absent read write reads writes =
      if_some {P = IsJudged limits (verdict.Rejected line) run} left (λ text p. judged_answer (verdict.Rejected line) text p) (rejected line refl)
  check_answered before after steps_before steps_after left (Err (job.Input (input.Line n k))) confirmed rejected event absent read write reads writes =
      if_some {P = IsEventOfCheck limits (input.Line n k) run} left (λ text is. event_answer_before (input.Line n k) text is) (event (input.Line n k) refl)
  check_answered before after steps_before steps_after left (Err (job.Input (input.Limit w l))) confirmed rejected event absent read write reads writes =
      if_some {P = IsEventOfCheck limits (input.Limit w l) run} left (λ text is. event_in_check (input.Limit w l) text is) (event (input.Limit w l) refl)
  check_answered before after steps_before steps_after left (Err (job.Input input.ReadFault)) confirmed rejected event absent read write reads writes = absurd (reads (read refl))
  check_answered before after steps_before steps_after left (Err (job.Input input.Memory)) confirmed rejected event absent read write reads writes = if_any left memory_before
  check_answered before after steps_before steps_after left (Err (job.NoVertex id)) confirmed rejected event absent read write reads writes =
      if_some {P = IsAbsentBefore limits id run} left (absent_before id) (absent id refl)
  check_answered before after steps_before steps_after left (Err job.WriteFault) confirmed rejected event absent read write reads writes = absurd (writes (write refl))
  check_answered before after steps_before steps_after left (Err job.Memory) confirmed rejected event absent read write reads writes = if_any left memory_before

module _ (limits : Limits) (cut : CutJob) where
  by_first_event : (event : Option InputError) (text : List ℕ) (s : Status) → event ≡ first_event cut.format limits text → IsAnswerBy event (λ t. t ≡ Reported) s → IsCutAnswer limits s cut text
  by_first_event event text s is p = let Q : Option InputError → Type 0 = λ o. IsAnswerBy o (λ t. t ≡ Reported) s in subst Q is p

  told_answer : (before after : Option (List ℕ)) (text : List ℕ) → IsDivided limits before after cut text → IsCutAnswer limits Reported cut text
  told_answer before after text p = by_first_event None text Reported (sym p.accepted) (inl refl)

  unread_answer : (e : InputError) (text : List ℕ) → first_event cut.format limits text ≡ Some e → IsCutAnswer limits (status_of_input e) cut text
  unread_answer e text is = by_first_event (Some e) text (status_of_input e) (sym is) (inl refl)

  no_memory : (text : List ℕ) → IsCutAnswer limits Memory cut text
  no_memory text = by_case (first_event cut.format limits text) refl
    where
      by_case : (event : Option InputError) → event ≡ first_event cut.format limits text → IsCutAnswer limits Memory cut text
      by_case None is = by_first_event None text Memory is (inr refl)
      by_case (Some e) is = by_first_event (Some e) text Memory is (inr refl)

  -- the answer of a cut where nothing of the outside fails
  pub cut_answered : {InputFails OutputFails : Type 0} (before after : Option (List ℕ)) (left : Option (List ℕ)) (j : Result (Unit {0}) Refusal)
      → OnOk j (IfSome left (IsDivided limits before after cut))
      → ((e : InputError) → IsErrOf j (job.Input e) → IfSome left (λ text. IsEventOf (first_event cut.format limits text) e))
      → ((id : ℕ) → IsErrOf j (job.NoVertex id) → ⊥)
      → (IsErrOf j (job.Input input.ReadFault) → InputFails) → (IsErrOf j job.WriteFault → OutputFails)
      → (InputFails → ⊥) → (OutputFails → ⊥) → IfSome left (IsCutAnswer limits (settled status_of_cut j) cut)
  cut_answered before after left (Ok told) divided unread absent read write reads writes = if_some {P = IsDivided limits before after cut} left (told_answer before after) divided
  cut_answered before after left (Err (job.Input (input.Line n k))) divided unread absent read write reads writes =
      if_some {P = λ text. first_event cut.format limits text ≡ Some (input.Line n k)} left (λ text is. unread_answer (input.Line n k) text is) (unread (input.Line n k) refl)
  cut_answered before after left (Err (job.Input (input.Limit w l))) divided unread absent read write reads writes =
      if_some {P = λ text. first_event cut.format limits text ≡ Some (input.Limit w l)} left (λ text is. unread_answer (input.Limit w l) text is) (unread (input.Limit w l) refl)
  cut_answered before after left (Err (job.Input input.ReadFault)) divided unread absent read write reads writes = absurd (reads (read refl))
  cut_answered before after left (Err (job.Input input.Memory)) divided unread absent read write reads writes = if_any left no_memory
  cut_answered before after left (Err (job.NoVertex id)) divided unread absent read write reads writes = absurd (absent id refl)
  cut_answered before after left (Err job.WriteFault) divided unread absent read write reads writes = absurd (writes (write refl))
  cut_answered before after left (Err job.Memory) divided unread absent read write reads writes = if_any left no_memory
