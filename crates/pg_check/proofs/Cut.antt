-- A report as a text, and its lines.
use Rattle.std.proofs.Common.{◌≡◌, ℕ, Bool, true, ◌==◌, cond, List, [], ◌∷◌, ◌++◌, map, All, refl, sym, ◌∙◌, ap, codes, append_assoc}
use Rattle.std.specs.List.{flat_map}
use Rattle.std.specs.Prelude.{◌≢◌, Option, Some, None, slice_index}
use Rattle.std.proofs.lemmas.Bool.{cases_Bool, ne_eqb, eqb-true}
use Rattle.std.proofs.Common.{inl, inr}
use Rattle.std.proofs.lemmas.Grind.{flat_map-append}
use Rattle.std.proofs.lemmas.List.Concat.{flat_map-cons}
use Rattle.pg_journal.specs.Entry.{entry_line}
use Rattle.std.proofs.lemmas.List.{append-nil}
use Rattle.std.proofs.lemmas.List.Elements.{All-head, All-tail}
use Rattle.std.proofs.lemmas.List.Folds.{flat_map-map}
use Rattle.pg_graph.specs.Multigraph.{Multigraph, vertices}
use Rattle.pg_input.specs.Texts.{TextLine, text_line, lines, onto_first}
use Rattle.pg_law.specs.declared.values.JournalEntry.{JournalEntry}
use Rattle.pg_law.specs.Configuration.{Configuration, datum_in, message_in}
use Rattle.pg_report.specs.Lines.{line_text, IsLine}
use Rattle.pg_report.specs.Report.{ended, journal_text, values_text, value_line, signals_text, signal_at, message_text, tail_text, counts_line}
use Rattle.pg_report.specs.declared.line.LastLine.{LastLine}
use Rattle.pg_report.specs.declared.line.ReportLine.{ReportLine}
use Rattle.pg_report.specs.declared.line.ReportLine.TheVariants as line
use Rattle.pg_report.proofs.Entries.{entry_is_line}
use Rattle.pg_report.proofs.Feeds.{line_has_no_feed}
use Rattle.pg_words.specs.Programs.{is_wide}
use Rattle.pg_words.specs.declared.job.Engine.{Engine}
use Rattle.pg_words.specs.declared.job.ProgramName.{ProgramName}
use Rattle.pg_check.specs.Outcomes.{Outcome, engine_name, text_of}
use Rattle.pg_check.specs.Reports.{ReadLine, read_line, entry_row, value_lines, message_lines, signal_lines, tail_lines}
use Rattle.pg_check.specs.Right.{report_lines}

-- a line as it is read where its line feed stands
abbrev pub ended_line : ReportLine → ReadLine
ended_line expected = (line_text expected, true)

-- the bytes of lines as they stood
abbrev pub bytes_of : List ReadLine → List ℕ
bytes_of [] = []
bytes_of (line ∷ lines) = line.0 ++ (cond line.1 (codes "\n") [] ++ bytes_of lines)

-- a text is its lines again
onto_bytes : (byte : ℕ) (text : List ℕ) (all : List TextLine) → bytes_of (map read_line all) ≡ text → bytes_of (map read_line (onto_first byte all)) ≡ byte ∷ text
onto_bytes byte text [] is = ap (λ (rest : List ℕ). byte ∷ rest) is
onto_bytes byte text (line ∷ all) is = ap (λ (rest : List ℕ). byte ∷ rest) is

pub lines_again : (text : List ℕ) → bytes_of (map read_line (lines text)) ≡ text
lines_again [] = refl
lines_again (byte ∷ text) = elim (cases_Bool (byte == 10)) [
  | inl here ↦ rw here (ap (λ (rest : List ℕ). 10 ∷ rest) (lines_again text) ∙ ap (λ (b : ℕ). b ∷ text) (sym (eqb-true byte 10 here)))
  | inr not ↦ rw not (onto_bytes byte text (lines text) (lines_again text))
]

-- a line feed ends a line that has none within
lines_feed : (bytes rest : List ℕ) → All (λ byte. byte ≢ 10) bytes → lines (bytes ++ 10 ∷ rest) ≡ text_line bytes true rest ∷ lines rest
lines_feed [] rest free = refl
lines_feed (byte ∷ bytes) rest free =
    let first = ne_eqb byte 10 (All-head (λ b. b ≢ 10) byte bytes free) in
    rw first (ap (onto_first byte) (lines_feed bytes rest (All-tail (λ b. b ≢ 10) byte bytes free)))

-- lines that stand one behind another are cut again
pub cut_again : (all : List ReportLine) → All IsLine all → map read_line (lines (flat_map ended all)) ≡ map ended_line all
cut_again [] fit = refl
cut_again (expected ∷ all) fit =
    let text = line_text expected in
    let behind = flat_map ended all in
    ap (λ (bytes : List ℕ). map read_line (lines bytes)) (flat_map-cons ended expected all ∙ append_assoc text (codes "\n") behind)
    ∙ (ap (map read_line) (lines_feed text behind (line_has_no_feed expected (All-head IsLine expected all fit)))
    ∙ ap (λ (rest : List ReadLine). ended_line expected ∷ rest) (cut_again all (All-tail IsLine expected all fit)))

pub bytes_ended : (all : List ReportLine) → bytes_of (map ended_line all) ≡ flat_map ended all
bytes_ended [] = refl
bytes_ended (expected ∷ all) =
    ap (λ (rest : List ℕ). line_text expected ++ (codes "\n" ++ rest)) (bytes_ended all)
    ∙ (sym (append_assoc (line_text expected) (codes "\n") (flat_map ended all)) ∙ sym (flat_map-cons ended expected all))

module _ (g : Multigraph) (s : Configuration) where
  -- the parts of the report, as lines and as texts
  entries_text : (wide : Bool) (journal : List JournalEntry) → flat_map ended (map (entry_row wide g) journal) ≡ journal_text wide g journal
  entries_text wide [] = refl
  entries_text wide (entry ∷ journal) =
      flat_map-cons ended (entry_row wide g entry) (map (entry_row wide g) journal)
      ∙ (ap (λ (rest : List ℕ). ended (entry_row wide g entry) ++ rest) (entries_text wide journal)
      ∙ (ap (λ (first : List ℕ). first ++ journal_text wide g journal) (sym (entry_is_line g wide entry))
      ∙ sym (flat_map-cons (entry_line g wide) entry journal)))

  values_are : (wide : Bool) → flat_map ended (value_lines wide g s) ≡ values_text wide g s
  values_are wide = flat_map-map ended (λ v. value_line wide (slice_index g.ids v) (datum_in s.values v)) (vertices g)

  message_is : (id : ℕ) (message : Option ℕ) → flat_map ended (message_lines id message) ≡ message_text id message
  message_is id None = refl
  message_is id (Some message) = flat_map-cons ended (line.Signal id message) [] ∙ append-nil (ended (line.Signal id message))

  messages_are : (vs : List ℕ) → flat_map ended (flat_map (λ v. message_lines (slice_index g.ids v) (message_in s.messages v)) vs) ≡ flat_map (signal_at g s) vs
  messages_are [] = refl
  messages_are (v ∷ vs) =
      let lines_at : ℕ → List ReportLine = λ v. message_lines (slice_index g.ids v) (message_in s.messages v) in
      ap (flat_map ended) (flat_map-cons lines_at v vs)
      ∙ (flat_map-append ended (lines_at v) (flat_map lines_at vs)
      ∙ (ap (λ (first : List ℕ). first ++ flat_map ended (flat_map lines_at vs)) (message_is (slice_index g.ids v) (message_in s.messages v))
      ∙ (ap (λ (rest : List ℕ). signal_at g s v ++ rest) (messages_are vs)
      ∙ sym (flat_map-cons (signal_at g s) v vs))))

  tail_is : (name : ProgramName) (last : LastLine) → flat_map ended (tail_lines name g s last) ≡ tail_text name g s last
  tail_is name last =
      let values = value_lines (is_wide name) g s in
      let signals = signal_lines g s in
      flat_map-append ended values (signals ++ line.Last last ∷ [])
      ∙ (ap (λ (first : List ℕ). first ++ flat_map ended (signals ++ line.Last last ∷ [])) (values_are (is_wide name))
      ∙ ap (λ (rest : List ℕ). values_text (is_wide name) g s ++ rest)
      (flat_map-append ended signals (line.Last last ∷ [])
      ∙ (ap (λ (first : List ℕ). first ++ flat_map ended (line.Last last ∷ [])) (messages_are (vertices g))
      ∙ ap (λ (rest : List ℕ). signals_text g s ++ rest) (flat_map-cons ended (line.Last last) [] ∙ append-nil (ended (line.Last last))))))

-- the text of a report is its lines
pub text_is_lines : (name : ProgramName) (engine : Engine) (g : Multigraph) (outcome : Outcome)
    → flat_map ended (report_lines name engine g outcome) ≡ text_of name engine g outcome
text_is_lines name engine g outcome =
    let head = line.Head (engine_name engine) name in
    let counts = counts_line g in
    let entries = map (entry_row (is_wide name) g) outcome.journal in
    let tail = tail_lines name g outcome.state outcome.last in
    flat_map-cons ended head (counts ∷ entries ++ tail)
    ∙ (ap (λ (rest : List ℕ). ended head ++ rest) (flat_map-cons ended counts (entries ++ tail))
    ∙ (sym (append_assoc (ended head) (ended counts) (flat_map ended (entries ++ tail)))
    ∙ ap (λ (rest : List ℕ). (ended head ++ ended counts) ++ rest)
    (flat_map-append ended entries tail
    ∙ (ap (λ (first : List ℕ). first ++ flat_map ended tail) (entries_text g outcome.state (is_wide name) outcome.journal)
    ∙ ap (λ (rest : List ℕ). journal_text (is_wide name) g outcome.journal ++ rest) (tail_is g outcome.state name outcome.last)))))
