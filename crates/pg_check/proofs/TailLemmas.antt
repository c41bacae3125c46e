-- The lines behind a journal, one after another.
use Rattle.std.proofs.Common.{◌≡◌, ℕ, ◌+◌, ◌<◌, List, [], ◌∷◌, ◌++◌, length, drop, get_or, slice_index, ◌∙◌, ap, arith, append_assoc}
use Rattle.std.specs.List.{flat_map, range_with_len}
use Rattle.std.proofs.lemmas.List.{at_drop_more, at_drop_all, length-map}
use Rattle.std.proofs.lemmas.List.FromFn.{length-range_with_len, get_or-range_with_len, get_or-map-range_with_len}
use Rattle.pg_graph.specs.Multigraph.{Multigraph, vertices}
use Rattle.pg_law.specs.Configuration.{Configuration, datum_in, message_in}
use Rattle.pg_report.specs.Report.{value_line}
use Rattle.pg_report.specs.declared.line.LastLine.{LastLine}
use Rattle.pg_report.specs.declared.line.ReportLine.{ReportLine}
use Rattle.pg_report.specs.declared.line.ReportLine.TheVariants as line
use Rattle.pg_words.specs.declared.job.ProgramName.{ProgramName}
use Rattle.pg_words.specs.Programs.{is_wide}
use Rattle.pg_check.specs.Reports.{value_lines, message_lines}
use Rattle.pg_check.specs.Course.{signals_from, values_from}

-- what stands for the numbers from v on
numbers_more : {A : Type 0} (f : ℕ → List A) (n v : ℕ) → v < n
    → flat_map f (drop v (range_with_len 0 n)) ≡ f v ++ flat_map f (drop (v + 1) (range_with_len 0 n))
numbers_more f n v inside =
    at_drop_more (flat_map f) (range_with_len 0 n) v 0 (omega (arith, length-range_with_len 0 n))
    ∙ ap (λ (u : ℕ). f u ++ flat_map f (drop (v + 1) (range_with_len 0 n)))
    (let e : get_or (range_with_len 0 n) v 0 ≡ v = omega (arith, get_or-range_with_len 0 n v 0 inside) in e)

numbers_end : {A : Type 0} (f : ℕ → List A) (n v : ℕ) → n ≡ v → flat_map f (drop v (range_with_len 0 n)) ≡ []
numbers_end f n v all = at_drop_all (flat_map f) (range_with_len 0 n) v (omega (arith, all, length-range_with_len 0 n))

module _ (g : Multigraph) (s : Configuration) (last : LastLine) where
  abbrev messages_at : ℕ → List ReportLine
  messages_at u = message_lines (slice_index g.ids u) (message_in s.messages u)

  -- the signals from a vertex on are its own, where it has one, and those behind it
  pub signals_more : (v : ℕ) → v < length g.ids
      → signals_from g s last v
      ≡ message_lines (slice_index g.ids v) (message_in s.messages v) ++ signals_from g s last (v + 1)
  signals_more v inside =
      ap (λ (lines : List ReportLine). lines ++ line.Last last ∷ []) (numbers_more messages_at (length g.ids) v inside)
      ∙ append_assoc (messages_at v) (flat_map messages_at (drop (v + 1) (vertices g))) (line.Last last ∷ [])

  pub signals_end : (v : ℕ) → length g.ids ≡ v → signals_from g s last v ≡ line.Last last ∷ []
  signals_end v all =
      ap (λ (lines : List ReportLine). lines ++ line.Last last ∷ []) (numbers_end messages_at (length g.ids) v all)

  module _ (name : ProgramName) where
    abbrev value_at : ℕ → ReportLine
    value_at v = value_line (is_wide name) (slice_index g.ids v) (datum_in s.values v)

    -- and so the values
    pub values_more : (v : ℕ) → v < length g.ids
        → values_from name g s last v
        ≡ value_line (is_wide name) (slice_index g.ids v) (datum_in s.values v) ∷ values_from name g s last (v + 1)
    values_more v inside =
        let rest = drop (v + 1) (value_lines (is_wide name) g s) ++ signals_from g s last 0 in
        at_drop_more (λ (lines : List ReportLine). lines ++ signals_from g s last 0) (value_lines (is_wide name) g s) v (line.Last last)
        (omega (arith, length-map (vertices g) value_at, length-range_with_len 0 (length g.ids), inside))
        ∙ ap (λ (first : ReportLine). first ∷ rest)
        (get_or-map-range_with_len value_at 0 (length g.ids) v v (line.Last last) inside (omega arith))

    pub values_end : (v : ℕ) → length g.ids ≡ v → values_from name g s last v ≡ signals_from g s last 0
    values_end v all =
        at_drop_all (λ (lines : List ReportLine). lines ++ signals_from g s last 0) (value_lines (is_wide name) g s) v
        (omega (arith, all, length-map (vertices g) value_at, length-range_with_len 0 (length g.ids)))
