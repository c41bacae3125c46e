-- What is read of a line has that line's text.
use Rattle.std.proofs.Common.{◌≡◌, ℕ, ◌-◌, ◌^◌, ◌<◌, ◌≤◌, List, ◌++◌, length, Bool, true, false, eqb, cond, Option, Some, None, refl, subst, ap, ◌∙◌, lit<, codes, decimal, append-nil}
use Rattle.std.specs.Option.{option_map, option_or}
use Rattle.pg_law.specs.declared.values.End.{End}
use Rattle.pg_law.specs.declared.values.End.TheVariants.{Quiescent, Spent}
use Rattle.pg_words.specs.declared.names.EngineName.{EngineName}
use Rattle.pg_words.specs.declared.names.EngineName.TheVariants.{Sync, Async}
use Rattle.pg_words.specs.declared.job.ProgramName.{ProgramName}
use Rattle.pg_words.specs.declared.job.ProgramName.TheVariants.{Components, Colour, Sssp, Rank, Tree}
use Rattle.pg_journal.specs.Fronts.{◌>>=◌, behind, number_at}
use Rattle.pg_report.specs.Fronts.{either, on_front, at_end, last_number}
use Rattle.pg_report.specs.Lines.{engine_text, name_text, second_text, row_text, end_text, rounds_text, taken_text, line_text, IsSmall, IsLarge, IfThere, IsName, IsLine}
use Rattle.pg_report.specs.Reading.{second_of, row_of, entry_with, value_with, signal_with, signal_of, name_of, head_of, counts_of, rounds_of, taken_of, last_of, comment_of, marked_of, line_of}
use Rattle.pg_report.specs.declared.line.ReportLine.{ReportLine}
use Rattle.pg_report.specs.declared.line.ReportLine.TheVariants as line
use Rattle.pg_report.specs.declared.read.Row.{Row}
use Rattle.pg_journal.proofs.Digits.{read_some, behind_takes, number_takes}
use Rattle.pg_report.proofs.Ends.{nothing_left, end_takes, last_takes}

-- what was read has this text
pub record Says (bytes : List ℕ) (said : ReportLine) : Type 0 where
  pub is : IsLine said
  pub text : bytes ≡ line_text said

-- the value behind a map of an option
mapped : {A B : Type 0} (f : A → B) (o : Option A) (y : B) → option_map f o ≡ Some y → (x : A) × (o ≡ Some x) × (f x ≡ y)
mapped f None y e = cc
mapped f (Some x) y e = (x, refl, cc)

-- what a front and what is behind it gave, or another reading
front_takes : {A P : Type 0} (text bytes : List ℕ) (read : List ℕ → Option A) (other : Option A) (y : A)
    → on_front text bytes read other ≡ Some y → ((rest : List ℕ) → bytes ≡ text ++ rest → read rest ≡ Some y → P)
    → (other ≡ Some y → P) → P
front_takes {A} {P} text bytes read other y e here there =
    let by_front : (o : Option (List ℕ)) → behind text bytes ≡ o → either o read other ≡ Some y → P =
    λ o. elim o as (λ v. behind text bytes ≡ v → either v read other ≡ Some y → P) [
      | None ↦ λ _ later. there later
      | Some rest ↦ λ found now. here rest (behind_takes text bytes rest found) now
    ] in
    by_front (behind text bytes) refl e

small_word : 2 ^ 32 - 1 < 2 ^ 64
small_word = lit< tt

large_word : 2 ^ 64 - 1 < 2 ^ 64
large_word = lit< tt

record IsSecond (bytes : List ℕ) (second : Option ℕ) : Type 0 where
  pub text : bytes ≡ second_text second
  pub fits : IfThere second IsLarge

second_takes : (bytes : List ℕ) (second : Option ℕ) → second_of bytes ≡ Some second → IsSecond bytes second
second_takes bytes second e =
    let by_end : (b : Bool) → eqb (length bytes) 0 ≡ b
    → cond b (Some None) (behind (codes "\t") bytes >>= λ rest. option_map (λ n. Some n) (last_number (2 ^ 64 - 1) rest)) ≡ Some second
    → IsSecond bytes second = λ b. elim b
    as (λ v. eqb (length bytes) 0 ≡ v
    → cond v (Some None) (behind (codes "\t") bytes >>= λ rest. option_map (λ n. Some n) (last_number (2 ^ 64 - 1) rest)) ≡ Some second
    → IsSecond bytes second) [
      | true ↦ λ none found. (let same : None ≡ second = cc in
          subst (λ (o : Option ℕ). IsSecond bytes o) same (record { text = nothing_left bytes none; fits = tt }))
      | false ↦ λ _ found. (let tab = read_some (behind (codes "\t") bytes) (λ rest. option_map (λ n. Some n) (last_number (2 ^ 64 - 1) rest)) second found in
          let number = mapped (λ n. Some n) (last_number (2 ^ 64 - 1) tab.0) second tab.2 in
          let last = last_takes (2 ^ 64 - 1) tab.0 number.0 large_word number.1 in
          subst (λ (o : Option ℕ). IsSecond bytes o) number.2 (record {
            text = behind_takes (codes "\t") bytes tab.0 tab.1 ∙ ap (λ (r : List ℕ). codes "\t" ++ r) last.0;
            fits = last.1;
          }))
    ] in
    by_end (eqb (length bytes) 0) refl e

record IsRow (bytes : List ℕ) (row : Row) : Type 0 where
  pub text : bytes ≡ row_text row.id row.value row.second
  pub fits : IsSmall row.id × IsLarge row.value × IfThere row.second IsLarge

row_takes : (bytes : List ℕ) (row : Row) → row_of bytes ≡ Some row → IsRow bytes row
row_takes bytes row e =
    let id = read_some (number_at (2 ^ 32 - 1) bytes) _ row e in
    let tab = read_some (behind (codes "\t") id.0.1) _ row id.2 in
    let value = read_some (number_at (2 ^ 64 - 1) tab.0) _ row tab.2 in
    let second = read_some (second_of value.0.1) _ row value.2 in
    let id_is = number_takes (2 ^ 32 - 1) bytes id.0.1 id.0.0 small_word id.1 in
    let tab_is = behind_takes (codes "\t") id.0.1 tab.0 tab.1 in
    let value_is = number_takes (2 ^ 64 - 1) tab.0 value.0.1 value.0.0 large_word value.1 in
    let second_is = second_takes value.0.1 second.0 second.1 in
    let found : Row = record { id = id.0.0; value = value.0.0; second = second.0 } in
    let whole : IsRow bytes found = record {
      text = id_is.0 ∙ ap (λ (r : List ℕ). decimal id.0.0 ++ r)
          (tab_is ∙ ap (λ (r : List ℕ). codes "\t" ++ r) (value_is.0 ∙ ap (λ (r : List ℕ). decimal value.0.0 ++ r) second_is.text));
      fits = (id_is.1, value_is.1, second_is.fits);
    } in
    let same : found ≡ row = (let some = second.2 in cc) in
    subst (IsRow bytes) same whole

signal_takes : (bytes : List ℕ) (said : ReportLine) → signal_of bytes ≡ Some said → Says (codes "?" ++ bytes) said
signal_takes bytes said e =
    let row = read_some (row_of bytes) _ said e in
    let is = row_takes bytes row.0 row.1 in
    by_second row.0.id row.0.value row.0.second is.text is.fits row.2
  where
    by_second : (id value : ℕ) (second : Option ℕ) → bytes ≡ row_text id value second
        → IsSmall id × IsLarge value × IfThere second IsLarge → signal_with id value second ≡ Some said → Says (codes "?" ++ bytes) said
    by_second id value None text fits found =
        let same : line.Signal id value ≡ said = cc in
        subst (Says (codes "?" ++ bytes)) same (record { is = (fits.0, fits.1); text = ap (λ (r : List ℕ). codes "?" ++ r) text })
    by_second id value (Some second) text fits found = cc

record IsNamed (bytes : List ℕ) (program : ProgramName) : Type 0 where
  pub text : bytes ≡ name_text program
  pub fits : IsName program

named_alone : (text bytes rest : List ℕ) (name program : ProgramName) → bytes ≡ text ++ rest → at_end name rest ≡ Some program
    → text ≡ name_text name → IsName name → IsNamed bytes program
named_alone text bytes rest name program front e spelled fits =
    let end = end_takes name program rest e in
    let same : name ≡ program = (let some = end.1 in cc) in
    subst (IsNamed bytes) same (record {
      text = front ∙ (ap (λ (r : List ℕ). text ++ r) end.0 ∙ (append-nil text ∙ spelled));
      fits = fits;
    })

named_number : (max : ℕ) (text bytes rest : List ℕ) (make : ℕ → ProgramName) (program : ProgramName) → max < 2 ^ 64
    → bytes ≡ text ++ rest → option_map make (last_number max rest) ≡ Some program
    → ((n : ℕ) → text ++ decimal n ≡ name_text (make n)) → ((n : ℕ) → n ≤ max → IsName (make n)) → IsNamed bytes program
named_number max text bytes rest make program word front e spelled fits =
    let found = mapped make (last_number max rest) program e in
    let last = last_takes max rest found.0 word found.1 in
    subst (IsNamed bytes) found.2 (record {
      text = front ∙ (ap (λ (r : List ℕ). text ++ r) last.0 ∙ spelled found.0);
      fits = fits found.0 last.1;
    })

name_takes : (bytes : List ℕ) (program : ProgramName) → name_of bytes ≡ Some program → IsNamed bytes program
name_takes bytes program e =
    front_takes (codes "components") bytes _ _ program e
    (λ rest front found. named_alone (codes "components") bytes rest Components program front found refl tt)
    (λ e. front_takes (codes "colour") bytes _ _ program e
    (λ rest front found. named_alone (codes "colour") bytes rest Colour program front found refl tt)
    (λ e. front_takes (codes "sssp ") bytes _ _ program e
    (λ rest front found. named_number (2 ^ 32 - 1) (codes "sssp ") bytes rest Sssp program small_word front found (λ n. refl) (λ n fits. fits))
    (λ e. front_takes (codes "rank ") bytes _ _ program e
    (λ rest front found. named_number (2 ^ 64 - 1) (codes "rank ") bytes rest Rank program large_word front found (λ n. refl) (λ n fits. fits))
    (λ e. front_takes (codes "tree ") bytes _ _ program e
    (λ rest front found. named_number (2 ^ 32 - 1) (codes "tree ") bytes rest Tree program small_word front found (λ n. refl) (λ n fits. fits))
    (λ e. cc)))))

head_with : (engine : EngineName) (bytes rest : List ℕ) (said : ReportLine) → bytes ≡ engine_text engine ++ rest
    → option_map (line.Head engine) (name_of rest) ≡ Some said → Says (codes "# pgreport 1 " ++ bytes) said
head_with engine bytes rest said front e =
    let found = mapped (line.Head engine) (name_of rest) said e in
    let name = name_takes rest found.0 found.1 in
    subst (Says (codes "# pgreport 1 " ++ bytes)) found.2 (record {
      is = name.fits;
      text = ap (λ (r : List ℕ). codes "# pgreport 1 " ++ r) (front ∙ ap (λ (r : List ℕ). engine_text engine ++ r) name.text);
    })

head_takes : (bytes : List ℕ) (said : ReportLine) → head_of bytes ≡ Some said → Says (codes "# pgreport 1 " ++ bytes) said
head_takes bytes said e =
    front_takes (codes "sync ") bytes _ _ said e (λ rest front found. head_with Sync bytes rest said front found)
    (λ e. front_takes (codes "async ") bytes _ _ said e (λ rest front found. head_with Async bytes rest said front found)
    (λ e. cc))

counts_takes : (bytes : List ℕ) (said : ReportLine) → counts_of bytes ≡ Some said → Says (codes "# vertices " ++ bytes) said
counts_takes bytes said e =
    let vertices = read_some (number_at (2 ^ 32 - 1) bytes) _ said e in
    let edges_at = read_some (behind (codes " edges ") vertices.0.1) _ said vertices.2 in
    let edges = read_some (number_at (2 ^ 32 - 1) edges_at.0) _ said edges_at.2 in
    let loops_at = read_some (behind (codes " loops ") edges.0.1) _ said edges.2 in
    let loops = read_some (last_number (2 ^ 64 - 1) loops_at.0) _ said loops_at.2 in
    let vertices_is = number_takes (2 ^ 32 - 1) bytes vertices.0.1 vertices.0.0 small_word vertices.1 in
    let edges_at_is = behind_takes (codes " edges ") vertices.0.1 edges_at.0 edges_at.1 in
    let edges_is = number_takes (2 ^ 32 - 1) edges_at.0 edges.0.1 edges.0.0 small_word edges.1 in
    let loops_at_is = behind_takes (codes " loops ") edges.0.1 loops_at.0 loops_at.1 in
    let loops_is = last_takes (2 ^ 64 - 1) loops_at.0 loops.0 large_word loops.1 in
    let same : line.Counts vertices.0.0 edges.0.0 loops.0 ≡ said = (let some = loops.2 in cc) in
    subst (Says (codes "# vertices " ++ bytes)) same (record {
      is = (vertices_is.1, edges_is.1, loops_is.1);
      text = ap (λ (r : List ℕ). codes "# vertices " ++ r) (vertices_is.0 ∙ ap (λ (r : List ℕ). decimal vertices.0.0 ++ r)
          (edges_at_is ∙ ap (λ (r : List ℕ). codes " edges " ++ r) (edges_is.0 ∙ ap (λ (r : List ℕ). decimal edges.0.0 ++ r)
          (loops_at_is ∙ ap (λ (r : List ℕ). codes " loops " ++ r) loops_is.0))));
    })

record AreRounds (bytes : List ℕ) (rounds : Option ℕ) (rest : List ℕ) : Type 0 where
  pub text : bytes ≡ rounds_text rounds ++ rest
  pub fits : IfThere rounds IsSmall

rounds_takes : (bytes : List ℕ) (found : Option ℕ × List ℕ) → rounds_of bytes ≡ Some found → AreRounds bytes found.0 found.1
rounds_takes bytes found e =
    front_takes (codes " rounds ") bytes _ _ found e
    (λ rest front told.
    (let number = mapped (λ (n : ℕ × List ℕ). (Some n.0, n.1)) (number_at (2 ^ 32 - 1) rest) found told in
    let is = number_takes (2 ^ 32 - 1) rest number.0.1 number.0.0 small_word number.1 in
    subst (λ (f : Option ℕ × List ℕ). AreRounds bytes f.0 f.1) number.2 (record {
      text = front ∙ (ap (λ (r : List ℕ). codes " rounds " ++ r) is.0);
      fits = is.1;
    })))
    (λ none.
    (let same : (None, bytes) ≡ found = cc in
    subst (λ (f : Option ℕ × List ℕ). AreRounds bytes f.0 f.1) same (record { text = refl; fits = tt })))

record IsTaken (bytes : List ℕ) (executions gathers : ℕ) : Type 0 where
  pub text : bytes ≡ taken_text executions gathers
  pub fits : IsLarge executions × IsLarge gathers

taken_takes : (bytes : List ℕ) (found : ℕ × ℕ) → taken_of bytes ≡ Some found → IsTaken bytes found.0 found.1
taken_takes bytes found e =
    let executions_at = read_some (behind (codes " executions ") bytes) _ found e in
    let executions = read_some (number_at (2 ^ 64 - 1) executions_at.0) _ found executions_at.2 in
    let gathers_at = read_some (behind (codes " gathers ") executions.0.1) _ found executions.2 in
    let gathers = read_some (last_number (2 ^ 64 - 1) gathers_at.0) _ found gathers_at.2 in
    let executions_at_is = behind_takes (codes " executions ") bytes executions_at.0 executions_at.1 in
    let executions_is = number_takes (2 ^ 64 - 1) executions_at.0 executions.0.1 executions.0.0 large_word executions.1 in
    let gathers_at_is = behind_takes (codes " gathers ") executions.0.1 gathers_at.0 gathers_at.1 in
    let gathers_is = last_takes (2 ^ 64 - 1) gathers_at.0 gathers.0 large_word gathers.1 in
    let same : (executions.0.0, gathers.0) ≡ found = (let some = gathers.2 in cc) in
    subst (λ (f : ℕ × ℕ). IsTaken bytes f.0 f.1) same (record {
      text = executions_at_is ∙ ap (λ (r : List ℕ). codes " executions " ++ r) (executions_is.0
          ∙ ap (λ (r : List ℕ). decimal executions.0.0 ++ r) (gathers_at_is ∙ ap (λ (r : List ℕ). codes " gathers " ++ r) gathers_is.0));
      fits = (executions_is.1, gathers_is.1);
    })

last_takes_line : (end : End) (bytes : List ℕ) (said : ReportLine) → last_of end bytes ≡ Some said → Says (end_text end ++ bytes) said
last_takes_line end bytes said e =
    let rounds = read_some (rounds_of bytes) _ said e in
    let taken = read_some (taken_of rounds.0.1) _ said rounds.2 in
    let rounds_is = rounds_takes bytes rounds.0 rounds.1 in
    let taken_is = taken_takes rounds.0.1 taken.0 taken.1 in
    let same : line.Last (record { end = end; rounds = rounds.0.0; executions = taken.0.0; gathers = taken.0.1 }) ≡ said = (let some = taken.2 in cc) in
    subst (Says (end_text end ++ bytes)) same (record {
      is = (rounds_is.fits, taken_is.fits.0, taken_is.fits.1);
      text = ap (λ (r : List ℕ). end_text end ++ r) (rounds_is.text ∙ ap (λ (r : List ℕ). rounds_text rounds.0.0 ++ r) taken_is.text);
    })

-- what is behind the front of a line that says something
behind_front : (text bytes rest : List ℕ) (said : ReportLine) → bytes ≡ text ++ rest → Says (text ++ rest) said → Says bytes said
behind_front text bytes rest said front says = record { is = says.is; text = front ∙ says.text }

comment_takes : (bytes : List ℕ) (said : ReportLine) → comment_of bytes ≡ Some said → Says bytes said
comment_takes bytes said e =
    front_takes (codes "# pgreport 1 ") bytes _ _ said e
    (λ rest front found. behind_front (codes "# pgreport 1 ") bytes rest said front (head_takes rest said found))
    (λ e. front_takes (codes "# vertices ") bytes _ _ said e
    (λ rest front found. behind_front (codes "# vertices ") bytes rest said front (counts_takes rest said found))
    (λ e. front_takes (codes "# quiescent") bytes _ _ said e
    (λ rest front found. behind_front (codes "# quiescent") bytes rest said front (last_takes_line Quiescent rest said found))
    (λ e. front_takes (codes "# spent") bytes _ _ said e
    (λ rest front found. behind_front (codes "# spent") bytes rest said front (last_takes_line Spent rest said found))
    (λ e. cc))))

entry_takes : (bytes : List ℕ) (said : ReportLine) → option_map entry_with (row_of bytes) ≡ Some said → Says (codes "@" ++ bytes) said
entry_takes bytes said e =
    let row = mapped entry_with (row_of bytes) said e in
    let is = row_takes bytes row.0 row.1 in
    subst (Says (codes "@" ++ bytes)) row.2 (record { is = is.fits; text = ap (λ (r : List ℕ). codes "@" ++ r) is.text })

marked_takes : (bytes : List ℕ) (said : ReportLine) → marked_of bytes ≡ Some said → Says bytes said
marked_takes bytes said e =
    front_takes (codes "@") bytes _ _ said e
    (λ rest front found. behind_front (codes "@") bytes rest said front (entry_takes rest said found))
    (λ e. front_takes (codes "?") bytes _ _ said e
    (λ rest front found. behind_front (codes "?") bytes rest said front (signal_takes rest said found))
    (λ e. comment_takes bytes said e))

-- one of two readings read it
or_takes : (a b : Option ReportLine) (bytes : List ℕ) (said : ReportLine) → (a ≡ Some said → Says bytes said)
    → (b ≡ Some said → Says bytes said) → option_or a b ≡ Some said → Says bytes said
or_takes None b bytes said left right e = right e
or_takes (Some x) b bytes said left right e = left e

value_takes : (bytes : List ℕ) (said : ReportLine) → option_map value_with (row_of bytes) ≡ Some said → Says bytes said
value_takes bytes said e =
    let row = mapped value_with (row_of bytes) said e in
    let is = row_takes bytes row.0 row.1 in
    subst (Says bytes) row.2 (record { is = is.fits; text = is.text })

-- what is read of a line has that line's text
pub line_takes : (bytes : List ℕ) (said : ReportLine) → line_of bytes ≡ Some said → Says bytes said
line_takes bytes said e =
    or_takes (option_map value_with (row_of bytes)) (marked_of bytes) bytes said
    (value_takes bytes said) (marked_takes bytes said) e
