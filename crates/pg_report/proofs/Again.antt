-- The text of a line is read as that line.
use Rattle.std.proofs.Common.{◌≡◌, ℕ, ◌-◌, ◌^◌, List, ◌∷◌, ◌++◌, length, false, eqb, Option, Some, None, refl, sym, ap, ◌∙◌, arith, lit<, codes, decimal}
use Rattle.std.proofs.lemmas.Bool.Decides.{nat_tests}
use Rattle.pg_base.specs.Numbers.{is_digit}
use Rattle.pg_law.specs.declared.values.End.{End}
use Rattle.pg_law.specs.declared.values.End.TheVariants.{Quiescent, Spent}
use Rattle.pg_words.specs.declared.names.EngineName.{EngineName}
use Rattle.pg_words.specs.declared.names.EngineName.TheVariants.{Sync, Async}
use Rattle.pg_words.specs.declared.job.ProgramName.{ProgramName}
use Rattle.pg_words.specs.declared.job.ProgramName.TheVariants.{Components, Colour, Sssp, Rank, Tree}
use Rattle.pg_journal.specs.Fronts.{behind, digits_at, plain_number, number_at}
use Rattle.pg_report.specs.Lines.{engine_text, name_text, second_text, row_text, end_text, rounds_text, taken_text, line_text, IsSmall, IsLarge, IfThere, IsName, IsLine}
use Rattle.pg_report.specs.Reading.{second_of, row_of, signal_of, name_of, head_of, counts_of, rounds_of, taken_of, last_of, comment_of, marked_of, line_of}
use Rattle.pg_report.specs.declared.line.LastLine.{LastLine}
use Rattle.pg_report.specs.declared.line.ReportLine.{ReportLine}
use Rattle.pg_report.specs.declared.line.ReportLine.TheVariants as line
use Rattle.pg_journal.proofs.Digits.{behind_again, number_again}
use Rattle.pg_report.proofs.Ends.{last_again}

small_again : (n : ℕ) (rest : List ℕ) → IsSmall n → digits_at rest ≡ 0 → number_at (2 ^ 32 - 1) (decimal n ++ rest) ≡ Some (n, rest)
small_again n rest fits ends = number_again (2 ^ 32 - 1) n rest fits (lit< tt) ends

large_again : (n : ℕ) (rest : List ℕ) → IsLarge n → digits_at rest ≡ 0 → number_at (2 ^ 64 - 1) (decimal n ++ rest) ≡ Some (n, rest)
large_again n rest fits ends = number_again (2 ^ 64 - 1) n rest fits (lit< tt) ends

second_ends : (second : Option ℕ) → digits_at (second_text second) ≡ 0
unfolding digits_at
second_ends None = refl
second_ends (Some n) = refl

second_again : (second : Option ℕ) → IfThere second IsLarge → second_of (second_text second) ≡ Some second
second_again None fits = refl
second_again (Some n) fits =
    let some : eqb (length (codes "\t" ++ decimal n)) 0 ≡ false = grind (arith, nat_tests) in
    let tab = behind_again (codes "\t") (decimal n) in
    let number = last_again (2 ^ 64 - 1) n fits (lit< tt) in
    rw (some, tab, number) refl

row_again : (id value : ℕ) (second : Option ℕ) → IsSmall id → IsLarge value → IfThere second IsLarge
    → row_of (row_text id value second) ≡ Some (record { id = id; value = value; second = second })
unfolding digits_at
row_again id value second small large fits =
    let first = small_again id (codes "\t" ++ (decimal value ++ second_text second)) small refl in
    let tab = behind_again (codes "\t") (decimal value ++ second_text second) in
    let number = large_again value (second_text second) large (second_ends second) in
    let last = second_again second fits in
    rw (first, tab, number, last) refl

-- no row begins with another byte than a digit
not_row : (byte : ℕ) (bytes : List ℕ) → is_digit byte ≡ false → row_of (byte ∷ bytes) ≡ None
unfolding number_at plain_number digits_at
not_row byte bytes other = rw other refl

name_again : (program : ProgramName) → IsName program → name_of (name_text program) ≡ Some program
unfolding behind
name_again Components is = refl
name_again Colour is = refl
name_again (Sssp source) is = let number = last_again (2 ^ 32 - 1) source is (lit< tt) in rw number refl
name_again (Rank tolerance) is = let number = last_again (2 ^ 64 - 1) tolerance is (lit< tt) in rw number refl
name_again (Tree source) is = let number = last_again (2 ^ 32 - 1) source is (lit< tt) in rw number refl

head_again : (engine : EngineName) (program : ProgramName) → IsName program
    → head_of (engine_text engine ++ name_text program) ≡ Some (line.Head engine program)
unfolding behind
head_again Sync program is = let name = name_again program is in rw name refl
head_again Async program is = let name = name_again program is in rw name refl

counts_again : (vertices edges loops : ℕ) → IsSmall vertices → IsSmall edges → IsLarge loops
    → counts_of (decimal vertices ++ (codes " edges " ++ (decimal edges ++ (codes " loops " ++ decimal loops))))
    ≡ Some (line.Counts vertices edges loops)
unfolding behind digits_at
counts_again vertices edges loops fit_vertices fit_edges fit_loops =
    let first = small_again vertices (codes " edges " ++ (decimal edges ++ (codes " loops " ++ decimal loops))) fit_vertices refl in
    let then = small_again edges (codes " loops " ++ decimal loops) fit_edges refl in
    let last = last_again (2 ^ 64 - 1) loops fit_loops (lit< tt) in
    rw (first, then, last) refl

taken_again : (executions gathers : ℕ) → IsLarge executions → IsLarge gathers
    → taken_of (taken_text executions gathers) ≡ Some (executions, gathers)
unfolding behind digits_at
taken_again executions gathers fit_executions fit_gathers =
    let first = large_again executions (codes " gathers " ++ decimal gathers) fit_executions refl in
    let last = last_again (2 ^ 64 - 1) gathers fit_gathers (lit< tt) in
    rw (first, last) refl

rounds_again : (rounds : Option ℕ) (executions gathers : ℕ) → IfThere rounds IsSmall
    → rounds_of (rounds_text rounds ++ taken_text executions gathers) ≡ Some (rounds, taken_text executions gathers)
unfolding behind digits_at
rounds_again None executions gathers fits = refl
rounds_again (Some rounds) executions gathers fits =
    let number = small_again rounds (taken_text executions gathers) fits refl in
    rw number refl

last_line_again : (last : LastLine) → IsLine (line.Last last)
    → last_of last.end (rounds_text last.rounds ++ taken_text last.executions last.gathers) ≡ Some (line.Last last)
last_line_again last is =
    let rounds = rounds_again last.rounds last.executions last.gathers is.0 in
    let taken = taken_again last.executions last.gathers is.1 is.2 in
    rw (rounds, taken) refl

comment_again : (end : End) (rest : List ℕ) → comment_of (end_text end ++ rest) ≡ last_of end rest
unfolding behind
comment_again Quiescent rest = refl
comment_again Spent rest = refl

-- the marks of lines other than values
marked_entry : (rest : List ℕ) (said : ReportLine) → marked_of (codes "@" ++ rest) ≡ Some said → line_of (codes "@" ++ rest) ≡ Some said
marked_entry rest said e = let none = not_row 64 rest refl in rw none e

marked_signal : (rest : List ℕ) (said : ReportLine) → signal_of rest ≡ Some said → line_of (codes "?" ++ rest) ≡ Some said
unfolding behind
marked_signal rest said e = let none = not_row 63 rest refl in rw none e

marked_comment : (rest : List ℕ) → line_of (codes "#" ++ rest) ≡ comment_of (codes "#" ++ rest)
unfolding behind
marked_comment rest = let none = not_row 35 rest refl in rw none refl

-- the text of a line is read as that line
pub line_again : (said : ReportLine) → IsLine said → line_of (line_text said) ≡ Some said
unfolding behind
line_again (line.Head engine program) is =
    marked_comment (codes " pgreport 1 " ++ (engine_text engine ++ name_text program)) ∙ head_again engine program is
line_again (line.Counts vertices edges loops) is =
    marked_comment (codes " vertices " ++ (decimal vertices ++ (codes " edges " ++ (decimal edges ++ (codes " loops " ++ decimal loops)))))
    ∙ counts_again vertices edges loops is.0 is.1 is.2
line_again (line.Entry id value second) is =
    let row = row_again id value second is.0 is.1 is.2 in
    marked_entry (row_text id value second) (line.Entry id value second) (rw row refl)
line_again (line.Value id value second) is =
    let row = row_again id value second is.0 is.1 is.2 in
    rw row refl
line_again (line.Signal id message) is =
    let row = row_again id message None is.0 is.1 tt in
    marked_signal (row_text id message None) (line.Signal id message) (rw row refl)
line_again (line.Last last) is =
    ended last.end (rounds_text last.rounds ++ taken_text last.executions last.gathers)
    ∙ last_line_again last is
  where
    ended : (end : End) (rest : List ℕ) → line_of (end_text end ++ rest) ≡ last_of end rest
    ended Quiescent rest = marked_comment (codes " quiescent" ++ rest) ∙ comment_again Quiescent rest
    ended Spent rest = marked_comment (codes " spent" ++ rest) ∙ comment_again Spent rest

-- two lines have two texts
pub one_line : (said other : ReportLine) → IsLine said → IsLine other → line_text said ≡ line_text other → said ≡ other
one_line said other is is_other same =
    let first = line_again said is in
    let then = line_again other is_other in
    let both : Some said ≡ Some other = sym first ∙ (ap line_of same ∙ then) in
    cc
