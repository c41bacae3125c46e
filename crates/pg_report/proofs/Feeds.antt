-- No line has a line feed within.
use Rattle.std.proofs.Common.{◌≡◌, ◌≢◌, ℕ, ◌<◌, List, [], ◌∷◌, ◌++◌, Bool, true, ◌&&◌, not, eqb, Option, Some, None, All, refl, sym, ◌∙◌, ap, arith, codes, decimal, append-nil}
use Rattle.std.proofs.lemmas.Bool.{and_parts}
use Rattle.std.proofs.lemmas.Bool.Decides.{nat_tests}
use Rattle.std.proofs.lemmas.Fmt.{digits_decimal}
use Rattle.std.proofs.lemmas.List.Elements.{All-nil, All-cons}
use Rattle.std.proofs.lemmas.Str.Parse.{numerals_by_value, tells_digits}
use Rattle.std.specs.Char.{digit_value}
use Rattle.std.specs.Str.Parse.{AllDigits}
use Rattle.pg_law.specs.declared.values.End.{End}
use Rattle.pg_law.specs.declared.values.End.TheVariants.{Quiescent, Spent}
use Rattle.pg_words.specs.declared.names.EngineName.{EngineName}
use Rattle.pg_words.specs.declared.names.EngineName.TheVariants.{Sync, Async}
use Rattle.pg_words.specs.declared.job.ProgramName.{ProgramName}
use Rattle.pg_words.specs.declared.job.ProgramName.TheVariants.{Components, Colour, Sssp, Rank, Tree}
use Rattle.pg_report.specs.Lines.{engine_text, name_text, second_text, row_text, end_text, rounds_text, taken_text, line_text, IsSmall, IsLarge, IfThere, IsName, IsLine}
use Rattle.pg_report.specs.declared.line.ReportLine.{ReportLine}
use Rattle.pg_report.specs.declared.line.ReportLine.TheVariants as line

-- whether no byte is a line feed
abbrev is_free : List ℕ → Bool
is_free [] = true
is_free (byte ∷ bytes) = not (eqb byte 10) && is_free bytes

not_feed : (byte : ℕ) → not (eqb byte 10) ≡ true → byte ≢ 10
not_feed byte e = grind (arith, nat_tests)

free_all : (bytes : List ℕ) → is_free bytes ≡ true → All (λ byte. byte ≢ 10) bytes
free_all [] e = All-nil _
free_all (byte ∷ bytes) e =
    let both = and_parts (not (eqb byte 10)) (is_free bytes) e in
    All-cons (λ b. b ≢ 10) byte bytes (not_feed byte both.0) (free_all bytes both.1)

digit_free : (byte : ℕ) → digit_value byte < 10 → not (eqb byte 10) ≡ true
digit_free byte is = grind (arith, nat_tests)

digits_free : (digits rest : List ℕ) → AllDigits 10 digits → is_free (digits ++ rest) ≡ is_free rest
digits_free [] rest all = refl
digits_free (byte ∷ bytes) rest all =
    let first = digit_free byte all.0 in
    let others = digits_free bytes rest all.1 in
    rw (first, others) refl

-- a number adds no line feed to what follows
large_free : (n : ℕ) (rest : List ℕ) → IsLarge n → is_free (decimal n ++ rest) ≡ is_free rest
large_free n rest fits = digits_free (decimal n) rest (digits_decimal (numerals_by_value (AllDigits 10) tells_digits) n (omega arith))

small_free : (n : ℕ) (rest : List ℕ) → IsSmall n → is_free (decimal n ++ rest) ≡ is_free rest
small_free n rest fits = large_free n rest (omega arith)

last_free : (n : ℕ) → IsLarge n → is_free (decimal n) ≡ true
last_free n fits = ap is_free (sym (append-nil (decimal n))) ∙ large_free n [] fits

name_free : (program : ProgramName) → IsName program → is_free (name_text program) ≡ true
name_free Components is = refl
name_free Colour is = refl
name_free (Sssp source) is = last_free source (omega arith)
name_free (Rank tolerance) is = last_free tolerance is
name_free (Tree source) is = last_free source (omega arith)

second_free : (second : Option ℕ) → IfThere second IsLarge → is_free (second_text second) ≡ true
second_free None fits = refl
second_free (Some n) fits = last_free n fits

row_free : (id value : ℕ) (second : Option ℕ) → IsSmall id → IsLarge value → IfThere second IsLarge
    → is_free (row_text id value second) ≡ true
row_free id value second small large fits =
    small_free id (codes "\t" ++ (decimal value ++ second_text second)) small
    ∙ (large_free value (second_text second) large ∙ second_free second fits)

taken_free : (executions gathers : ℕ) → IsLarge executions → IsLarge gathers → is_free (taken_text executions gathers) ≡ true
taken_free executions gathers fit_executions fit_gathers =
    large_free executions (codes " gathers " ++ decimal gathers) fit_executions ∙ last_free gathers fit_gathers

rounds_free : (rounds : Option ℕ) (rest : List ℕ) → IfThere rounds IsSmall → is_free (rounds_text rounds ++ rest) ≡ is_free rest
rounds_free None rest fits = refl
rounds_free (Some n) rest fits = small_free n rest fits

end_free : (end : End) (rest : List ℕ) → is_free (end_text end ++ rest) ≡ is_free rest
end_free Quiescent rest = refl
end_free Spent rest = refl

engine_free : (engine : EngineName) (rest : List ℕ) → is_free (engine_text engine ++ rest) ≡ is_free rest
engine_free Sync rest = refl
engine_free Async rest = refl

line_free : (said : ReportLine) → IsLine said → is_free (line_text said) ≡ true
line_free (line.Head engine program) is = engine_free engine (name_text program) ∙ name_free program is
line_free (line.Counts vertices edges loops) is =
    small_free vertices (codes " edges " ++ (decimal edges ++ (codes " loops " ++ decimal loops))) is.0
    ∙ (small_free edges (codes " loops " ++ decimal loops) is.1 ∙ last_free loops is.2)
line_free (line.Entry id value second) is = row_free id value second is.0 is.1 is.2
line_free (line.Value id value second) is = row_free id value second is.0 is.1 is.2
line_free (line.Signal id message) is = row_free id message None is.0 is.1 tt
line_free (line.Last last) is =
    end_free last.end (rounds_text last.rounds ++ taken_text last.executions last.gathers)
    ∙ (rounds_free last.rounds (taken_text last.executions last.gathers) is.0
    ∙ taken_free last.executions last.gathers is.1 is.2)

-- no line has a line feed within
pub line_has_no_feed : (said : ReportLine) → IsLine said → All (λ byte. byte ≢ 10) (line_text said)
line_has_no_feed said is = free_all (line_text said) (line_free said is)
