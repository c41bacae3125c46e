-- A line's targets are no more than its bytes.
use Rattle.std.proofs.Common.{◌≡◌, ℕ, ◌+◌, ◌-◌, ◌≤◌, List, [], ◌∷◌, length, suc, ◌^◌, take, Bool, true, false, cond, Option, Some, None, refl, ap, ◌∙◌, arith}
use Rattle.std.specs.Prelude.{Result, Ok, Err, nat_lt}
use Rattle.std.specs.Option.{option_map}
use Rattle.std.specs.Io.BufRead.{strip_last, ends_with_byte}
use Rattle.std.proofs.lemmas.List.{length-map, length-take-le}
use Rattle.pg_base.specs.Numbers.{number_of}
use Rattle.pg_readers.specs.Lines.{star, says, is_comment, line_says}
use Rattle.pg_readers.specs.Tokens.{is_blank, begins_token, with_byte, tokens, numbers, all_numbers}
use Rattle.pg_readers.specs.declared.line.Format.{Format}
use Rattle.pg_readers.specs.declared.line.Format.TheVariants.{Snap, Tsv, Adj}
use Rattle.pg_readers.specs.declared.line.BadLine.{BadLine}
use Rattle.pg_readers.specs.declared.line.BadLine.TheVariants.{TooFew, BadNumber, BadCount, TooMany}
use Rattle.pg_readers.specs.declared.line.Line.{Line}
use Rattle.pg_readers.specs.declared.line.Line.TheVariants.{Nothing, Edge, Star}

-- what a line says isn't this star
abbrev IsOther : Result Line BadLine → Type 0
IsOther said = (id : ℕ) (targets : List ℕ) → said ≡ Ok (Star id targets) → ⊥

other_error : (kind : BadLine) → IsOther (Err kind)
other_error kind id targets is = cc

other_edge : (src dst weight : ℕ) → IsOther (Ok (Edge src dst weight))
other_edge src dst weight id targets is = cc

length-with_byte : (byte : ℕ) (joins : Bool) (found : List (List ℕ)) → length (with_byte byte joins found) ≤ length found + 1
length-with_byte byte true [] = omega arith
length-with_byte byte true (token ∷ found) = omega arith
length-with_byte byte false found = omega arith

length-tokens : (bytes : List ℕ) → length (tokens bytes) ≤ length bytes
length-tokens [] = omega arith
length-tokens (byte ∷ bytes) =
    let behind = length-tokens bytes in
    let joined = length-with_byte byte (begins_token bytes) (tokens bytes) in
    elim (is_blank byte) as (λ b. length (cond b (tokens bytes) (with_byte byte (begins_token bytes) (tokens bytes))) ≤ length (byte ∷ bytes)) [ true ↦ omega arith | false ↦ omega arith ]

mapped : (n : ℕ) (found : Option (List ℕ)) (ns : List ℕ) → option_map (λ ms. n ∷ ms) found ≡ Some ns → (ms : List ℕ) × (found ≡ Some ms) × (ns ≡ n ∷ ms)
mapped n None ns is = absurd (cc)
mapped n (Some ms) ns is = (ms, refl, (cc))

length-all_numbers : (found : List (Option ℕ)) (ns : List ℕ) → all_numbers found ≡ Some ns → length ns ≡ length found
length-all_numbers [] ns is = let none : ns ≡ [] = (cc) in ap length none
length-all_numbers (None ∷ found) ns is = absurd (cc)
length-all_numbers (Some n ∷ found) ns is =
    let more = mapped n (all_numbers found) ns is in
    ap length more.2 ∙ ap (λ (k : ℕ). suc k) (length-all_numbers found more.0 more.1)

-- a star of these targets
star_is : (id other : ℕ) (found : Option (List ℕ)) (targets : List ℕ) → star id found ≡ Ok (Star other targets) → found ≡ Some targets
star_is id other None targets is = absurd (cc)
star_is id other (Some ns) targets is = (cc)

counted : (few many : Bool) (id other : ℕ) (found : Option (List ℕ)) (targets : List ℕ) → cond few (Err BadCount) (cond many (Err TooMany) (star id found)) ≡ Ok (Star other targets) → found ≡ Some targets
counted true many id other found targets is = absurd (cc)
counted false true id other found targets is = absurd (cc)
counted false false id other found targets is = star_is id other found targets is

snap_says : (src dst : Option ℕ) (more : List (Option ℕ)) → IsOther (says Snap (src ∷ dst ∷ more))
snap_says None dst more = other_error BadNumber
snap_says (Some src) None more = other_error BadNumber
snap_says (Some src) (Some dst) more = other_edge src dst 1

tsv_says : (src dst : Option ℕ) (more : List (Option ℕ)) → IsOther (says Tsv (src ∷ dst ∷ more))
tsv_says src dst (weight ∷ fourth ∷ more) = other_error TooMany
tsv_says None dst [] = other_error BadNumber
tsv_says (Some src) None [] = other_error BadNumber
tsv_says (Some src) (Some dst) [] = other_edge src dst 1
tsv_says None dst (weight ∷ []) = other_error BadNumber
tsv_says (Some src) None (weight ∷ []) = other_error BadNumber
tsv_says (Some src) (Some dst) (None ∷ []) = other_error BadNumber
tsv_says (Some src) (Some dst) (Some weight ∷ []) = other_edge src dst weight

adj_fits : (id degree : Option ℕ) (found : List (Option ℕ)) (other : ℕ) (targets : List ℕ) → says Adj (id ∷ degree ∷ found) ≡ Ok (Star other targets) → length targets ≤ length found
adj_fits None degree found other targets is = absurd (other_error BadNumber other targets is)
adj_fits (Some id) None found other targets is = absurd (other_error BadNumber other targets is)
adj_fits (Some id) (Some degree) found other targets is =
    let same = length-all_numbers found targets (counted (nat_lt (length found) degree) (nat_lt degree (length found)) id other (all_numbers found) targets is) in
    omega arith

says_fits : (format : Format) (found : List (Option ℕ)) (id : ℕ) (targets : List ℕ) → says format found ≡ Ok (Star id targets) → length targets ≤ length found
says_fits format [] id targets is = absurd (cc)
says_fits format (first ∷ []) id targets is = absurd (other_error TooFew id targets is)
says_fits Snap (src ∷ dst ∷ more) id targets is = absurd (snap_says src dst more id targets is)
says_fits Tsv (src ∷ dst ∷ more) id targets is = absurd (tsv_says src dst more id targets is)
says_fits Adj (first ∷ second ∷ more) id targets is = let fits = adj_fits first second more id targets is in omega arith

by_comment : (comment : Bool) (said : Result Line BadLine) (id : ℕ) (targets : List ℕ) → cond comment (Ok Nothing) said ≡ Ok (Star id targets) → said ≡ Ok (Star id targets)
by_comment true said id targets is = absurd (cc)
by_comment false said id targets is = is

length-strip_last : (byte : ℕ) (bytes : List ℕ) → length (strip_last byte bytes) ≤ length bytes
length-strip_last byte bytes =
    let shorter = length-take-le (length bytes - 1) bytes (omega arith) in
    elim (ends_with_byte byte bytes) as (λ b. length (cond b (take (length bytes - 1) bytes) bytes) ≤ length bytes) [ true ↦ omega arith | false ↦ omega arith ]

-- a star has no more targets than its line has bytes
pub targets_fit : (format : Format) (line : List ℕ) (id : ℕ) (targets : List ℕ) → line_says format line ≡ Ok (Star id targets) → length targets ≤ length line
targets_fit format line id targets is =
    let bytes = strip_last 13 line in
    let said = by_comment (is_comment (tokens bytes)) (says format (numbers bytes)) id targets is in
    let fits = says_fits format (numbers bytes) id targets said in
    let same = length-map (tokens bytes) (number_of (2 ^ 32 - 1)) in
    let fewer = length-tokens bytes in
    let shorter = length-strip_last 13 line in
    omega arith
