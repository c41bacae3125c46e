-- The words of edges, once what was sent is written.
use Rattle.std.proofs.Common.{◌≡◌, ℕ, zero, suc, ◌<◌, Bool, true, false, cond, List, [], ◌∷◌, length, get_or, set, refl, sym, ◌∙◌, ap, arith}
use Rattle.std.specs.Prelude.{map, ◌==◌, All}
use Rattle.std.proofs.lemmas.Bool.{eq-eqb, eqb-true, true≢false}
use Rattle.std.proofs.lemmas.List.{get_or-set_same, get_or-set_other, length-set}
use Rattle.pg_law.specs.declared.edge_words.Change.{Change}
use Rattle.pg_law.specs.EdgeWords.{written}
use Rattle.pg_serial.specs.declared.scatter.Sent.{Sent}
use Rattle.pg_serial.specs.Sending.{word_with, change_of}

-- where each edge has the word that is sent over it already, its word stays
pub word_kept : (words : List ℕ) (e word : ℕ) (sents : List Sent) → word ≡ get_or words e 0
    → All (λ sent. get_or words sent.edge 0 ≡ sent.word) sents → word_with e word sents ≡ get_or words e 0
word_kept words e word [] is kept = is
word_kept words e word (sent ∷ sents) is kept = word_kept words e (cond (sent.edge == e) sent.word word) sents
    (by_edge (sent.edge == e) refl) (λ k d h. kept (suc k) d (omega arith))
  where
    by_edge : (b : Bool) → (sent.edge == e) ≡ b → cond b sent.word word ≡ get_or words e 0
    by_edge true at = sym (kept zero sent (omega arith)) ∙ ap (λ x. get_or words x 0) (eqb-true sent.edge e at)
    by_edge false at = is

-- as many words as before
pub length-written : (words : List ℕ) (changes : List Change) → length (written words changes) ≡ length words
length-written words [] = refl
length-written words (change ∷ changes) = length-written (set words change.edge change.word) changes
    ∙ length-set words change.edge change.word

-- an edge has the last word that was sent over it
pub word_written : (words : List ℕ) (e word : ℕ) (sents : List Sent) → e < length words → get_or words e 0 ≡ word
    → get_or (written words (map change_of sents)) e 0 ≡ word_with e word sents
word_written words e word [] inside is = is
word_written words e word (sent ∷ sents) inside is = word_written (set words sent.edge sent.word) e (cond (sent.edge == e) sent.word word) sents
    (omega (arith, length-set words sent.edge sent.word)) (by_edge (sent.edge == e) refl)
  where
    by_edge : (b : Bool) → (sent.edge == e) ≡ b → get_or (set words sent.edge sent.word) e 0 ≡ cond b sent.word word
    by_edge true at = let same = eqb-true sent.edge e at in
        ap (λ x. get_or (set words x sent.word) e 0) same ∙ get_or-set_same words e sent.word 0 inside
    by_edge false at = get_or-set_other words sent.edge e sent.word 0 (λ same. absurd (true≢false (sym (eq-eqb sent.edge e (sym same)) ∙ at))) ∙ is
