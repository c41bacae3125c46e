-- A word that all edges have, and words one of which changes.
use Rattle.std.proofs.Common.{◌≡◌, ◌<◌, ℕ, List, length, map, All, sym, ◌∙◌, arith}
use Rattle.std.specs.Prelude.{replicate, slice_index}
use Rattle.std.proofs.lemmas.List.{ext_get_or, length-map, length-replicate, get_or-map, get_or-replicate}

-- where all these edges have a word, their words are that one, as often as there are edges
pub all_same : (words numbers : List ℕ) (word : ℕ) → All (λ e. slice_index words e ≡ word) numbers
    → map (slice_index words) numbers ≡ replicate (length numbers) word
all_same words numbers word same = ext_get_or 0 (map (slice_index words) numbers) (replicate (length numbers) word)
    (length-map numbers (slice_index words) ∙ sym (length-replicate {A = ℕ} (length numbers) word))
    (λ i h. let inside : i < length numbers = omega (arith, h, length-map numbers (slice_index words)) in
    get_or-map (slice_index words) numbers i 0 0 inside ∙ same i 0 inside ∙ sym (get_or-replicate {A = ℕ} (length numbers) i word 0 inside))
