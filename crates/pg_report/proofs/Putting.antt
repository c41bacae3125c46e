-- Parts that were put one after another.
use Rattle.std.proofs.Common.{◌≡◌, ℕ, List, ◌++◌, append_assoc, ◌∙◌, ap}

pub behind_two : (a b c rest : List ℕ) → (a ++ (b ++ c)) ++ rest ≡ a ++ (b ++ (c ++ rest))
behind_two a b c rest = append_assoc a (b ++ c) rest ∙ ap (λ (back : List ℕ). a ++ back) (append_assoc b c rest)
