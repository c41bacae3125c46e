-- Sums over the edges, in any order.
use Rattle.std.proofs.Common.{ℕ, zero, suc, ◌<◌, ◌≡◌, Option, Some, None, arith, refl, sym, ap, ◌∙◌}
use Rattle.pg_law.specs.Round.{join}
use Rattle.pg_meals.specs.Families.{total}
use Rattle.pg_law.specs.Monoid.{IsCommutativeMonoid}

-- sums of the same values are the same
pub total_like : {X : Type 0} (add : X → X → X) (unit : X) (f h : ℕ → X) (n : ℕ) → ((k : ℕ) → k < n → f k ≡ h k) → total add unit f n ≡ total add unit h n
total_like add unit f h zero e = refl
total_like add unit f h (suc n) e =
    let here : f n ≡ h n = e n (omega arith) in
    let rest : total add unit f n ≡ total add unit h n = total_like add unit f h n (λ k i. e k (omega arith)) in
    cc

-- a sum of units
pub total_unit : {X : Type 0} {P : X → Type 0} {add : X → X → X} {unit : X} → IsCommutativeMonoid P unit add → (f : ℕ → X) (n : ℕ) → ((k : ℕ) → k < n → f k ≡ unit) → total add unit f n ≡ unit
total_unit m f zero e = refl
total_unit {add = add} {unit = unit} m f (suc n) e =
    let here : f n ≡ unit = e n (omega arith) in
    let rest : total add unit f n ≡ unit = total_unit m f n (λ k i. e k (omega arith)) in
    let both : add unit unit ≡ unit = m.left_unit unit m.unit_own in
    cc

-- a sum of such values is one
pub total_in : {X : Type 0} {P : X → Type 0} {add : X → X → X} {unit : X} → IsCommutativeMonoid P unit add → (f : ℕ → X) (n : ℕ) → ((k : ℕ) → P (f k)) → P (total add unit f n)
total_in m f zero e = m.unit_own
total_in m f (suc n) e = m.closed _ _ (total_in m f n e) (e n)

exchange : {X : Type 0} {P : X → Type 0} {add : X → X → X} {unit : X} → IsCommutativeMonoid P unit add → (a b c d : X) → P a → P b → P c → P d → add (add a b) (add c d) ≡ add (add a c) (add b d)
exchange {add = add} m a b c d pa pb pc pd =
    let one : add (add a b) (add c d) ≡ add a (add b (add c d)) = m.assoc a b (add c d) pa pb (m.closed c d pc pd) in
    let two : add b (add c d) ≡ add (add b c) d = sym (m.assoc b c d pb pc pd) in
    let three : add b c ≡ add c b = m.comm b c pb pc in
    let four : add (add c b) d ≡ add c (add b d) = m.assoc c b d pc pb pd in
    let five : add (add a c) (add b d) ≡ add a (add c (add b d)) = m.assoc a c (add b d) pa pc (m.closed b d pb pd) in
    cc

-- the sum of the sums of two families
pub total_add : {X : Type 0} {P : X → Type 0} {add : X → X → X} {unit : X} → IsCommutativeMonoid P unit add → (f h : ℕ → X) (n : ℕ) → ((k : ℕ) → P (f k)) → ((k : ℕ) → P (h k))
    → total add unit (λ k. add (f k) (h k)) n ≡ add (total add unit f n) (total add unit h n)
total_add m f h zero pf ph = sym (m.left_unit _ m.unit_own)
total_add {add = add} {unit = unit} m f h (suc n) pf ph =
    ap (λ x. add x (add (f n) (h n))) (total_add m f h n pf ph)
    ∙ exchange m (total add unit f n) (total add unit h n) (f n) (h n) (total_in m f n pf) (total_in m h n ph) (pf n) (ph n)

-- no message joined from the right
pub join-none : (f : ℕ → ℕ → ℕ) (x : Option ℕ) → join f x None ≡ x
join-none f None = refl
join-none f (Some x) = refl
