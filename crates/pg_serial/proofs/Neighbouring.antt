-- The other ends of edges, row by row.
use Rattle.std.proofs.Common.{◌≡◌, ℕ, ◌+◌, ◌-◌, ◌<◌, List, [], ◌∷◌, ◌++◌, length, get_or, refl, ap, ◌∙◌, inl, inr, arith}
use Rattle.std.specs.Prelude.{map}
use Rattle.std.proofs.lemmas.Bool.{cases_lt}
use Rattle.std.proofs.lemmas.List.{length_push, length-append, length-map, get_or_push, get_or_append_left, get_or-append_right, get_or-map}
use Rattle.pg_graph.specs.Multigraph.{Multigraph, edges_at}
use Rattle.pg_serial.specs.Sending.{other_end}
use Rattle.pg_serial.specs.Neighbours.{beside, IsRow, AreNeighbours}

-- one more row
module _ (g : Multigraph) (starts ends : List ℕ) (v : ℕ) (count : length starts ≡ v) (so_far : AreNeighbours g (beside starts ends)) where
  abbrev more : List ℕ
  more = map (other_end g v) (edges_at g v)

  long : length (ends ++ more) ≡ length ends + length (edges_at g v)
  long = length-append ends more ∙ ap (λ n. length ends + n) (length-map (edges_at g v) (other_end g v))

  before : (u : ℕ) → u < length starts → IsRow g (beside (starts ++ length ends ∷ []) (ends ++ more)) u
  before u below =
      let row = so_far u below in
      let start = get_or_append_left starts (length ends ∷ []) 0 u below in
      record {
        within = omega (arith, row.within, start, long);
        end = λ k h. ap (λ s. get_or (ends ++ more) (s + k) 0) start ∙ (get_or_append_left ends more 0 (get_or starts u 0 + k) (omega (arith, row.within, h)) ∙ row.end k h);
      }

  last : IsRow g (beside (starts ++ length ends ∷ []) (ends ++ more)) v
  last =
      let start = get_or_push starts (length ends) 0 v count in
      record {
        within = omega (arith, start, long);
        end = λ k h.
            let at : length ends + k - length ends ≡ k = omega arith in
            ap (λ s. get_or (ends ++ more) (s + k) 0) start ∙ (get_or-append_right ends more (length ends) (length ends + k) 0 refl (omega arith)
            ∙ (ap (λ n. get_or more n 0) at ∙ get_or-map (other_end g v) (edges_at g v) k 0 0 h));
      }

  pub row_more : AreNeighbours g (beside (starts ++ length ends ∷ []) (ends ++ more))
  row_more u inside = elim (cases_lt u v) [
    | inl below ↦ before u (omega (arith, below, count))
    | inr above ↦
        let same : u ≡ v = omega (arith, above, inside, count, length_push starts (length ends)) in
        rw same last
  ]
