-- The workers that may get an edge, and the case, by the bits of its ends.
use Rattle.std.proofs.Common.{◌≡◌, ℕ, ◌^◌, ◌<◌, Bool, cond, ◌==◌, ◌||◌, ◌&&◌, bit_and, List, [], length, get_or, refl, sym, ◌∙◌, ap, arith, true}
use Rattle.std.specs.Prelude.{nat_lt, not}
use Rattle.std.proofs.lemmas.Bool.{and_parts}
use Rattle.std.proofs.lemmas.Nat.{and_le_l}
use Rattle.std.proofs.lemmas.List.{get_or_read, get_or-map}
use Rattle.pg_graph.specs.declared.edge.Edge.{Edge}
use Rattle.pg_graph.specs.Multigraph.{Multigraph}
use Rattle.pg_cut.specs.WorkerSet.{has, workers_in, workers_that, IsWithin}
use Rattle.pg_greedy.specs.Greedy.{Table, IsKept, table_by, set_at, candidates, candidates_of, target_has_more, case_of, best_of, greedy}
use Rattle.pg_greedy.specs.declared.placed.Placed.{Placed}
use Rattle.pg_greedy.proofs.Choosing.{candidates_by, case_by, has-and}

-- what is read of one end
module _ (g : Multigraph) (workers first : ℕ) (bits placed loads : List ℕ) (kept : IsKept g workers first bits placed loads) (v x : ℕ) (h : v < length g.ids) (is : x ≡ get_or bits v x) where
  inside : v < length bits
  inside = omega (arith, kept.sets_count)

  pub held_set : workers_in x ≡ set_at (table_by g workers first bits placed loads) v
  held_set = ap workers_in (get_or_read bits v x inside is 0) ∙ sym (get_or-map workers_in bits v 0 [] inside)

  pub held_within : IsWithin workers x
  held_within w t = kept.members v h w (ap (λ y. has y w) (sym (get_or_read bits v x inside is 0)) ∙ t)

module _ (table : Table) (edge : Edge) (us vs : ℕ) (fits_us : us < 2 ^ 64) (fits_vs : vs < 2 ^ 64) (us_is : workers_in us ≡ set_at table edge.src) (vs_is : workers_in vs ≡ set_at table edge.dst) where
  both_fits : bit_and us vs < 2 ^ 64
  both_fits = omega (arith, and_le_l us vs)

  pub set_by : (a b c d : Bool) → (bit_and us vs == 0) ≡ a → (us == 0) ≡ b → (vs == 0) ≡ c → target_has_more table edge ≡ d
      → cond (not a) (workers_in (bit_and us vs)) (cond (b && c) (workers_that (λ w. nat_lt w table.workers)) (cond b (workers_in vs) (cond c (workers_in us) (cond d (workers_in vs) (workers_in us)))))
      ≡ candidates_of table edge
  set_by a b c d ea eb ec ed = candidates_by table.workers us vs (target_has_more table edge) fits_us fits_vs both_fits a b c d ea eb ec ed
      ∙ ap (λ xs. candidates table.workers (target_has_more table edge) xs (workers_in vs)) us_is
      ∙ ap (λ ys. candidates table.workers (target_has_more table edge) (set_at table edge.src) ys) vs_is

  pub case_is : (a b c : Bool) → (bit_and us vs == 0) ≡ a → (us == 0) ≡ b → (vs == 0) ≡ c
      → cond (not a) 1 (cond (b && c) 4 (cond (b || c) 3 2)) ≡ case_of (set_at table edge.src) (set_at table edge.dst)
  case_is a b c ea eb ec = case_by table.workers us vs true fits_us fits_vs both_fits a b c ea eb ec
      ∙ ap (λ xs. case_of xs (workers_in vs)) us_is ∙ ap (λ ys. case_of (set_at table edge.src) ys) vs_is

-- who holds both ends is no one new
pub both_within : (workers us vs : ℕ) → IsWithin workers us → IsWithin workers (bit_and us vs)
both_within workers us vs within w t = within w (and_parts (has us w) (has vs w) (sym (has-and us vs w) ∙ t)).0

-- where the table sends an edge
pub placed_is : (table : Table) (edge other : Edge) (set worker case : ℕ) → worker ≡ best_of table.workers table.first table.loads (workers_in set) → workers_in set ≡ candidates_of table edge
    → case ≡ case_of (set_at table edge.src) (set_at table edge.dst) → edge ≡ other → ◌≡◌ {A = Placed} (record { worker = worker; case = case }) (greedy table other)
unfolding greedy
placed_is table edge other set worker case best cands by same = rw (← same) (rw (best, cands, by) refl)
