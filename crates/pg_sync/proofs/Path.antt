-- The rounds of the path of four vertices, one after another.
use Rattle.std.proofs.Common.{◌≡◌, ℕ, ◌+◌, [], ◌∷◌, refl, ap, ◌∙◌, Bool, false}
use Rattle.std.specs.Prelude.{Option, Some, None, sum_by}
use Rattle.pg_law.specs.Values.{one}
use Rattle.pg_law.specs.Configuration.{Configuration, is_quiet}
use Rattle.pg_law.specs.Round.{round}
use Rattle.pg_paths.specs.Components.{components}
use Rattle.pg_sync.specs.Counting.{gathers_in_on, gathers_on}
use Rattle.pg_sync.specs.Kept.{unkept, kept_after, cost_of_rounds, gather_degree_on}
use Rattle.pg_sync.specs.Path.{path, path_cut, path_gathers, cached_path_gathers}
use Rattle.pg_sync.proofs.Summing.{gathers_stop, gathers_go}
use Rattle.pg_sync.proofs.Costs.{cost_stop, cost_go}

abbrev at : ℕ → ℕ → ℕ → ℕ → Option ℕ → Option ℕ → Option ℕ → Option ℕ → Configuration
at a b c d m n o p = record { values = one a ∷ one b ∷ one c ∷ one d ∷ []; edges = 0 ∷ 0 ∷ 0 ∷ []; messages = m ∷ n ∷ o ∷ p ∷ [] }

abbrev start : Configuration
start = at 1 2 3 4 (Some 1) (Some 2) (Some 3) (Some 4)

abbrev after_one : Configuration
after_one = at 1 1 2 3 None None (Some 1) (Some 2)

abbrev after_two : Configuration
after_two = at 1 1 1 2 None None None (Some 1)

abbrev after_three : Configuration
after_three = at 1 1 1 1 None None None None

first : round components path start ≡ after_one
unfolding round
first = refl

second : round components path after_one ≡ after_two
unfolding round
second = refl

third : round components path after_two ≡ after_three
unfolding round
third = refl

abbrev here : Configuration → ℕ → ℕ
here s w = gathers_in_on components path path_cut s w

-- a round, and what comes behind it
step : (s next : Configuration) (n m w : ℕ) → is_quiet path s ≡ false → n ≡ m + 1 → round components path s ≡ next → gathers_on components path path_cut s n w ≡ here s w + gathers_on components path path_cut next m w
step s next n m w busy count is = gathers_go components path path_cut s n m w busy count ∙ ap (λ t. here s w + gathers_on components path path_cut t m w) is

pub path_gathers_are : (w : ℕ) → path_gathers w ≡ here start w + (here after_one w + (here after_two w + 0))
path_gathers_are w = step start after_one 10 9 w refl refl first
    ∙ ap (λ n. here start w + n) (step after_one after_two 9 8 w refl refl second)
    ∙ ap (λ n. here start w + (here after_one w + n)) (step after_two after_three 8 7 w refl refl third)
    ∙ ap (λ n. here start w + (here after_one w + (here after_two w + n))) (gathers_stop components path path_cut after_three 7 w refl)

-- the same where gathers are kept: after the first round all are
abbrev none : ℕ → Bool
none u = false

abbrev kept_one : ℕ → Bool
kept_one = kept_after components path none start

abbrev kept_two : ℕ → Bool
kept_two = kept_after components path kept_one after_one

abbrev kept_three : ℕ → Bool
kept_three = kept_after components path kept_two after_two

abbrev cached_here : (ℕ → Bool) → Configuration → ℕ → ℕ
cached_here kept s w = sum_by (gather_degree_on components path path_cut w) (unkept path kept s)

cached_step : (kept : ℕ → Bool) (s next : Configuration) (n m w : ℕ) → is_quiet path s ≡ false → n ≡ m + 1 → round components path s ≡ next
    → cost_of_rounds components path (gather_degree_on components path path_cut w) kept s n
    ≡ cached_here kept s w + cost_of_rounds components path (gather_degree_on components path path_cut w) (kept_after components path kept s) next m
cached_step kept s next n m w busy count is = cost_go components path (gather_degree_on components path path_cut w) kept s n m busy count
    ∙ ap (λ t. cached_here kept s w + cost_of_rounds components path (gather_degree_on components path path_cut w) (kept_after components path kept s) t m) is

pub cached_gathers_are : (w : ℕ) → cached_path_gathers w ≡ cached_here none start w + (cached_here kept_one after_one w + (cached_here kept_two after_two w + 0))
cached_gathers_are w = cached_step none start after_one 10 9 w refl refl first
    ∙ ap (λ n. cached_here none start w + n) (cached_step kept_one after_one after_two 9 8 w refl refl second)
    ∙ ap (λ n. cached_here none start w + (cached_here kept_one after_one w + n)) (cached_step kept_two after_two after_three 8 7 w refl refl third)
    ∙ ap (λ n. cached_here none start w + (cached_here kept_one after_one w + (cached_here kept_two after_two w + n))) (cost_stop components path (gather_degree_on components path path_cut w) kept_three after_three 7 refl)
