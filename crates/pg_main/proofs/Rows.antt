-- The rounds of the path of four vertices, one after another.
use Rattle.std.proofs.Common.{◌≡◌, ℕ, ◌+◌, [], ◌∷◌, refl, ap, ◌∙◌, false}
use Rattle.std.specs.Prelude.{Option, Some, None}
use Rattle.pg_law.specs.Values.{one}
use Rattle.pg_law.specs.Configuration.{Configuration, is_quiet, start_state}
use Rattle.pg_law.specs.Round.{round}
use Rattle.pg_law.specs.Rounds.{Run, rounds, after_round}
use Rattle.pg_law.proofs.Repeating.{rounds_stop, rounds_go}
use Rattle.pg_paths.specs.Components.{components}
use Rattle.pg_main.specs.Rows.{path_graph}

abbrev at : ℕ → ℕ → ℕ → ℕ → Option ℕ → Option ℕ → Option ℕ → Option ℕ → Configuration
at a b c d m n o p = record { values = one a ∷ one b ∷ one c ∷ one d ∷ []; edges = 0 ∷ 0 ∷ 0 ∷ []; messages = m ∷ n ∷ o ∷ p ∷ [] }

abbrev start : Configuration
start = at 1 2 3 4 (Some 1) (Some 2) (Some 3) (Some 4)

abbrev after_one : Configuration
after_one = at 1 1 2 3 None None (Some 1) (Some 2)

abbrev after_two : Configuration
after_two = at 1 1 1 2 None None None (Some 1)

abbrev after_three : Configuration
after_three = at 1 1 1 1 None None None None

first : round components path_graph start ≡ after_one
unfolding round
first = refl

second : round components path_graph after_one ≡ after_two
unfolding round
second = refl

third : round components path_graph after_two ≡ after_three
unfolding round
third = refl

-- a round, and what comes behind it
step : (s next : Configuration) (n : ℕ) (run : Run) → is_quiet path_graph s ≡ false → round components path_graph s ≡ next → rounds components path_graph next n ≡ run
    → rounds components path_graph s (n + 1) ≡ after_round components path_graph s run
step s next n run busy goes rest = rounds_go components path_graph s (n + 1) n busy refl ∙ ap (λ (t : Configuration). after_round components path_graph s (rounds components path_graph t n)) goes ∙ ap (after_round components path_graph s) rest

pub path_run : rounds components path_graph (start_state components path_graph) 1000000 ≡ record { state = after_three; rounds = 3; executions = 7; gathers = 10 }
path_run = step start after_one 999999 _ refl first (step after_one after_two 999998 _ refl second (step after_two after_three 999997 _ refl third (rounds_stop components path_graph after_three 999997 refl)))
