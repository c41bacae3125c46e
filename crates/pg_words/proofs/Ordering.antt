-- Two settings side by side may change places.
use Rattle.std.proofs.Common.{◌≡◌, ◌≢◌, List, [], ◌∷◌, ◌++◌, sym, ◌∙◌, subst}
use Rattle.pg_words.specs.Options.{no_choices}
use Rattle.pg_words.specs.Jobs.{Setting, IsJobOf}
use Rattle.pg_words.specs.declared.choices.Choices.{Choices}
use Rattle.pg_words.specs.declared.head.Head.{Head}
use Rattle.pg_words.specs.declared.job.Job.{Job}
use Rattle.pg_words.proofs.Choosing.{excludes-comm, option_of, put, put-comm, with_setting-IsPut}
use Rattle.pg_words.proofs.Parsing.{Placed-IsJobOf, IsJobOf-Placed}
use Rattle.pg_words.proofs.Settings.{Placed, free_parts, free_whole, new_ahead, new_behind, allowed_ahead, allowed_behind}

-- the first two settings change places
swap_front : (head : Head) (c d : Choices) (first second : Setting) (back : List Setting)
    → Placed head c (first ∷ second ∷ back) d → Placed head c (second ∷ first ∷ back) d
swap_front head c d first second back (one, is_one, (two, is_two, rest)) =
    let free_first = free_parts head c first.option is_one.free in
    let free_second = free_parts head one second.option is_two.free in
    let apart = new_behind c one first.option first.value is_one.set second.option free_second.new in
    let beside = allowed_behind c one first.option first.value is_one.set second.option free_second.allowed in
    let set_first = with_setting-IsPut c one first.option first.value is_one.set in
    let set_second = with_setting-IsPut one two second.option second.value is_two.set in
    let earlier = set_second.again c in
    let new = new_ahead c (put c set_second.value) second.option second.value earlier first.option (λ same. apart.0 (sym same)) free_first.new in
    let allowed = allowed_ahead c (put c set_second.value) second.option second.value earlier first.option
    (excludes-comm second.option first.option ∙ beside.0) free_first.allowed in
    let differ : option_of set_first.value ≢ option_of set_second.value = λ same. apart.0 (sym set_first.own ∙ (same ∙ set_second.own)) in
    let same : put (put c set_second.value) set_first.value ≡ two =
    sym (put-comm c set_first.value set_second.value differ) ∙ (rw set_first.is set_second.is) in (
      put c set_second.value,
      record {
        free = free_whole head c second.option (record { taken = free_second.taken; new = apart.1; allowed = beside.1 });
        set = earlier;
      },
      (
        put (put c set_second.value) set_first.value,
        record {
          free = free_whole head (put c set_second.value) first.option
              (record { taken = free_first.taken; new = new; allowed = allowed });
          set = set_first.again (put c set_second.value);
        },
        subst (λ (x : Choices). Placed head x back d) (sym same) rest,
      ),
    )

-- two settings behind others change places
swap : (head : Head) (c d : Choices) (front back : List Setting) (first second : Setting)
    → Placed head c (front ++ first ∷ second ∷ back) d → Placed head c (front ++ second ∷ first ∷ back) d
swap head c d [] back first second placed = swap_front head c d first second back placed
swap head c d (setting ∷ front) back first second (more, set, rest) = (more, set, swap head more d front back first second rest)

-- and the job is the same
pub IsJobOf-swap : (head : Head) (front back : List Setting) (first second : Setting) (job : Job)
    → IsJobOf head (front ++ first ∷ second ∷ back) job → IsJobOf head (front ++ second ∷ first ∷ back) job
IsJobOf-swap head front back first second job is =
    let placed = IsJobOf-Placed head (front ++ first ∷ second ∷ back) job is in
    Placed-IsJobOf head (front ++ second ∷ first ∷ back) placed.made job
    (swap head no_choices placed.made front back first second placed.placed) placed.meant
