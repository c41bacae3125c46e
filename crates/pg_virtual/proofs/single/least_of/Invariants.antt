use Rattle.std.proofs.Common.{◌≡◌, ℕ, ◌<◌, false}
use Rattle.pg_law.specs.Configuration.{is_signalled}
use Rattle.pg_virtual.proofs.single.least_of.Given as goal

-- no vertex so far is signalled
abbrev pub invariant-loop-v : goal.invariant-loop-v
invariant-loop-v l = (v : ℕ) → v < l.v → is_signalled l.state v ≡ false
