use Rattle.std.proofs.Common.{◌≡◌, ◌≤◌, ◌<◌, ◌+◌, ℕ, get_or, pos, []}
use Rattle.sqlite_value.specs.Order.{column}
use Rattle.sqlite_value.specs.declared.value.Value.TheVariants.{Int}
use Rattle.bac_archive.proofs.opening.place_before.Given as goal

abbrev pub invariant-loop-step : goal.invariant-loop-step
invariant-loop-step l = (i : ℕ) → l.end ≤ i + l.step → i < l.end → column (get_or l.rows i []) 0 ≡ Int (pos l.id) → ⊥
