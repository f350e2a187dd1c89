-- What it means that nothing is missing.
use Rattle.std.specs.Prelude.{◌≡◌, ◌⊎◌, ℕ, ◌≤◌, true, false, List, Some}
use Rattle.std.specs.List.{Contains}
use Rattle.bac_archive.specs.declared.row.LogRow.{LogRow}
use Rattle.bac_check.specs.Holes.{Begins, HasOne, Have}
use Rattle.bac_check.specs.Joins.{log_of}
use Rattle.bac_check.specs.Lines.{has_all, has_lost, is_gone}
use Rattle.bac_check.specs.Tallies.{IsTallied}
use Rattle.bac_check.specs.declared.counts.Counts.{Counts}
use Rattle.bac_check.specs.declared.course.Course.{Course}
use Rattle.bac_check.specs.declared.tally.Span.{Span}

-- each number that comes at this one or behind it, or behind one that is in a row, up to the last one that is in a row,
-- is in one row and in no other
abbrev pub HasEach : ℕ → List Span → Type 0
HasEach from spans = (n m : ℕ) → Have spans m → n ≤ m → Begins (Some from) n ⊎ ((k : ℕ) × (k ≤ n) × Have spans k)
    → HasOne spans n

-- Where nothing is missing, no epoch of one of the logs is gone, nor one before it, and each has each number from its
-- beginning on.
abbrev pub WholeHasEach : Type 0
WholeHasEach = (counts : Counts) (log : LogRow) (course : Course) (spans : List Span) → has_all counts ≡ true
    → Contains counts.logs.items log → Contains counts.courses.items course → log_of course.begun.id ≡ log.id
    → IsTallied spans course.tally
    → (is_gone counts.courses.items course ≡ false) × (has_lost counts.courses.items course ≡ false)
    × HasEach course.begun.number spans
