-- What is counted of the rows of an epoch.
use Rattle.std.specs.Prelude.{◌≡◌, ◌&&◌, ℕ, ◌+◌, ◌-◌, ◌≤◌, Bool, not, is_some, is_none, List, [], Option, Some}
use Rattle.std.specs.Prelude.{None, if◌then◌else◌, option_map}
use Rattle.std.specs.List.{Contains, count_by, sum_by}
use Rattle.bac_check.specs.Holes.{AreHoles, Have, Rise, end_of, holes_of}
use Rattle.bac_check.specs.declared.tally.Hole.{Hole}
use Rattle.bac_check.specs.declared.tally.Span.{Span}
use Rattle.bac_check.specs.declared.tally.Tally.{Tally}

-- a row is a gap in which records were dropped
abbrev pub is_sure : Span → Bool
is_sure span = is_some span.last && not span.doubtful

-- a row is a gap that may be none
abbrev pub is_doubted : Span → Bool
is_doubted span = is_some span.last && span.doubtful

-- how many numbers a row has
abbrev pub numbers_of : Span → ℕ
numbers_of span = end_of span + 1 - span.number

-- how many numbers a gap has, if it is sure
abbrev pub sure_numbers : Span → ℕ
sure_numbers span = if is_sure span then numbers_of span else 0

-- or if it is doubtful
abbrev pub doubted_numbers : Span → ℕ
doubted_numbers span = if is_doubted span then numbers_of span else 0

-- how many numbers a hole has
abbrev pub hole_numbers : Hole → ℕ
hole_numbers hole = hole.last + 1 - hole.first

-- how many numbers are in no row
abbrev pub missing_numbers : List Hole → ℕ
missing_numbers holes = sum_by hole_numbers holes

-- the greatest number that is in a row
abbrev pub last_in : Tally → ℕ
last_in t = end_of t.newest

-- the last row, if there is one
abbrev pub newest_of : Option Tally → Option Span
newest_of counted = option_map (λ t. t.newest) counted

-- What is told of these rows, of which there is at least one: the least number that is in one, and the row with the
-- greatest; how many records there are, how many gaps, sure and doubtful, and how many numbers these have; and the
-- holes between the numbers. From the first number on each number is counted once.
pub record IsTally (spans : List Span) (t : Tally) : Type 0 where
  pub rise : Rise 0 spans
  pub first : Have spans t.first
  pub least : (n : ℕ) → Have spans n → t.first ≤ n
  pub newest : Contains spans t.newest
  pub last : Have spans (last_in t)
  pub greatest : (n : ℕ) → Have spans n → n ≤ last_in t
  pub records : t.records ≡ count_by (λ s. is_none s.last) spans
  pub gaps : t.gaps ≡ count_by is_sure spans
  pub gone : t.gone ≡ sum_by sure_numbers spans
  pub doubtful : t.doubtful ≡ count_by is_doubted spans
  pub doubted : t.doubted ≡ sum_by doubted_numbers spans
  pub few : t.records + t.gaps + t.doubtful ≤ last_in t + 1
  pub holes : AreHoles None spans t.holes.items
  pub once : t.first + (t.records + t.gone + t.doubted + missing_numbers t.holes.items) ≡ last_in t + 1

-- the same, or that there is no row
abbrev pub IsTallied : List Span → Option Tally → Type 0
IsTallied spans None = spans ≡ []
IsTallied spans (Some t) = IsTally spans t

-- From the beginning of an epoch up to the last number that is in a row each number is counted once: as a record, in a
-- gap, in a doubtful one, or in a hole.
abbrev pub AllAreCounted : Type 0
AllAreCounted = (from : ℕ) (spans : List Span) (t : Tally) → IsTallied spans (Some t) → from ≤ t.first
    → from + (t.records + t.gone + t.doubted + missing_numbers (holes_of (Some from) (Some t))) ≡ last_in t + 1
