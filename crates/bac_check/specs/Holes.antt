-- Which numbers of an epoch are in rows, and which are in none.
use Rattle.std.specs.Prelude.{◌≡◌, ◌⊎◌, ◌↔◌, ℕ, ◌+◌, ◌-◌, ◌<◌, ◌≤◌, nat_lt, List, [], ◌∷◌, ◌++◌, Option, Some, None}
use Rattle.std.specs.Prelude.{if◌then◌else◌, unwrap_or}
use Rattle.std.specs.List.{Contains}
use Rattle.bac_check.specs.declared.tally.Hole.{Hole}
use Rattle.bac_check.specs.declared.tally.Span.{Span}
use Rattle.bac_check.specs.declared.tally.Tally.{Tally}

-- the last number of a row
abbrev pub end_of : Span → ℕ
end_of span = unwrap_or span.last span.number

-- a number is in a row
abbrev pub Has : Span → ℕ → Type 0
Has span n = (span.number ≤ n) × (n ≤ end_of span)

-- a number is in one of these rows
abbrev pub Have : List Span → ℕ → Type 0
Have spans n = (span : Span) × Contains spans span × Has span n

-- a number comes from the beginning on, if that is told
abbrev pub Begins : Option ℕ → ℕ → Type 0
Begins None n = ⊥
Begins (Some from) n = from ≤ n

-- A number is missing: it is in no row, a later one is, and it comes from the beginning on, or an earlier one is.
pub record IsMissing (from : Option ℕ) (spans : List Span) (n : ℕ) : Type 0 where
  pub none : Have spans n → ⊥
  pub later : (m : ℕ) × (n < m) × Have spans m
  pub begun : Begins from n ⊎ ((m : ℕ) × (m < n) × Have spans m)

-- a number lies in one of these stretches
abbrev pub IsIn : List Hole → ℕ → Type 0
IsIn holes n = (hole : Hole) × Contains holes hole × (hole.first ≤ n) × (n ≤ hole.last)

-- stretches that rise from a number on, with a number between each and the next
abbrev pub RiseApart : ℕ → List Hole → Type 0
RiseApart free [] = Unit {0}
RiseApart free (hole ∷ holes) = (free ≤ hole.first) × (hole.first ≤ hole.last) × RiseApart (hole.last + 2) holes

-- The holes: the numbers that are missing, in as few stretches as they can be told in.
pub record AreHoles (from : Option ℕ) (spans : List Span) (holes : List Hole) : Type 0 where
  pub apart : RiseApart 0 holes
  pub each : (n : ℕ) → IsIn holes n ↔ IsMissing from spans n

-- the numbers from one up to the one before another, if there are any
abbrev pub stretch : ℕ → ℕ → List Hole
stretch from to = if nat_lt from to then record { first = from; last = to - 1 } ∷ [] else []

-- one, or none
abbrev pub if_any : Option Hole → List Hole
if_any None = []
if_any (Some hole) = hole ∷ []

-- those before the first number that is in a row
abbrev pub front_of : Option ℕ → ℕ → List Hole
front_of None first = []
front_of (Some from) first = stretch from first

-- the holes of an epoch that began so: before its first number, and between its rows
abbrev pub holes_of : Option ℕ → Option Tally → List Hole
holes_of from None = []
holes_of from (Some t) = front_of from t.first ++ t.holes.items

-- rows that rise from a number on, none over another
abbrev pub Rise : ℕ → List Span → Type 0
Rise free [] = Unit {0}
Rise free (span ∷ spans) = (free ≤ span.number) × (span.number ≤ end_of span) × Rise (end_of span + 1) spans

-- a number is in one row, and in no other
abbrev pub HasOne : List Span → ℕ → Type 0
HasOne spans n = (span : Span) × Contains spans span × Has span n
    × ((other : Span) → Contains spans other → Has other n → other ≡ span)

-- There is no hole just if each number up to the last that is in a row, from the beginning on or from the first that is
-- in a row, is in one row and no other.
abbrev pub NoneIsMissing : Type 0
NoneIsMissing = (from : Option ℕ) (spans : List Span) (holes : List Hole) → Rise 0 spans → AreHoles from spans holes
    → (holes ≡ []) ↔ ((n m : ℕ) → Have spans m → n ≤ m
    → Begins from n ⊎ ((k : ℕ) × (k ≤ n) × Have spans k) → HasOne spans n)
