-- Which tag is next (clause 20.2.1). It is asked if a parameter may be left
-- out. Only class, kind and number of the tag are looked at, and no length.
use Rattle.std.specs.Prelude.{ℕ, ◌/◌, ◌%◌, Bool, false, not, ◌&&◌, nat_lt, nat_le, ◌==◌, List, [], ◌∷◌, Option, Some}
use Rattle.std.specs.Prelude.{None, if◌then◌else◌}

-- the number in the octet after the first, beside the low four bits of the first
abbrev pub own_number : ℕ → List ℕ → Option (ℕ × ℕ)
own_number low [] = None
own_number low (own ∷ rest) = if own == 255 then None else Some (low, own)

-- The low four bits of the next tag's first octet, which state class and kind,
-- and its number; none if the octets that state them are missing.
abbrev pub next_tag : List ℕ → Option (ℕ × ℕ)
next_tag [] = None
next_tag (first ∷ rest) = if nat_lt first 240 then Some (first % 16, first / 16) else own_number (first % 16) rest

-- whether there is a next tag and it passes this test
abbrev pub if_tag : (ℕ × ℕ → Bool) → Option (ℕ × ℕ) → Bool
if_tag test None = false
if_tag test (Some tag) = test tag

-- a value after the context tag of this number
abbrev pub value_next : ℕ → List ℕ → Bool
value_next number bytes = if_tag (λ tag. nat_le 8 tag.0 && nat_le tag.0 13 && tag.1 == number) (next_tag bytes)

-- the opening tag of this number
abbrev pub opening_next : ℕ → List ℕ → Bool
opening_next number bytes = if_tag (λ tag. tag.0 == 14 && tag.1 == number) (next_tag bytes)

-- an application tag of another type than this
abbrev pub other_next : ℕ → List ℕ → Bool
other_next type bytes = if_tag (λ tag. nat_le tag.0 5 && not (tag.1 == type)) (next_tag bytes)
