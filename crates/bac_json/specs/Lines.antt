-- The lines of JSON (RFC 8259): an object each.
use Rattle.std.specs.Prelude.{◌≡◌, ℕ, List, [], ◌∷◌, ◌++◌, Bool, true, false, decimal, flat_map, Option, None, Some}
use Rattle.std.specs.Float.{float_is_finite}
use Rattle.std.specs.Float.Ieee.{Float, binary64}
use Rattle.std.specs.Str.Lossy.{utf8_lossy}
use Rattle.ryu.specs.Parse.{parse_float}
use Rattle.json.specs.Json.{Json, null, number, string, object, Members, no_members, member}
use Rattle.json.specs.Print.{print}
use Rattle.json.specs.Token as token
use Rattle.json.specs.Token.{Token}
use Rattle.json.specs.Tree.{json_tokens}

-- ---- the values of fields

-- A text. What isn't UTF-8 in it is shown as U+FFFD, since JSON has no other octets.
abbrev pub text : List ℕ → Json
text octets = string (utf8_lossy octets)

-- a text, or null where there is none
abbrev pub text_or_null : List ℕ → Json
text_or_null [] = null
text_or_null (octet ∷ octets) = text (octet ∷ octets)

-- a number that is no fraction
abbrev pub whole : ℕ → Json
whole n = number (decimal n)

-- the same, or null where there is none
abbrev pub whole_or_null : Option ℕ → Json
whole_or_null None = null
whole_or_null (Some n) = whole n

-- A real number: a decimal that reads back as it. JSON has no NaN and no infinity: null, as where there is none.
abbrev pub IsFinite : Bool → Float → Json → Type 0
IsFinite true real value = (digits : List ℕ) × (parse_float binary64 digits ≡ Some real) × (value ≡ number digits)
IsFinite false real value = value ≡ null

-- there may be one
abbrev pub IsReal : Option Float → Json → Type 0
IsReal None value = value ≡ null
IsReal (Some real) value = IsFinite (float_is_finite real) real value

-- ---- a line

-- a key, and what stands under it
abbrev pub Field : Type 0
Field = List ℕ × Json

-- the members of an object, in order
abbrev pub members_of : List Field → Members
members_of [] = no_members
members_of (field ∷ fields) = member field.0 field.1 (members_of fields)

-- the line of these fields: their object without blanks, and a line feed
abbrev pub line_of : List Field → List ℕ
line_of fields = print (json_tokens (object (members_of fields))) ++ 10 ∷ []

-- ---- as it is written

-- the tokens of a field
abbrev pub field_tokens : Field → List Token
field_tokens field = token.key field.0 ∷ json_tokens field.1

-- those of fields, one after the other
abbrev pub fields_tokens : List Field → List Token
fields_tokens fields = flat_map field_tokens fields
