-- Texts of a device in Unicode (clause 20.2.9).
use Rattle.std.specs.Prelude.{◌≡◌, ℕ, ◌*◌, ◌+◌, List, [], ◌∷◌, Option, None, Some, option_map, encode_utf8_all, IsUtf8}
use Rattle.std.specs.Prelude.{◌≢◌}
use Rattle.std.specs.Char.{IsScalar}
use Rattle.std.specs.List.{All}
use Rattle.std.specs.String.{string_bytes}
use Rattle.std.specs.Prelude.{String}

-- the numbers of two octets each, the greater part first; an odd number of octets has none
abbrev pub pairs_of : List ℕ → Option (List ℕ)
pairs_of [] = Some []
pairs_of (high ∷ []) = None
pairs_of (high ∷ low ∷ octets) = option_map (λ l. (high * 256 + low) ∷ l) (pairs_of octets)

-- octets are UTF-8, which is the text
abbrev pub IsUtf8Text : {A : Type 0} → List ℕ → Option (String A) → Type 0
IsUtf8Text octets (Some text) = string_bytes text ≡ octets
IsUtf8Text octets None = IsUtf8 octets → ⊥

-- each pair of octets is a character of Unicode
abbrev pub IsPairsText : {A : Type 0} → List ℕ → Option (String A) → Type 0
IsPairsText octets (Some text) =
    (codes : List ℕ) × (pairs_of octets ≡ Some codes) × (string_bytes text ≡ encode_utf8_all codes)
IsPairsText octets None = (codes : List ℕ) → pairs_of octets ≡ Some codes → All IsScalar codes → ⊥

-- each octet is a character of Unicode
abbrev pub IsOctetsText : {A : Type 0} → List ℕ → Option (String A) → Type 0
IsOctetsText octets (Some text) = string_bytes text ≡ encode_utf8_all octets
IsOctetsText octets None = ⊥

-- Octets in a character set are this text: UTF-8 (0) as it is; UCS-2 (4) by pairs; and ISO 8859-1 (5) by octets, since
-- its characters are the first of Unicode. Of another set none is read.
pub record IsTextOf {A : Type 0} (set : ℕ) (octets : List ℕ) (text : Option (String A)) : Type 0 where
  pub utf_8 : set ≡ 0 → IsUtf8Text octets text
  pub ucs_2 : set ≡ 4 → IsPairsText octets text
  pub iso_8859_1 : set ≡ 5 → IsOctetsText octets text
  pub other : set ≢ 0 → set ≢ 4 → set ≢ 5 → text ≡ None
