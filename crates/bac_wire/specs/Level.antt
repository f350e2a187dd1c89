-- Tags on one level: whole tags with their contents, and the tags that open and
-- close a level inside it (clause 20.2.1.3.2).
use Rattle.std.specs.Prelude.{◌≡◌, ℕ, zero, suc, ◌⊎◌, ◌+◌, ◌-◌, ◌%◌, ◌<◌, ◌≤◌, ◌&&◌, not, nat_lt, ◌==◌, if◌then◌else◌}
use Rattle.std.specs.Prelude.{List, [], ◌∷◌, ◌++◌, length, take, drop, Result, Ok, Err}
use Rattle.bac_wire.specs.declared.level.Token.{Token}
use Rattle.bac_wire.specs.declared.level.Token.TheVariants.{Whole, Open, Close}
use Rattle.bac_wire.specs.declared.fault.WireFault.{WireFault}
use Rattle.bac_wire.specs.declared.fault.WireFault.TheVariants.{Ended, BadTag}
use Rattle.bac_wire.specs.Spelling.{IsTag, IsTagged}
use Rattle.bac_wire.specs.Chain.{◌>>=◌}
use Rattle.bac_wire.specs.Reading.{octet_at, octets_at, number_at, length_at, is_context}

-- ---- the grammar

-- A whole tag of any number with its contents. An application Boolean has no
-- contents, and its three low bits say no length.
abbrev pub IsWhole : List ℕ → Type 0
IsWhole text =
    ((low : ℕ) × (low < 6) × IsTag 0 1 low text)
    ⊎ ((class : ℕ) × (tag : ℕ) × (contents : List ℕ) × ((class ≡ 8) ⊎ ((class ≡ 0) × (tag ≡ 1 → ⊥)))
    × IsTagged class tag contents text)

-- a whole tag, one that opens a level, or one that closes a level
abbrev pub IsToken : Token → List ℕ → Type 0
IsToken Whole text = IsWhole text
IsToken Open text = (tag : ℕ) × IsTag 8 tag 6 text
IsToken (Close tag) text = IsTag 8 tag 7 text

-- one after the other, and nothing else
abbrev pub AreTokens : List Token → List ℕ → Type 0
AreTokens [] text = text ≡ []
AreTokens (token ∷ tokens) text =
    (front : List ℕ) × (rest : List ℕ) × (text ≡ front ++ rest) × IsToken token front × AreTokens tokens rest

-- they close so many levels, and each that they open
abbrev pub Closes : ℕ → List Token → Type 0
Closes depth [] = depth ≡ 0
Closes depth (Whole ∷ tokens) = Closes depth tokens
Closes depth (Open ∷ tokens) = Closes (suc depth) tokens
Closes zero (Close tag ∷ tokens) = ⊥
Closes (suc depth) (Close tag ∷ tokens) = Closes depth tokens

-- whole tags, each level that they open closed
abbrev pub IsLevel : List ℕ → Type 0
IsLevel text = (tokens : List Token) × AreTokens tokens text × Closes 0 tokens

-- n octets are such a level, and the closing tag of this number follows
abbrev pub EndsAt : ℕ → List ℕ → ℕ → Type 0
EndsAt wanted bytes n =
    (n ≤ length bytes) × IsLevel (take n bytes)
    × ((close : List ℕ) × (after : List ℕ) × (drop n bytes ≡ close ++ after) × IsTag 8 wanted 7 close)

-- ---- reading from left to right

-- the first of them, and the octets after it
unfoldable pub token_at : List ℕ → Result (Token × List ℕ) WireFault
token_at bytes = do
  first ← octet_at bytes
  if not (is_context first.0) && nat_lt 5 (first.0 % 8) then Err BadTag else do
    tag ← number_at first.0 first.1
    if first.0 % 8 == 6 then Ok (Open, tag.1) else
        if first.0 % 8 == 7 then Ok (Close tag.0, tag.1) else
        if not (is_context first.0) && tag.0 == 1 then Ok (Whole, tag.1) else do
          len ← length_at (first.0 % 8) tag.1
          contents ← octets_at len.0 len.1
          Ok (Whole, contents.1)

-- The octets from the closing tag on that ends this level. Each tag takes an
-- octet at least, so as many steps as octets are enough.
unfoldable pub close_at : ℕ → ℕ → ℕ → List ℕ → Result (List ℕ) WireFault
close_at zero depth wanted bytes = Err Ended
close_at (suc steps) depth wanted bytes = do
  token ← token_at bytes
  elim token.0 [
    | Whole ↦ close_at steps depth wanted token.1
    | Open ↦ close_at steps (depth + 1) wanted token.1
    | Close number ↦
        if depth == 0 then (if number == wanted then Ok bytes else Err BadTag) else
        close_at steps (depth - 1) wanted token.1
  ]

-- who looks for the end of a level finds it behind so many octets as before them, in fewer steps
abbrev pub IsPassed : ℕ → List ℕ → Type 0
IsPassed n bytes = (tags : ℕ)
    × (1 ≤ tags) × (tags ≤ n) × (n ≤ length bytes)
    × ((steps depth wanted : ℕ)
    → close_at (tags + steps) depth wanted bytes ≡ close_at steps depth wanted (drop n bytes))
