-- The value to write: TAG and --value.
use Rattle.std.specs.Prelude.{ℕ, Bool, ◌==◌, ◌||◌, nat_le, if◌then◌else◌, List, length, Option, None, Some, option_map}
use Rattle.std.specs.Result.{result_ok}
use Rattle.hex.specs.Hex.{decode_sized}
use Rattle.bac_command_line.specs.Numbers.{number_in, unsigned_in, signed_in}
use Rattle.bac_command_line.specs.declared.job.Given.{Given}
use Rattle.bac_command_line.specs.declared.job.Given.TheVariants as given

-- the application tags of Null, Boolean, Unsigned, Signed, REAL, Character String and Enumerated
abbrev pub is_tag : ℕ → Bool
is_tag tag = nat_le tag 4 || (tag == 7 || tag == 9)

-- 0 or 1
abbrev pub boolean_in : List ℕ → Option Bool
boolean_in word = option_map (λ n. n == 1) (number_in 0 1 word)

-- four octets in eight hexadecimal digits
abbrev pub real_in : List ℕ → Option (List ℕ)
real_in word = result_ok (decode_sized word 4)

-- what a word says as a value of a tag, other than Null and a text
abbrev pub value_in : ℕ → List ℕ → Option Given
value_in tag word =
    if tag == 1 then option_map given.Boolean (boolean_in word) else
    if tag == 2 then option_map given.Unsigned (unsigned_in word) else
    if tag == 3 then option_map given.Signed (signed_in word) else
    if tag == 4 then option_map given.Real4 (real_in word) else
    if tag == 9 then option_map given.Enumerated (number_in 0 4294967295 word) else None

-- a text has at most 1400 octets
abbrev pub text_in : List ℕ → Option Given
text_in word = if nat_le (length word) 1400 then Some (given.Text word) else None

-- the value of a tag: Null (0) has no --value, every other has one
abbrev pub given_in : ℕ → Option (List ℕ) → Option Given
given_in tag None = if tag == 0 then Some given.Null else None
given_in tag (Some word) = if tag == 7 then text_in word else value_in tag word
