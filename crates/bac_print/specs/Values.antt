-- Texts of primitive values, one for each type (clauses 20.2.2 to 20.2.14).
use Rattle.std.specs.Prelude.{ℕ, ◌==◌, ◌||◌, ◌&&◌, not, nat_lt, Bool, if◌then◌else◌, List, [], ◌∷◌, ◌++◌}
use Rattle.std.specs.Prelude.{codes, decimal}
use Rattle.std.specs.List.{list_any}
use Rattle.std.specs.Str.{is_utf8}
use Rattle.std.specs.Fmt.{signed_decimal}
use Rattle.hex.specs.Hex.{encode_lower}
use Rattle.bac_wire.specs.Primitive.{Primitive, Null, Boolean, Unsigned, Signed, Real, Double, Octets, Chars, Bits}
use Rattle.bac_wire.specs.Primitive.{Enumerated, Date, Time, Object}
use Rattle.bac_print.specs.Numbers.{bit_digits, called, called_hex, called_two}
use Rattle.bac_print.specs.Moments.{date_text, time_text}

-- a control character, a quote or a backslash
abbrev pub is_special : ℕ → Bool
is_special octet = nat_lt octet 32 || (octet == 127 || (octet == 34 || octet == 92))

-- characters that are shown as they are: UTF-8, which is character set 0, with nothing special
abbrev pub is_plain : ℕ → List ℕ → Bool
is_plain set octets = (set == 0) && (is_utf8 octets && not (list_any is_special octets))

-- a character string between quotes, or else its character set and its octets in hexadecimal digits
abbrev pub chars_text : ℕ → List ℕ → List ℕ
chars_text set octets =
    if is_plain set octets then 34 ∷ (octets ++ 34 ∷ []) else
    called (codes "chars") (decimal set ++ (44 ∷ encode_lower octets))

-- true or false
abbrev pub boolean_text : Bool → List ℕ
boolean_text flag = if flag then codes "true" else codes "false"

-- the text of a value
unfoldable pub value_text : Primitive → List ℕ
value_text Null = codes "null"
value_text (Boolean flag) = boolean_text flag
value_text (Unsigned n) = decimal n
value_text (Signed z) = signed_decimal z
value_text (Real octets) = called_hex (codes "real") octets
value_text (Double octets) = called_hex (codes "double") octets
value_text (Octets octets) = called_hex (codes "octets") octets
value_text (Chars set octets) = chars_text set octets
value_text (Bits bits) = called (codes "bits") (bit_digits bits)
value_text (Enumerated n) = called (codes "enum") (decimal n)
value_text (Date octets) = called (codes "date") (date_text octets)
value_text (Time octets) = called (codes "time") (time_text octets)
value_text (Object id) = called_two (codes "object") id.kind id.instance
