-- The value that the words of wp say, as it is encoded (clause 20.2).
use Rattle.bac_wire.specs.Primitive.{Primitive, Null, Boolean, Unsigned, Signed, Real, Chars, Enumerated}
use Rattle.bac_command_line.specs.declared.job.Given.{Given}
use Rattle.bac_command_line.specs.declared.job.Given.TheVariants as given

-- a text is one in UTF-8, character set 0
abbrev pub value_of : Given → Primitive
value_of given.Null = Null
value_of (given.Boolean b) = Boolean b
value_of (given.Unsigned n) = Unsigned n
value_of (given.Signed z) = Signed z
value_of (given.Real4 octets) = Real octets
value_of (given.Text text) = Chars 0 text
value_of (given.Enumerated n) = Enumerated n
