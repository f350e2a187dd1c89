-- The primitive types by the numbers of their application tags (clause 20.2.1.4).
use Rattle.std.specs.Prelude.{ℕ}
use Rattle.bac_wire.specs.declared.primitive_type.PrimitiveType.{PrimitiveType}
use Rattle.bac_wire.specs.declared.primitive_type.PrimitiveType.TheVariants.{Null, Boolean, Unsigned, Signed, Real}
use Rattle.bac_wire.specs.declared.primitive_type.PrimitiveType.TheVariants.{Double, OctetString, CharacterString}
use Rattle.bac_wire.specs.declared.primitive_type.PrimitiveType.TheVariants.{BitString, Enumerated, Date, Time}
use Rattle.bac_wire.specs.declared.primitive_type.PrimitiveType.TheVariants.{ObjectIdentifier}

-- the number of a type's application tag
abbrev pub type_number : PrimitiveType → ℕ
type_number Null = 0
type_number Boolean = 1
type_number Unsigned = 2
type_number Signed = 3
type_number Real = 4
type_number Double = 5
type_number OctetString = 6
type_number CharacterString = 7
type_number BitString = 8
type_number Enumerated = 9
type_number Date = 10
type_number Time = 11
type_number ObjectIdentifier = 12
