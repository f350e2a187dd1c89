-- What the first octet of a tag says beside its number (clauses 20.2.1.1 and 20.2.1.3).
use Rattle.std.specs.Prelude.{ℕ}
use Rattle.bac_wire.specs.declared.tag.Class.{Class}
use Rattle.bac_wire.specs.declared.tag.Class.TheVariants.{Application, Context}
use Rattle.bac_wire.specs.declared.tag.Mark.{Mark}
use Rattle.bac_wire.specs.declared.tag.Mark.TheVariants.{Opening, Closing}

-- bit 3
abbrev pub class_bits : Class → ℕ
class_bits Application = 0
class_bits Context = 8

-- the three low bits
abbrev pub mark_bits : Mark → ℕ
mark_bits Opening = 6
mark_bits Closing = 7
