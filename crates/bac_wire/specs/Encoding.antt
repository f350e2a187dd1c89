-- The encodings of single parameters, kept opaque (`unfoldable`): a definition of a
-- list of parameters is made of them, and a proof about the list need not open them.
use Rattle.std.specs.Prelude.{ℕ, List}
use Rattle.bac_wire.specs.Primitive.{Primitive}
use Rattle.bac_wire.specs.Canon.{tag_octets, canon, canon_context}

-- a value after the context tag of this number (clause 20.2.1.5)
unfoldable pub context_octets : ℕ → Primitive → List ℕ
context_octets tag value = canon_context tag value

-- a value after its application tag (clause 20.2.1.4)
unfoldable pub value_octets : Primitive → List ℕ
value_octets value = canon value

-- the opening tag of this number (clause 20.2.1.3.2)
unfoldable pub open_octets : ℕ → List ℕ
open_octets tag = tag_octets 8 tag 6

-- the closing tag of this number (clause 20.2.1.3.2)
unfoldable pub close_octets : ℕ → List ℕ
close_octets tag = tag_octets 8 tag 7
