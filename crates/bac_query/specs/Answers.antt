-- What an answer to ReadProperty tells (clause 15.5): the values of its ACK.
use Rattle.std.specs.Prelude.{◌≡◌, ℕ, List, Option, Some, None}
use Rattle.std.specs.Option.{option_map}
use Rattle.bac_wire.specs.Primitive.{Primitive}
use Rattle.bac_wire.specs.Spelling.{Spells}
use Rattle.bac_apdu.specs.Apdu.{Apdu}
use Rattle.bac_apdu.specs.Apdu as apdu
use Rattle.bac_apdu.specs.Service.ReadPropertyAck.{read_property_ack_at}
use Rattle.bac_link.specs.Datagrams.{apdu_in}

-- the octets of the values in an ACK that can be read
abbrev pub values_in : Option Apdu → Option (List ℕ)
values_in (Some (apdu.Complex segmented invoke service parameters)) =
    option_map (λ ack. ack.values) (read_property_ack_at parameters)
values_in other = None

-- they are this one value
abbrev pub Tells : List ℕ → Primitive → Type 0
Tells datagram value = (values : List ℕ) × (values_in (apdu_in datagram) ≡ Some values) × Spells values value
