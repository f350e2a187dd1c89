-- What is read of an ACK of ReadRange.
use Rattle.std.specs.Prelude.{ℕ, Bool, false, List, Option, None, Some}
use Rattle.bac_apdu.specs.Service.ReadRangeAck.{RangeAck, read_range_ack_at}
use Rattle.bac_link.specs.Datagrams.{apdu_in}
use Rattle.bac_link.specs.Heard.{parameters_in}

-- whether an ACK has LAST_ITEM set (clause 15.8.1.1)
abbrev pub has_last : Option RangeAck → Bool
has_last None = false
has_last (Some ack) = ack.last_item

-- whether it has MORE_ITEMS set
abbrev pub has_more : Option RangeAck → Bool
has_more None = false
has_more (Some ack) = ack.more_items

-- the ACK of ReadRange in a datagram
abbrev pub ack_at : Option (List ℕ) → Option RangeAck
ack_at None = None
ack_at (Some parameters) = read_range_ack_at parameters

-- the same of a datagram
abbrev pub ack_in : List ℕ → Option RangeAck
ack_in datagram = ack_at (parameters_in (apdu_in datagram))
