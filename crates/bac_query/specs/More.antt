-- Whether a device said that more is there (ResultFlags of the ACK of ReadRange, clause 15.8.1.2: more-items).
use Rattle.std.specs.Prelude.{◌≡◌, ℕ, Bool, false, List, [], ◌∷◌, Option, Some, None, Ok, Err}
use Rattle.bac_apdu.specs.Service.ReadRangeAck.{RangeAck, read_range_ack_at}
use Rattle.bac_link.specs.Datagrams.{apdu_in}
use Rattle.bac_link.specs.Heard.{parameters_in}
use Rattle.bac_link.specs.declared.item.Item.{Item}
use Rattle.bac_walk.specs.Came.{Came}
use Rattle.bac_walk.specs.declared.outcome.Ended.{Ended}
use Rattle.bac_walk.specs.declared.outcome.Ended.TheVariants as ended
use Rattle.bac_walk.specs.declared.outcome.Why.{Why}
use Rattle.bac_walk.specs.declared.outcome.Why.TheVariants as why
use Rattle.bac_query.specs.Fetching.{Fetching}

-- ---- of one reply

-- an ACK that can be read has the flag more-items set
abbrev pub has_more : Option RangeAck → Bool
has_more None = false
has_more (Some ack) = ack.more_items

-- the same of the parameters of an ACK
abbrev pub more_in : Option (List ℕ) → Bool
more_in None = false
more_in (Some parameters) = has_more (read_range_ack_at parameters)

-- a datagram is an unsegmented ACK of ReadRange with more-items set
abbrev pub says_more : List ℕ → Bool
says_more datagram = more_in (parameters_in (apdu_in datagram))

-- ---- of the last that brought records

-- what a reply says that brought these items; one without items leaves what was said before it
abbrev pub more_with : Bool → List ℕ → List Item → Bool
more_with was datagram [] = was
more_with was datagram (item ∷ items) = says_more datagram

-- what the last of these replies that brought records says; where none did, what was said before them
abbrev pub more_after : Bool → List Came → Bool
more_after was [] = was
more_after was (c ∷ came) = more_after (more_with was c.datagram c.items) came

-- the last of these replies that brought records said that more is there; where none did, it wasn't said
abbrev pub said_more : List Came → Bool
said_more came = more_after false came

-- what was said last after a step that ended so, by its last datagram; caught up or with a fault it brought no records
abbrev pub more_last : Bool → Ended → Option (List ℕ) → Bool
more_last was ended.CaughtUp last = was
more_last was (ended.Fault fault) last = was
more_last was end None = was
more_last was end (Some datagram) = says_more datagram

-- ---- of a walk

-- of a walk that is caught up alone: another's device may yet send what it said
abbrev pub if_caught_up : Why → Bool → Bool
if_caught_up why.CaughtUp said = said
if_caught_up cause said = false

-- it is told whether a walk is caught up though this was said
abbrev pub TellsMore : Bool → Fetching → Type 0
TellsMore said (Ok fetched) = fetched.said_more ≡ if_caught_up fetched.why said
TellsMore said (Err fault) = Unit {0}
