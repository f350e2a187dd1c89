-- Records that stand in a reply as octets.
use Rattle.std.specs.Prelude.{◌≡◌, ℕ, ◌-◌, ◌<◌, ◌≤◌, List, [], length, take, drop, Option, Some, None, IfSome, Ok}
use Rattle.std.specs.Result.{result_ok}
use Rattle.bac_apdu.specs.Service.ReadRangeAck.{RangeAck, read_range_ack_at}
use Rattle.bac_log.specs.declared.entry.Entry.{Entry}
use Rattle.bac_link.specs.Datagrams.{apdu_in}
use Rattle.bac_walk.specs.declared.batch.Numbered.{Numbered}
use Rattle.bac_link.specs.Heard.{records_in}
use Rattle.bac_link.specs.Heard.{parameters_in}
use Rattle.bac_walk.specs.Walks.{with_numbers}

-- the item data of an ACK, and no octets if there is none
abbrev pub item_data : Option RangeAck → List ℕ
item_data None = []
item_data (Some a) = a.items

-- the item data in the parameters of an ACK
abbrev pub data_in : List ℕ → List ℕ
data_in parameters = item_data (read_range_ack_at parameters)

-- the same of parameters that may not be there
abbrev pub data_if : Option (List ℕ) → List ℕ
data_if None = []
data_if (Some parameters) = data_in parameters

-- the item data in a datagram with an ACK of ReadRange
abbrev pub data_held : List ℕ → List ℕ
data_held datagram = data_if (parameters_in (apdu_in datagram))

-- where octets start and end in a datagram, if that is known
abbrev pub LiesAt : Option (ℕ × ℕ) → List ℕ → List ℕ → Type 0
LiesAt place datagram octets =
    IfSome place (λ p. (p.0 ≤ p.1) × (p.1 ≤ length datagram) × (take (p.1 - p.0) (drop p.0 datagram) ≡ octets))

-- the records that were read, and none if they couldn't be read
abbrev pub all_or_none : Option (List Entry) → List Entry
all_or_none None = []
all_or_none (Some es) = es

-- the records that octets encode, and none if they aren't records all through
abbrev pub spelled : List ℕ → List Entry
spelled octets = all_or_none (result_ok (records_in octets))

-- each with its number, the first of which is this
abbrev pub records_from : ℕ → List ℕ → List Numbered
records_from first octets = with_numbers first (spelled octets)

-- octets that are right as a whole: 1 to 100 records, and nothing else
pub record IsWhole (first : ℕ) (octets : List ℕ) : Type 0 where
  pub read : records_in octets ≡ Ok (spelled octets)
  pub some : 0 < length (records_from first octets)
  pub most : length (records_from first octets) ≤ 100
