-- What is heard of a log in the parameters of an ACK, and in a datagram.
use Rattle.std.specs.Prelude.{ℕ, Bool, true, false, ◌==◌, ◌&&◌, List, length, Option, Some, None, Result, if◌then◌else◌}
use Rattle.std.specs.Result.{result_ok}
use Rattle.bac_wire.specs.declared.fault.WireFault.{WireFault}
use Rattle.bac_wire.specs.Primitive.{Id}
use Rattle.bac_apdu.specs.Apdu.{Apdu, Complex}
use Rattle.bac_apdu.specs.Service.ReadRangeAck.{RangeAck, read_range_ack_at}
use Rattle.bac_log.specs.declared.entry.Entry.{Entry}
use Rattle.bac_log.specs.Ack.{log_buffer}
use Rattle.bac_log.specs.RecordReading.{entries_at}
use Rattle.bac_link.specs.Datagrams.{apdu_in}

-- the first number, the count and the records
pub record AckParameters : Type 0 where
  pub first : Option ℕ
  pub count : ℕ
  pub entries : List Entry

-- all octets as records
abbrev pub records_in : List ℕ → Result (List Entry) WireFault
records_in octets = entries_at (length octets) octets

-- the same object type and the same instance
abbrev pub same_id : Id → Id → Bool
same_id a b = (a.kind == b.kind) && (a.instance == b.instance)

-- there is no array index
abbrev pub is_absent : Option ℕ → Bool
is_absent None = true
is_absent (Some index) = false

-- an ACK for the Log_Buffer of this log, without an index
abbrev pub is_of_log : Id → RangeAck → Bool
is_of_log log a = same_id a.object log && ((a.property == log_buffer) && is_absent a.index)

-- first number, count and records, if the items could be read as records
abbrev pub heard_with : Option ℕ → ℕ → Option (List Entry) → Option AckParameters
heard_with first count None = None
heard_with first count (Some es) = Some (record { first = first; count = count; entries = es })

-- nothing, if it is that of another object or property, has an index, or an item is no record; its flags don't count
abbrev pub heard_of : Id → RangeAck → Option AckParameters
heard_of log a = if is_of_log log a then heard_with a.first_number a.count (result_ok (records_in a.items)) else None

-- the same, and nothing of an ACK that couldn't be read
abbrev pub heard_if : Id → Option RangeAck → Option AckParameters
heard_if log None = None
heard_if log (Some a) = heard_of log a

-- and nothing, if they are no parameters of an ACK of ReadRange
unfoldable pub heard_at : Id → List ℕ → Option AckParameters
heard_at log bytes = heard_if log (read_range_ack_at bytes)

-- the parameters of an ACK of ReadRange
abbrev pub parameters_in : Option Apdu → Option (List ℕ)
parameters_in (Some (Complex segmented invoke service parameters)) =
    if segmented then None else (if service == 26 then Some parameters else None)
parameters_in message = None

-- what is heard in them, if there are any
abbrev pub heard_from : Id → Option (List ℕ) → Option AckParameters
heard_from log None = None
heard_from log (Some parameters) = heard_at log parameters

-- the same of a whole datagram: it says something only as an unsegmented ACK of ReadRange
abbrev pub heard_in : Id → List ℕ → Option AckParameters
heard_in log datagram = heard_from log (parameters_in (apdu_in datagram))
