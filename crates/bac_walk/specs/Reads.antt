-- What a walk read of an ACK.
use Rattle.std.specs.Prelude.{◌≡◌, ℕ, List, length, Option, Some, None, Result, Ok, Err}
use Rattle.bac_wire.specs.Primitive.{Id}
use Rattle.bac_wire.specs.declared.fault.WireFault.{WireFault}
use Rattle.bac_log.specs.declared.entry.Entry.{Entry}
use Rattle.bac_walk.specs.declared.read.Said.{Said}
use Rattle.bac_link.specs.Heard.{AckParameters, heard_at, records_in}
use Rattle.bac_walk.specs.Spelled.{data_in}

-- how many records there are, if all octets are records
abbrev pub IsCounted : Option ℕ → Result (List Entry) WireFault → Type 0
IsCounted None read = (fault : WireFault) × (read ≡ Err fault)
IsCounted (Some count) read = (es : List Entry) × (read ≡ Ok es) × (count ≡ length es)

-- what the parameters of an ACK say of this log, with the records counted
abbrev pub IsSaid : Id → List ℕ → Option Said → Type 0
IsSaid log ack None = heard_at log ack ≡ None
IsSaid log ack (Some said) =
    (h : AckParameters) × (heard_at log ack ≡ Some h)
    × (said.first ≡ h.first) × (said.count ≡ h.count) × (said.total ≡ length h.entries)
    × (records_in (data_in ack) ≡ Ok h.entries) × (said.items.now ≡ data_in ack)
