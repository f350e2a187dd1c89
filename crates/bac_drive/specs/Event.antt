-- What happens while a machine is driven.
use Rattle.std.specs.Prelude.{ℕ, List}
use Rattle.bac_archive.specs.declared.row.Put.{Put}
use Rattle.bac_ports.specs.Port.{Receiving, Sending}

-- Octets are sent to an address, and the port answers; a datagram is waited for, so many milliseconds at most, and
-- comes or doesn't; the clock is read; rows are put in the archive; a text goes to the output, or to the errors.
pub data Event : Type 0 where
  Sent : List ℕ → List ℕ → Sending → Event
  Waited : ℕ → Receiving → Event
  Read : ℕ → Event
  Kept : List Put → Event
  Printed : List ℕ → Event
  Warned : List ℕ → Event
