-- Ports over which invoke IDs go on. Read `SendsOnward`, `ReceivesOnward`.
use Rattle.std.specs.Prelude.{◌≡◌, ℕ, ◌+◌, ◌-◌, ◌%◌, nat_lt, if◌then◌else◌, List, Option, Some, None, unwrap_or}
use Rattle.std.specs.Prelude.{Ok, Err}
use Rattle.std.specs.Option.{option_map}
use Rattle.bac_wire.specs.Chain.{result_map}
use Rattle.bac_ports.specs.Port.{Opening, Receiving, Sending}
use Rattle.bac_ports.specs.declared.port.Heard.{Heard}
use Rattle.bac_invoke_ids.specs.Ids.{question_in, sent_by, taken}
use Rattle.bac_invoke_ids.specs.declared.ids.Ids.{Ids}
use Rattle.bac_invoke_ids.specs.declared.ids.InvokeId.{InvokeId}
use Rattle.bac_invoke_ids.specs.declared.ports.OnwardPort.{OnwardPort}

-- ---- IDs

-- a port over which nothing was asked yet, behind a question with this ID
abbrev pub behind : ℕ → Ids
behind last = record { last = last; shift = None }

-- By how much the ID of a question is moved: as that of the first question over the port, which is sent with the one
-- behind the last.
abbrev pub shift_of : Ids → ℕ → ℕ
shift_of ids id = unwrap_or ids.shift ((ids.last + 257 - id) % 256)

-- The last of two IDs. Of several devices that are asked over one port some are behind others, by 127 questions at
-- most: what is half of all IDs ahead or more is behind.
abbrev pub later : ℕ → ℕ → ℕ
later last sent = if nat_lt ((sent + 256 - last) % 256) 128 then sent else last

-- behind a question with this ID
abbrev pub after : Ids → ℕ → Ids
after ids id = record { last = later ids.last ((id + shift_of ids id) % 256); shift = Some (shift_of ids id) }

-- ---- a port

-- what is sent, a question with this ID or anything else
abbrev pub SendsAs : {P : Type 0} → (P → List ℕ → List ℕ → Sending → P → Type 0) → Option InvokeId →
    OnwardPort P → List ℕ → List ℕ → Sending → OnwardPort P → Type 0
SendsAs sends None old octets to sent new = sends old.port octets to sent new.port × (new.ids ≡ old.ids)
SendsAs sends (Some id) old octets to sent new =
    sends old.port (sent_by (shift_of old.ids id.id) octets) to sent new.port × (new.ids ≡ after old.ids id.id)

-- A question is sent over the port below with the ID behind that of the last question, and those over the same port
-- that follow it as far behind it as they are; whatever else is sent goes as it is.
abbrev pub SendsOnward : {P : Type 0} → (P → List ℕ → List ℕ → Sending → P → Type 0) →
    OnwardPort P → List ℕ → List ℕ → Sending → OnwardPort P → Type 0
SendsOnward sends old octets to sent new = SendsAs sends (question_in octets) old octets to sent new

-- what came below, as it is taken over the port
abbrev pub heard_by : Option ℕ → Heard → Heard
heard_by shift heard = record { from = heard.from; datagram = option_map (taken shift) heard.datagram }

-- What the port below receives; an answer has the ID of what was asked.
abbrev pub ReceivesOnward : {P : Type 0} → (P → Receiving → P → Type 0) →
    OnwardPort P → Receiving → OnwardPort P → Type 0
ReceivesOnward receives old received new =
    (below : Receiving) × receives old.port below new.port
    × (received ≡ result_map (heard_by old.ids.shift) below) × (new.ids ≡ old.ids)

-- ---- sockets

-- a port that was opened goes on behind the last question
abbrev pub GoesOn : {P : Type 0} → ℕ → Opening (OnwardPort P) → Type 0
GoesOn last (Ok port) = port.ids ≡ behind last
GoesOn last (Err fault) = Unit {0}
