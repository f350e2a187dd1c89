-- What the turns of a search for devices come to: which addresses were asked, which datagrams came, and what was
-- printed of them. Read from the end.
use Rattle.std.specs.Prelude.{◌≡◌, ℕ, ◌+◌, ◌≤◌, is_some, Bool, ◌||◌, List, [], ◌∷◌, ◌++◌, length, Option}
use Rattle.std.specs.Prelude.{Some, None, Ok, Err}
use Rattle.std.specs.List.{list_any}
use Rattle.std.specs.Io.KnownBytes.{Appends}
use Rattle.bac_query.specs.Announcements.{Announcement, announced}
use Rattle.bac_query.specs.Hearing.{Held, Left, PortRules, ReceivesBy, Searching, Standing}
use Rattle.bac_query.specs.Lines.{device_line}
use Rattle.bac_query.specs.declared.find_fault.FindFault.{FindFault}
use Rattle.bac_query.specs.declared.find_fault.FindFault.TheVariants.{Socket, Refused, NoAnswer, Write, Memory}
use Rattle.bac_ports.specs.Port.{Receiving, Sending}
use Rattle.bac_ports.specs.declared.port.Heard.{Heard}
use Rattle.bac_print.specs.Output.{AppendsPart}

-- ---- what is done at a port

-- the request goes to an address, or a datagram is received, within so many milliseconds or as long as the port waits
pub data Turn : Type 0 where
  Sent : List ℕ → Sending → Turn
  Received : Option ℕ → Receiving → Turn

-- all of it is done, one after the other
abbrev pub Along : {P : Type 0} → PortRules P → List ℕ → List Turn → P → P → Type 0
Along rules octets [] port new = new ≡ port
Along {P = P} rules octets (Sent address sent ∷ turns) port new =
    (mid : P) × rules.sends port octets address sent mid × Along rules octets turns mid new
Along {P = P} rules octets (Received wait heard ∷ turns) port new =
    (mid : P) × ReceivesBy rules wait port heard mid × Along rules octets turns mid new

-- the addresses that were asked, in order
abbrev pub asked_in : List Turn → List (List ℕ)
asked_in [] = []
asked_in (Sent address sent ∷ turns) = address ∷ asked_in turns
asked_in (Received wait heard ∷ turns) = asked_in turns

-- the datagrams that came, in order
abbrev pub came_in : List Turn → List Heard
came_in [] = []
came_in (Sent address sent ∷ turns) = came_in turns
came_in (Received wait (Ok heard) ∷ turns) = heard ∷ came_in turns
came_in (Received wait (Err fault) ∷ turns) = came_in turns

-- ---- what is printed of the datagrams that came

-- the line of a device, and nothing without one
abbrev pub line_of : Option Announcement → List ℕ
line_of None = []
line_of (Some said) = device_line said

-- the lines of the devices that they announce, in order
abbrev pub lines_of : List Heard → List ℕ
lines_of [] = []
lines_of (heard ∷ came) = line_of (announced heard) ++ lines_of came

-- whether one of them announces a device
abbrev pub has_device : List Heard → Bool
has_device came = list_any (λ heard. is_some (announced heard)) came

-- the last datagram announces this device, and the lines of those before it were written
abbrev pub IsLast : Announcement → List Heard → Held → Held → Type 0
IsLast said came held after =
    (earlier : List Heard) × (last : Heard) × (came ≡ earlier ++ last ∷ [])
    × (announced last ≡ Some said) × Appends held after (lines_of earlier)

-- A failed receive comes behind the lines of all. After a refused write the last line is there in part, and without
-- memory for it not at all.
abbrev pub Fails : List Heard → Held → FindFault → Held → Type 0
Fails came held Socket after = Appends held after (lines_of came)
Fails came held Write after =
    (said : Announcement) × (between : Held)
    × IsLast said came held between × AppendsPart between after (device_line said)
Fails came held Memory after = (said : Announcement) × IsLast said came held after
Fails came held NoAnswer after = ⊥
Fails came held (Refused address) after = ⊥

-- ---- the whole

-- Done: each address was asked, in order, the lines of all that came are written, and it is known whether an I-Am came.
-- A fault: a front part of the addresses was asked. No more came than may, and what is answered is how many may still.
abbrev pub ComesTo : ℕ → List (List ℕ) → List Turn → Standing → Left → Standing → Type 0
ComesTo limit addresses turns old (Ok left) new =
    (asked_in turns ≡ addresses) × (length (came_in turns) + left ≡ limit)
    × (new.taken ≡ (old.taken || has_device (came_in turns))) × Appends old.held new.held (lines_of (came_in turns))
ComesTo limit addresses turns old (Err fault) new =
    ((rest : List (List ℕ)) × (addresses ≡ asked_in turns ++ rest)) × (length (came_in turns) ≤ limit)
    × Fails (came_in turns) old.held fault new.held

-- what was done at the port, and what it came to
abbrev pub Tells : {P : Type 0} → PortRules P → List ℕ → List (List ℕ) → ℕ → Searching P → Left → Searching P → Type 0
Tells rules octets addresses limit old result new =
    (turns : List Turn) × Along rules octets turns old.port new.port
    × ComesTo limit addresses turns old.standing result new.standing
