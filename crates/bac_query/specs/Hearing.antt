-- How datagrams are received and shown, one after the other: one wait, up to the time in which nothing comes.
use Rattle.std.specs.Prelude.{◌≡◌, ℕ, ◌≤◌, ◌<◌, ◌⊎◌, nat_lt, not, zero, suc, ◌||◌, Bool, true, false}
use Rattle.std.specs.Prelude.{if◌then◌else◌, Option, Some, None, Result, Ok, Err, List, [], ◌∷◌, ◌++◌, length}
use Rattle.std.specs.List.{filter}
use Rattle.std.specs.Str.{bytes_eq}
use Rattle.std.specs.Io.KnownBytes.{Appends, Keeps}
use Rattle.bac_query.specs.Announcements.{Announcement, announced}
use Rattle.bac_query.specs.Lines.{device_line}
use Rattle.bac_query.specs.declared.find_fault.FindFault.{FindFault}
use Rattle.bac_query.specs.declared.find_fault.FindFault.TheVariants.{Socket, Refused, NoAnswer, Write, Memory}
use Rattle.bac_query.specs.declared.seeking.Seeking.{Seeking}
use Rattle.bac_ports.specs.Port.{Receiving, Sending}
use Rattle.bac_ports.specs.declared.port.Heard.{Heard}
use Rattle.bac_ports.specs.declared.port.SocketFault.TheVariants.{Timeout, Failed}
pub use Rattle.bac_print.specs.Output.{Held}
use Rattle.bac_print.specs.Output.{AppendsPart}

-- what finding devices answers
abbrev pub Found : Type 0
Found = Result (Unit {0}) FindFault

-- what a part of it answers: how many datagrams may come still
abbrev pub Left : Type 0
Left = Result ℕ FindFault

-- ---- how far a search is

-- what the writer holds if that is known, which addresses are pending, whether an I-Am came, and the first address to
-- which a send was refused. Pending is an address that was asked and has not answered, unless it was given up.
pub record Standing : Type 0 where
  pub held : Held
  pub pending : List (List ℕ)
  pub taken : Bool
  pub refused : Option (List ℕ)

-- as the code holds it
abbrev pub standing : Held → Seeking → Standing
standing held seeking =
    record { held = held; pending = seeking.pending.items; taken = seeking.taken; refused = seeking.refused }

-- one address more is pending; no more than 100 are
abbrev pub pending_with : List (List ℕ) → List ℕ → List (List ℕ)
pending_with pending address = if nat_lt (length pending) 100 then pending ++ address ∷ [] else pending

-- a datagram came from this address
abbrev pub pending_without : List (List ℕ) → List ℕ → List (List ℕ)
pending_without pending address = filter (λ asked. not (bytes_eq asked address)) pending

-- where 100 are pending, they count as silent
abbrev pub given_up : List (List ℕ) → List (List ℕ)
given_up pending = if nat_lt (length pending) 100 then pending else []

-- the first address to which a send was refused, when one more was made
abbrev pub refused_by : Option (List ℕ) → Sending → List ℕ → Option (List ℕ)
refused_by (Some before) sent address = Some before
refused_by None (Ok done) address = None
refused_by None (Err fault) address = Some address

-- ---- one datagram

-- Nothing is printed if no device announces itself. Else its line is written, or a front part of it if a write
-- was refused, or nothing if there was no memory for it.
abbrev pub Shows : Option Announcement → Result Bool FindFault → Held → Held → Type 0
Shows None shown held after = (shown ≡ Ok false) × (after ≡ held)
Shows (Some said) (Ok shown) held after = (shown ≡ true) × Appends held after (device_line said)
Shows (Some said) (Err Write) held after = AppendsPart held after (device_line said)
Shows (Some said) (Err Memory) held after = Keeps held after
Shows (Some said) (Err Socket) held after = ⊥
Shows (Some said) (Err (Refused address)) held after = ⊥
Shows (Some said) (Err NoAnswer) held after = ⊥

-- whether an I-Am came, this one shown or not
abbrev pub taken_by : Bool → Result Bool FindFault → Bool
taken_by taken (Ok shown) = taken || shown
taken_by taken (Err fault) = taken

-- it is shown, and its sender is pending no more
abbrev pub Takes : Heard → Result Bool FindFault → Standing → Standing → Type 0
Takes heard shown old new =
    Shows (announced heard) shown old.held new.held × (new.pending ≡ pending_without old.pending heard.from)
    × (new.taken ≡ taken_by old.taken shown) × (new.refused ≡ old.refused)

-- ---- at a port

-- what a send over a port is, a receive, and a receive with a wait of its own: the rules that the port names
pub record PortRules (P : Type 0) : Type 1 where
  pub sends : P → List ℕ → List ℕ → Sending → P → Type 0
  pub receives : P → Receiving → P → Type 0
  pub receives_within : P → ℕ → Receiving → P → Type 0

-- the rules that are these
abbrev pub port_rules : {P : Type 0} → (P → List ℕ → List ℕ → Sending → P → Type 0) → (P → Receiving → P → Type 0)
    → (P → ℕ → Receiving → P → Type 0) → PortRules P
port_rules sends receives within = record { sends = sends; receives = receives; receives_within = within }

-- a port, and how far the search over it is
pub record Searching (P : Type 0) : Type 0 where
  pub port : P
  pub standing : Standing

-- the two together
abbrev pub searching : {P : Type 0} → P → Standing → Searching P
searching port standing = record { port = port; standing = standing }

-- ---- one wait

-- A receive waits so many milliseconds, taking at 0 what is there; or, without a number, as long as the port waits.
abbrev pub ReceivesBy : {P : Type 0} → PortRules P → Option ℕ → P → Receiving → P → Type 0
ReceivesBy rules None port heard new = rules.receives port heard new
ReceivesBy rules (Some wait) port heard new = rules.receives_within port wait heard new

-- the search stays as it is, with this answer
abbrev pub Stays : {P : Type 0} → Left → Searching P → Left → Searching P → Type 0
Stays answer old result new = (result ≡ answer) × (new.port ≡ old.port) × (new.standing ≡ old.standing)

-- a fault is the end; else there is more to be done
abbrev pub IsShown : {P : Type 0} → Result Bool FindFault → Searching P → Left → Searching P → Type 0 → Type 0
IsShown (Err fault) old result new more = Stays (Err fault) old result new
IsShown (Ok shown) old result new more = more

-- a wait in which nothing comes is over, and so is one that fails; what comes is shown
abbrev pub IsHeard : {P : Type 0} → ℕ → Receiving → Searching P → Left → Searching P → (Standing → Type 0) → Type 0
IsHeard limit (Err Timeout) old result new more = Stays (Ok limit) old result new
IsHeard limit (Err Failed) old result new more = Stays (Err Socket) old result new
IsHeard limit (Ok heard) old result new more =
    (shown : Result Bool FindFault) × (mid : Standing) × Takes heard shown old.standing mid
    × IsShown shown (searching old.port mid) result new (more mid)

-- Datagrams are received as long as so many addresses are pending, and so many datagrams at most; what is answered is
-- how many of them may come still.
unfoldable pub Hears : {P : Type 0} → (P → Receiving → P → Type 0) → ℕ → ℕ → Searching P → Left → Searching P → Type 0
Hears receive least zero old result new = Stays (Ok zero) old result new
Hears {P = P} receive least (suc limit) old result new =
    ((length old.standing.pending < least) × Stays (Ok (suc limit)) old result new)
    ⊎ ((least ≤ length old.standing.pending)
    × ((heard : Receiving) × (mid : P) × receive old.port heard mid
    × IsHeard (suc limit) heard (searching mid old.standing) result new
    (λ now. Hears receive least limit (searching mid now) result new)))
