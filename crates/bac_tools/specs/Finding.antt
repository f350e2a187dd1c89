-- What finding devices leaves on the output.
use Rattle.std.specs.Prelude.{◌≡◌, ◌<◌, ◌≤◌, ℕ, List, length, Option, None, Some, Result, Ok, Err, Vec}
use Rattle.std.specs.declared.alloc.Global.{Global}
use Rattle.std.specs.Io.KnownBytes.{Consumes, IsAtEnd}
use Rattle.std.specs.Option.{unwrap_or}
use Rattle.bac_query.specs.Finding.{Console, Finds as FindsDevices, console}
use Rattle.bac_query.specs.Hearing.{Found, port_rules}
use Rattle.bac_query.specs.declared.search.Search.{Search}
use Rattle.bac_query.specs.Reading.{Held}
use Rattle.bac_ports.specs.Sockets.{SocketRules, own_address}
use Rattle.bac_tools.specs.Ending.{Ending}
use Rattle.bac_tools.specs.Faults.{of_find, unanswered}
use Rattle.bac_tools.specs.Sockets.{Opens, Outside, Pipes, binding, outside}
use Rattle.bac_tools.specs.declared.fault.Fault.TheVariants.{List as ListOf}
use Rattle.bac_tools.specs.declared.fault.Unanswered.{Unanswered}
use Rattle.bac_command_line.specs.Listing.{Lists, addresses_of}
use Rattle.bac_command_line.specs.declared.job.Discovery.{Discovery}
use Rattle.bac_command_line.specs.declared.job.Stations.{Stations}
use Rattle.bac_command_line.specs.declared.job.Stations.TheVariants.{Listed, Input}
use Rattle.bac_command_line.specs.declared.listing.ListFault.{ListFault}
use Rattle.bac_command_line.specs.declared.listing.ListFault.TheVariants.{TooLong, Read, Memory}

-- the limits of the instances that are to answer; the lowest alone is both
abbrev pub limits_of : Option ℕ → Option ℕ → Option (ℕ × ℕ)
limits_of None max = None
limits_of (Some min) max = Some (min, unwrap_or max min)

-- the devices that are to answer
abbrev pub search_of : Discovery → Search
search_of said = record { network = said.dnet; who_is = record { limits = limits_of said.min said.max } }

-- done, or a fault of finding devices, which were asked so
abbrev pub of_found : Unanswered → Found → Ending
of_found asked (Ok done) = Ok 0
of_found asked (Err fault) = Err (of_find asked fault)

-- what the words ask for: these devices, from this address of ours if they name one, and the socket's receives wait so
-- many milliseconds
pub record Inquiry : Type 0 where
  pub search : Search
  pub local : Option (List ℕ)
  pub timeout : ℕ

-- the three together
abbrev pub inquiry : Search → Option (List ℕ) → ℕ → Inquiry
inquiry search local timeout = record { search = search; local = local; timeout = timeout }

-- Over this socket, which that leaves so, the request goes to each address by turns, and lines are printed of at most
-- 4096 datagrams that come.
abbrev pub SearchesOver : {S P : Type 0} → SocketRules S P →
    Inquiry → List (List ℕ) → Console P → Ending → Console P → Type 0
SearchesOver rules wanted addresses old result new =
    (found : Found)
    × FindsDevices (port_rules rules.sends rules.receives rules.receives_within) 4096 wanted.search addresses old found
    new
    × (result ≡ of_found (unanswered wanted.local addresses) found)

-- a socket is opened as the words say, over it devices are found at these addresses, and it is closed
abbrev pub Searches : {S P : Type 0} → SocketRules S P → Inquiry → List (List ℕ) → Outside S → Ending → Outside S
    → Type 0
Searches rules wanted addresses old result new =
    Opens rules (binding (own_address wanted.local) wanted.timeout) old result new
    (λ port last. SearchesOver rules wanted addresses (console port old.output) result (console last new.output))

-- ---- stations that standard input lists

-- What was read, up to one octet more than a list may have: it is too long, or it couldn't be read to its end, or all
-- of it is the list, which lists this.
abbrev pub IsListIn : {A : Type 0} → (List ℕ → Result (List A) ListFault) → ℕ → List ℕ → Held
    → Result (List A) ListFault → Type 0
IsListIn lists limit read left (Err TooLong) = limit < length read
IsListIn lists limit read left (Err Read) = length read ≤ limit
IsListIn lists limit read left (Err Memory) = Unit {0}
IsListIn lists limit read left list = IsAtEnd left × Lists (lists read) list

-- what the input lists in at most so many octets; `left` is what it has left
abbrev pub IsListWithin : {A : Type 0} → (List ℕ → Result (List A) ListFault) → ℕ → Held → Held
    → Result (List A) ListFault → Type 0
IsListWithin lists limit input left list =
    (read : List ℕ) × Consumes input left read × IsListIn lists limit read left list

-- over one socket these are asked; without a list nothing is done
abbrev pub SearchesListed : {S P : Type 0} → SocketRules S P → Inquiry → Result (List (List ℕ)) ListFault →
    Outside S → Ending → Outside S → Type 0
SearchesListed rules wanted (Err fault) old result new = (result ≡ Err (ListOf fault)) × (new ≡ old)
SearchesListed rules wanted (Ok addresses) old result new = Searches rules wanted addresses old result new

-- the stations of the words are asked, or those of the input, which is read to its end first
abbrev pub Finds : {S P : Type 0} → SocketRules S P → Inquiry → Stations → Pipes S → Ending → Pipes S → Type 0
Finds rules wanted (Listed addresses) old result new =
    (new.input ≡ old.input)
    × Searches rules wanted addresses (outside old.sockets old.output) result (outside new.sockets new.output)
Finds rules wanted Input old result new =
    (list : Result (List (List ℕ)) ListFault) × IsListWithin addresses_of 1048576 old.input new.input list
    × SearchesListed rules wanted list (outside old.sockets old.output) result (outside new.sockets new.output)

-- ---- what only private calls cite

-- what was read is the text, or it is no list
abbrev pub IsTextIn : ℕ → List ℕ → Held → Result (Vec ℕ Global) ListFault → Type 0
IsTextIn limit read left (Ok text) = IsAtEnd left × (text.items ≡ read)
IsTextIn limit read left (Err TooLong) = limit < length read
IsTextIn limit read left (Err Read) = length read ≤ limit
IsTextIn limit read left (Err Memory) = Unit {0}
IsTextIn limit read left (Err fault) = ⊥

-- the text that the input has in at most so many octets
abbrev pub IsTextWithin : ℕ → Held → Held → Result (Vec ℕ Global) ListFault → Type 0
IsTextWithin limit input left text = (read : List ℕ) × Consumes input left read × IsTextIn limit read left text
