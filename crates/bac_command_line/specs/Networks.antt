-- The stations of a word: an address, or with /N behind it those of the IP network that it lies in (RFC 4632).
use Rattle.std.specs.Prelude.{ℕ, zero, suc, ◌+◌, ◌-◌, ◌*◌, ◌/◌, ◌^◌, nat_lt, if◌then◌else◌, List, [], ◌∷◌, ◌++◌}
use Rattle.std.specs.Prelude.{slice_index, Option, None, Some, option_map}
use Rattle.std.specs.Int.{w32, to_be_bytes}
use Rattle.bac_command_line.specs.Numbers.{number_in}
use Rattle.bac_command_line.specs.Chains.{◌>>=◌}
use Rattle.bac_command_line.specs.Addresses.{cut, address_in}
use Rattle.bac_command_line.specs.declared.said.Said.{Said}
use Rattle.bac_command_line.specs.declared.said.Said.TheVariants.{Nothing, Station, Network}

-- the host A.B.C.D of an address as one number
abbrev pub host_of : List ℕ → ℕ
host_of address =
    slice_index address 0 * 16777216 + slice_index address 1 * 65536 + slice_index address 2 * 256
    + slice_index address 3

-- the address with this host in place of its own
abbrev pub with_host : List ℕ → ℕ → List ℕ
with_host address host = to_be_bytes w32 host ++ (slice_index address 4 ∷ slice_index address 5 ∷ [])

-- so many of them, from this host on
abbrev pub hosts_from : List ℕ → ℕ → ℕ → List (List ℕ)
hosts_from address first zero = []
hosts_from address first (suc more) = with_host address first ∷ hosts_from address (first + 1) more

-- how many addresses a network has whose addresses agree in so many bits
unfoldable pub size_of : ℕ → ℕ
size_of bits = 2 ^ (32 - bits)

-- the first address of a network of this size that this host lies in
abbrev pub base_of : ℕ → ℕ → ℕ
base_of host size = host / size * size

-- The hosts of a network. The first address is the network's own and the last its broadcast address, where it has more
-- than two (RFC 3021).
abbrev pub hosts_in : List ℕ → ℕ → List (List ℕ)
hosts_in address size =
    if nat_lt 2 size then hosts_from address (base_of (host_of address) size + 1) (size - 2)
    else hosts_from address (base_of (host_of address) size) size

-- an address, or the network of 20 to 32 bits that it lies in
abbrev pub stations_by : List ℕ → Option (List ℕ × List ℕ) → Option (List (List ℕ))
stations_by word None = option_map (λ address. address ∷ []) (address_in word)
stations_by word (Some x) = do
  address ← address_in x.0
  bits ← number_in 20 32 x.1
  Some (hosts_in address (size_of bits))

-- ADDRESS, or ADDRESS/N: slash is 47
unfoldable pub stations_of : List ℕ → Option (List (List ℕ))
stations_of word = stations_by word (cut 47 word)

-- ---- what only private calls cite

-- the stations that were said
abbrev pub said_stations : Said → List (List ℕ)
said_stations Nothing = []
said_stations (Station address) = address ∷ []
said_stations (Network hosts) = hosts_from hosts.address hosts.first hosts.count
