-- The lines that tell datagrams.
use Rattle.std.specs.Prelude.{ℕ, List, [], ◌∷◌, ◌++◌, codes, Option, Some, None, Ok, Err}
use Rattle.hex.specs.Hex.{encode_lower}
use Rattle.bac_ports.specs.Port.{Receiving, Sending}
use Rattle.bac_print.specs.Addresses.{address_text}

-- a word, the address, and the octets in hexadecimal digits, a line
abbrev pub datagram_line : List ℕ → List ℕ → List ℕ → List ℕ
datagram_line word address octets = word ++ (address_text address ++ (32 ∷ (encode_lower octets ++ 10 ∷ [])))

-- of a datagram that was sent to an address; of one that wasn't, nothing
abbrev pub sent_line : List ℕ → List ℕ → Sending → List ℕ
sent_line octets address (Ok done) = datagram_line (codes "tx ") address octets
sent_line octets address (Err fault) = []

-- of a datagram that came from an address; - (45) stands for the octets of one that has more than 1501 and is dropped
abbrev pub came_line : List ℕ → Option (List ℕ) → List ℕ
came_line address (Some octets) = datagram_line (codes "rx ") address octets
came_line address None = codes "rx " ++ (address_text address ++ (32 ∷ 45 ∷ 10 ∷ []))

-- of a datagram that was received; where none came, nothing
abbrev pub received_line : Receiving → List ℕ
received_line (Ok heard) = came_line heard.from heard.datagram
received_line (Err fault) = []
