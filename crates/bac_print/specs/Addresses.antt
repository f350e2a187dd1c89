-- The text of an address of BACnet/IP (Annex J.1.2).
use Rattle.std.specs.Prelude.{ℕ, ◌+◌, ◌*◌, List, [], ◌∷◌, ◌++◌, decimal}

-- A.B.C.D:PORT of the octets of an IPv4 address and of a port
unfoldable pub address_text : List ℕ → List ℕ
address_text (a ∷ b ∷ c ∷ d ∷ high ∷ low ∷ []) =
    decimal a ++ (46 ∷ (decimal b ++ (46 ∷ (decimal c ++ (46 ∷ (decimal d ++ (58 ∷ decimal (high * 256 + low))))))))
address_text other = []
