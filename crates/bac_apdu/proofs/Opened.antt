-- What the answers of the reader of an APDU open: one name for the definitions that they need together.
use Rattle.std.specs.Prelude.{⊤}
use Rattle.bac_apdu.specs.Apdu.{apdu_at, apdu_behind, pair_at}

-- an APDU, its body, and the class and code of an Error
unfoldable pub apdu : ⊤
unfolding apdu_at apdu_behind pair_at
apdu = tt
