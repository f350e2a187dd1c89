-- The line of a device that announces itself.
use Rattle.std.specs.Prelude.{ℕ, List, [], ◌∷◌, ◌++◌, Option, Some, None, codes, decimal}
use Rattle.hex.specs.Hex.{encode_lower}
use Rattle.bac_apdu.specs.Npdu.{Place}
use Rattle.bac_apdu.specs.declared.service.i_am.IAm.{IAm}
use Rattle.bac_print.specs.Addresses.{address_text}
use Rattle.bac_query.specs.Announcements.{Announcement}

-- a word, and the number after it
unfoldable pub named : List ℕ → ℕ → List ℕ
named word n = word ++ decimal n

-- max-apdu N segmentation S vendor V
unfoldable pub facts_text : IAm → List ℕ
facts_text i_am =
    named (codes " max-apdu ") i_am.max_apdu
    ++ (named (codes " segmentation ") i_am.segmentation ++ named (codes " vendor ") i_am.vendor)

-- net N mac HEX, of a device behind a router
unfoldable pub place_text : Option Place → List ℕ
place_text None = []
place_text (Some place) = named (codes " net ") place.net ++ (codes " mac " ++ encode_lower place.address)

-- I-Am INSTANCE ADDRESS and the rest, a line
unfoldable pub device_line : Announcement → List ℕ
device_line said =
    named (codes "I-Am ") said.i_am.device.instance
    ++ (32 ∷ (address_text said.address ++ (place_text said.source ++ (facts_text said.i_am ++ 10 ∷ []))))
