-- The lines that name logs.
use Rattle.std.specs.Prelude.{ℕ, ◌==◌, ◌||◌, if◌then◌else◌, List, [], ◌∷◌, ◌++◌, codes, decimal}
use Rattle.std.specs.String.{string_bytes}
use Rattle.bac_archive.specs.declared.row.DeviceRow.{DeviceRow}
use Rattle.bac_kept.specs.Shown.{Told}

-- a device's address, and for one behind a router its network and its address there
unfoldable pub place_text : DeviceRow → List ℕ
place_text d = string_bytes d.address
    ++ (if d.dnet == 0 then [] else 47 ∷ (decimal d.dnet ++ (47 ∷ string_bytes d.dadr)))

-- where a log is, and its instance; and that it isn't asked any more, if it is stopped, or its device
unfoldable pub head_line : Told → List ℕ
head_line told = place_text told.device ++ (32 ∷ (decimal told.log.instance
    ++ (if told.log.stopped || told.device.stopped then codes " stopped\n" else 10 ∷ [])))
