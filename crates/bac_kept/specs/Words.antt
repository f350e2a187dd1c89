-- What is asked for.
use Rattle.std.specs.Prelude.{◌&&◌, ◌==◌, Bool, true, false, Option, None, Some}
use Rattle.std.specs.Str.{bytes_eq}
use Rattle.std.specs.String.{string_bytes}
use Rattle.bac_archive.specs.declared.row.DeviceRow.{DeviceRow}
use Rattle.bac_archive.specs.declared.row.LogRow.{LogRow}
use Rattle.bac_kept.specs.declared.words.Behind.{Behind}
use Rattle.bac_kept.specs.declared.words.Place.{Place}
use Rattle.bac_kept.specs.declared.words.Choice.{Choice}
use Rattle.bac_kept.specs.declared.words.Choice.TheVariants as choice

-- a device is there behind a router, or at the address itself
abbrev pub is_behind : Option Behind → DeviceRow → Bool
is_behind None d = true
is_behind (Some behind) d = (d.dnet == behind.network) && bytes_eq (string_bytes d.dadr) behind.address.now

-- a device is at a place
abbrev pub is_at : Place → DeviceRow → Bool
is_at place d = bytes_eq (string_bytes d.address) place.address.now && is_behind place.behind d

-- a log of a device is chosen: each is, or those of the devices at a place, or of these the ones with an instance
abbrev pub is_chosen : Choice → DeviceRow → LogRow → Bool
is_chosen choice.All d log = true
is_chosen (choice.Device place) d log = is_at place d
is_chosen (choice.Log place instance) d log = is_at place d && (log.instance == instance)

-- one log is named
abbrev pub names_one : Choice → Bool
names_one choice.All = false
names_one (choice.Device place) = false
names_one (choice.Log place instance) = true
