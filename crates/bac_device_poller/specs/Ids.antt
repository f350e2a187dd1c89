-- Ids of rows.
use Rattle.std.specs.Prelude.{ℕ, ◌+◌, nat_lt, if◌then◌else◌, Option, None, Some}
use Rattle.bac_device_poller.specs.declared.ids.Ids.{Ids}

-- the next that is free, if one is left
abbrev pub free_id : Ids → Option ℕ
free_id ids = if nat_lt 65535 ids.next then None else Some ids.next

-- those behind it
abbrev pub ids_behind : Ids → Ids
ids_behind ids = if nat_lt 65535 ids.next then ids else record { next = ids.next + 1 }
