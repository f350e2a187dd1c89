-- The lines that tell what is stopped. Read `stopped_lines`.
use Rattle.std.specs.Prelude.{ℕ, List, [], ◌∷◌, ◌++◌, codes, decimal, Option, None, Some}
use Rattle.std.specs.List.{flat_map}
use Rattle.bac_archive.specs.declared.row.DeviceRow.{DeviceRow}
use Rattle.bac_archive.specs.declared.row.Put.{Put}
use Rattle.bac_archive.specs.declared.row.Put.TheVariants as put
use Rattle.bac_keeping.specs.declared.stopping.Stopped.{Stopped}
use Rattle.bac_plan.specs.Changes.{device_of}
use Rattle.bac_plan.specs.Devices.{called_of}

-- how lines call a device, if there is one
abbrev pub called_if : Option DeviceRow → List ℕ
called_if None = []
called_if (Some device) = called_of device

-- the line of a row that is stopped: of a device, or of a trend log of one of these
abbrev pub stopped_line : List DeviceRow → Put → List ℕ
stopped_line devices (put.Device device) = called_of device ++ codes " stopped\n"
stopped_line devices (put.Log log) =
    called_if (device_of log.device devices) ++ (32 ∷ (decimal log.instance ++ codes " stopped\n"))
stopped_line devices other = []

-- a line for each
abbrev pub stopped_lines : Stopped → List ℕ
stopped_lines stopped = flat_map (stopped_line stopped.told.devices.items) stopped.rows.items
