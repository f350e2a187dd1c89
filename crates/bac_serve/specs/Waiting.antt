-- Which logs take samples as time goes on (clause 12.25, Log_Interval).
use Rattle.std.specs.Prelude.{◌==◌, not, Bool, false}
use Rattle.bac_objects.specs.declared.lines.ObjectLine.{ObjectLine}
use Rattle.bac_objects.specs.declared.lines.ObjectLine.TheVariants.{Binary, Multistate, Integer, Log}

-- a Trend Log that takes samples by its Log_Interval
abbrev pub has_interval : ObjectLine → Bool
has_interval (Binary instance name default) = false
has_interval (Multistate instance name states default) = false
has_interval (Integer instance name default) = false
has_interval (Log instance name source capacity interval logged) = not (interval == 0)
