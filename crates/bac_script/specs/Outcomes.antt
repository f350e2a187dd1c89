-- How a replay ends, one outcome after the other. What the reader had is `script`; `old` and `new` are what the
-- writer held before and holds now, if that is known. A script has at most `limit` octets, else it is too long.
use Rattle.std.specs.Prelude.{◌≡◌, ℕ, ◌<◌, ◌≤◌, List, length, Option, None, Some}
use Rattle.std.specs.Io.KnownBytes.{Appends, Consumes}
use Rattle.bac_print.specs.Output.{AppendsPart}
use Rattle.bac_script.specs.Replay.{PlaysAll, PlaysSome, fault_of_script, played_lines, text_of}
use Rattle.bac_script.specs.Script.Lines.{ended_lines}
use Rattle.bac_script.specs.Session.{SessionState, Empty}
use Rattle.bac_script.specs.declared.replay.fault.ReplayFault.{ReplayFault}
use Rattle.bac_script.specs.declared.replay.fault.ReplayFault.TheVariants.{TooLong}

-- nothing is said of a reader that doesn't tell what it has
abbrev pub OfScript : Option (List ℕ) → (List ℕ → Type 0) → Type 0
OfScript None P = Unit {0}
OfScript (Some script) P = P script

-- the script ends so, and its whole text was written
abbrev pub IsPlayed : ℕ → Option (List ℕ) → Option (List ℕ) → Option ReplayFault → List ℕ → Type 0
IsPlayed limit old new fault script = (fault_of_script limit script ≡ fault) × Appends old new (text_of limit script)

-- it is too long, and none of the lines that are played has a fault
abbrev pub IsTooLong : ℕ → Option (List ℕ) → Option (List ℕ) → List ℕ → Type 0
IsTooLong limit old new script = (limit < length script) × IsPlayed limit old new (Some TooLong) script

-- a read was refused: the lines that had ended before it were played, and none of them has a fault
abbrev pub IsUnread : ℕ → Option (List ℕ) → Option (List ℕ) → Option (List ℕ) → List ℕ → Type 0
IsUnread limit left old new script =
    (read : List ℕ) × (t : SessionState) × Consumes (Some script) left read × (length read ≤ limit)
    × PlaysAll old new Empty (ended_lines read) t

-- a write was refused: a front part of the text was written
abbrev pub IsUnwritten : ℕ → Option (List ℕ) → Option (List ℕ) → List ℕ → Type 0
IsUnwritten limit old new script = AppendsPart old new (text_of limit script)

-- memory ran out: the text of some first lines was written
abbrev pub IsCutShort : ℕ → Option (List ℕ) → Option (List ℕ) → List ℕ → Type 0
IsCutShort limit old new script = PlaysSome old new (played_lines limit script)
