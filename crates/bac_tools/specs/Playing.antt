-- What `bac replay` does. Of its streams, `input` is what the reader had and `left` what it has left; `old` and `new`
-- are what the output held before and holds now, each if that is known.
use Rattle.std.specs.Prelude.{◌≡◌, Result, Ok, Err, IfErr}
use Rattle.bac_print.specs.Output.{Held}
use Rattle.bac_script.specs.Reason.{IsExplained, without_reason}
use Rattle.bac_script.specs.Replay.{Replays}
use Rattle.bac_script.specs.declared.replay.fault.Refused.{Refused}
use Rattle.bac_tools.specs.Ending.{Ending}
use Rattle.bac_tools.specs.declared.fault.Fault.TheVariants.{Script}

-- done, or a fault of the script
abbrev pub of_replay : Result (Unit {0}) Refused → Ending
of_replay (Ok done) = Ok 0
of_replay (Err refused) = Err (Script refused)

-- a replay of at most 1,048,576 octets; a fault comes with what is to mend in them
abbrev pub Plays : Held → Held → Held → Held → Ending → Type 0
Plays input left old new result =
    (played : Result (Unit {0}) Refused) × Replays 1048576 input left old new (without_reason played)
    × IfErr played (IsExplained input left) × (result ≡ of_replay played)
