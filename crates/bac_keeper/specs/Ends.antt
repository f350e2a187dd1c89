-- How the tool ends, and what it tells then.
use Rattle.std.specs.Prelude.{◌≡◌, ℕ, List, Result, Ok, Err}
use Rattle.bac_device_poller.specs.Status.{code}
use Rattle.bac_device_poller.specs.declared.status.Status.{Status}
use Rattle.bac_historian.specs.declared.fault.Fault.{Fault as RunFault}
use Rattle.bac_parts.specs.Faults.{AreLinesOf, fault_status, lines_of}
use Rattle.bac_print.specs.Output.{AppendsPart, Held}
use Rattle.bac_keeper.specs.Halts.{reason_of, run_halt}
use Rattle.bac_keeper.specs.declared.fault.Fault.{Fault}
use Rattle.bac_keeper.specs.declared.fault.Fault.TheVariants.{Memory}
use Rattle.bac_keeper.specs.declared.halts.Halt.{Halt}
use Rattle.bac_keeper.specs.declared.halts.Halt.TheVariants.{Archive, File, Own}

-- such lines are told, as far as the errors take them, and the exit status is this; or memory was wanting for them
abbrev pub EndsTold : (AreLines : List ℕ → Type 0) → (status : ℕ) → (old new : Held) → Result ℕ Fault → Type 0
EndsTold AreLines status old new (Ok answered) =
    (answered ≡ status) × ((text : List ℕ) × AreLines text × AppendsPart old new text)
EndsTold AreLines status old new (Err why) = (why ≡ Memory) × (new ≡ old)

-- The tool halts: that is a fault of the program, which is nowhere told yet; or the archive is no use, which is told of
-- the file with this name.
abbrev pub EndsHalted : Halt → (path : List ℕ) → (old new : Held) → Result ℕ Fault → Type 0
EndsHalted (Own fault) path old new result = (result ≡ Err fault) × (new ≡ old)
EndsHalted (File why) path old new result = EndsTold (AreLinesOf why path) (fault_status why) old new result
EndsHalted (Archive why) path old new result =
    EndsTold (λ text. text ≡ lines_of 6 path (reason_of why)) 6 old new result

-- A run ends by its status, with nothing more told; or it halts.
abbrev pub EndsRun : Result Status RunFault → (path : List ℕ) → (old new : Held) → Result ℕ Fault → Type 0
EndsRun (Ok status) path old new result = (result ≡ Ok (code status)) × (new ≡ old)
EndsRun (Err why) path old new result = EndsHalted (run_halt why) path old new result
