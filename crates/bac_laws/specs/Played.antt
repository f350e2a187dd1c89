-- What `bac replay` prints of a script, and with which status it ends. Read `PlaysScript`.
use Rattle.std.specs.Prelude.{◌≡◌, ◌⊎◌, ℕ, List, None, Some}
use Rattle.std.specs.Io.KnownBytes.{Appends}
use Rattle.bac_print.specs.Output.{AppendsPart, Held}
use Rattle.bac_script.specs.Replay.{fault_of_script, text_of}
use Rattle.bac_script.specs.declared.replay.fault.ReplayFault.{ReplayFault}

-- the greatest number of octets of a script
abbrev pub limit : ℕ
limit = 1048576

-- The text of the script that the input has is printed, up to its fault if it has one, or a front part of that. With
-- the status 0 it has no fault, and with 1 it has one; and then all of the text is there. Any other status is 2, where
-- the input or the output refuses, or 5, without memory.
pub record PlaysScript (script : List ℕ) (before after : Held) (status : ℕ) : Type 0 where
  pub part : AppendsPart before after (text_of limit script)
  pub done : status ≡ 0 → (fault_of_script limit script ≡ None) × Appends before after (text_of limit script)
  pub faulty : status ≡ 1 → (fault : ReplayFault) × (fault_of_script limit script ≡ Some fault)
      × Appends before after (text_of limit script)
  pub other : (status ≡ 0) ⊎ ((status ≡ 1) ⊎ ((status ≡ 2) ⊎ (status ≡ 5)))
