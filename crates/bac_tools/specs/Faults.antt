-- The faults of the crates below as faults of a tool.
use Rattle.std.specs.Prelude.{ℕ, Bool, false, List, [], ◌∷◌, length, Option, None, Some}
use Rattle.std.specs.Str.{bytes_eq}
use Rattle.bac_query.specs.declared.find_fault.FindFault.{FindFault}
use Rattle.bac_query.specs.declared.find_fault.FindFault.TheVariants as find
use Rattle.bac_query.specs.declared.fault.QueryFault.{QueryFault}
use Rattle.bac_query.specs.declared.fault.QueryFault.TheVariants as query
use Rattle.bac_tools.specs.declared.fault.Fault.{Fault}
use Rattle.bac_tools.specs.declared.fault.Unanswered.{Unanswered}
use Rattle.bac_tools.specs.declared.fault.Fault.TheVariants.{Socket, Refused, NoAnswer, Exchange, Write, Memory}

-- a fault of rp, wp or log, which asked this address
abbrev pub of_query : List ℕ → QueryFault → Fault
of_query address (query.Exchange fault) = Exchange address fault
of_query address query.Write = Write
of_query address query.Memory = Memory

-- broadcasts come to 0.0.0.0:47808 alone (Annex J.1.2)
abbrev pub hears_broadcasts : Option (List ℕ) → Bool
hears_broadcasts None = false
hears_broadcasts (Some local) = bytes_eq local (0 ∷ 0 ∷ 0 ∷ 0 ∷ 186 ∷ 192 ∷ [])

-- nobody answered wi, which asked these addresses from this one of ours
abbrev pub unanswered : Option (List ℕ) → List (List ℕ) → Unanswered
unanswered local addresses =
    record { asked = length addresses; hears_broadcasts = hears_broadcasts local }

-- a fault of wi, which asked so
abbrev pub of_find : Unanswered → FindFault → Fault
of_find asked find.Socket = Socket
of_find asked (find.Refused address) = Refused address
of_find asked find.NoAnswer = NoAnswer asked
of_find asked find.Write = Write
of_find asked find.Memory = Memory
