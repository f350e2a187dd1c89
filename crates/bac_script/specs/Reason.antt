-- What is to mend in a script or a configuration that is refused.
use Rattle.std.specs.Prelude.{◌≡◌, ℕ, ◌+◌, ◌^◌, ◌==◌, ◌&&◌, Bool, false, if◌then◌else◌, List, [], ◌∷◌}
use Rattle.std.specs.Prelude.{zero, suc, Option, None, Some, option_and_then, Result, Ok, Err, MatchOption}
use Rattle.std.specs.Io.KnownBytes.{Consumes}
use Rattle.std.specs.Str.Lines.{lines}
use Rattle.bac_objects.specs.Build.{build_fault}
use Rattle.bac_objects.specs.Misfit.{IsMisfit}
use Rattle.bac_objects.specs.declared.build.BuildFault.{BuildFault}
use Rattle.bac_objects.specs.declared.build.BuildFault.TheVariants.{DuplicateId}
use Rattle.bac_objects.specs.declared.build.Misfit.{Misfit}
use Rattle.bac_objects.specs.declared.lines.LineId.{LineId}
use Rattle.bac_script.specs.Configuration.{Plan, with_text}
use Rattle.bac_script.specs.Flaw.{flaw_of, flaw_there, line_at}
use Rattle.bac_script.specs.Script.Line.{kind_in}
use Rattle.bac_script.specs.Script.Number.{below, number_in}
use Rattle.bac_script.specs.Script.Words.{words_of}
use Rattle.bac_script.specs.declared.replay.fault.Reason.{Reason}
use Rattle.bac_script.specs.declared.replay.fault.Reason.TheVariants.{Line, Device}
use Rattle.bac_script.specs.declared.replay.fault.Refused.{Refused}
use Rattle.bac_script.specs.declared.replay.fault.UnfitLine.{UnfitLine}
use Rattle.bac_script.specs.declared.script.flaw.Flaw.{Flaw}
use Rattle.bac_script.specs.declared.replay.fault.ReplayFault.{ReplayFault}
use Rattle.bac_script.specs.declared.replay.fault.ReplayFault.TheVariants.{BadLine, Build}

-- what the next lines describe too, or what is described already, if the next line describes nothing
abbrev pub with_next : Plan → Option Plan → (Plan → Plan) → Plan
with_next plan None more = plan
with_next plan (Some next) more = more next

-- what the lines describe, up to the first that describes nothing, as an event does
abbrev pub described : Plan → List (List ℕ) → Plan
described plan [] = plan
described plan (text ∷ more) = with_next plan (with_text plan text) (λ next. described next more)

-- ---- lines by what they describe

-- a word is this number
abbrev pub is_number : ℕ → Option ℕ → Bool
is_number n None = false
is_number n (Some m) = n == m

-- the first two words of a line are the kind and the instance of this one
abbrev pub is_of : LineId → List (List ℕ) → Bool
is_of id (kind ∷ instance ∷ more) =
    is_number id.object_type (kind_in kind) && is_number id.instance (below (2 ^ 32) (number_in instance))
is_of id other = false

-- it is this line, if no others have to come before it
abbrev pub unless_others : ℕ → ℕ → (ℕ → Option ℕ) → Option ℕ
unless_others zero number more = Some number
unless_others (suc left) number more = more left

-- the number of the line that begins so, before which this many others do; the first line has this number
abbrev pub number_of : LineId → ℕ → ℕ → List (List ℕ) → Option ℕ
number_of id others number [] = None
number_of id others number (text ∷ more) =
    if is_of id (words_of text) then unless_others others number (λ left. number_of id left (number + 1) more)
    else number_of id others (number + 1) more

-- how many lines begin so before the one with this fault: one, if the fault is that there are two
abbrev pub others_of : BuildFault → ℕ
others_of DuplicateId = 1
others_of fault = 0

-- the line that begins as the one with this fault does, or has its name
abbrev pub rival_of : BuildFault → LineId → Option LineId → Option LineId
rival_of DuplicateId line namesake = Some line
rival_of fault line namesake = namesake

-- ---- what is to mend

-- a device is described, and this is the line with which it can't be built, for this fault
abbrev pub IsUnfit : Plan → BuildFault → Misfit → Type 0
IsUnfit None fault m = ⊥
IsUnfit (Some plan) fault m = IsMisfit plan.0 plan.1 m × (m.fault ≡ fault)

-- the numbers of that line, and of the line that has its type and instance, or its name
abbrev pub AreNumbers : List (List ℕ) → UnfitLine → Type 0
AreNumbers lines said =
    (said.number ≡ number_of said.misfit.line (others_of said.misfit.fault) 1 lines)
    × (said.rival ≡ option_and_then (λ id.
    number_of id 0 1 lines) (rival_of said.misfit.fault said.misfit.line said.misfit.namesake))

-- the same of a reason
abbrev pub IsUnfitReason : List (List ℕ) → BuildFault → Reason → Type 0
IsUnfitReason lines fault (Line flaw) = ⊥
IsUnfitReason lines fault (Device said) = IsUnfit (described None lines) fault said.misfit × AreNumbers lines said

-- What is to mend in a text that is refused for this fault: of a bad line what is wrong with it; of a device that
-- can't be built the line with which it can't, or nothing, if memory ran out; of another fault nothing.
abbrev pub IsReasonBy : (List ℕ → Flaw) → List ℕ → ReplayFault → Option Reason → Type 0
IsReasonBy flaw text (BadLine number) said = said ≡ Some (Line (flaw (line_at number (lines text))))
IsReasonBy flaw text (Build fault) said = MatchOption said (Unit {0}) (IsUnfitReason (lines text) fault)
IsReasonBy flaw text other said = said ≡ None

-- what is to mend in a script
abbrev pub IsReason : List ℕ → ReplayFault → Option Reason → Type 0
IsReason = IsReasonBy flaw_of

-- what is to mend in a configuration
abbrev pub IsReasonThere : List ℕ → ReplayFault → Option Reason → Type 0
IsReasonThere = IsReasonBy flaw_there

-- a fault comes with what is to mend in what was read of a script
abbrev pub IsExplained : Option (List ℕ) → Option (List ℕ) → Refused → Type 0
IsExplained have left refused =
    (read : List ℕ) × Consumes have left read × IsReason read refused.fault refused.reason

-- a fault comes with what is to mend in what was read of a configuration
abbrev pub IsExplainedThere : Option (List ℕ) → Option (List ℕ) → Refused → Type 0
IsExplainedThere have left refused =
    (read : List ℕ) × Consumes have left read × IsReasonThere read refused.fault refused.reason

-- the same answer without what is to mend
abbrev pub without_reason : {T : Type 0} → Result T Refused → Result T ReplayFault
without_reason (Ok done) = Ok done
without_reason (Err refused) = Err refused.fault

-- ---- what only private calls cite

-- a device is described, and can't be built for this fault
abbrev pub IsUnbuilt : Plan → BuildFault → Type 0
IsUnbuilt None fault = ⊥
IsUnbuilt (Some plan) fault = build_fault plan.0 plan.1 ≡ Some fault

-- a device is described, and this is the line with which it can't be built
abbrev pub IsUnfitLine : Plan → Misfit → Type 0
IsUnfitLine None m = ⊥
IsUnfitLine (Some plan) m = IsMisfit plan.0 plan.1 m × (build_fault plan.0 plan.1 ≡ Some m.fault)
