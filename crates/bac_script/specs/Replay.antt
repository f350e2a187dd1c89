-- What a whole script prints, and how it ends.
use Rattle.std.specs.Prelude.{◌≡◌, ℕ, ◌+◌, ◌<◌, ◌≤◌, if◌then◌else◌, nat_le, List, [], ◌∷◌, ◌++◌, length, take, Option}
use Rattle.std.specs.Prelude.{None, Some, Result, Ok, Err}
use Rattle.std.specs.Option.{option_map}
use Rattle.std.specs.Io.KnownBytes.{Appends, Consumes}
use Rattle.std.specs.Str.Lines.{lines}
use Rattle.bac_script.specs.Fault.{at_line, Refusal}
use Rattle.bac_script.specs.Script.Lines.{ended_lines}
use Rattle.bac_script.specs.Session.{step, end_fault, SessionState, Empty}
use Rattle.bac_print.specs.Output.{AppendsPart}
use Rattle.bac_script.specs.declared.replay.fault.ReplayFault.{ReplayFault}
use Rattle.bac_script.specs.declared.replay.fault.ReplayFault.TheVariants.{BadLine, Build, Read, TooLong, Write, Memory}

-- what is printed, and then the state or the fault
abbrev pub Played : Type 0
Played = List ℕ × Result SessionState ReplayFault

-- what comes before the rest
abbrev pub then_play : ℕ → Result (List ℕ × SessionState) Refusal → (SessionState → Played) → Played
then_play n (Ok x) rest = (x.0 ++ (rest x.1).0, (rest x.1).1)
then_play n (Err f) rest = ([], Err (at_line n f))

-- the lines one after the other, the first one having number n, up to the first fault
abbrev pub play : ℕ → SessionState → List (List ℕ) → Played
play n s [] = ([], Ok s)
play n s (x ∷ more) = then_play n (step s x) (λ t. play (n + 1) t more)

-- the fault that is left at the end of a script
abbrev pub at_end : Result SessionState ReplayFault → Option ReplayFault
at_end (Ok s) = option_map Build (end_fault s)
at_end (Err f) = Some f

-- the fault of a script that is too long: that of a line, else that it is too long
abbrev pub past_limit : Result SessionState ReplayFault → Option ReplayFault
past_limit (Ok s) = Some TooLong
past_limit (Err f) = Some f

-- In what follows a script has at most `limit` octets, else it is too long.

-- The lines of a script that are played: of one that is too long, those that a line feed ended within the limit.
-- `lines` is std's: a line feed ends a line, less one carriage return, and what
-- stands after the last one is a line if there is anything.
abbrev pub played_lines : ℕ → List ℕ → List (List ℕ)
played_lines limit script = if nat_le (length script) limit then lines script else ended_lines (take limit script)

-- the text of a script
abbrev pub text_of : ℕ → List ℕ → List ℕ
text_of limit script = (play 1 Empty (played_lines limit script)).0

-- how a script ends, if it is read whole and each write succeeds
abbrev pub fault_of_script : ℕ → List ℕ → Option ReplayFault
fault_of_script limit script =
    if nat_le (length script) limit then at_end (play 1 Empty (lines script)).1
    else past_limit (play 1 Empty (ended_lines (take limit script))).1

-- All the lines were played, and the writer holds their text.
pub record PlaysAll (old new : Option (List ℕ))
    (s : SessionState) (all : List (List ℕ)) (t : SessionState) : Type 0 where
  pub state : (play 1 s all).1 ≡ Ok t
  pub text : Appends old new (play 1 s all).0

-- Some first lines were played, and the writer holds their text.
abbrev pub PlaysSome : Option (List ℕ) → Option (List ℕ) → List (List ℕ) → Type 0
PlaysSome old new all =
    (before : List (List ℕ)) × (after : List (List ℕ)) × (t : SessionState) × (all ≡ before ++ after)
    × PlaysAll old new Empty before t

-- How a replay ends: what its reader had is `script`, and what it has left is
-- `left`; `old` and `new` are what the writer held before and holds now.
unfoldable pub Ends : ℕ → List ℕ → Option (List ℕ) → Option (List ℕ) → Option (List ℕ) → Result (Unit {0}) ReplayFault
    → Type 0
Ends limit script left old new (Ok _) = (fault_of_script limit script ≡ None) × Appends old new (text_of limit script)
Ends limit script left old new (Err (BadLine n)) =
    (fault_of_script limit script ≡ Some (BadLine n)) × Appends old new (text_of limit script)
Ends limit script left old new (Err (Build f)) =
    (fault_of_script limit script ≡ Some (Build f)) × Appends old new (text_of limit script)
Ends limit script left old new (Err TooLong) =
    (limit < length script) × (fault_of_script limit script ≡ Some TooLong) × Appends old new (text_of limit script)
Ends limit script left old new (Err Read) =
    (read : List ℕ) × (t : SessionState) × Consumes (Some script) left read × (length read ≤ limit)
    × PlaysAll old new Empty (ended_lines read) t
Ends limit script left old new (Err Write) = AppendsPart old new (text_of limit script)
Ends limit script left old new (Err Memory) = PlaysSome old new (played_lines limit script)

-- the same, if it is known what the reader had
unfoldable pub Replays : ℕ → Option (List ℕ) → Option (List ℕ) → Option (List ℕ) → Option (List ℕ)
    → Result (Unit {0}) ReplayFault → Type 0
Replays limit None left old new r = Unit {0}
Replays limit (Some script) left old new r = Ends limit script left old new r
