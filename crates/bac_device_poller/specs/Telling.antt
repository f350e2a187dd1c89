-- The lines of a device, beside those of its logs' polls.
use Rattle.std.specs.Prelude.{◌≡◌, ℕ, ◌==◌, Bool, true, false, if◌then◌else◌, codes, decimal, List, [], ◌∷◌, ◌++◌}
use Rattle.std.specs.Prelude.{Option, None, Some}
use Rattle.bac_wire.specs.Primitive.{Id}
use Rattle.bac_drive.specs.declared.machine.Next.{Next}
use Rattle.bac_drive.specs.declared.machine.Next.TheVariants as next
use Rattle.bac_walk.specs.declared.outcome.WalkFault.{WalkFault}
use Rattle.bac_walk.specs.declared.outcome.WalkFault.TheVariants.{BadReply, Lost, Refused}
use Rattle.bac_answers.specs.declared.entry.Others.{Others}
use Rattle.bac_answers.specs.declared.reject.NoRoute.{NoRoute}
use Rattle.bac_answers.specs.declared.who.Who.{Who}
use Rattle.bac_answers.specs.declared.who.Who.TheVariants.{Address, Device, Name}
use Rattle.bac_device_poller.specs.Ending.{fault_text, refused_line}

-- a line; whether it is of a log that is caught up, or of what is new
pub record LineAs : Type 0 where
  pub good : Bool
  pub text : List ℕ

-- it is told: such a line is printed, any other goes to the errors
abbrev pub IsToldBy : Bool → List ℕ → Next → Type 0
IsToldBy true text (next.Print line) = line.items ≡ text
IsToldBy false text (next.Warn line) = line.items ≡ text
IsToldBy good text other = ⊥

-- how lines call a log of a device that they call so
abbrev pub log_called : (device : List ℕ) → Id → List ℕ
log_called device log = device ++ (32 ∷ decimal log.instance)

-- ---- what a device tells of itself

-- by what one tells who it is
abbrev pub who_text : Who → List ℕ
who_text (Device id) = decimal id.instance
who_text (Name name) = name
who_text Address = codes "one without a name"

-- the instance on record, if there is one
abbrev pub not_text : Option ℕ → List ℕ
not_text None = []
not_text (Some was) = codes ", not " ++ decimal was

-- what the device on record doesn't tell any more
abbrev pub that_text : Option ℕ → List ℕ
that_text None = codes "its name"
that_text (Some was) = codes "that it is " ++ decimal was

-- which one, and which is on record
unfoldable pub other_text : Who → Option ℕ → List ℕ
other_text who was = who_text who ++ not_text was

-- another device answers
abbrev pub another_line : List ℕ → Who → Option ℕ → List ℕ
another_line device who was = device ++ (codes ": another device answers: " ++ (other_text who was ++ 10 ∷ []))

-- the device doesn't tell that it is the one on record
abbrev pub untold_line : List ℕ → Option ℕ → List ℕ
untold_line device was = device ++ (codes ": the device doesn't tell " ++ (that_text was ++ 10 ∷ []))

-- what it is known by
abbrev pub means_text : Who → List ℕ
means_text (Device id) = codes "instance"
means_text (Name name) = codes "name"
means_text Address = codes "address"

-- it tells neither an instance nor a name
abbrev pub alone_line : List ℕ → List ℕ
alone_line device = device ++ codes ": the device is known by its address alone\n"

-- it tells more of itself than before
abbrev pub known_now_line : List ℕ → Who → List ℕ
known_now_line device who = device ++ (codes ": the device is known by its " ++ (means_text who ++ codes " now\n"))

-- it didn't tell its Object_List
abbrev pub unlisted_line : List ℕ → WalkFault → List ℕ
unlisted_line device why = device ++ (codes " didn't tell its Object_List: " ++ (fault_text why ++ 10 ∷ []))

-- what is wrong with the reply
abbrev pub no_list_line : List ℕ → List ℕ
no_list_line device =
    device ++ codes ": the reply doesn't acknowledge this request, is segmented, or can't be read\n"

-- behind that line what it means, if there is more to say
abbrev pub unlisted_reason : List ℕ → WalkFault → Option (List ℕ)
unlisted_reason device Lost = None
unlisted_reason device (Refused refusal) = Some (refused_line device refusal)
unlisted_reason device BadReply = Some (no_list_line device)

-- it has objects whose records aren't kept
abbrev pub others_line : List ℕ → Others → List ℕ
others_line device others =
    device
    ++ (codes ": not kept: " ++ (decimal others.multiple
    ++ (codes " Trend Log Multiple, " ++ (decimal others.event ++ codes " Event Log\n"))))

-- the router that it is behind has no route to its network (6.4.4)
abbrev pub rejected_line : List ℕ → NoRoute → List ℕ
rejected_line device reject =
    device ++ (codes ": the router has no route to network " ++ (decimal reject.network ++ codes "\n"))

-- none of its questions was answered
abbrev pub silent_line : List ℕ → List ℕ
silent_line device = device ++ codes ": no answer\n"

-- ---- its logs

-- one is new
abbrev pub new_line : List ℕ → List ℕ
new_line called = called ++ codes " is new\n"

-- no id is left for it
abbrev pub full_line : List ℕ → List ℕ
full_line called = called ++ codes " is new, and no id is left for it\n"

-- one isn't asked
abbrev pub not_asked_line : List ℕ → List ℕ
not_asked_line called = called ++ codes " not asked\n"
