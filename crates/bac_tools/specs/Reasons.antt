-- What is told of a script or a configuration that isn't right: the second line, which says what to mend. Words of
-- lines are called as in docs/PROTOCOL.md.
use Rattle.std.specs.Prelude.{ℕ, ◌==◌, nat_le, Bool, true, false, if◌then◌else◌, List, [], ◌∷◌, ◌++◌, codes, decimal}
use Rattle.std.specs.Prelude.{Option, None, Some}
use Rattle.bac_objects.specs.declared.build.BuildFault.{BuildFault}
use Rattle.bac_objects.specs.declared.build.BuildFault.TheVariants as build
use Rattle.bac_objects.specs.declared.build.Misfit.{Misfit}
use Rattle.bac_objects.specs.declared.lines.LineId.{LineId}
use Rattle.bac_script.specs.declared.replay.fault.Reason.{Reason}
use Rattle.bac_script.specs.declared.replay.fault.Reason.TheVariants.{Line, Device}
use Rattle.bac_script.specs.declared.replay.fault.UnfitLine.{UnfitLine}
use Rattle.bac_script.specs.declared.script.flaw.Flaw.{Flaw}
use Rattle.bac_script.specs.declared.script.flaw.Flaw.TheVariants as flaw
use Rattle.bac_script.specs.declared.script.flaw.LineKind.{LineKind}
use Rattle.bac_script.specs.declared.script.flaw.LineKind.TheVariants as line
use Rattle.bac_script.specs.declared.script.flaw.Wanted.{Wanted}
use Rattle.bac_script.specs.declared.script.flaw.Wanted.TheVariants as wanted
use Rattle.bac_command_line.specs.declared.listing.ListFault.{ListFault}
use Rattle.bac_tools.specs.declared.fault.Unanswered.{Unanswered}
use Rattle.bac_command_line.specs.declared.listing.ListFault.TheVariants as list

-- ---- a bad line

-- the words of a line of this kind
abbrev pub form_text : LineKind → List ℕ
form_text line.Device = codes "device INSTANCE NAME VENDOR REPLY STAMP"
form_text line.Binary = codes "binary INSTANCE NAME DEFAULT"
form_text line.Multistate = codes "multistate INSTANCE NAME STATES DEFAULT"
form_text line.Integer = codes "integer INSTANCE NAME DEFAULT"
form_text line.Log = codes "log INSTANCE NAME KIND SOURCE CAPACITY INTERVAL LOGGED"
form_text line.Rx = codes "rx HEX"
form_text line.Clock = codes "clock STAMP"
form_text line.Sample = codes "sample INSTANCE"
form_text line.Walk = codes "walk LOG FROM STEPS"

-- what a word has to be
abbrev pub wanted_text : Wanted → List ℕ
wanted_text wanted.Number = codes "a number from 0 to 4294967295"
wanted_text wanted.Short = codes "a number from 0 to 65535"
wanted_text wanted.Object = codes "a number from 0 to 4194302"
wanted_text wanted.Reply = codes "a number from 50 to 1476"
wanted_text wanted.Binary = codes "0 or 1"
wanted_text wanted.States = codes "a number from 1 to 65535"
wanted_text wanted.State = codes "a number from 1 to STATES"
wanted_text wanted.Capacity = codes "a number from 1 to 65535"
wanted_text wanted.Interval = codes "0, or a number from 100 to 4294967295"
wanted_text wanted.Name = codes "a text in UTF-8, of one octet at least"
wanted_text wanted.Integer = codes "an integer from -2147483648 to 2147483647"
wanted_text wanted.Stamp = codes "a moment of the years 1990 to 2154, as YYYY-MM-DDTHH:MM:SS.hh"
wanted_text wanted.Kind = codes "device, binary, multistate, integer or log"
wanted_text wanted.Instance = codes "a number from 0 to 4194303"
wanted_text wanted.Digits = codes "2 to 3002 hexadecimal digits, an even number"
wanted_text wanted.Start = codes "a number from 0 to 4294967295, or oldest"

-- what a line is whose place is wrong
abbrev pub place_text : LineKind → List ℕ
place_text line.Device = codes "a device line stands before it"
place_text line.Rx = codes "no device line stands before it"
place_text line.Clock = codes "no device line stands before it"
place_text line.Sample = codes "no device line stands before it"
place_text line.Walk = codes "no device line stands before it"
place_text other = codes "it stands behind the device line, and before the first event"

-- which word is wrong, and what it has to be
abbrev pub word_flaw : ℕ → Wanted → List ℕ
word_flaw number wanted = codes "word " ++ (decimal number ++ (codes ": " ++ wanted_text wanted))

-- before which word there is a blank too many
abbrev pub blanks_text : ℕ → List ℕ
blanks_text number =
    if nat_le number 1 then codes "the line begins with a blank"
    else codes "two blanks before word " ++ decimal number

-- what is wrong with a bad line
unfoldable pub flaw_text : Flaw → List ℕ
flaw_text flaw.Kind =
    codes "a line begins with device, binary, multistate, integer, log, rx, clock, sample or walk"
flaw_text flaw.Described = codes "a line begins with device, binary, multistate, integer or log"
flaw_text (flaw.Count kind) = codes "the line is: " ++ form_text kind
flaw_text (flaw.Word number wanted) = word_flaw number wanted
flaw_text (flaw.Long number wanted) = word_flaw number wanted ++ codes ", of at most 10 digits"
flaw_text flaw.Blank = codes "the line ends with a blank"
flaw_text (flaw.Blanks number) = blanks_text number
flaw_text (flaw.Place kind) = place_text kind
flaw_text flaw.Event = codes "a configuration has no events: rx, clock, sample and walk are for bac replay"

-- ---- a device that can't be built

-- the first word of the line of an object, by its type (clause 21, BACnetObjectType)
abbrev pub first_word : ℕ → List ℕ
first_word object_type =
    if object_type == 8 then codes "device" else
    if object_type == 5 then codes "binary" else
    if object_type == 19 then codes "multistate" else
    if object_type == 45 then codes "integer" else
    if object_type == 20 then codes "log" else codes "object"

-- a line by its first two words: binary 1
unfoldable pub line_text : LineId → List ℕ
line_text line = first_word line.object_type ++ (32 ∷ decimal line.instance)

-- what a default has to be: that of a Binary Value, or else of a Multi-state Value
abbrev pub default_text : ℕ → List ℕ
default_text object_type =
    if object_type == 5 then codes "DEFAULT is 0 or 1" else codes "DEFAULT is a number from 1 to STATES"

-- where a line is, if that is known
abbrev pub in_line : Option ℕ → List ℕ
in_line None = []
in_line (Some number) = codes " in line " ++ decimal number

-- the line that has the same name, and where
abbrev pub namesake_text : Option LineId → Option ℕ → List ℕ
namesake_text None number = codes "another line"
namesake_text (Some line) number = line_text line ++ in_line number

-- a line by its number, if that is known
abbrev pub some_line : Option ℕ → List ℕ
some_line None = codes "another line"
some_line (Some number) = codes "line " ++ decimal number

-- what a line has to be that has this fault; the line's type, the line that has its name, and where that is or the
-- one with its type and instance
abbrev pub fitting_text : BuildFault → ℕ → Option LineId → Option ℕ → List ℕ
fitting_text build.BadInstance object_type namesake rival = codes "an instance is a number from 0 to 4194302"
fitting_text build.DuplicateId object_type namesake rival = some_line rival ++ codes " has this type and instance"
fitting_text build.BadName object_type namesake rival = codes "a name has 1 to 64 octets and no control character"
fitting_text build.DuplicateName object_type namesake rival =
    codes "its name is that of " ++ namesake_text namesake rival
fitting_text build.BadStates object_type namesake rival = codes "STATES is a number from 1 to 65535"
fitting_text build.BadDefault object_type namesake rival = default_text object_type
fitting_text build.BadCapacity object_type namesake rival = codes "CAPACITY is a number from 1 to 65535"
fitting_text build.BadInterval object_type namesake rival = codes "INTERVAL is 0, or a number from 100 to 4294967295"
fitting_text build.BadReplySize object_type namesake rival = codes "REPLY is a number from 50 to 1476"
fitting_text build.Memory object_type namesake rival = codes "out of memory"

-- the number of a line, if that is known: line 3:
abbrev pub number_text : Option ℕ → List ℕ
number_text None = []
number_text (Some number) = codes "line " ++ (decimal number ++ codes ": ")

-- which line it is, and what it has to be
unfoldable pub misfit_text : Misfit → Option ℕ → List ℕ
misfit_text misfit rival =
    line_text misfit.line ++ (codes ": " ++ fitting_text misfit.fault misfit.line.object_type misfit.namesake rival)

-- the same, and where it stands
unfoldable pub unbuilt_line : UnfitLine → List ℕ
unbuilt_line unbuilt = number_text unbuilt.number ++ misfit_text unbuilt.misfit unbuilt.rival

-- ---- either

-- what is to mend
unfoldable pub reason_text : Reason → List ℕ
reason_text (Line flaw) = flaw_text flaw
reason_text (Device unbuilt) = unbuilt_line unbuilt

-- a second line, if there is more to say (10 is the end of the first)
abbrev pub second_line : Option Reason → List ℕ
second_line None = []
second_line (Some reason) = 10 ∷ reason_text reason

-- ---- finding devices

-- who isn't heard at another address of one's own (Annex J.1.2)
abbrev pub unheard_text : Bool → List ℕ
unheard_text true = []
unheard_text false = codes "; devices that answer by broadcast are only heard with --local=0.0.0.0:47808"

-- nobody answered, of so many addresses
abbrev pub unanswered_text : Unanswered → List ℕ
unanswered_text u =
    ((codes "no answer" ++ 10 ∷ []) ++ (codes "addresses asked: " ++ decimal u.asked))
    ++ unheard_text u.hears_broadcasts

-- a line of a list of addresses is bad, and why
abbrev pub listed_badly : ℕ → List ℕ → List ℕ
listed_badly number said = codes "line " ++ (decimal number ++ ((codes ": bad line" ++ 10 ∷ []) ++ said))

-- why a list of addresses isn't read
unfoldable pub list_text : ListFault → List ℕ
list_text (list.BadLine number) =
    listed_badly number (codes "a line is A.B.C.D or A.B.C.D:PORT, A to D from 0 to 255, PORT from 1 to 65535"
    ++ codes "; for bac wi /20 to /32 may stand behind it, for bac keep it may be one of bac wi")
list_text (list.TooMany number) = listed_badly number (codes "a list has at most 4096 addresses")
list_text list.Empty = (codes "bad value" ++ 10 ∷ []) ++ codes "no address"
list_text list.TooLong = (codes "bad value" ++ 10 ∷ []) ++ codes "a list has at most 1048576 octets"
list_text list.Read = codes "read fault"
list_text list.Memory = codes "out of memory"
