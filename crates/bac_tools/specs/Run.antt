-- What the program does with its words: its streams, its sockets and its clock, before and now. Read from the end.
use Rattle.std.specs.Prelude.{◌≡◌, ◌≤◌, ◌⊎◌, ℕ, ◌==◌, Bool, true, false, if◌then◌else◌, IfErr}
use Rattle.std.specs.List.{Contains}
use Rattle.std.specs.Prelude.{List, [], map, Option, Some, None, Result, Ok, Err}
use Rattle.std.specs.Io.KnownBytes.{Appends, Keeps}
use Rattle.clap.specs.Words.{Text, IsAmong, kind_of}
use Rattle.clap.specs.declared.error.kind.ErrorKind.{ErrorKind}
use Rattle.clap.specs.declared.error.kind.ErrorKind.TheVariants.{DisplayHelp, DisplayVersion}
use Rattle.bac_apdu.specs.Service.WriteProperty.{PropertyWrite, write_of_code}
use Rattle.bac_apdu.specs.declared.service.read_property.ReadProperty.{ReadProperty}
use Rattle.bac_apdu.specs.declared.service.write_property.WriteProperty.{WriteProperty}
use Rattle.bac_socket_notes.specs.Notes.{nothing}
use Rattle.bac_socket_notes.specs.declared.notes.Passed.{Passed}
use Rattle.bac_link.specs.declared.request.Request.TheVariants as request
use Rattle.bac_ports.specs.Sockets.{SocketRules}
use Rattle.bac_print.specs.Output.{AppendsPart, Held}
use Rattle.bac_query.specs.Ahead.{errand}
use Rattle.bac_query.specs.declared.reals.Reals.{Reals}
use Rattle.bac_query.specs.declared.reals.Reals.TheVariants.{Octets, Numbers}
use Rattle.bac_tools.specs.Asking.{Fetches, Lists, Reads, Writes}
use Rattle.bac_tools.specs.Ending.{Ending}
use Rattle.bac_tools.specs.Finding.{Finds, inquiry, search_of}
use Rattle.bac_tools.specs.Given.{value_of}
use Rattle.bac_tools.specs.Playing.{Plays}
use Rattle.bac_tools.specs.Serving.{Serves}
use Rattle.bac_tools.specs.Sockets.{Outlets, Outside}
use Rattle.bac_tools.specs.Status.{exit_status}
use Rattle.bac_tools.specs.Streams.{Streams, IsIdle, IsQuiet, IsUntouched, outlets_of, outside_of, pipes_of}
use Rattle.bac_tools.specs.Streams.{with_errors}
use Rattle.bac_tools.specs.Texts.{told_after, told_text}
use Rattle.bac_tools.specs.declared.fault.Fault.{Fault}
use Rattle.bac_tools.specs.declared.fault.Fault.TheVariants.{BadValue, LongNumber, OtherTool, Memory, Write}
use Rattle.bac_link.specs.Standard.{IsCount}
use Rattle.bac_walk.specs.Place.{WalkPlace, asking, walk_at, walk_from_oldest}
use Rattle.bac_wire.specs.Primitive.{Id}
use Rattle.bac_wire.specs.Stamp.{CivilTime}
use Rattle.bac_command_line.specs.Outcome.{mistakes_of, is_long_in, job_in}
use Rattle.bac_command_line.specs.declared.job.Job.{Job}
use Rattle.bac_command_line.specs.declared.job.Job.TheVariants as job
use Rattle.bac_command_line.specs.declared.job.LogListing.{LogListing}
use Rattle.bac_command_line.specs.declared.job.LogReading.{LogReading}
use Rattle.bac_command_line.specs.declared.job.PropertyReading.{PropertyReading}
use Rattle.bac_command_line.specs.declared.job.PropertyWriting.{PropertyWriting}
use Rattle.bac_command_line.specs.declared.fault.WordsFault.{WordsFault}
use Rattle.bac_command_line.specs.declared.fault.WordsFault.TheVariants as words
use Rattle.bac_command_line.specs.declared.word.Word.{Word}
use Rattle.bac_command_line.specs.declared.word.Word.TheVariants.{Records, Instance, From}

-- ---- what is asked for

-- an object type or an instance that no identifier has (clause 20.2.14)
abbrev pub IsOutside : ℕ → ℕ → Type 0
IsOutside object_type instance = (1024 ≤ object_type) ⊎ (4194304 ≤ instance)

-- nothing is asked, since a word's value is none
abbrev pub IsUnasked : {S : Type 0} → Word → Outside S → Ending → Outside S → Type 0
IsUnasked word old result new =
    (result ≡ Err (BadValue word)) × Keeps old.output new.output × (new.sockets ≡ old.sockets)

-- no trend log has this instance, or no record this number
abbrev pub IsNoWalk : ℕ → Option ℕ → (count : ℕ) → Fault → Type 0
IsNoWalk instance from count fault =
    (IsOutside 20 instance × (fault ≡ BadValue Instance)) ⊎ (((IsCount count → ⊥) × (fault ≡ BadValue Records))
    ⊎ ((from ≡ Some 0) × (fault ≡ BadValue From)))

-- the trend log with this instance
abbrev pub trend_log : ℕ → Id
trend_log instance = record { kind = 20; instance = instance }

-- one of these instances is no trend log's, or there is no memory for them
abbrev pub IsNoLogs : List ℕ → Fault → Type 0
IsNoLogs instances fault =
    ((fault ≡ BadValue Instance) × ((instance : ℕ) × Contains instances instance × IsOutside 20 instance))
    ⊎ (fault ≡ Memory)

-- the walk from record FROM of a log on, or from its oldest record, that asks for so many records at a time
abbrev pub walk_from : ℕ → Option ℕ → (count : ℕ) → WalkPlace
walk_from instance None count = asking count (walk_from_oldest (trend_log instance))
walk_from instance (Some number) count = asking count (walk_at (trend_log instance) number)

-- REALs and Doubles as numbers, or as their octets
abbrev pub reals_of : Bool → Reals
reals_of true = Numbers
reals_of false = Octets

-- the parameters of a request, by the words
abbrev pub question : PropertyReading → ReadProperty
question said = record {
  object = record { kind = said.object_type; instance = said.instance };
  property = said.property;
  index = said.index;
}

-- priority 0 is none
abbrev pub priority_of : ℕ → Option ℕ
priority_of n = if n == 0 then None else Some n

-- the same of a WriteProperty
abbrev pub setting : PropertyWriting → PropertyWrite
setting said = record {
  object = record { kind = said.object_type; instance = said.instance };
  property = said.property;
  index = said.index;
  value = value_of said.given;
  priority = priority_of said.priority;
}

-- ---- the tools that ask one device, as the words say

-- bac rp; of an object that there can't be nothing is asked
abbrev pub ReadsAsSaid : {S P : Type 0} → SocketRules S P → PropertyReading → Outside S → Ending → Outside S → Type 0
ReadsAsSaid rules said old result new =
    (IsOutside said.object_type said.instance × IsUnasked Instance old result new)
    ⊎ Reads rules said.asked (question said) (reals_of said.numbers) old result new

-- bac wp; likewise
abbrev pub WritesAsSaid : {S P : Type 0} → SocketRules S P → PropertyWriting → Outside S → Ending → Outside S → Type 0
WritesAsSaid rules said old result new =
    (IsOutside said.object_type said.instance × IsUnasked Instance old result new)
    ⊎ ((w : WriteProperty) × (write_of_code w ≡ setting said)
    × Writes rules said.asked (request.WriteProperty w) old result new)

-- bac log; of a walk that there can't be nothing is asked
abbrev pub FetchesAsSaid : {S P : Type 0} → SocketRules S P → LogReading → Outlets S → Ending → Outlets S → Type 0
FetchesAsSaid rules said old result new =
    ((fault : Fault) × (IsNoWalk said.instance said.from said.count fault × (result ≡ Err fault))
    × Keeps old.output new.output × (new.sockets ≡ old.sockets))
    ⊎ Fetches rules said.asked
    (errand said.form (walk_from said.instance said.from said.count) said.steps) old result new

-- bac logs; of logs that there can't be nothing is asked
abbrev pub ListsAsSaid : {S P : Type 0} → SocketRules S P → LogListing → Outside S → Ending → Outside S → Type 0
ListsAsSaid rules said old result new =
    ((fault : Fault) × (IsNoLogs said.instances fault × (result ≡ Err fault))
    × Keeps old.output new.output × (new.sockets ≡ old.sockets))
    ⊎ Lists rules said.asked (map trend_log said.instances) old result new

-- ---- any job

-- nothing is done, since the job is of a tool that has files
abbrev pub IsElsewhere : {S C : Type 0} → Streams S C → Ending → Streams S C → Type 0
IsElsewhere old result new =
    (result ≡ Err OtherTool) × Keeps old.output new.output × (new.input ≡ old.input) × IsIdle old new

-- nothing is told before a fault, and the clock isn't looked at
abbrev pub IsQuietAtFault : {S C : Type 0} → Ending → Streams S C → Streams S C → Type 0
IsQuietAtFault result old new = IfErr result (λ fault. new.errors ≡ old.errors) × (new.clock ≡ old.clock)

-- The tool of a job, before its fault is told. Only `serve` looks at the clock, and tells that it is up; and only `log`
-- tells of a device that it contradicted itself. Only `replay`, `serve` and `wi` read the input.
abbrev pub Works : {S P C : Type 0} → SocketRules S P → (C → Option CivilTime → C → Type 0) →
    Job → Streams S C → Ending → Streams S C → Type 0
Works rules tells job.Replay old result new =
    Plays old.input new.input old.output new.output result × IsIdle old new
Works rules tells (job.Rp said) old result new =
    ReadsAsSaid rules said (outside_of old) result (outside_of new) × IsQuiet old new × (new.input ≡ old.input)
Works rules tells (job.Wp said) old result new =
    WritesAsSaid rules said (outside_of old) result (outside_of new) × IsQuiet old new × (new.input ≡ old.input)
Works rules tells (job.Log said) old result new =
    FetchesAsSaid rules said (outlets_of old) result (outlets_of new)
    × IsQuietAtFault result old new × (new.input ≡ old.input)
Works rules tells (job.Logs said) old result new =
    ListsAsSaid rules said (outside_of old) result (outside_of new) × IsQuiet old new × (new.input ≡ old.input)
Works rules tells (job.Serve said) old result new =
    Serves rules tells said.address said.count old result new × Keeps old.output new.output
Works rules tells (job.Wi said) old result new =
    Finds rules (inquiry (search_of said) said.local said.timeout) said.stations
    (pipes_of old) result (pipes_of new)
    × IsQuiet old new
Works rules tells (job.Keep asked) old result new = IsElsewhere old result new
Works rules tells (job.Kept asked) old result new = IsElsewhere old result new
Works rules tells (job.Check asked) old result new = IsElsewhere old result new

-- ---- the status

-- The fault's text is written on the errors, or a front part of it; or, without memory for it, that of out of memory.
-- The text tells what passed since the last question.
abbrev pub IsToldAfter : Passed → Fault → Held → Held → ℕ → Type 0
IsToldAfter passed fault old new status =
    ((status ≡ exit_status fault) × AppendsPart old new (told_after passed fault))
    ⊎ ((status ≡ exit_status Memory) × AppendsPart old new (told_text Memory))

-- the same where nothing was asked
abbrev pub IsTold : Fault → Held → Held → ℕ → Type 0
IsTold fault old new status = IsToldAfter nothing fault old new status

-- a fault is told on the errors, and without one nothing more
abbrev pub Ends : Passed → Ending → Held → Held → ℕ → Type 0
Ends passed (Ok done) old new status = (status ≡ done) × Keeps old new
Ends passed (Err fault) old new status = IsToldAfter passed fault old new status

-- a fault is told on the errors, and that is all
abbrev pub OnlyTells : {S C : Type 0} → Fault → Streams S C → ℕ → Streams S C → Type 0
OnlyTells fault old status new =
    IsTold fault old.errors new.errors status × Keeps old.output new.output × IsUntouched old new

-- What the words ask for is done, which leaves this on the errors, and then its fault is told, with what the sockets
-- know of the port that was closed last; or nothing is done, as there is no memory for the words.
abbrev pub Runs : {S P C : Type 0} → SocketRules S P → (S → Passed) → (C → Option CivilTime → C → Type 0) →
    Job → Streams S C → ℕ → Streams S C → Type 0
Runs rules passes tells asked old status new =
    OnlyTells Memory old status new
    ⊎ ((result : Ending) × (said : Held) × Works rules tells asked old result (with_errors said new)
    × Ends (passes new.sockets) result said new.errors status)

-- words that ask for a job
abbrev pub AskFor : List Text → Job → Type 0
AskFor words asked = (mistakes_of words ≡ []) × (job_in words ≡ Ok asked)

-- words of which this one has a value that it can't have
abbrev pub AreWrong : List Text → Word → Type 0
AreWrong words word = (mistakes_of words ≡ []) × (job_in words ≡ Err word)

-- what is told of it: that its number has too many digits, or its value is another
abbrev pub wrong_fault : List Text → Word → Fault
wrong_fault words word = if is_long_in words word then LongNumber word else BadValue word

-- ---- help, the version and mistakes, whose texts are clap's

-- help or the version is asked for
abbrev pub IsWish : ErrorKind → Type 0
IsWish kind = (kind ≡ DisplayHelp) ⊎ (kind ≡ DisplayVersion)

-- A text stands on the output, and nothing on the errors; or, after a refused write, a front part of it and the write
-- fault.
abbrev pub Shows : {S C : Type 0} → Streams S C → ℕ → Streams S C → Type 0
Shows old status new =
    (text : List ℕ) × (((status ≡ 0) × Appends old.output new.output text × Keeps old.errors new.errors)
    ⊎ (AppendsPart old.output new.output text × IsTold Write old.errors new.errors status))

-- a text stands on the errors, or a front part of it, and nothing on the output; the status is 1
abbrev pub Corrects : {S C : Type 0} → Streams S C → ℕ → Streams S C → Type 0
Corrects old status new =
    (status ≡ 1) × ((text : List ℕ) × AppendsPart old.errors new.errors text) × Keeps old.output new.output

-- what is said of words of this kind
abbrev pub Explains : {S C : Type 0} → ErrorKind → Streams S C → ℕ → Streams S C → Type 0
Explains kind old status new =
    (IsWish kind × Shows old status new) ⊎ ((IsWish kind → ⊥) × Corrects old status new)

-- What is done of words as they were read: their job; or a wrong value is told, or what clap says of them; or that
-- there is no memory for them.
abbrev pub RunsRead : {S P C : Type 0} → SocketRules S P → (S → Passed) → (C → Option CivilTime → C → Type 0) →
    Result Job WordsFault → Streams S C → ℕ → Streams S C → Type 0
RunsRead rules passes tells (Ok asked) old status new = Runs rules passes tells asked old status new
RunsRead rules passes tells (Err (words.BadValue word)) old status new = OnlyTells (BadValue word) old status new
RunsRead rules passes tells (Err (words.LongNumber word)) old status new = OnlyTells (LongNumber word) old status new
RunsRead rules passes tells (Err (words.Usage error)) old status new =
    OnlyTells Memory old status new ⊎ (Explains (kind_of error) old status new × IsUntouched old new)
RunsRead rules passes tells (Err words.Memory) old status new = OnlyTells Memory old status new

-- Words that ask for no job: their help or their mistake is said, and nothing else is done; or there is no memory for
-- them.
abbrev pub AnswersWords : {S C : Type 0} → List Text → Streams S C → ℕ → Streams S C → Type 0
AnswersWords words old status new =
    OnlyTells Memory old status new
    ⊎ ((kind : ErrorKind) × IsAmong kind (mistakes_of words) × Explains kind old status new × IsUntouched old new)
