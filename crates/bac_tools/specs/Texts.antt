-- What is told on standard error. Of a fault it is a line, and if there is more to say, a second one.
use Rattle.std.specs.Prelude.{ℕ, List, [], ◌∷◌, ◌++◌, if◌then◌else◌, codes, decimal}
use Rattle.bac_socket_notes.specs.Notes.{nothing}
use Rattle.bac_socket_notes.specs.Silence.{silence_text}
use Rattle.bac_socket_notes.specs.declared.notes.Passed.{Passed}
use Rattle.bac_link.specs.declared.exchanges.ExchangeFault.{ExchangeFault}
use Rattle.bac_link.specs.declared.exchanges.ExchangeFault.TheVariants as exchange
use Rattle.bac_objects.specs.declared.build.BuildFault.{BuildFault}
use Rattle.bac_objects.specs.declared.build.BuildFault.TheVariants as build
use Rattle.bac_ports.specs.declared.port.OpenFault.{OpenFault}
use Rattle.bac_ports.specs.declared.port.OpenFault.TheVariants as unopened
use Rattle.bac_print.specs.Addresses.{address_text}
use Rattle.bac_query.specs.Ends.{cause_text, refusal_text}
use Rattle.bac_script.specs.declared.replay.fault.Refused.{Refused as Refusal}
use Rattle.bac_script.specs.declared.replay.fault.ReplayFault.{ReplayFault}
use Rattle.bac_script.specs.declared.replay.fault.ReplayFault.TheVariants as script
use Rattle.bac_tools.specs.Flaws.{reply_text}
use Rattle.bac_tools.specs.Reasons.{list_text, second_line, unanswered_text}
use Rattle.bac_tools.specs.declared.fault.Fault.{Fault}
use Rattle.bac_tools.specs.declared.fault.Fault.TheVariants.{NotText, BadValue, LongNumber, OtherTool, NoDevice, Script}
use Rattle.bac_tools.specs.declared.fault.Fault.TheVariants.{Unopened, Socket, Refused}
use Rattle.bac_tools.specs.declared.fault.Fault.TheVariants.{NoAnswer, List as ListOf, Exchange, Flawed}
use Rattle.bac_tools.specs.declared.fault.Fault.TheVariants.{Silent, Declined, Clock, Write, Memory}
use Rattle.bac_command_line.specs.Names.{name_of, is_option}
use Rattle.bac_command_line.specs.declared.word.Word.{Word}
use Rattle.bac_command_line.specs.declared.word.Word.TheVariants as word

-- ---- words

-- as a word or an option is written: TYPE, or --timeout
unfoldable pub word_text : Word → List ℕ
word_text w = if is_option w then codes "--" ++ name_of w else name_of w

-- the addresses that a word can have
abbrev pub address_range : List ℕ
address_range = codes "A.B.C.D or A.B.C.D:PORT, each of A to D from 0 to 255, PORT from 1 to 65535"

-- the values that it can have
abbrev pub range_text : Word → List ℕ
range_text word.Tool = codes "replay, wi, rp, wp, log, logs, keep, kept, check or serve"
range_text word.File = codes "the name of a file"
range_text word.Csv = codes "an option without a value"
range_text word.Numbers = codes "an option without a value"
range_text word.Trace = codes "an option without a value"
range_text word.Quiet = codes "an option without a value"
range_text word.Json = codes "without --csv"
range_text word.Wait = codes "a number from 0 to 3600"
range_text word.Stop = codes "an option without a value, beside one ADDRESS"
range_text word.Last = codes "an option without a value, beside neither --since nor --until"
range_text word.Address = address_range ++ codes "; for bac wi also with /20 to /32 behind it"
range_text word.Local = address_range
range_text word.Since = codes "the front of a stamp YYYY-MM-DDTHH:MM:SS.HH, the year at least"
range_text word.Until = codes "the front of a stamp YYYY-MM-DDTHH:MM:SS.HH, the year at least"
range_text word.ObjectType = codes "a number from 0 to 1023"
range_text word.Instance = codes "a number from 0 to 4194303"
range_text word.Min = codes "a number from 0 to 4194303"
range_text word.Max = codes "a number from 0 to 4194303, beside --min"
range_text word.Property = codes "a number from 0 to 4294967295"
range_text word.Index = codes "a number from 0 to 4294967295"
range_text word.Steps = codes "a number from 0 to 4294967295"
range_text word.Count = codes "a number from 0 to 4294967295"
range_text word.Records = codes "a number from 1 to 100"
range_text word.Part = codes "a number from 1 to 4096"
range_text word.AtOnce = codes "a number from 1 to 1024"
range_text word.Priority = codes "a number from 0 to 16"
range_text word.Tag = codes "0, 1, 2, 3, 4, 7 or 9"
range_text word.From = codes "a number from 1 to 4294967295, or oldest"
range_text word.Value = codes "a value of the tag: none for 0, else one; bac wp --help has the tags"
range_text word.Timeout = codes "a number from 1 to 60000"
range_text word.Retries = codes "a number from 0 to 10"
range_text word.Dnet = codes "a number from 1 to 65534, beside --dadr; for bac wi from 1 to 65535"
range_text word.Dadr = codes "2 to 30 hexadecimal digits, an even number, beside --dnet"

-- ---- faults

-- why a device can't be built
abbrev pub build_text : BuildFault → List ℕ
build_text build.BadInstance = codes "bad instance"
build_text build.DuplicateId = codes "duplicate object"
build_text build.BadName = codes "bad name"
build_text build.DuplicateName = codes "duplicate name"
build_text build.BadStates = codes "bad states"
build_text build.BadDefault = codes "bad default"
build_text build.BadCapacity = codes "bad capacity"
build_text build.BadInterval = codes "bad interval"
build_text build.BadReplySize = codes "bad reply size"
build_text build.Memory = codes "out of memory"

-- the line that says so
unfoldable pub unbuilt_text : BuildFault → List ℕ
unbuilt_text fault = codes "cannot build: " ++ build_text fault

-- why a script or a configuration is refused
unfoldable pub script_text : ReplayFault → List ℕ
script_text (script.BadLine number) = codes "line " ++ (decimal number ++ codes ": bad line")
script_text (script.Build fault) = unbuilt_text fault
script_text script.Read = codes "read fault"
script_text script.TooLong = codes "script too long"
script_text script.Write = codes "write fault"
script_text script.Memory = codes "out of memory"

-- the same, and what is to mend
abbrev pub refusal_lines : Refusal → List ℕ
refusal_lines refused = script_text refused.fault ++ second_line refused.reason

-- the line of a bad value; the second line says of what (10 is the line's end)
abbrev pub bad_value : List ℕ
bad_value = codes "bad value" ++ 10 ∷ []

-- a line, and on a second one what is said of an address
abbrev pub of_address : List ℕ → List ℕ → List ℕ → List ℕ
of_address line said address = (line ++ 10 ∷ []) ++ (said ++ address_text address)

-- the reply to one question doesn't serve
abbrev pub bad_reply : List ℕ
bad_reply =
    (codes "bad reply" ++ 10 ∷ []) ++ codes "the reply doesn't acknowledge this request, is segmented, or can't be read"

-- the machine's clock tells no time
abbrev pub clock_text : List ℕ
clock_text =
    (codes "clock fault" ++ 10 ∷ []) ++ codes "the machine's clock can't be read, or its year isn't 1990 to 2154"

-- the answer to one question to an address didn't come, and what passed since the question was first sent
abbrev pub lost_text : Passed → List ℕ → List ℕ
lost_text passed address = (codes "lost" ++ 10 ∷ []) ++ silence_text address passed

-- a fault of one question to an address
unfoldable pub exchange_text : Passed → List ℕ → ExchangeFault → List ℕ
exchange_text passed address exchange.Lost = lost_text passed address
exchange_text passed address (exchange.Refused refusal) = refusal_text refusal ++ (10 ∷ cause_text refusal)
exchange_text passed address exchange.BadReply = bad_reply
exchange_text passed address exchange.TooLong = bad_value ++ codes "the request is too long"

-- nothing could be sent to an address
abbrev pub refused_text : List ℕ → List ℕ
refused_text address = of_address (codes "socket fault") (codes "nothing was sent to ") address

-- why a socket couldn't be opened, where the system says it
abbrev pub open_text : OpenFault → List ℕ
open_text unopened.InUse = 10 ∷ codes "another socket has the address"
open_text unopened.NotOurs = 10 ∷ codes "the address isn't one of this machine"
open_text unopened.NotPermitted = 10 ∷ codes "the system doesn't permit it"
open_text unopened.Failed = []

-- a word's value is none that it can have
unfoldable pub wrong_text : Word → List ℕ
wrong_text w = bad_value ++ (word_text w ++ (codes ": " ++ range_text w))

-- the same of a number that has too many digits
abbrev pub long_text : Word → List ℕ
long_text w = wrong_text w ++ codes ", of at most 10 digits"

-- each fault of the program after its last question, since which this passed; without the last line's end
unfoldable pub fault_text : Passed → Fault → List ℕ
fault_text passed NotText = bad_value ++ codes "a word isn't UTF-8"
fault_text passed (BadValue w) = wrong_text w
fault_text passed (LongNumber w) = long_text w
fault_text passed OtherTool = bad_value ++ codes "this program has no keep, kept or check"
fault_text passed NoDevice = bad_value ++ codes "no device line"
fault_text passed (Script refused) = refusal_lines refused
fault_text passed (Unopened why) = codes "socket fault" ++ open_text why
fault_text passed Socket = codes "socket fault"
fault_text passed (Refused address) = refused_text address
fault_text passed (NoAnswer asked) = unanswered_text asked
fault_text passed (ListOf fault) = list_text fault
fault_text passed (Exchange address fault) = exchange_text passed address fault
fault_text passed (Flawed flaw) = reply_text flaw
fault_text passed (Silent address) = silence_text address passed
fault_text passed (Declined refusal) = cause_text refusal
fault_text passed Clock = clock_text
fault_text passed Write = codes "write fault"
fault_text passed Memory = codes "out of memory"

-- with the last line's end
abbrev pub told_after : Passed → Fault → List ℕ
told_after passed fault = fault_text passed fault ++ 10 ∷ []

-- where nothing was asked
abbrev pub told_text : Fault → List ℕ
told_text fault = told_after nothing fault

-- ---- a walk that is caught up

-- its device contradicts itself, a line
abbrev pub more_line : List ℕ
more_line = codes "the device announced more records but sent none" ++ 10 ∷ []

-- ---- serving

-- a device is up at an address, a line
unfoldable pub serving_line : List ℕ → List ℕ
serving_line address = codes "serving " ++ (address_text address ++ 10 ∷ [])
