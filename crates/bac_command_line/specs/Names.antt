-- The names of the words and options.
use Rattle.std.specs.Prelude.{Bool, true, false, codes}
use Rattle.clap.specs.Words.{Text}
use Rattle.bac_command_line.specs.declared.word.Word.{Word}
use Rattle.bac_command_line.specs.declared.word.Word.TheVariants.{Tool, Address, ObjectType, Instance, Property}
use Rattle.bac_command_line.specs.declared.word.Word.TheVariants.{Priority, Tag}
use Rattle.bac_command_line.specs.declared.word.Word.TheVariants.{From, File, Index, Value, Min, Max, Steps, Count}
use Rattle.bac_command_line.specs.declared.word.Word.TheVariants.{Local}
use Rattle.bac_command_line.specs.declared.word.Word.TheVariants.{AtOnce, Records, Part, Since, Until, Last, Wait}
use Rattle.bac_command_line.specs.declared.word.Word.TheVariants.{Timeout, Retries, Dnet, Dadr, Csv, Stop, Numbers}
use Rattle.bac_command_line.specs.declared.word.Word.TheVariants.{Trace}
use Rattle.bac_command_line.specs.declared.word.Word.TheVariants.{Json, Quiet}

-- a word's name in the help; an option's, without its --
abbrev pub name_of : Word → Text
name_of Tool = codes "COMMAND"
name_of Address = codes "ADDRESS"
name_of ObjectType = codes "TYPE"
name_of Instance = codes "INSTANCE"
name_of Property = codes "PROPERTY"
name_of Priority = codes "PRIORITY"
name_of Tag = codes "TAG"
name_of From = codes "FROM"
name_of File = codes "FILE"
name_of Index = codes "index"
name_of Value = codes "value"
name_of Min = codes "min"
name_of Max = codes "max"
name_of Steps = codes "steps"
name_of Records = codes "count"
name_of Part = codes "part"
name_of AtOnce = codes "at-once"
name_of Wait = codes "wait"
name_of Count = codes "count"
name_of Csv = codes "csv"
name_of Json = codes "json"
name_of Quiet = codes "quiet"
name_of Stop = codes "stop"
name_of Since = codes "since"
name_of Until = codes "until"
name_of Last = codes "last"
name_of Numbers = codes "numbers"
name_of Trace = codes "trace"
name_of Local = codes "local"
name_of Timeout = codes "timeout"
name_of Retries = codes "retries"
name_of Dnet = codes "dnet"
name_of Dadr = codes "dadr"

-- whether it is an option, --NAME=VALUE or --NAME
abbrev pub is_option : Word → Bool
is_option Index = true
is_option Value = true
is_option Min = true
is_option Max = true
is_option Steps = true
is_option Records = true
is_option Part = true
is_option AtOnce = true
is_option Wait = true
is_option Count = true
is_option Csv = true
is_option Json = true
is_option Quiet = true
is_option Stop = true
is_option Since = true
is_option Until = true
is_option Last = true
is_option Numbers = true
is_option Trace = true
is_option Local = true
is_option Timeout = true
is_option Retries = true
is_option Dnet = true
is_option Dadr = true
is_option other = false

-- whether its value is a number of at most ten digits
abbrev pub is_number : Word → Bool
is_number ObjectType = true
is_number Instance = true
is_number Property = true
is_number Priority = true
is_number Tag = true
is_number From = true
is_number Index = true
is_number Min = true
is_number Max = true
is_number Steps = true
is_number Records = true
is_number Part = true
is_number AtOnce = true
is_number Wait = true
is_number Count = true
is_number Timeout = true
is_number Retries = true
is_number Dnet = true
is_number other = false
