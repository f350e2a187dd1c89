-- What a line of a script says. It says it apart from what the lines before it have made.
use Rattle.std.specs.Prelude.{ℕ, ◌^◌, ◌==◌, ◌||◌, nat_lt, Bool, if◌then◌else◌, List, [], ◌∷◌, length, slice_index}
use Rattle.std.specs.Prelude.{codes, Option, None, Some}
use Rattle.std.specs.Str.{bytes_eq}
use Rattle.bac_wire.specs.OptionChain.{◌>>=◌}
use Rattle.bac_wire.specs.Primitive.{Id}
use Rattle.bac_wire.specs.Stamp.{CivilTime}
use Rattle.bac_objects.specs.declared.lines.DeviceLine.{DeviceLine}
use Rattle.bac_objects.specs.declared.lines.ObjectLine.{ObjectLine}
use Rattle.bac_objects.specs.declared.lines.ObjectLine.TheVariants.{Binary, Multistate, Integer, Log}
use Rattle.bac_script.specs.Script.Hexadecimal.{octets_in}
use Rattle.bac_script.specs.Script.Number.{number_in, below, integer_in}
use Rattle.bac_script.specs.Script.Stamp.{stamp_in}
use Rattle.bac_script.specs.Script.Words.{words_of, text_in}

-- what happens to a device: it receives these octets, its clock comes to this moment,
-- its Trend Log with this instance takes a sample, or a client walks a trend log, from
-- a sequence number or, without one, from its oldest record, in at most so many steps
pub data ScriptEvent : Type 0 where
  Received : List ℕ → ScriptEvent
  Clocked : CivilTime → ScriptEvent
  Sampled : ℕ → ScriptEvent
  Walked : Id → Option ℕ → ℕ → ScriptEvent

-- what a line says: the device, one of its objects, or an event
pub data ScriptLine : Type 0 where
  Device : DeviceLine → ScriptLine
  Object : ObjectLine → ScriptLine
  Happens : ScriptEvent → ScriptLine

-- ---- what the words after the first one say, by the kind of the line

-- device INSTANCE NAME VENDOR REPLY STAMP
unfoldable pub device_line : List (List ℕ) → Option ScriptLine
device_line (instance ∷ name ∷ vendor ∷ reply ∷ clock ∷ []) = do
  instance ← below (2 ^ 32) (number_in instance)
  name ← text_in name
  vendor ← below (2 ^ 16) (number_in vendor)
  reply ← below (2 ^ 16) (number_in reply)
  clock ← stamp_in clock
  Some (Device (record { instance = instance; name = name; vendor = vendor; reply_size = reply; clock = clock }))
device_line words = None

-- binary INSTANCE NAME DEFAULT
unfoldable pub binary_line : List (List ℕ) → Option ScriptLine
binary_line (instance ∷ name ∷ default ∷ []) = do
  instance ← below (2 ^ 32) (number_in instance)
  name ← text_in name
  default ← below (2 ^ 32) (number_in default)
  Some (Object (Binary instance name default))
binary_line words = None

-- multistate INSTANCE NAME STATES DEFAULT
unfoldable pub multistate_line : List (List ℕ) → Option ScriptLine
multistate_line (instance ∷ name ∷ states ∷ default ∷ []) = do
  instance ← below (2 ^ 32) (number_in instance)
  name ← text_in name
  states ← below (2 ^ 32) (number_in states)
  default ← below (2 ^ 32) (number_in default)
  Some (Object (Multistate instance name states default))
multistate_line words = None

-- integer INSTANCE NAME DEFAULT
unfoldable pub integer_line : List (List ℕ) → Option ScriptLine
integer_line (instance ∷ name ∷ default ∷ []) = do
  instance ← below (2 ^ 32) (number_in instance)
  name ← text_in name
  default ← integer_in default
  Some (Object (Integer instance name default))
integer_line words = None

-- the number of the object type that a word says (clause 21, BACnetObjectType)
abbrev pub kind_in : List ℕ → Option ℕ
kind_in word =
    if bytes_eq word (codes "device") then Some 8 else
    if bytes_eq word (codes "binary") then Some 5 else
    if bytes_eq word (codes "multistate") then Some 19 else
    if bytes_eq word (codes "integer") then Some 45 else
    if bytes_eq word (codes "log") then Some 20 else None

-- the object with this type and instance; an instance has 22 bits (clause 20.2.14)
abbrev pub object_id : ℕ → ℕ → Option Id
object_id kind instance = if nat_lt instance (2 ^ 22) then Some (record { kind = kind; instance = instance }) else None

-- the object whose type and instance two words say
unfoldable pub source_in : List ℕ → List ℕ → Option Id
source_in kind instance = do
  kind ← kind_in kind
  instance ← below (2 ^ 32) (number_in instance)
  object_id kind instance

-- log INSTANCE NAME KIND SOURCE CAPACITY INTERVAL LOGGED
unfoldable pub log_line : List (List ℕ) → Option ScriptLine
log_line (instance ∷ name ∷ kind ∷ source ∷ capacity ∷ interval ∷ logged ∷ []) = do
  instance ← below (2 ^ 32) (number_in instance)
  name ← text_in name
  source ← source_in kind source
  capacity ← below (2 ^ 32) (number_in capacity)
  interval ← below (2 ^ 32) (number_in interval)
  logged ← below (2 ^ 32) (number_in logged)
  Some (Object (Log instance name source capacity interval logged))
log_line words = None

-- rx HEX
unfoldable pub rx_line : List (List ℕ) → Option ScriptLine
rx_line (hex ∷ []) = do
  datagram ← octets_in hex
  Some (Happens (Received datagram))
rx_line words = None

-- clock STAMP
unfoldable pub clock_line : List (List ℕ) → Option ScriptLine
clock_line (stamp ∷ []) = do
  stamp ← stamp_in stamp
  Some (Happens (Clocked stamp))
clock_line words = None

-- sample INSTANCE
unfoldable pub sample_line : List (List ℕ) → Option ScriptLine
sample_line (instance ∷ []) = do
  instance ← below (2 ^ 32) (number_in instance)
  Some (Happens (Sampled instance))
sample_line words = None

-- the Trend Log with the instance that a word says
unfoldable pub walked_log : List ℕ → Option Id
walked_log word = do
  instance ← below (2 ^ 32) (number_in word)
  object_id 20 instance

-- a sequence number, or `oldest`
unfoldable pub start_in : List ℕ → Option (Option ℕ)
start_in word = if bytes_eq word (codes "oldest") then Some None else (do
  number ← below (2 ^ 32) (number_in word)
  Some (Some number))

-- walk LOG FROM STEPS
unfoldable pub walk_line : List (List ℕ) → Option ScriptLine
walk_line (log ∷ from ∷ steps ∷ []) = do
  log ← walked_log log
  start ← start_in from
  steps ← below (2 ^ 32) (number_in steps)
  Some (Happens (Walked log start steps))
walk_line words = None

-- ---- any line

-- a kind of line: its first word, and what the words after it say
abbrev pub Kind : Type 0
Kind = List ℕ × (List (List ℕ) → Option ScriptLine)

-- the kinds of lines
abbrev pub kinds : List Kind
kinds =
    (codes "device", device_line) ∷
    (codes "binary", binary_line) ∷
    (codes "multistate", multistate_line) ∷
    (codes "integer", integer_line) ∷
    (codes "log", log_line) ∷
    (codes "rx", rx_line) ∷
    (codes "clock", clock_line) ∷
    (codes "sample", sample_line) ∷
    (codes "walk", walk_line) ∷ []

-- the first word says which kind a line is
abbrev pub said_by : List Kind → List ℕ → List (List ℕ) → Option ScriptLine
said_by [] word words = None
said_by (kind ∷ more) word words = if bytes_eq word kind.0 then kind.1 words else said_by more word words

-- what the words of a line say, by the first of them
abbrev pub said : List (List ℕ) → Option ScriptLine
said [] = None
said (word ∷ words) = said_by kinds word words

-- what a line says, if it is neither empty nor a comment
unfoldable pub line_in : List ℕ → Option ScriptLine
line_in text = said (words_of text)

-- an empty line and a comment say nothing
abbrev pub is_silent : List ℕ → Bool
is_silent text = (length text == 0) || (slice_index text 0 == 35)
