-- The rows of a device and of its trend logs, column by column.
use Rattle.std.specs.Prelude.{ℕ, ℤ, pos, Bool, false, if◌then◌else◌, List, [], ◌∷◌, Option, String}
use Rattle.std.specs.declared.alloc.Global.{Global}
use Rattle.std.specs.Str.{is_utf8}
use Rattle.std.specs.String.{string_bytes}
use Rattle.sqlite_value.specs.declared.value.Value.{Value}
use Rattle.sqlite_value.specs.declared.value.Value.TheVariants.{Int, Null, Text}
use Rattle.sqlite_value.specs.Order.{Row as Values}
use Rattle.sqlite.specs.Values.{or_null}
use Rattle.bac_archive.specs.Put.{flag}
use Rattle.bac_archive.specs.declared.row.DeviceRow.{DeviceRow}
use Rattle.bac_device_poller.specs.Puts.{PlaceAs, PutAs}

-- a text as a column: NULL if it isn't UTF-8, which each text of an archive is
abbrev pub text_value : List ℕ → Value
text_value text = if is_utf8 text then Text text else Null

-- one of the code that there may be
abbrev pub text_as : Option (String Global) → Value
text_as text = or_null (λ t. Text (string_bytes t)) text

-- ---- a device

-- its row, column by column
pub record DeviceAs : Type 0 where
  pub id : ℕ
  pub address : Value
  pub dnet : ℕ
  pub dadr : Value
  pub instance : Option ℕ
  pub name : Value
  pub revision : Option ℕ
  pub whole : Bool
  pub stopped : Bool
  pub answered : Value
  pub offset : Option ℤ

-- the same of the code
abbrev pub device_as : DeviceRow → DeviceAs
device_as d = record {
  id = d.id;
  address = Text (string_bytes d.address);
  dnet = d.dnet;
  dadr = Text (string_bytes d.dadr);
  instance = d.instance;
  name = text_as d.name;
  revision = d.revision;
  whole = d.whole;
  stopped = d.stopped;
  answered = text_as d.answered;
  offset = d.offset;
}

-- as the archive has it
abbrev pub columns_of_device : DeviceAs → Values
columns_of_device d = Int (pos d.id) ∷ d.address ∷ Int (pos d.dnet) ∷ d.dadr ∷ or_null (λ n. Int (pos n)) d.instance
    ∷ d.name ∷ or_null (λ n. Int (pos n)) d.revision ∷ Int (flag d.whole) ∷ Int (flag d.stopped) ∷ d.answered
    ∷ or_null Int d.offset ∷ []

-- put in place of the one with its id
abbrev pub device_put : DeviceAs → PutAs
device_put d = record { tree = 1; is_new = false; columns = columns_of_device d }

-- ---- a trend log

-- its row, column by column, with the word of its device as that is kept; where the next row of its items stands, if it
-- has an epoch left; the number that comes next behind its rows; and how its lines call it
pub record LogAs : Type 0 where
  pub id : ℕ
  pub device : ℕ
  pub instance : ℕ
  pub name : Value
  pub source : Value
  pub units : Value
  pub description : Value
  pub restart : List ℕ
  pub revision : Option ℕ
  pub stopped : Bool
  pub place : Option PlaceAs
  pub next : ℕ
  pub called : List ℕ

-- a restart as a column: NULL if none is told
abbrev pub restart_value : List ℕ → Value
restart_value [] = Null
restart_value (octet ∷ octets) = text_value (octet ∷ octets)

-- as the archive has it
abbrev pub columns_of_log : LogAs → Values
columns_of_log l = Int (pos l.id) ∷ Int (pos l.device) ∷ Int (pos l.instance) ∷ l.name ∷ l.source ∷ l.units
    ∷ l.description ∷ restart_value l.restart ∷ or_null (λ n. Int (pos n)) l.revision ∷ Int (flag l.stopped) ∷ []

-- put, as a new one or in place of the one with its id
abbrev pub log_put : (is_new : Bool) → LogAs → PutAs
log_put is_new l = record { tree = 3; is_new = is_new; columns = columns_of_log l }
