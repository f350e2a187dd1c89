-- What a device tells of itself and of its logs, as columns.
use Rattle.std.specs.Prelude.{ℕ, ℤ, pos, neg_ℤ, min, ◌==◌, ◌&&◌, not, Bool, false, true, List, Option, None, Some}
use Rattle.std.specs.Prelude.{◌++◌, ◌∷◌, []}
use Rattle.std.specs.Str.{bytes_eq}
use Rattle.sqlite_value.specs.declared.value.Value.{Value}
use Rattle.sqlite_value.specs.declared.value.Value.TheVariants.{Text}
use Rattle.bac_wire.specs.Primitive.{Enumerated}
use Rattle.bac_wire.specs.Stamp.{CivilTime, date_octets, date_of, time_octets, time_of}
use Rattle.bac_print.specs.Moments.{day_text, time_text}
use Rattle.bac_print.specs.Values.{value_text}
use Rattle.bac_query.specs.Sources.{source_text}
use Rattle.bac_poll.specs.State.{ToldAs}
use Rattle.bac_answers.specs.declared.entry.Naming.{Naming}
use Rattle.bac_answers.specs.declared.entry.Offset.{Offset}
use Rattle.bac_answers.specs.declared.entry.Offset.TheVariants.{Ahead, Behind}
use Rattle.bac_answers.specs.declared.entry.Reference.{Reference}
use Rattle.bac_answers.specs.declared.who.Who.{Who}
use Rattle.bac_answers.specs.declared.who.Who.TheVariants.{Address, Device, Name}
use Rattle.bac_device_poller.specs.Rows.{DeviceAs, LogAs, text_value}

-- ---- a device

-- it is known by its instance, by its name, or by neither
abbrev pub known_as : Who → DeviceAs → DeviceAs
known_as (Device id) d = record d { instance = Some id.instance }
known_as (Name name) d = record d { name = text_value name }
known_as Address d = d

-- seconds as a number with a sign, up to the greatest
abbrev pub seconds_of : ℕ → ℤ
seconds_of seconds = pos (min seconds 9223372036854775807)

-- its clock minus this machine's
abbrev pub offset_of : Option Offset → Option ℤ
offset_of None = None
offset_of (Some (Ahead seconds)) = Some (seconds_of seconds)
offset_of (Some (Behind seconds)) = Some (neg_ℤ (seconds_of seconds))

-- a moment, as a record's date and time are kept
abbrev pub moment_text : CivilTime → List ℕ
moment_text at = day_text (date_octets (date_of at)) ++ (84 ∷ time_text (time_octets (time_of at)))

-- when it answered last: at this moment, or as it is on record
abbrev pub answered_or : Option CivilTime → Value → Value
answered_or None was = was
answered_or (Some at) was = text_value (moment_text at)

-- the same in its row
abbrev pub answered_at : Option CivilTime → DeviceAs → DeviceAs
answered_at at d = record d { answered = answered_or at d.answered }

-- ---- a trend log

-- what it logs, as `bac logs` prints it
abbrev pub reference_text : Reference → List ℕ
reference_text r =
    source_text (record { object = r.object; property = r.property; index = r.index; device = r.device })

-- units, as an Enumerated is printed
abbrev pub units_text : ℕ → List ℕ
units_text units = value_text (Enumerated units)

-- what is told, or as it was
abbrev pub text_or : Option (List ℕ) → Value → Value
text_or None was = was
text_or (Some text) was = text_value text

-- the same of what is logged
abbrev pub source_or : Option Reference → Value → Value
source_or None was = was
source_or (Some reference) was = text_value (reference_text reference)

-- the same of units
abbrev pub units_or : Option ℕ → Value → Value
units_or None was = was
units_or (Some units) was = text_value (units_text units)

-- it is called so by its device, in each part that is told
abbrev pub named_as : Naming → LogAs → LogAs
named_as naming l = record l {
  name = text_or naming.name l.name;
  source = source_or naming.source l.source;
  units = units_or naming.units l.units;
  description = text_or naming.description l.description;
}

-- ---- the word of its device

-- the same revision
abbrev pub is_revision : Option ℕ → Option ℕ → Bool
is_revision None None = true
is_revision None (Some now) = false
is_revision (Some was) None = false
is_revision (Some was) (Some now) = was == now

-- whether the word of a poll is the one on record
abbrev pub has_word : ToldAs → LogAs → Bool
has_word word l = bytes_eq l.restart word.restart && is_revision l.revision word.revision

-- it is on record
abbrev pub with_word : ToldAs → LogAs → LogAs
with_word word l = record l { restart = word.restart; revision = word.revision }
