-- What the texts of rows say: dates and times, and the restart of a device.
use Rattle.std.specs.Prelude.{◌≡◌, ◌⊎◌, ℕ, List, Result, Ok, Err}
use Rattle.sqlite_value.specs.Order.{Row as Values, column}
use Rattle.hex.specs.Hex.{decode_of}
use Rattle.hex.specs.declared.error.FromHexError.{FromHexError}
use Rattle.bac_wire.specs.declared.stamp.Date4.{Date4}
use Rattle.bac_wire.specs.declared.stamp.Time4.{Time4}
use Rattle.bac_archive.specs.Items.{last_at, text_at}
use Rattle.bac_poll.specs.DateTime.{undated}
use Rattle.bac_poll.specs.Stamps.{IsDate4, IsTime4, stamp_text, stamped}
use Rattle.bac_poll.specs.State.{ToldAs}
use Rattle.bac_known.specs.declared.date_time.DateTime.{DateTime}

-- no date and time is written so
abbrev pub IsNoStamp : List ℕ → Type 0
IsNoStamp text = (date : Date4) → (time : Time4) → IsDate4 date → IsTime4 time → text ≡ stamp_text date time → ⊥

-- The date and time that is written so; a text has no weekday. Undated, where none is written so.
abbrev pub IsDated : List ℕ → DateTime → Type 0
IsDated text at =
    ((text ≡ stamp_text at.date at.time) × (at.date.weekday ≡ 255)) ⊎ (IsNoStamp text × (at ≡ undated))

-- what is read of a text: the date and time that is written so, if one is
abbrev pub IsRead : List ℕ → DateTime → Type 0
IsRead text at = (date : Date4) → (time : Time4) → IsDate4 date → IsTime4 time → text ≡ stamp_text date time →
    at ≡ record { date = record date { weekday = 255 }; time = time }

-- the date and time of a record
abbrev pub HasDate : Values → DateTime → Type 0
HasDate item at = IsDated (text_at (column item 2)) at

-- the date and time of these octets; undated, where there are none
abbrev pub moment_of : Result (List ℕ) FromHexError → DateTime
moment_of (Ok values) = stamped values
moment_of (Err e) = undated

-- The moment of a restart as it is kept, the octets of a time stamp in hexadecimal digits: undated, if it is none.
abbrev pub moment_in : (restart : List ℕ) → DateTime
moment_in restart = moment_of (decode_of restart)

-- the word on record in the row of a log: the restart and the revision of its device
abbrev pub word_of : Values → ToldAs
word_of log = record {
  restart = text_at (column log 7);
  moment = moment_in (text_at (column log 7));
  revision = last_at (column log 8);
}
