-- A device that isn't ours: what it holds, its octets, and what is read of them.
use Rattle.std.specs.Prelude.{◌≡◌, ℕ, ◌==◌, if◌then◌else◌, Option, Some, None, Result, Ok, Err, List, [], ◌∷◌, get_or}
use Rattle.bac_log.specs.declared.entry.Datum.TheVariants.{Real4}
use Rattle.bac_log.specs.declared.entry.Entry.{Entry}
use Rattle.bac_link.specs.Delivery.{History, Moment}
use Rattle.bac_link.specs.declared.item.Item.{Item}
use Rattle.bac_link.specs.declared.item.Item.TheVariants.{Logged}
use Rattle.bac_link.specs.declared.link.Lost.{Lost}
use Rattle.bac_wire.specs.Primitive.{Id}

-- Trend Log 1
abbrev pub log : Id
log = record { kind = 20; instance = 1 }

-- a REAL of these octets, logged at a full hour of 2024-05-06 with these flags
abbrev pub real_at : ℕ → List ℕ → Option ℕ → Entry
real_at hour octets flags =
    record {
      date = record { year = 124; month = 5; day = 6; weekday = 1 };
      time = record { hour = hour; minute = 0; second = 0; hundredth = 0 };
      datum = Real4 octets;
      flags = flags;
    }

-- 25.0, 25.5, 26.0 and 26.5, two of them with status flags
abbrev pub record_7 : Entry
record_7 = real_at 7 (65 ∷ 200 ∷ 0 ∷ 0 ∷ []) None

-- 25.5
abbrev pub record_8 : Entry
record_8 = real_at 8 (65 ∷ 204 ∷ 0 ∷ 0 ∷ []) (Some 0)

-- 26.0
abbrev pub record_9 : Entry
record_9 = real_at 9 (65 ∷ 208 ∷ 0 ∷ 0 ∷ []) (Some 0)

-- 26.5
abbrev pub record_10 : Entry
record_10 = real_at 10 (65 ∷ 212 ∷ 0 ∷ 0 ∷ []) None

-- its log holds the records 7 to 10, and doesn't change
abbrev pub held : Moment
held = record { newest = 10; oldest = 7 }

-- these were logged, after six others
abbrev pub history : History
history = record { logged = 6; entries = record_7 ∷ record_8 ∷ record_9 ∷ record_10 ∷ [] }

-- all that it holds, as a walk from number 7 delivers it
abbrev pub all_held : List Item
all_held = Logged 7 record_7 ∷ Logged 8 record_8 ∷ Logged 9 record_9 ∷ Logged 10 record_10 ∷ []

-- its answer to a question by number from 7 on: two records, with count and number in longer forms
abbrev pub from_7 : List ℕ
from_7 =
    0x81 ∷ 0x0a ∷ 0x00 ∷ 0x44 ∷ 0x01 ∷ 0x00 ∷ 0x30 ∷ 0x01 ∷ 0x1a ∷ 0x0c ∷ 0x05 ∷ 0x00 ∷ 0x00 ∷ 0x01 ∷ 0x19 ∷ 0x83
    ∷ 0x3a ∷ 0x05 ∷ 0xc0 ∷ 0x4a ∷ 0x00 ∷ 0x02 ∷ 0x5e ∷ 0x0e ∷ 0xa4 ∷ 0x7c ∷ 0x05 ∷ 0x06 ∷ 0x01 ∷ 0xb4 ∷ 0x07 ∷ 0x00
    ∷ 0x00 ∷ 0x00 ∷ 0x0f ∷ 0x1e ∷ 0x2c ∷ 0x41 ∷ 0xc8 ∷ 0x00 ∷ 0x00 ∷ 0x1f ∷ 0x0e ∷ 0xa4 ∷ 0x7c ∷ 0x05 ∷ 0x06 ∷ 0x01
    ∷ 0xb4 ∷ 0x08 ∷ 0x00 ∷ 0x00 ∷ 0x00 ∷ 0x0f ∷ 0x1e ∷ 0x2c ∷ 0x41 ∷ 0xcc ∷ 0x00 ∷ 0x00 ∷ 0x1f ∷ 0x2a ∷ 0x04 ∷ 0x00
    ∷ 0x5f ∷ 0x6a ∷ 0x00 ∷ 0x07 ∷ []

-- from 9 on: two records, with count and number in forms longer still
abbrev pub from_9 : List ℕ
from_9 =
    0x81 ∷ 0x0a ∷ 0x00 ∷ 0x47 ∷ 0x01 ∷ 0x00 ∷ 0x30 ∷ 0x02 ∷ 0x1a ∷ 0x0c ∷ 0x05 ∷ 0x00 ∷ 0x00 ∷ 0x01 ∷ 0x19 ∷ 0x83
    ∷ 0x3a ∷ 0x05 ∷ 0xc0 ∷ 0x4c ∷ 0x00 ∷ 0x00 ∷ 0x00 ∷ 0x02 ∷ 0x5e ∷ 0x0e ∷ 0xa4 ∷ 0x7c ∷ 0x05 ∷ 0x06 ∷ 0x01 ∷ 0xb4
    ∷ 0x09 ∷ 0x00 ∷ 0x00 ∷ 0x00 ∷ 0x0f ∷ 0x1e ∷ 0x2c ∷ 0x41 ∷ 0xd0 ∷ 0x00 ∷ 0x00 ∷ 0x1f ∷ 0x2a ∷ 0x04 ∷ 0x00 ∷ 0x0e
    ∷ 0xa4 ∷ 0x7c ∷ 0x05 ∷ 0x06 ∷ 0x01 ∷ 0xb4 ∷ 0x0a ∷ 0x00 ∷ 0x00 ∷ 0x00 ∷ 0x0f ∷ 0x1e ∷ 0x2c ∷ 0x41 ∷ 0xd4 ∷ 0x00
    ∷ 0x00 ∷ 0x1f ∷ 0x5f ∷ 0x6b ∷ 0x00 ∷ 0x00 ∷ 0x09 ∷ []

-- from 11 on: no records
abbrev pub none_from_11 : List ℕ
none_from_11 =
    0x81 ∷ 0x0a ∷ 0x00 ∷ 0x18 ∷ 0x01 ∷ 0x00 ∷ 0x30 ∷ 0x03 ∷ 0x1a ∷ 0x0c ∷ 0x05 ∷ 0x00 ∷ 0x00 ∷ 0x01 ∷ 0x19 ∷ 0x83
    ∷ 0x3a ∷ 0x05 ∷ 0x00 ∷ 0x4a ∷ 0x00 ∷ 0x00 ∷ 0x5e ∷ 0x5f ∷ []

-- from the oldest on: two records
abbrev pub from_oldest : List ℕ
from_oldest =
    0x81 ∷ 0x0a ∷ 0x00 ∷ 0x45 ∷ 0x01 ∷ 0x00 ∷ 0x30 ∷ 0x04 ∷ 0x1a ∷ 0x0c ∷ 0x05 ∷ 0x00 ∷ 0x00 ∷ 0x01 ∷ 0x19 ∷ 0x83
    ∷ 0x3a ∷ 0x05 ∷ 0xc0 ∷ 0x4b ∷ 0x00 ∷ 0x00 ∷ 0x02 ∷ 0x5e ∷ 0x0e ∷ 0xa4 ∷ 0x7c ∷ 0x05 ∷ 0x06 ∷ 0x01 ∷ 0xb4 ∷ 0x07
    ∷ 0x00 ∷ 0x00 ∷ 0x00 ∷ 0x0f ∷ 0x1e ∷ 0x2c ∷ 0x41 ∷ 0xc8 ∷ 0x00 ∷ 0x00 ∷ 0x1f ∷ 0x0e ∷ 0xa4 ∷ 0x7c ∷ 0x05 ∷ 0x06
    ∷ 0x01 ∷ 0xb4 ∷ 0x08 ∷ 0x00 ∷ 0x00 ∷ 0x00 ∷ 0x0f ∷ 0x1e ∷ 0x2c ∷ 0x41 ∷ 0xcc ∷ 0x00 ∷ 0x00 ∷ 0x1f ∷ 0x2a ∷ 0x04
    ∷ 0x00 ∷ 0x5f ∷ 0x6a ∷ 0x00 ∷ 0x07 ∷ []

-- what it answers a question of this form (0x6e by number, 0x7e by time), if it answers: by number, one that has one
-- octet (0x21) and is known
abbrev pub said_for : ℕ → ℕ → ℕ → Option (List ℕ)
said_for form size number =
    if form == 0x7e then Some from_oldest
    else (if size == 0x21
    then (if number == 7 then Some from_7
    else (if number == 9 then Some from_9 else (if number == 11 then Some none_from_11 else None)))
    else None)

-- the form of a question, the tag of its number with the length, and its first octet stand at these places
abbrev pub said_to : List ℕ → Option (List ℕ)
said_to question = said_for (get_or question 17 0) (get_or question 18 0) (get_or question 19 0)

-- it answers so, or the ask is lost
abbrev pub IsSaid : List ℕ → Result (List ℕ) Lost → Type 0
IsSaid question (Ok datagram) = said_to question ≡ Some datagram
IsSaid question (Err lost) = said_to question ≡ None
