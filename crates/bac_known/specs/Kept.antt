-- Records as their rows have them, and what a device tells of itself.
use Rattle.std.specs.Prelude.{ℕ, Bool, List, Option, None, Some}
use Rattle.std.specs.Option.{option_map}
use Rattle.bac_print.specs.Entries.{datum_text, flags_text}
use Rattle.bac_walk.specs.declared.batch.Numbered.{Numbered}
use Rattle.bac_known.specs.DateTime.{dated}
use Rattle.bac_known.specs.declared.ack.Reply.{Reply as ReplyOf}
use Rattle.bac_known.specs.declared.date_time.DateTime.{DateTime}
use Rattle.bac_known.specs.declared.kept.Kept.{Kept}
use Rattle.bac_known.specs.declared.word.Told.{Told}

-- a record as its row has it: its number, its date and time, the texts of its datum and of its status flags
pub record KeptAs : Type 0 where
  pub number : ℕ
  pub stamp : DateTime
  pub datum : List ℕ
  pub flags : List ℕ

-- What a device tells of itself: its Time_Of_Device_Restart (203) as it is kept, no octets if it doesn't tell it; the
-- same as a date and time, undated if it is none; and its Database_Revision (155).
pub record ToldAs : Type 0 where
  pub restart : List ℕ
  pub moment : DateTime
  pub revision : Option ℕ

-- a reply: its records, and whether it has LAST_ITEM and MORE_ITEMS set (clause 15.8.1.1)
pub record Reply : Type 0 where
  pub records : List Numbered
  pub last : Bool
  pub more : Bool

-- a reply of the code
abbrev pub reply_as : ReplyOf → Reply
reply_as reply = record { records = reply.records.items; last = reply.last; more = reply.more }

-- the same of one that there may be
abbrev pub maybe_reply : Option ReplyOf → Option Reply
maybe_reply reply = option_map reply_as reply

-- a record as it would be kept
abbrev pub kept_of : Numbered → KeptAs
kept_of held = record {
  number = held.number;
  stamp = dated held.entry;
  datum = datum_text held.entry.datum;
  flags = flags_text held.entry.flags;
}

-- the same of the code
abbrev pub kept_as : Kept → KeptAs
kept_as kept = record {
  number = kept.number;
  stamp = kept.stamp;
  datum = kept.datum.items;
  flags = kept.flags.items;
}

-- the same of one that there may be
abbrev pub maybe_kept : Option Kept → Option KeptAs
maybe_kept kept = option_map kept_as kept

-- what the code has of what a device tells
abbrev pub told_as : Told → ToldAs
told_as told = record {
  restart = told.restart.items;
  moment = told.moment;
  revision = told.revision;
}

-- this record, or that where there is none
abbrev pub kept_or : Option KeptAs → Option KeptAs → Option KeptAs
kept_or None other = other
kept_or (Some kept) other = Some kept
