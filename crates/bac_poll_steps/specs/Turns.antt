-- What an answer makes of a poll, and the steps of which the rule is made.
use Rattle.std.specs.Prelude.{ℕ, ◌+◌, ◌==◌, nat_lt, Bool, true, false, if◌then◌else◌, List, [], ◌∷◌}
use Rattle.std.specs.Prelude.{Option, None, Some}
use Rattle.std.specs.Option.{option_map}
use Rattle.bac_link.specs.Ordinals.{number_after}
use Rattle.bac_link.specs.declared.item.Item.{Item}
use Rattle.bac_link.specs.declared.item.Item.TheVariants.{Gap}
use Rattle.bac_walk.specs.Walks.{gap_items}
use Rattle.bac_walk.specs.declared.batch.Numbered.{Numbered}
use Rattle.bac_known.specs.DateTime.{dated}
use Rattle.bac_poll_steps.specs.State.{KeptAs, PollState, ToldAs, kept_of}
use Rattle.bac_poll_steps.specs.declared.stage.Stage.{Stage}
use Rattle.bac_poll_steps.specs.declared.stage.Stage.TheVariants.{Joins}
use Rattle.bac_poll_steps.specs.declared.turn.Beginning.{Beginning}
use Rattle.bac_poll_steps.specs.declared.turn.Line.{Line}
use Rattle.bac_poll_steps.specs.declared.turn.PollEnd.{PollEnd}
use Rattle.bac_poll_steps.specs.declared.turn.PollEnd.TheVariants.{CaughtUp, SaysMore}
use Rattle.bac_poll_steps.specs.declared.turn.Turn.{Turn}
pub use Rattle.bac_known.specs.Known.{with_restart, revision_or, word_with}
pub use Rattle.bac_known.specs.Kept.{kept_or}
pub use Rattle.bac_known.specs.Numbers.{number_before, first_in, last_in, number_or, first_number, before_last}

-- What an answer makes of a poll, to be committed in one transaction, in this order.
pub record Turned : Type 0 where
  pub poll : PollState  -- what is known of the log then
  pub begins : Option Beginning  -- where its first epoch begins
  pub missing : List Item  -- a gap where it stands
  pub doubtful : Bool  -- which may be none: the log may have begun anew
  pub anew : Bool  -- whether an epoch begins, from 1 on
  pub gap : List Item  -- a gap in front of that
  pub records : List Numbered  -- the records that are kept
  pub line : Option Line  -- what is told
  pub end : Option PollEnd  -- why nothing more is asked, if nothing is

-- a turn of the code
abbrev pub turned : PollState → Turn → Turned
turned p t = record {
  poll = p;
  begins = t.begins;
  missing = gap_items t.missing;
  doubtful = t.doubtful;
  anew = t.anew;
  gap = gap_items t.gap;
  records = t.entries.items;
  line = t.line;
  end = t.end;
}

-- the next question is asked
abbrev pub asks : PollState → Turned
asks p = record {
  poll = p;
  begins = None;
  missing = [];
  doubtful = false;
  anew = false;
  gap = [];
  records = [];
  line = None;
  end = None;
}

-- for this, from a number or up to it
abbrev pub asks_at : PollState → Stage → ℕ → Turned
asks_at p stage reference = asks (record p { stage = stage; reference = reference })

-- nothing more is asked
abbrev pub ends : PollState → PollEnd → Turned
ends p why = record (asks p) { end = Some why }

-- nothing is newer; if the last reply with records said that more is there, it contradicts itself
abbrev pub end_of : PollState → PollEnd
end_of p = if p.more then SaysMore else CaughtUp

-- the numbers from one up to another, if there are any
abbrev pub gap_up_to : ℕ → ℕ → List Item
gap_up_to first before = if first == before then [] else Gap first before ∷ []

-- ---- where the log stands

-- what follows the newest known record is asked for, from that one on
abbrev pub asking_from : PollState → (number : ℕ) → PollState
asking_from p number = record p { stage = Joins; reference = number; alone = true }

-- the newest known record is known as it is shown now
abbrev pub standing_on : PollState → KeptAs → PollState
standing_on p kept = asking_from (record p { newest = Some kept }) kept.number

-- The same, and none before it is known: those were asked for alone, and a record that is at another hour each time it
-- is shown would have them asked for without end.
abbrev pub standing_alone : PollState → KeptAs → PollState
standing_alone p kept = record (standing_on p kept) { earlier = None; earliest = None }

-- the third of the records that are known then
abbrev pub third_known : PollState → (earlier : Option KeptAs) → (earliest : Option KeptAs) → Option KeptAs
third_known p None earliest = p.earlier
third_known p (Some earlier) earliest = kept_or earliest p.newest

-- The last three of records are known. Where fewer came, those that were known stand before them.
abbrev pub knowing : PollState → List Numbered → (last : Numbered) → PollState
knowing p records last = record p {
  newest = Some (kept_of last);
  earlier = kept_or (option_map kept_of (before_last records 1)) p.newest;
  earliest =
      third_known p (option_map kept_of (before_last records 1)) (option_map kept_of (before_last records 2));
}

-- records are kept, the last of which is this
abbrev pub behind : PollState → List Numbered → (last : Numbered) → PollState
behind p records last =
    record (asking_from (knowing p records last) last.number)
    { next = number_after last.number 1; stamp = Some (dated last.entry) }

-- the same as a turn; there are none: nothing is newer
abbrev pub brings_to : PollState → List Numbered → Option Numbered → Turned
brings_to p records None = ends p (end_of p)
brings_to p records (Some last) = record (asks (behind p records last)) { records = records }

-- records are kept
abbrev pub brings : PollState → List Numbered → Turned
brings p records = brings_to p records (last_in records)

-- no record right before this number is known
abbrev pub standing_at : PollState → ℕ → PollState
standing_at p next = record p { next = next; newest = None; earlier = None; earliest = None }

-- ---- the word

-- the log was found at its place: the word that is told is on record
abbrev pub confirmed : PollState → PollState
confirmed p = record p { word = word_with p.word p.told }

-- ---- epochs

-- one more epoch
abbrev pub next_life : ℕ → ℕ
next_life lives = if nat_lt lives 2 then lives + 1 else 2

-- an epoch begins, with this word on record
abbrev pub renewed : PollState → ToldAs → PollState
renewed p word =
    record (standing_at p 1) { stamp = None; word = word; more = false; lives = next_life p.lives }

-- a turn with which it begins
abbrev pub anew : Turned → Line → Turned
anew t why = record t { anew = true; line = Some why }
