-- What holds of each turn, whoever answers: each number comes once, from the beginning of an epoch up to the one that
-- comes next.
use Rattle.std.specs.Prelude.{◌≡◌, ℕ, ◌==◌, ◌&&◌, ◌||◌, not, Bool, true, false, if◌then◌else◌, List, [], ◌∷◌, ◌++◌}
use Rattle.std.specs.Prelude.{length, map, ◌⊎◌, Option, None, Some}
use Rattle.bac_wire.specs.Primitive.{Id}
use Rattle.bac_link.specs.Ordinals.{number_after}
use Rattle.bac_link.specs.declared.item.Item.{Item}
use Rattle.bac_link.specs.declared.item.Item.TheVariants.{Gap, Logged}
use Rattle.bac_walk.specs.Walks.{item_of}
use Rattle.bac_walk.specs.declared.batch.Numbered.{Numbered}
use Rattle.bac_poll.specs.Poll.{after, after_count, after_restart, after_revision, joining, more_of, reply_in, starting}
use Rattle.bac_poll.specs.State.{KeptAs, PollState, Reply, StandingAs, ToldAs}
use Rattle.bac_poll.specs.Turns.{Turned, first_in, first_number, number_or}
use Rattle.bac_known.specs.declared.date_time.DateTime.{DateTime}
use Rattle.bac_poll_steps.specs.declared.stage.Aim.{Aim}
use Rattle.bac_poll_steps.specs.declared.stage.Aim.TheVariants.{Finds, Renews, Starts}
use Rattle.bac_poll_steps.specs.declared.stage.Stage.{Stage}
use Rattle.bac_poll_steps.specs.declared.stage.Stage.TheVariants.{Joins, Prior, Ahead, Again, Each, Oldest, ByNumber}
use Rattle.bac_poll_steps.specs.declared.stage.Stage.TheVariants.{Counts}
use Rattle.bac_poll_steps.specs.declared.stage.Stage.TheVariants.{UpTo, Back, Revision, Restart}
use Rattle.bac_poll_steps.specs.declared.turn.Beginning.{Beginning}

-- Read in order, items cover the numbers from this one up to that: a gap those up to its end, a record its own; and
-- this holds of each record.
abbrev pub Covers : (Numbered → Type 0) → ℕ → List Item → ℕ → Type 0
Covers P first [] next = next ≡ first
Covers P first (Gap gone before ∷ items) next = (gone ≡ first) × Covers P before items next
Covers P first (Logged shown entry ∷ items) next =
    (shown ≡ first) × P (record { number = shown; entry = entry }) × Covers P (number_after shown 1) items next

-- the numbers of records follow one another, from this one on, and this holds of each
abbrev pub IsRun : (Numbered → Type 0) → ℕ → List Numbered → Type 0
IsRun P first [] = Unit {0}
IsRun P first (held ∷ others) = (held.number ≡ first) × P held × IsRun P (number_after held.number 1) others

-- ---- where a poll stands

-- the newest known record, if there is one, is right before the number that comes next
abbrev pub IsBefore : Option KeptAs → ℕ → Type 0
IsBefore None next = Unit {0}
IsBefore (Some kept) next = next ≡ number_after kept.number 1

-- no record is known, and the first number of an epoch comes next
abbrev pub IsBegun : PollState → Type 0
IsBegun p = (p.next ≡ 1) × (p.newest ≡ None) × (p.earlier ≡ None) × (p.earliest ≡ None)

-- what is looked for begins an epoch
abbrev pub IsAimed : PollState → Aim → Type 0
IsAimed p Finds = Unit {0}
IsAimed p Renews = IsBegun p
IsAimed p Starts = IsBegun p

-- a gap may end at the first of these records; at none of them behind the count
abbrev pub IsFrontOf : (ℕ → Type 0) → PollState → List Numbered → Type 0
IsFrontOf F p records = F (number_or (number_after p.total 1) (first_in records))

-- the newest known record is asked for alone, or was shown so first
abbrev pub IsEach : (reference : ℕ) → (next : ℕ) → List Numbered → Type 0
IsEach reference next [] = next ≡ number_after reference 1
IsEach reference next (held ∷ others) = next ≡ number_after held.number 1

-- there is a record among these
abbrev pub HasSome : List Numbered → Type 0
HasSome [] = ⊥
HasSome (held ∷ others) = Unit {0}

-- What is held back follows the newest known record, or is a run at least; in front of it a gap may end, once those
-- before it were looked for.
abbrev pub IsAt : (Numbered → Type 0) → (ℕ → Type 0) → PollState → Stage → Type 0
IsAt P F p Joins = Unit {0}
IsAt P F p Prior = Unit {0}
IsAt P F p Ahead = Unit {0}
IsAt P F p Again = IsRun P p.next p.held
IsAt P F p Each = IsEach p.reference p.next p.held
IsAt P F p ByNumber = IsRun P (first_number p.held) p.held × HasSome p.held
IsAt P F p (Oldest aim) = IsAimed p aim
IsAt P F p (Counts aim) = IsAimed p aim
IsAt P F p (UpTo aim) = IsAimed p aim
IsAt P F p (Back aim) = IsAimed p aim × IsRun P (first_number p.held) p.held × HasSome p.held
IsAt P F p Revision = IsRun P (first_number p.held) p.held × IsFrontOf F p p.held
IsAt P F p Restart = IsRun P (first_number p.held) p.held × IsFrontOf F p p.held

-- both
abbrev pub IsStanding : (Numbered → Type 0) → (ℕ → Type 0) → PollState → Type 0
IsStanding P F p = IsBefore p.newest p.next × IsAt P F p p.stage

-- ---- what a turn brings

-- the first number of an epoch that a turn puts on record, else that one; by the count alone nothing is known of it
abbrev pub start_of : Option Beginning → ℕ → ℕ
start_of None next = next
start_of (Some begins) next = if begins.counted then next else begins.number

-- this holds of each number at which a gap ends
abbrev pub EndAt : (ℕ → Type 0) → List Item → Type 0
EndAt F [] = Unit {0}
EndAt F (Gap gone before ∷ items) = F before × EndAt F items
EndAt F (Logged shown entry ∷ items) = EndAt F items

-- A turn brings each number once: from the one that comes next, or from the beginning that it puts on record, up to the
-- one that comes next then; with a new epoch up to where the old one ends, and from 1 on. This holds of each record,
-- and that of the number at which a gap ends, if it isn't doubtful.
pub record IsWhole (P : Numbered → Type 0) (F : ℕ → Type 0) (next : ℕ) (t : Turned) : Type 0 where
  pub mid : ℕ
  pub before : Covers P (start_of t.begins next) t.missing mid
  pub behind : Covers P (if t.anew then 1 else mid) (t.gap ++ map item_of t.records) t.poll.next
  pub fronts : t.doubtful ≡ false → EndAt F t.missing × EndAt F t.gap

-- the same, and the poll stands there, unless it has ended
abbrev pub Goes : (Numbered → Type 0) → (ℕ → Type 0) → ℕ → Turned → Type 0
Goes P F next t = IsWhole P F next t × (t.end ≡ None → IsStanding P F t.poll)

-- this holds of each of these records
abbrev pub HoldsOfEach : (Numbered → Type 0) → List Numbered → Type 0
HoldsOfEach P [] = Unit {0}
HoldsOfEach P (held ∷ others) = P held × HoldsOfEach P others

-- a record is among these
abbrev pub IsAmong : List Numbered → Numbered → Type 0
IsAmong [] held = ⊥
IsAmong (shown ∷ others) held = (shown ≡ held) ⊎ IsAmong others held

-- this holds of each record that a reply shows
abbrev pub ShowsOnly : (Numbered → Type 0) → Option Reply → Type 0
ShowsOnly P None = Unit {0}
ShowsOnly P (Some reply) = HoldsOfEach P reply.records

-- a number is one of these
abbrev pub IsOneOf : List ℕ → ℕ → Type 0
IsOneOf [] number = ⊥
IsOneOf (one ∷ others) number = (one ≡ number) ⊎ IsOneOf others number

-- Whether a reply says that nothing stands before the first of the records that are held back: it has none, or that one
-- alone, and neither says that more is there nor was asked for one alone.
abbrev pub is_bare : PollState → (more : Bool) → Reply → Bool
is_bare p more reply =
    (length reply.records == 0)
    || ((length reply.records == 1)
    && ((first_number reply.records == first_number p.held) && not (more || (p.walk.count == 1))))

-- This holds of the number of that one, where a reply says so; and of the number behind a count, where a reply shows no
-- record up to it.
abbrev pub IsClearAt : (ℕ → Type 0) → PollState → (more : Bool) → Stage → Reply → Type 0
IsClearAt F p more Joins reply = Unit {0}
IsClearAt F p more Prior reply = Unit {0}
IsClearAt F p more Ahead reply = Unit {0}
IsClearAt F p more Again reply = Unit {0}
IsClearAt F p more Each reply = Unit {0}
IsClearAt F p more ByNumber reply = Unit {0}
IsClearAt F p more (Oldest aim) reply = Unit {0}
IsClearAt F p more (Counts aim) reply = Unit {0}
IsClearAt F p more (UpTo aim) reply = (length reply.records == 0) ≡ true → F (number_after p.total 1)
IsClearAt F p more (Back aim) reply = is_bare p more reply ≡ true → F (first_number p.held)
IsClearAt F p more Revision reply = Unit {0}
IsClearAt F p more Restart reply = Unit {0}

-- the same of a reply that there may be
abbrev pub Clears : (ℕ → Type 0) → PollState → Option Reply → Type 0
Clears F p None = Unit {0}
Clears F p (Some reply) = IsClearAt F p (more_of p reply) p.stage reply

-- Whatever is answered, each number comes once, and each record that is kept was shown: if replies show none but these,
-- it is one of them. A gap that isn't doubtful lies from the number that comes next (or from a beginning) up to a
-- record before which nothing stands, as a reply says, or up to a count up to which a reply shows no record, or to 1:
-- if those are none but these, it ends at one of them.
abbrev pub EachShownOnce : Type 0
EachShownOnce =
    (shown : List Numbered) (fronts : List ℕ) → IsOneOf fronts 1 →
    (p : PollState) → IsStanding (IsAmong shown) (IsOneOf fronts) p →
    ((datagram : List ℕ) → ShowsOnly (IsAmong shown) (reply_in p datagram) →
    Clears (IsOneOf fronts) p (reply_in p datagram) →
    Goes (IsAmong shown) (IsOneOf fronts) p.next (after p datagram))
    × ((count : Option ℕ) → Goes (IsAmong shown) (IsOneOf fronts) p.next (after_count p count))
    × ((p.stage ≡ Revision) → (revision : Option ℕ) →
    Goes (IsAmong shown) (IsOneOf fronts) p.next (after_revision p revision))
    × ((p.stage ≡ Restart) → (restart : List ℕ) → (moment : DateTime) →
    Goes (IsAmong shown) (IsOneOf fronts) p.next (after_restart p restart moment))

-- ---- from its beginning on

-- A poll of a log stands where its rows do.
abbrev pub BeginsStanding : Type 0
BeginsStanding =
    (shown : List Numbered) (fronts : List ℕ) (log device : Id) (many : ℕ) (told : ToldAs) →
    ((at : StandingAs) → IsBefore at.newest at.next →
    IsStanding (IsAmong shown) (IsOneOf fronts) (joining log device many at told))
    × ((begins : Option ℕ) (word : ToldAs) →
    IsStanding (IsAmong shown) (IsOneOf fronts) (starting log device many begins word told))

-- the answer to a question
pub data Answer : Type 0 where
  Replied : (datagram : List ℕ) → Answer
  Counted : (count : Option ℕ) → Answer
  Revised : (revision : Option ℕ) → Answer
  Restarted : (restart : List ℕ) → (moment : DateTime) → Answer

-- what it makes of a poll
abbrev pub after_answer : PollState → Answer → Turned
after_answer p (Replied datagram) = after p datagram
after_answer p (Counted count) = after_count p count
after_answer p (Revised revision) = after_revision p revision
after_answer p (Restarted restart moment) = after_restart p restart moment

-- it answers what was asked, and this holds of each record that it shows
abbrev pub Answers : (Numbered → Type 0) → PollState → Answer → Type 0
Answers P p (Replied datagram) = ShowsOnly P (reply_in p datagram)
Answers P p (Counted count) = Unit {0}
Answers P p (Revised revision) = p.stage ≡ Revision
Answers P p (Restarted restart moment) = p.stage ≡ Restart

-- what is answered behind a turn: nothing, if it ends the poll
abbrev pub IsLast : {A : Type 0} → Turned → List A → Type 0
IsLast t [] = Unit {0}
IsLast t (answer ∷ others) = t.end ≡ None

-- answers, one after the other, none of which but the last ends the poll
abbrev pub AreAnswers : (Numbered → Type 0) → PollState → List Answer → Type 0
AreAnswers P p [] = Unit {0}
AreAnswers P p (answer ∷ others) =
    Answers P p answer × IsLast (after_answer p answer) others × AreAnswers P (after_answer p answer).poll others

-- what is known of a log behind them
abbrev pub after_all : PollState → List Answer → PollState
after_all p [] = p
after_all p (answer ∷ answers) = after_all (after_answer p answer).poll answers

-- an epoch: its first number, and what is kept of it
pub record Epoch : Type 0 where
  pub first : ℕ
  pub items : List Item

-- the beginning that a turn puts on record; by the count alone nothing is known of it
abbrev pub epoch_from : Epoch → Option Beginning → Epoch
epoch_from e None = e
epoch_from e (Some begins) = if begins.counted then e else record { first = begins.number; items = [] }

-- what a turn brings
abbrev pub items_of : Turned → List Item
items_of t = t.gap ++ map item_of t.records

-- the epoch that is kept behind a turn
abbrev pub epoch_after : Epoch → Turned → Epoch
epoch_after e t =
    if t.anew then record { first = 1; items = items_of t }
    else record {
      first = (epoch_from e t.begins).first;
      items = (epoch_from e t.begins).items ++ (t.missing ++ items_of t);
    }

-- behind answers
abbrev pub epoch_after_all : Epoch → PollState → List Answer → Epoch
epoch_after_all e p [] = e
epoch_after_all e p (answer ∷ answers) =
    epoch_after_all (epoch_after e (after_answer p answer)) (after_answer p answer).poll answers

-- whichever number
abbrev pub Whichever : ℕ → Type 0
Whichever number = Unit {0}

-- Whatever is answered, what is kept of an epoch covers each number once, from its first up to the one that comes next;
-- and each record of it was shown. So it is behind each answer, that which ends the poll as well.
abbrev pub EpochsAreWhole : Type 0
EpochsAreWhole =
    (shown : List Numbered) (p : PollState) (e : Epoch) (answers : List Answer) →
    IsStanding (IsAmong shown) Whichever p →
    Covers (IsAmong shown) e.first e.items p.next → AreAnswers (IsAmong shown) p answers →
    Covers (IsAmong shown) (epoch_after_all e p answers).first (epoch_after_all e p answers).items
    (after_all p answers).next
