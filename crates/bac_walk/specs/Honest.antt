-- What a walk delivers over links that are honest for its log.
use Rattle.std.specs.Prelude.{◌≡◌, ℕ, ◌+◌, ◌*◌, ◌<◌, ◌≤◌, Bool, false, Option, Result}
use Rattle.std.specs.Prelude.{List, [], ◌∷◌, ◌++◌, length, All}
use Rattle.bac_wire.specs.Canon.{IsValid}
use Rattle.bac_wire.specs.Primitive.{Id, Object}
use Rattle.bac_apdu.specs.Npdu.{Place}
use Rattle.bac_apdu.specs.Route.{IsWay}
use Rattle.bac_link.specs.declared.item.Item.{Item}
use Rattle.bac_link.specs.declared.link.Lost.{Lost as Loss}
use Rattle.bac_link.specs.Delivery.{History, Moment, DeliversTo, Leads, items_of, now}
use Rattle.bac_link.specs.Laws.{after_answers}
use Rattle.bac_link.specs.Moments.{AreServed, log_at}
use Rattle.bac_link.specs.Path.{Path, towards}
use Rattle.bac_log.specs.Entry.{IsLoggable}
use Rattle.bac_log.specs.TrendLog.{sequence_number}
use Rattle.bac_walk.specs.declared.outcome.Ended.{Ended}
use Rattle.bac_walk.specs.declared.outcome.Ended.TheVariants.{CaughtUp, StepLimit, Stopped, Fault}
use Rattle.bac_walk.specs.declared.outcome.WalkFault.TheVariants.{Lost, Refused, BadReply}
use Rattle.bac_link.specs.Moments.{NeverGoesBack}
use Rattle.bac_walk.specs.Came.{Came, Comes, AreSaidAt, Brought, IsCutIn, WalkOver, answers_of, reaching, walk_over}
use Rattle.bac_walk.specs.Collects.{IsCaughtUp, batches, start_of}
use Rattle.bac_link.specs.Moments.{AreInWindow}
use Rattle.bac_walk.specs.Near.{IsNear}
use Rattle.bac_walk.specs.Place.{WalkPlace}
use Rattle.bac_link.specs.Exchanges.{Ask}
use Rattle.bac_link.specs.Honest.{AskedLog, IsHonest, IsHonestWhere, asked_log}
use Rattle.bac_link.specs.Standard.{IsCount}

-- how a run over such a link ends: the device refuses nothing, and no reply is a bad one
abbrev pub IsHonestEnd : Ended → Type 0
IsHonestEnd CaughtUp = Unit {0}
IsHonestEnd StepLimit = Unit {0}
IsHonestEnd Stopped = Unit {0}
IsHonestEnd (Fault Lost) = Unit {0}
IsHonestEnd (Fault (Refused refusal)) = ⊥
IsHonestEnd (Fault BadReply) = ⊥

-- what a walk that is here asks a link for, by this path
abbrev pub log_asked : Path → WalkPlace → AskedLog
log_asked path w = asked_log path w.log w.count

-- Over a link that is honest for the log of a walk: what a run brought is delivered, the replies are by the standard,
-- the link stands at the moments that they left, and if the run ended with a fault, that is a loss.
abbrev pub HonestIsDelivered : {S : Type 0} → (S → List ℕ → Result (List ℕ) Loss → S → Type 0) →
    (S → List Moment → Type 0) → Type 0
HonestIsDelivered {S = S} asks stands =
    (path : Path) (retries : ℕ) (old new : S) (w after : WalkPlace) (steps : ℕ) (came : List Came) (items : List Item)
    (ended : Ended) (H : History) (M : List Moment) (low s : ℕ) →
    IsHonestWhere asks (log_asked path w) H low stands → stands old M →
    Brought (reaching asks path retries) (walk_over old w) steps came items ended (walk_over new after) →
    w.next ≡ sequence_number s → 0 < length M → NeverGoesBack M → AreInWindow low M →
    (w.fresh ≡ false → (low ≤ s) × (s < low + 2147483648)) →
    ((b : ℕ) × (t : ℕ) × (b ≡ start_of w.fresh s M (answers_of came)) × (after.next ≡ sequence_number t)
    × ((u : ℕ) × Leads H M b (answers_of came) u)
    × DeliversTo H b items t M (length came) × (ended ≡ CaughtUp → IsCaughtUp w.fresh t M (answers_of came)))
    × AreSaidAt H M came × stands new (after_answers (length came) M) × IsHonestEnd ended

-- the course of a log: all that it ever logged, and its moments at the answers to come
pub record LogCourse : Type 0 where
  pub history : History
  pub moments : List Moment

-- the two together
abbrev pub log_course : History → List Moment → LogCourse
log_course H M = record { history = H; moments = M }

-- The link is honest for the log that it is asked for from the moments on that so many answers left. If a function
-- tells where it stands, by which it is honest, it stands at these.
abbrev pub IsLeftAt : {S : Type 0} → Ask S → AskedLog → (low : ℕ) → S → S → LogCourse → ℕ → Type 0
IsLeftAt {S = S} asks source low old new course a =
    IsHonest asks source course.history low new (after_answers a course.moments)
    × ((moments : S → List Moment) → IsHonestWhere asks source course.history low (λ link N. moments link ≡ N) →
    moments old ≡ course.moments → moments new ≡ after_answers a course.moments)

-- What the replies to a run brought, one after the other: each what the log held at its moment, from the ordinal b on.
-- That is the walk's, or of a walk from the oldest record the oldest that was held when the first batch was given,
-- which so has no gap before it. The items of the run are these, but where a record was refused those up to it, which
-- lies in the last reply: the rest of that is dropped.
pub record AreBroughtFrom (course : LogCourse) (fresh : Bool) (s b : ℕ) (answers : List (List Item)) (ended : Ended)
    (items : List Item) : Type 0 where
  pub start : b ≡ start_of fresh s course.moments answers
  pub reached : ℕ
  pub leads : Leads course.history course.moments b answers reached
  pub dropped : List Item
  pub all : items ++ dropped ≡ items_of answers
  pub whole : (ended ≡ Stopped → ⊥) → dropped ≡ []
  pub within : ended ≡ Stopped → IsCutIn items dropped answers

-- Items are delivered from ordinal b up to t by as many answers as these, of which as many bring records: by these
-- themselves, or where a record was refused by the last one cut behind it.
abbrev pub DeliversIn : History → ℕ → List Item → ℕ → List Moment → List (List Item) → Type 0
DeliversIn H b items t M answers =
    (cut : List (List Item)) × (length cut ≡ length answers) × (items_of cut ≡ items) × Leads H M b cut t
    × (batches cut ≡ batches answers)

-- What a run delivers over a link that is honest for its log and its count from the moments M on: from the ordinal of
-- the walk's number on, or from the oldest, the records that the log holds when each is reached. So many answers use up
-- as many moments, and there are at most two for each that brings records, and so many more to spare; caught up, the
-- log held nothing more at an answer after the last batch; and the only fault is a loss.
abbrev pub DeliversSaid : {S : Type 0} →
    Ask S → Path → ℕ → WalkOver S → List Item → Ended → WalkOver S → Type 0
DeliversSaid {S = S} asks path spare before items ended after =
    (H : History) (M : List Moment) (s low : ℕ) →
    IsHonest asks (log_asked path before.place) H low before.link M → before.place.next ≡ sequence_number s →
    0 < length M → NeverGoesBack M → AreInWindow low M →
    (before.place.fresh ≡ false → (low ≤ s) × (s < low + 2147483648)) →
    (b : ℕ) × (t : ℕ) × (answers : List (List Item))
    × AreBroughtFrom (log_course H M) before.place.fresh s b answers ended items
    × (after.place.next ≡ sequence_number t) × DeliversIn H b items t M answers
    × IsLeftAt asks (log_asked path before.place) low before.link after.link (log_course H M) (length answers)
    × (ended ≡ CaughtUp → IsCaughtUp before.place.fresh t M answers) × IsHonestEnd ended
    × (length answers ≤ 2 * batches answers + spare)

-- a link is honest for each log for which it is ours, by every way that a request can go, for each count of records
abbrev pub OursAreHonest : {S : Type 0} → (S → List ℕ → Result (List ℕ) Loss → S → Type 0) →
    (S → Id → ℕ → List Moment → History → Type 0) → Type 0
OursAreHonest {S = S} asks ours =
    (place : Option Place) (log : Id) (count r : ℕ) (H : History) (low : ℕ) → IsWay place →
    IsValid (Object log) → IsCount count →
    IsHonestWhere asks (asked_log (towards place) log count) H low (λ link M. ours link log r M H)

-- Where a reply came to a walk over a link of ours, all that the log holds at the next moment is loggable: so whether
-- it is needn't be asked of who begins the walk.
abbrev pub RepliesAreLoggable : {S : Type 0} → (S → List ℕ → Result (List ℕ) Loss → S → Type 0) →
    (S → Id → ℕ → List Moment → History → Type 0) → Type 0
RepliesAreLoggable {S = S} asks ours =
    (place : Option Place) (retries : ℕ) (old new : S) (w after : WalkPlace) (c : Came) (came : List Came)
    (r s : ℕ) (M : List Moment) (H : History) → ours old w.log r M H → IsWay place → IsValid (Object w.log) →
    IsCount w.count → w.next ≡ sequence_number s →
    Comes (reaching asks (towards place) retries) (walk_over old w) (c ∷ came) (walk_over new after) →
    All IsLoggable (log_at (now M) H).entries

-- there is one moment at least of one log, and its moments never go back
abbrev pub MomentsNeverGoBack : Type 0
MomentsNeverGoBack = (r : ℕ) (M : List Moment) (H : History) → AreServed r M H → (0 < length M) × NeverGoesBack M

-- each number is that of an ordinal near a moment, if half of the count was logged before its oldest entry: a history
-- may be taken so many whole rounds of numbers further on
abbrev pub NumbersHaveOrdinals : Type 0
NumbersHaveOrdinals =
    (n : ℕ) (m : Moment) → 0 < n → n ≤ 4294967295 → 2147483648 ≤ m.oldest →
    (s : ℕ) × (n ≡ sequence_number s) × IsNear s m
