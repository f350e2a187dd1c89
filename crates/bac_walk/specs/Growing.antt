-- What a walk delivers over links that stay honest for a log that goes on: any ask may be lost, and the log may record
-- between any two.
use Rattle.std.specs.Prelude.{◌≡◌, ℕ, ◌+◌, ◌*◌, ◌<◌, ◌≤◌, false, Option, Result, List, [], ◌∷◌, length}
use Rattle.bac_wire.specs.Canon.{IsValid}
use Rattle.bac_wire.specs.Primitive.{Id, Object}
use Rattle.bac_apdu.specs.Npdu.{Place}
use Rattle.bac_apdu.specs.Route.{IsWay}
use Rattle.bac_link.specs.declared.item.Item.{Item}
use Rattle.bac_link.specs.declared.link.Lost.{Lost as Loss}
use Rattle.bac_link.specs.declared.transactions.Transactions.{Transactions}
use Rattle.bac_link.specs.Delivery.{History, Moment, DeliversTo, Leads, now, later}
use Rattle.bac_link.specs.Growing.{GoesOn, Standing, IsStanding, StaysHonest, StaysHonestWhere}
use Rattle.bac_link.specs.Laws.{moment_at}
use Rattle.bac_link.specs.Moments.{AreIn, AreInWindow, NeverGoesBack}
use Rattle.bac_link.specs.Path.{towards}
use Rattle.bac_link.specs.Standard.{IsCount}
use Rattle.bac_link.specs.Exchanges.{Ask}
use Rattle.bac_link.specs.Honest.{asked_log}
use Rattle.bac_log.specs.TrendLog.{sequence_number}
use Rattle.bac_walk.specs.declared.outcome.Ended.{Ended}
use Rattle.bac_walk.specs.declared.outcome.Ended.TheVariants.{CaughtUp}
use Rattle.bac_walk.specs.Came.{Came, Comes, AreSaidAt, Reach, WalkOver, answers_of, restarted, walk_over}
use Rattle.bac_walk.specs.Collects.{IsCaughtUp, Yield, start_of, yield}
use Rattle.bac_walk.specs.Honest.{AreBroughtFrom, IsHonestEnd, LogCourse, log_asked, log_course}
use Rattle.bac_walk.specs.Place.{WalkPlace}
use Rattle.bac_walk.specs.Transacted.{BroughtBy, ComesBy, WalkBy, asked, walk_by}

-- how many asks a run of so many steps may make: each of its questions once, and as often again as the retries say
abbrev pub most_asks : ℕ → ℕ → ℕ
most_asks steps retries = 2 * steps * (retries + 1)

-- What a log went through from where it stood: the history that it came to, and its moments in order, so many at
-- replies and the last at the end. It never went back, and stayed in the window.
pub record HasGone (low : ℕ) (from : Standing) (H : History) (M : List Moment) (count : ℕ) : Type 0 where
  pub goes_on : GoesOn from.history H
  pub many : length M ≡ count + 1
  pub back : NeverGoesBack (from.moment ∷ M)
  pub window : AreInWindow low M
  pub within : AreIn H M

-- where the log stands after so many replies
abbrev pub standing_at : History → List Moment → ℕ → Standing
standing_at H M count = record { history = H; moment = moment_at M count }

-- As each of the replies left the link, it stood at the moment of that reply, with a history that went on to this one.
abbrev pub AreLeftAt : {S : Type 0} (asks : Ask S) (stands : ℕ → S → Standing → Type 0) (before : WalkBy S)
    (came : List Came) (after : WalkBy S) → ComesBy asks before came after → LogCourse → Type 0
AreLeftAt {S = S} asks stands before [] after comes course = Unit {0}
AreLeftAt {S = S} asks stands before (c ∷ came) after comes course =
    ((more : ℕ) × (then : History) × GoesOn then course.history
    × stands more comes.0 (record { history = then; moment = now course.moments }))
    × AreLeftAt asks stands (walk_by comes.0 (asked before.place before.transactions) comes.1) came after comes.7
    (log_course course.history (later course.moments))

-- A link that stays honest for as many asks as a run may make, and for more: what the log went through is a history
-- and moments at which the replies were said, what the run brought is delivered at them, and if the run ended with a
-- fault, that is a loss. The link stands where the log came to, for the asks that are left.
abbrev pub GrowingIsDelivered : {S : Type 0} → (S → List ℕ → Result (List ℕ) Loss → S → Type 0) →
    (ℕ → S → Standing → Type 0) → Type 0
GrowingIsDelivered {S = S} asks stands =
    (first last : Transactions) (old new : S) (w after : WalkPlace) (steps : ℕ) (came : List Came) (items : List Item)
    (ended : Ended) (at : Standing) (low s more : ℕ) →
    StaysHonestWhere asks (log_asked (towards first.route) w) low stands →
    stands (most_asks steps first.retries + more) old at → IsStanding low at →
    (run : BroughtBy asks (walk_by old first w) steps came items ended (walk_by new last after)) →
    w.next ≡ sequence_number s → (w.fresh ≡ false → (low ≤ s) × (s < low + 2147483648)) →
    (H : History) × (M : List Moment) × HasGone low at H M (length came) × AreSaidAt H M came
    × AreLeftAt asks stands _ came (walk_by run.mid run.half run.here) run.comes (log_course H M)
    × stands more new (standing_at H M (length came)) × IsHonestEnd ended
    × ((b : ℕ) × (t : ℕ) × (b ≡ start_of w.fresh s M (answers_of came)) × (after.next ≡ sequence_number t)
    × ((u : ℕ) × Leads H M b (answers_of came) u)
    × DeliversTo H b items t M (length came) × (ended ≡ CaughtUp → IsCaughtUp w.fresh t M (answers_of came)))

-- What a run delivered of a log that went on: replies came over the link, each said what the log held at its moment,
-- and the items are theirs: from the ordinal of the walk's number on, or from the oldest, the records that the log held
-- when each was reached.
pub record HasDelivered {S : Type 0} (reach : Reach S) (low s : ℕ) (at : Standing) (before : WalkOver S) (run : Yield)
    (after : WalkPlace) : Type 0 where
  pub history : History
  pub moments : List Moment
  pub came : List Came
  pub here : WalkPlace
  pub mid : S
  pub from : ℕ
  pub to : ℕ
  pub comes : Comes reach (walk_over before.link (restarted before.place)) came (walk_over mid here)
  pub gone : HasGone low at history moments (length came)
  pub said : AreSaidAt history moments came
  pub brought : AreBroughtFrom (log_course history moments) before.place.fresh s from (answers_of came) run.ended
      run.items
  pub next : after.next ≡ sequence_number to
  pub delivers : DeliversTo history from run.items to moments (length came)
  pub caught_up : run.ended ≡ CaughtUp → IsCaughtUp before.place.fresh to moments (answers_of came)
  pub end : IsHonestEnd run.ended

-- So it does over a link that stays honest for the log for as many asks as the run may make, and for more; and the link
-- stays honest for these, for the log as it then stands.
abbrev pub DeliversGrowing : {S : Type 0} → Reach S → WalkOver S → ℕ → List Item → Ended → WalkOver S → Type 0
DeliversGrowing {S = S} reach before steps items ended after =
    (at : Standing) (s low more : ℕ) →
    StaysHonest reach.asks (log_asked reach.path before.place) low (most_asks steps reach.retries + more)
    before.link at → IsStanding low at →
    before.place.next ≡ sequence_number s → (before.place.fresh ≡ false → (low ≤ s) × (s < low + 2147483648)) →
    (d : HasDelivered reach low s at before (yield items ended) after.place)
    × StaysHonest reach.asks (log_asked reach.path before.place) low more after.link
    (standing_at d.history d.moments (length d.came))

-- a link of ours stays honest, for however many asks, for each log for which it is ours, by every way that a request
-- can go, for each count of records
abbrev pub OursStayHonest : {S : Type 0} → (S → List ℕ → Result (List ℕ) Loss → S → Type 0) →
    (S → Id → ℕ → List Moment → History → Type 0) → Type 0
OursStayHonest {S = S} asks ours =
    (place : Option Place) (log : Id) (count r : ℕ) (H : History) (M : List Moment) (low more : ℕ) (link : S) →
    IsWay place → IsValid (Object log) → IsCount count → ours link log r M H → AreInWindow low M →
    StaysHonest asks (asked_log (towards place) log count) low more link (record { history = H; moment = now M })
