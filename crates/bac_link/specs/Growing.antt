-- Links that are honest for a log that goes on. Where the log stands is chosen by what comes: so any ask may be lost,
-- and the log may record between any two, for ever.
use Rattle.std.specs.Prelude.{◌≡◌, ℕ, zero, suc, ◌+◌, ◌<◌, ◌≤◌, true, Result, Ok, Err, List, ◌++◌, length}
use Rattle.bac_wire.specs.Primitive.{Id}
use Rattle.bac_log.specs.declared.entry.Entry.{Entry}
use Rattle.bac_link.specs.declared.link.Lost.{Lost as Loss}
use Rattle.bac_link.specs.Datagrams.{answers_to}
use Rattle.bac_link.specs.Delivery.{History, Moment, now}
use Rattle.bac_link.specs.Honest.{AskedLog, IsAskedIn, IsHonestFor, asked_log, asked_octets}
use Rattle.bac_link.specs.Path.{Path}
use Rattle.bac_link.specs.Moments.{AreIn, AreInWindow, IsInWindow, NeverGoesBack}
use Rattle.bac_link.specs.Standard.{Asked, IsSaidAt}

-- a history goes on: nothing that was logged is lost or altered, and more may have been logged
abbrev pub GoesOn : History → History → Type 0
GoesOn old new = (more : List Entry) × (new.logged ≡ old.logged) × (new.entries ≡ old.entries ++ more)

-- where a log stands: all that it ever logged, and what it holds
pub record Standing : Type 0 where
  pub history : History
  pub moment : Moment

-- what it holds it has logged, and that lies in the window
pub record IsStanding (low : ℕ) (at : Standing) : Type 0 where
  pub within : at.moment.newest ≤ at.history.logged + length at.history.entries
  pub window : IsInWindow low at.moment

-- A log that stood so may stand so now: its history went on, what it has dropped isn't held again, and what it has
-- logged stays logged.
pub record IsOnward (low : ℕ) (old new : Standing) : Type 0 where
  pub goes_on : GoesOn old.history new.history
  pub oldest : old.moment.oldest ≤ new.moment.oldest
  pub newest : old.moment.newest ≤ new.moment.newest
  pub stands : IsStanding low new

-- What an ask brought of a log that stands so: a datagram that answers the question is a reply by the standard. Of a
-- loss, and of a datagram that doesn't answer it, nothing is asked.
abbrev pub IsGiven : Standing → Id → Asked → List ℕ → Result (List ℕ) Loss → Type 0
IsGiven at log asked octets (Ok datagram) =
    answers_to octets datagram ≡ true → IsSaidAt at.moment at.history log asked datagram
IsGiven at log asked octets (Err lost) = Unit {0}

-- A link stays honest for so many asks more, for a log that stands so: whatever the next ask for so many of its records
-- brings, the log may stand somewhere on from there, where that is given, and the link stays honest for one ask less.
abbrev pub StaysHonest : {S : Type 0} → (S → List ℕ → Result (List ℕ) Loss → S → Type 0) →
    AskedLog → (low : ℕ) → ℕ → S → Standing → Type 0
StaysHonest {S = S} asks source low zero old at = Unit {0}
StaysHonest {S = S} asks source low (suc more) old at =
    (new : S) (asked : Asked) (invoke : ℕ) (answer : Result (List ℕ) Loss) →
    IsAskedIn low source.count asked → asks old (asked_octets source.path invoke source.log asked) answer new →
    (next : Standing) × IsOnward low at next × IsGiven next source.log asked
    (asked_octets source.path invoke source.log asked) answer
    × StaysHonest asks source low more new next

-- The same of a link that stands somewhere for so many asks more, and for fewer too: whatever is asked, it stands on
-- from there, for one ask less.
pub record StaysHonestWhere {S : Type 0} (asks : S → List ℕ → Result (List ℕ) Loss → S → Type 0) (source : AskedLog)
    (low : ℕ) (stands : ℕ → S → Standing → Type 0) : Type 0 where
  pub goes_on : (more : ℕ) (old new : S) (at : Standing) (asked : Asked) (invoke : ℕ)
      (answer : Result (List ℕ) Loss) → stands (suc more) old at → IsAskedIn low source.count asked →
      asks old (asked_octets source.path invoke source.log asked) answer new →
      (next : Standing) × IsOnward low at next × IsGiven next source.log asked
      (asked_octets source.path invoke source.log asked) answer
      × stands more new next
  pub fewer : (more : ℕ) (link : S) (at : Standing) → stands (suc more) link at → stands more link at

-- ---- laws

-- a link that stands so stays honest from there on
abbrev pub StandingStaysHonest : {S : Type 0} → (S → List ℕ → Result (List ℕ) Loss → S → Type 0) →
    (ℕ → S → Standing → Type 0) → Type 0
StandingStaysHonest {S = S} asks stands =
    (path : Path) (log : Id) (count low more : ℕ) (link : S) (at : Standing) →
    StaysHonestWhere asks (asked_log path log count) low stands → stands more link at →
    StaysHonest asks (asked_log path log count) low more link at

-- A link that is honest at moments that are known before stays honest, for a log that stands at the first of them, with
-- any history that goes on from its own and has the entries of all.
abbrev pub HonestStaysHonest : {S : Type 0} → (S → List ℕ → Result (List ℕ) Loss → S → Type 0) → Type 0
HonestStaysHonest {S = S} asks =
    (path : Path) (log : Id) (count : ℕ) (H on : History) (low more : ℕ) (link : S) (M : List Moment) →
    IsHonestFor asks (asked_log path log count) H low more link M → 0 < length M → NeverGoesBack M → AreInWindow low M →
    GoesOn H on → AreIn on M →
    StaysHonest asks (asked_log path log count) low more link (record { history = on; moment = now M })

-- each history goes on to one that has the entries of these moments
abbrev pub HistoriesGoOn : Type 0
HistoriesGoOn = (H : History) (M : List Moment) → (on : History) × GoesOn H on × AreIn on M
