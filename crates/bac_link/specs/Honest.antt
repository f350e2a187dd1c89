-- Links that are honest for a log: what comes over them to the questions of a walk says by the standard what one log
-- holds, whoever sent it. It is said of what an ask is, and of nothing else that is known of the link.
use Rattle.std.specs.Prelude.{◌≡◌, ℕ, zero, suc, ◌+◌, ◌<◌, ◌≤◌, true, false, Result, Ok, Err, List, length}
use Rattle.bac_wire.specs.Primitive.{Id}
use Rattle.bac_log.specs.TrendLog.{sequence_number}
use Rattle.bac_link.specs.declared.link.Lost.{Lost as Loss}
use Rattle.bac_link.specs.Datagrams.{answers_to}
use Rattle.bac_link.specs.Delivery.{History, Moment, now, later}
use Rattle.bac_link.specs.Links.{question}
use Rattle.bac_link.specs.Moments.{AreInWindow}
use Rattle.bac_link.specs.Path.{Path}
use Rattle.bac_link.specs.Requests.{request_octets}
use Rattle.bac_link.specs.Standard.{Asked, FromNumber, FromOldest, extent_asked, IsSaidAt}

-- a log whose records are asked for: by which path, its identifier, and how many of them by one question
pub record AskedLog : Type 0 where
  pub path : Path
  pub log : Id
  pub count : ℕ

-- the three together
abbrev pub asked_log : Path → Id → (count : ℕ) → AskedLog
asked_log path log count = record { path = path; log = log; count = count }

-- the datagram of a question for the records of a log
abbrev pub asked_octets : Path → ℕ → Id → Asked → List ℕ
asked_octets path invoke log asked = request_octets path invoke (question log (extent_asked asked))

-- What one ask of such a question brings: a datagram that answers it is a reply by the standard at the next moment,
-- which is then used up. A loss, and a datagram that doesn't answer it, leave the moments.
abbrev pub IsSaidOrLost : (List Moment → Type 0) →
    List Moment → History → Id → Asked → List ℕ → Result (List ℕ) Loss → Type 0
IsSaidOrLost stays M H log asked octets (Ok datagram) =
    (answers_to octets datagram ≡ true → IsSaidAt (now M) H log asked datagram × stays (later M))
    × (answers_to octets datagram ≡ false → stays M)
IsSaidOrLost stays M H log asked octets (Err lost) = stays M

-- so many records are asked for, and a number that is asked for is that of an ordinal in the window
abbrev pub IsAskedIn : (low count : ℕ) → Asked → Type 0
IsAskedIn low count (FromNumber n asked) =
    (asked ≡ count) × ((s : ℕ) × (n ≡ sequence_number s) × (low ≤ s) × (s < low + 2147483648))
IsAskedIn low count (FromOldest asked) = asked ≡ count

-- A link is honest for a log where it stands: at whatever moments that is, each ask for so many of its records brings
-- that, and what is left of the moments is where the link stands then. Moments and number lie in one window.
abbrev pub IsHonestWhere : {S : Type 0} → (S → List ℕ → Result (List ℕ) Loss → S → Type 0) →
    AskedLog → History → ℕ → (S → List Moment → Type 0) → Type 0
IsHonestWhere {S = S} asks source H low stands =
    (old new : S) (M : List Moment) (asked : Asked) (invoke : ℕ) (answer : Result (List ℕ) Loss) →
    stands old M → 0 < length M → AreInWindow low M → IsAskedIn low source.count asked →
    asks old (asked_octets source.path invoke source.log asked) answer new →
    IsSaidOrLost (λ N. stands new N) M H source.log asked (asked_octets source.path invoke source.log asked) answer

-- It is honest for a log from these moments on, for so many asks more: the next ask for so many of its records brings
-- that, and what is left of the moments is where it is honest from then, for one ask less.
abbrev pub IsHonestFor : {S : Type 0} → (S → List ℕ → Result (List ℕ) Loss → S → Type 0) →
    AskedLog → History → ℕ → ℕ → S → List Moment → Type 0
IsHonestFor {S = S} asks source H low zero old M = Unit {0}
IsHonestFor {S = S} asks source H low (suc more) old M =
    (new : S) (asked : Asked) (invoke : ℕ) (answer : Result (List ℕ) Loss) →
    0 < length M → AreInWindow low M → IsAskedIn low source.count asked →
    asks old (asked_octets source.path invoke source.log asked) answer new →
    IsSaidOrLost (λ N. IsHonestFor asks source H low more new N) M H source.log asked
    (asked_octets source.path invoke source.log asked) answer

-- it is honest for a log from these moments on, however many asks come
abbrev pub IsHonest : {S : Type 0} → (S → List ℕ → Result (List ℕ) Loss → S → Type 0) →
    AskedLog → History → ℕ → S → List Moment → Type 0
IsHonest asks source H low link M = (more : ℕ) → IsHonestFor asks source H low more link M

-- a link that stands at moments, where each ask is so answered, is honest from these on
abbrev pub HonestWhereItStands : {S : Type 0} → (S → List ℕ → Result (List ℕ) Loss → S → Type 0) →
    (S → List Moment → Type 0) → Type 0
HonestWhereItStands {S = S} asks stands =
    (path : Path) (log : Id) (count : ℕ) (H : History) (low : ℕ) (link : S) (M : List Moment) →
    IsHonestWhere asks (asked_log path log count) H low stands → stands link M →
    IsHonest asks (asked_log path log count) H low link M
