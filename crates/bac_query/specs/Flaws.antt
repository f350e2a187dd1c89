-- What is told of a bad reply.
use Rattle.std.specs.Prelude.{◌≡◌, ℕ, List, Option, Some, None, Result, Ok, Err}
use Rattle.bac_wire.specs.Primitive.{Id}
use Rattle.bac_link.specs.Path.{Path}
use Rattle.bac_link.specs.declared.link.Lost.{Lost}
use Rattle.bac_walk.specs.Flaws.{ToldFlaw, flaw_in}
use Rattle.bac_walk.specs.Place.{WalkPlace}
use Rattle.bac_walk.specs.declared.flaw.ReplyFlaw.{ReplyFlaw}
use Rattle.bac_walk.specs.declared.outcome.Ended.{Ended}
use Rattle.bac_walk.specs.declared.outcome.Ended.TheVariants as ended
use Rattle.bac_walk.specs.declared.outcome.WalkFault.TheVariants.{Lost as WasLost, Refused, BadReply}
use Rattle.bac_walk.specs.declared.outcome.Why.{Why}
use Rattle.bac_walk.specs.declared.outcome.Why.TheVariants as why
use Rattle.bac_query.specs.Fetching.{Fetching}
use Rattle.bac_query.specs.declared.fetching.Fetched.{Fetched}

-- what is wrong with the last datagram that came, of a step that ended with a bad reply
abbrev pub last_flaw : Ended → WalkPlace → Option (List ℕ) → Option ReplyFlaw
last_flaw (ended.Fault BadReply) w (Some datagram) = flaw_in w datagram
last_flaw end w last = None

-- the question of a walk that is here was asked last, and this is wrong with its answer
abbrev pub IsFlawed : {S : Type 0} → (S → List ℕ → Result (List ℕ) Lost → S → Type 0) →
    Path → ℕ → WalkPlace → Option ReplyFlaw → S → Type 0
IsFlawed asks path retries w flaw new =
    (told : ReplyFlaw) × (flaw ≡ Some told) × ToldFlaw asks path retries w told new

-- a log, and the number in it that comes next
pub record LogPlace : Type 0 where
  pub log : Id
  pub next : ℕ

-- the two together
abbrev pub log_place : Id → ℕ → LogPlace
log_place log next = record { log = log; next = next }

-- the same of a walk that is at this place of a log
abbrev pub IsBadlyFetched : {S : Type 0} → (S → List ℕ → Result (List ℕ) Lost → S → Type 0) →
    Path → ℕ → LogPlace → Option ReplyFlaw → S → Type 0
IsBadlyFetched asks path retries place flaw new =
    (w : WalkPlace) × (w.log ≡ place.log) × (w.next ≡ place.next) × IsFlawed asks path retries w flaw new

-- a flaw is of a bad reply alone
abbrev pub flaw_if_bad : Why → Option ReplyFlaw → Option ReplyFlaw
flaw_if_bad (why.Fault BadReply) flaw = flaw
flaw_if_bad cause flaw = None

-- the same end with it
abbrev pub with_flaw : Fetched → Option ReplyFlaw → Fetched
with_flaw fetched flaw =
    record {
      why = fetched.why;
      next = fetched.next;
      flaw = flaw_if_bad fetched.why flaw;
      said_more = fetched.said_more;
    }

-- what is told of the reply that a walk ended with: nothing, but of a bad one what is wrong with it
abbrev pub TellsFlawOf : {S : Type 0} → (S → List ℕ → Result (List ℕ) Lost → S → Type 0) →
    Path → ℕ → LogPlace → Option ReplyFlaw → S → Why → Type 0
TellsFlawOf asks path retries place flaw new why.CaughtUp = flaw ≡ None
TellsFlawOf asks path retries place flaw new why.StepLimit = flaw ≡ None
TellsFlawOf asks path retries place flaw new (why.Fault WasLost) = flaw ≡ None
TellsFlawOf asks path retries place flaw new (why.Fault (Refused refusal)) = flaw ≡ None
TellsFlawOf asks path retries place flaw new (why.Fault BadReply) =
    IsBadlyFetched asks path retries place flaw new
TellsFlawOf asks path retries place flaw new why.Memory = flaw ≡ None

-- If the walk of this log ended with a bad reply, and only then, this is wrong with that reply.
abbrev pub TellsFlaw : {S : Type 0} → (S → List ℕ → Result (List ℕ) Lost → S → Type 0) →
    Path → ℕ → Id → Fetching → S → Type 0
TellsFlaw asks path retries log (Ok fetched) new =
    TellsFlawOf asks path retries (log_place log fetched.next) fetched.flaw new fetched.why
TellsFlaw asks path retries log (Err fault) new = Unit {0}
