-- How many questions a poll asks at most of a log whose device shows none but records that it holds: by the records
-- that it keeps, and those that the log held.
use Rattle.std.specs.Prelude.{ℕ, ◌+◌, ◌-◌, ◌*◌, ◌<◌, ◌≤◌, ◌≡◌, List, [], ◌∷◌, Option, length}
use Rattle.bac_wire.specs.Primitive.{Id}
use Rattle.bac_link.specs.Delivery.{History, Moment}
use Rattle.bac_poll.specs.Poll.{joining, starting}
use Rattle.bac_poll.specs.State.{PollState, StandingAs, ToldAs}
use Rattle.bac_poll_steps.specs.declared.stage.Stage.TheVariants.{Revision, Restart}
use Rattle.bac_poll_laws.specs.Bounds.{AreInRow, back_one, count_of}
use Rattle.bac_poll_laws.specs.Delivers.{Given, after_given, asking_less}
use Rattle.bac_poll_laws.specs.Held.{kept_by}
use Rattle.bac_poll_laws.specs.Laws.{Answer, Counted, IsLast, Replied, Restarted, Revised}
use Rattle.bac_poll_laws.specs.Logged.{IsShownAt}

-- It answers what was asked, and shows none but records that the log holds at this moment.
abbrev pub ShowsHolding : Moment → History → PollState → Answer → Type 0
ShowsHolding m H p (Replied datagram) = IsShownAt m H p.walk.log datagram
ShowsHolding m H p (Counted count) = Unit {0}
ShowsHolding m H p (Revised revision) = p.stage ≡ Revision
ShowsHolding m H p (Restarted restart moment) = p.stage ≡ Restart

-- Such answers, one after the other, none of which but the last ends the poll. At their moments the log holds none but
-- ordinals from one up to another, without that.
abbrev pub ShowHolding : (low : ℕ) → (high : ℕ) → History → PollState → List Given → Type 0
ShowHolding low high H p [] = Unit {0}
ShowHolding low high H p (given ∷ others) =
    (low ≤ given.moment.oldest) × (given.moment.newest < high)
    × ShowsHolding given.moment H (asking_less given.less p) given.answer × IsLast (after_given p given) others
    × ShowHolding low high H (after_given p given).poll others

-- A poll goes backwards so often at most, and six times more for each record that is kept. Each time that costs two
-- questions at most for each record that the log held; the others are so many, and seventeen for each record that is
-- kept.
abbrev pub AreFew : (many : ℕ) → (often : ℕ) → (held : ℕ) → PollState → List Given → Type 0
AreFew many often held p answers =
    (length answers ≤ many + 17 * length (kept_by p answers) + (often + 6 * length (kept_by p answers)) * (2 * held))
    × (count_of back_one p answers ≤ (often + 6 * length (kept_by p answers)) * (2 * held))

-- From where its rows stand such a log costs so many questions at most, and in a first run. Less than half of all
-- numbers lie from the first ordinal that it held up to the last.
abbrev pub QuestionsByHeld : Type 0
QuestionsByHeld =
    (H : History) (low high : ℕ) (log device : Id) (many : ℕ) (told : ToldAs) (answers : List Given) → 0 < low →
    high < low + 2147483647 → many ≤ 100 →
    ((at : StandingAs) → AreInRow at → ShowHolding low high H (joining log device many at told) answers →
    AreFew 21 6 (high - low) (joining log device many at told) answers)
    × ((begins : Option ℕ) (word : ToldAs) →
    ShowHolding low high H (starting log device many begins word told) answers →
    AreFew 3 2 (high - low) (starting log device many begins word told) answers)
