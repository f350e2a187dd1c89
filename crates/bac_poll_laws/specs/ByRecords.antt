-- How many questions a poll asks at most of a log that goes on, and whose device says what it holds: by the records
-- that it keeps, each of which the log held. What those backwards cost is in Backwards, and of a whole poll in ByHeld.
use Rattle.std.specs.Prelude.{ℕ, ◌+◌, ◌*◌, ◌≤◌, List, length}
use Rattle.bac_link.specs.Delivery.{History}
use Rattle.bac_poll.specs.State.{PollState}
use Rattle.bac_poll_laws.specs.Bounds.{AreInRow, back_one, count_of}
use Rattle.bac_poll_laws.specs.Delivers.{Given, IsJoined, ShowHeld}
use Rattle.bac_poll_laws.specs.Held.{kept_by}

-- From where its rows stand such a log costs twenty-one questions at most, one more for each that is backwards, and
-- seventeen for each record that is kept.
abbrev pub QuestionsByRecords : Type 0
QuestionsByRecords =
    (H : History) (low s : ℕ) (p : PollState) (answers : List Given) (joined : IsJoined low s p) →
    AreInRow joined.at → joined.many ≤ 100 → ShowHeld low H p answers →
    length answers ≤ 21 + count_of back_one p answers + 17 * length (kept_by p answers)
