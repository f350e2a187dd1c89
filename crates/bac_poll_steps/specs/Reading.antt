-- How a reply is read.
use Rattle.std.specs.Prelude.{ℕ, ◌==◌, ◌&&◌, ◌||◌, Bool}
use Rattle.bac_walk.specs.Walks.{fits}
use Rattle.bac_poll_steps.specs.Asked.{are_asked}
use Rattle.bac_poll_steps.specs.State.{PollState}
pub use Rattle.bac_known.specs.Records.{number_told, numbered_in}

-- whether so many records from this number on are taken, of which a reply says that they are as many as that
abbrev pub is_taken : PollState → (first : ℕ) → (told : ℕ) → (count : ℕ) → Bool
is_taken p first told count =
    (count == 0) || (fits p.walk first count && ((told == count) && are_asked p p.stage first count))
