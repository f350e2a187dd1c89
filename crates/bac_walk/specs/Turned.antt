-- What a turn over a link of ours is.
use Rattle.std.specs.Prelude.{ℕ, ◌≡◌, ◌+◌, Result, Ok, Err, List}
use Rattle.bac_walk.specs.declared.outcome.WalkFault.{WalkFault}
use Rattle.bac_walk.specs.declared.outcome.WalkFault.TheVariants.{Lost, Refused, BadReply}
use Rattle.bac_walk.specs.declared.outcome.Progress.{Progress}
use Rattle.bac_link.specs.Links.{RisesBy}
use Rattle.bac_link.specs.Delivery.{Moment, now, later}
use Rattle.bac_walk.specs.Collects.{Losses, OurLog}
use Rattle.bac_walk.specs.Place.{WalkPlace}
use Rattle.bac_walk.specs.Turns.{IsTurn}

-- the answer of the next moment and what it means, or Lost if the count of failures rose by more than the retries
abbrev pub IsTurned : (List Moment → Type 0) →
    OurLog → ℕ → WalkPlace → Losses → Result Progress WalkFault → WalkPlace → Type 0
IsTurned stays ours s w losses (Ok p) after =
    IsTurn ours.reply_size ours.history (now ours.moments) s w p after × stays (later ours.moments)
IsTurned stays ours s w losses (Err Lost) after =
    RisesBy (losses.retries + 1) losses.before losses.after × stays ours.moments × (after ≡ w)
IsTurned stays ours s w losses (Err (Refused refusal)) after = ⊥
IsTurned stays ours s w losses (Err BadReply) after = ⊥
