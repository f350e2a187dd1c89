-- An answer that a walk hears in a datagram, with its records still octets.
use Rattle.std.proofs.Common.{ℕ, List, Option, Ok}
use Rattle.bac_link.specs.Delivery.{History, Moment, now, later}
use Rattle.bac_link.specs.Heard.{AckParameters}
use Rattle.bac_walk.specs.Place.{WalkPlace}
use Rattle.bac_walk.specs.declared.outcome.Progress.TheVariants.{AskOldest, CaughtUp}
use Rattle.bac_walk.specs.declared.reply.Turned.{Turned}
use Rattle.bac_walk.specs.declared.reply.Turned.TheVariants as turned
use Rattle.bac_walk.specs.Walks.{IsTakenFrom}
use Rattle.bac_walk.specs.Replied.{progress_of}
use Rattle.bac_walk.specs.Collects.{Goes, turn_items, our_log, losses_of}
use Rattle.bac_walk.specs.Turned.{IsTurned}
use Rattle.bac_walk.proofs.Turns.{TurnOf}
use Rattle.bac_walk.proofs.Goes.{turn_goes}

-- a turn that brought this
pub turned_of : (stays : List Moment → Type 0) (r : ℕ) (M : List Moment) (H : History) (s : ℕ) (w : WalkPlace) (retries old new : ℕ) (t : Turned) (after : WalkPlace) →
    TurnOf r H (now M) s w (progress_of (Ok t)) after → stays (later M) → IsTurned stays (our_log r M H) s w (losses_of retries old new) (progress_of (Ok t)) after
turned_of stays r M H s w retries old new (turned.Reply b) after turn rest = (turn, rest)
turned_of stays r M H s w retries old new turned.AskOldest after turn rest = (turn, rest)
turned_of stays r M H s w retries old new turned.CaughtUp after turn rest = (turn, rest)

pub turned_goes : (w : WalkPlace) (s : ℕ) (heard : Option AckParameters) (t : Turned) (after : WalkPlace) → IsTakenFrom w heard (progress_of (Ok t)) after →
    Goes w.fresh w.next s (turn_items (progress_of (Ok t))) after.fresh after.next
turned_goes w s heard (turned.Reply b) after taken = turn_goes w s heard _ after taken
turned_goes w s heard turned.AskOldest after taken = turn_goes w s heard AskOldest after taken
turned_goes w s heard turned.CaughtUp after taken = turn_goes w s heard CaughtUp after taken
