-- What a reply by the standard means to a walk that asked for it.
use Rattle.std.specs.Prelude.{◌≡◌, ℕ, true, false, ◌+◌, ◌<◌, ◌≤◌, ◌⊎◌, Result, Ok, Err, List}
use Rattle.bac_link.specs.Delivery.{History, Moment, Brings}
use Rattle.bac_log.specs.TrendLog.{sequence_number}
use Rattle.bac_link.specs.Moments.{IsInWindow}
use Rattle.bac_walk.specs.Place.{WalkPlace}
use Rattle.bac_link.specs.Heard.{heard_in}
use Rattle.bac_link.specs.Standard.{HoldsNumber, IsSaidAt}
use Rattle.bac_walk.specs.Turns.{base}
use Rattle.bac_walk.specs.Walks.{asks_oldest_now, asked_by, items_in, IsTakenFrom}
use Rattle.bac_walk.specs.declared.outcome.BadReply.{BadReply}
use Rattle.bac_walk.specs.declared.outcome.Progress.{Progress}
use Rattle.bac_walk.specs.declared.outcome.Progress.TheVariants.{Batch as BatchOf, AskOldest, CaughtUp}

-- What a walk that is at ordinal s makes of a reply that was said at a moment. Records are brought, from s on or from
-- the oldest, and the walk is behind them; or none of its number is held, and it asks for the oldest; or the oldest
-- were asked for, and the log is empty, or its oldest is older than s.
abbrev pub Means : History → Moment → ℕ → ℕ → WalkPlace → Progress → WalkPlace → Type 0
Means H m low s w (BatchOf b) after =
    (u : ℕ) × Brings H m (base w s m) (items_in b) u
    × (after ≡ record w { next = sequence_number u; fresh = false; asks_oldest = false })
    × (low ≤ u) × (u < low + 2147483648)
Means H m low s w AskOldest after =
    (asks_oldest_now w ≡ false) × (HoldsNumber m w.next → ⊥) × (after ≡ record w { asks_oldest = true })
Means H m low s w CaughtUp after =
    (asks_oldest_now w ≡ true) × ((m.newest < m.oldest) ⊎ ((w.fresh ≡ false) × (m.oldest < s))) × (after ≡ w)

-- and it is no bad one
abbrev pub MeansOf : History → Moment → ℕ → ℕ → WalkPlace → Result Progress BadReply → WalkPlace → Type 0
MeansOf H m low s w (Ok p) after = Means H m low s w p after
MeansOf H m low s w (Err e) after = ⊥

-- so it is, whoever said it, of a walk and a log in one window
abbrev pub SaidMeans : Type 0
SaidMeans =
    (m : Moment) (H : History) (low s : ℕ) (w after : WalkPlace) (datagram : List ℕ) (p : Result Progress BadReply) →
    IsSaidAt m H w.log (asked_by w) datagram → w.next ≡ sequence_number s → IsInWindow low m →
    (w.fresh ≡ false → (low ≤ s) × (s < low + 2147483648)) →
    IsTakenFrom w (heard_in w.log datagram) p after → MeansOf H m low s w p after
