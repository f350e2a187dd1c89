-- What one answer of ours means to a walk.
use Rattle.std.specs.Prelude.{◌++◌, min, max, ◌-◌, nat_lt, ◌≡◌, ℕ, Bool, true, false, ◌+◌, ◌<◌, ◌≤◌, ◌⊎◌, if◌then◌else◌}
use Rattle.std.specs.Prelude.{List, [], ◌∷◌, length}
use Rattle.bac_log.specs.TrendLog.{sequence_number}
use Rattle.bac_link.specs.declared.item.Item.{Item}
use Rattle.bac_link.specs.declared.item.Item.TheVariants.{Gap}
use Rattle.bac_walk.specs.Place.{WalkPlace}
use Rattle.bac_walk.specs.declared.outcome.Progress.{Progress}
use Rattle.bac_walk.specs.declared.outcome.Progress.TheVariants.{Batch as BatchOf, AskOldest, CaughtUp as IsUp}
use Rattle.bac_walk.specs.Replies.{fitting}
use Rattle.bac_link.specs.Delivery.{History, Moment, Holds, Brings}
use Rattle.bac_link.specs.Moments.{entries_from}
use Rattle.bac_walk.specs.Walks.{items_in, asks_oldest_now, logged_from}

-- no entry of so many ordinals from s on is held
abbrev pub NoneOfAsked : (count s : ℕ) → Moment → Type 0
NoneOfAsked count s m = (k : ℕ) → s ≤ k → k < s + count → Holds m k → ⊥

-- how many entries a whole reply has: those that fit it of so many ordinals from s on, or from the oldest held
abbrev pub reply_count : (r count : ℕ) → History → Moment → Bool → ℕ → ℕ
reply_count r count H m by_oldest s =
    fitting r (max s m.oldest)
    (entries_from H
    (max s m.oldest) (min ((if by_oldest then max s m.oldest else s) + count) (m.newest + 1) - max s m.oldest))

-- the items of one whole reply to a walk that is at ordinal s: all entries that fit it of those that are held and
-- asked for, with the gap before them
abbrev pub whole_reply : (r count : ℕ) → History → Moment → Bool → ℕ → List Item
whole_reply r count H m by_oldest s =
    (if nat_lt s m.oldest then Gap (sequence_number s) (sequence_number m.oldest) ∷ [] else [])
    ++ logged_from (max s m.oldest) (entries_from H (max s m.oldest) (reply_count r count H m by_oldest s))

-- the ordinal where the next batch begins, of a walk that is at ordinal s
abbrev pub base : WalkPlace → ℕ → Moment → ℕ
base w s m = if w.fresh then m.oldest else s

-- one answer and what the walk makes of it
abbrev pub IsTurn : ℕ → History → Moment → ℕ → WalkPlace → Progress → WalkPlace → Type 0
IsTurn r H m s w (BatchOf b) after =
    (t : ℕ) × Brings H m (base w s m) (items_in b) t × (0 < length (items_in b))
    × (after ≡ record w { next = sequence_number t; fresh = false; asks_oldest = false })
    × (items_in b ≡ whole_reply r w.count H m w.asks_oldest (base w s m))
IsTurn r H m s w AskOldest after =
    (asks_oldest_now w ≡ false) × NoneOfAsked w.count s m × (after ≡ record w { asks_oldest = true })
IsTurn r H m s w IsUp after =
    (asks_oldest_now w ≡ true) × ((m.newest < m.oldest) ⊎ ((w.fresh ≡ false) × (m.oldest < s))) × (after ≡ w)
