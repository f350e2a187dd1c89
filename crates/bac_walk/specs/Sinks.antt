-- Records that are put into a sink one after the other.
use Rattle.std.specs.Prelude.{◌≡◌, ℕ, ◌+◌, ◌*◌, ◌<◌, ◌≤◌, Bool, true, false, ◌⊎◌, Option, Some, None, List, [], ◌∷◌}
use Rattle.std.specs.Prelude.{◌++◌, length}
use Rattle.bac_link.specs.declared.item.Item.{Item}
use Rattle.bac_walk.specs.declared.batch.Gap.{Gap as GapOf}
use Rattle.bac_walk.specs.declared.batch.Numbered.{Numbered}
use Rattle.bac_walk.specs.Place.{WalkPlace}
use Rattle.bac_walk.specs.declared.outcome.Ended.{Ended}
use Rattle.bac_walk.specs.declared.outcome.Ended.TheVariants.{CaughtUp, StepLimit, Stopped, Fault}
use Rattle.bac_log.specs.TrendLog.{sequence_number}
use Rattle.bac_link.specs.Delivery.{History, Moment, DeliversTo}
use Rattle.bac_link.specs.Laws.{after_answers}
use Rattle.bac_link.specs.Moments.{AreInWindow}
use Rattle.bac_walk.specs.Near.{StaysNear}
use Rattle.bac_walk.specs.Walks.{gap_items, item_of}
use Rattle.bac_walk.specs.Collects.{Goes, Collected, IsFreshAfter, Losses, our_log, started_at, yield}

-- one call of put: a record, with the gap before it
pub record Call : Type 0 where
  pub gap : Option GapOf
  pub record_put : Numbered

-- the items that were put
abbrev pub put_items : List Call → List Item
put_items [] = []
put_items (c ∷ calls) = gap_items c.gap ++ item_of c.record_put ∷ put_items calls

-- how many of them had a gap
abbrev pub gaps_in : Option GapOf → ℕ
gaps_in None = 0
gaps_in (Some g) = 1

-- how many gaps came before the records that were put
abbrev pub gaps : List Call → ℕ
gaps [] = 0
gaps (c ∷ calls) = gaps_in c.gap + gaps calls

-- the sink after these calls of put, in order, each answered true but for the last if it was stopped
abbrev pub Takes : {S : Type 0} → (S → Option GapOf → Numbered → Bool → S → Type 0) → S → List Call → Bool → S → Type 0
Takes {S = S} puts old [] stopped new = (new ≡ old) × (stopped ≡ false)
Takes {S = S} puts old (c ∷ calls) stopped new =
    (puts old c.gap c.record_put false new × (calls ≡ []) × (stopped ≡ true))
    ⊎ ((mid : S) × puts old c.gap c.record_put true mid × Takes puts mid calls stopped new)

-- the records of a batch, put up to one that was answered false, whose number this is
abbrev pub PutAll : {S : Type 0} → (S → Option GapOf → Numbered → Bool → S → Type 0) →
    S → Option GapOf → List Numbered → Option ℕ → S → Type 0
PutAll {S = S} puts old gap [] refused new = (new ≡ old) × (refused ≡ None)
PutAll {S = S} puts old gap (x ∷ xs) refused new =
    (puts old gap x false new × (refused ≡ Some x.number))
    ⊎ ((mid : S) × puts old gap x true mid × PutAll puts mid None xs refused new)

-- whether the sink stopped the run
abbrev pub is_stopped : Ended → Bool
is_stopped CaughtUp = false
is_stopped StepLimit = false
is_stopped Stopped = true
is_stopped (Fault e) = false

-- a sink that records were put into: what putting one does, and the sink before and after them
pub record SinkFilled (S : Type 0) : Type 1 where
  pub puts : S → Option GapOf → Numbered → Bool → S → Type 0
  pub before : S
  pub after : S

-- the three together
abbrev pub sink_filled : {S : Type 0} → (S → Option GapOf → Numbered → Bool → S → Type 0) → S → S → SinkFilled S
sink_filled puts before after = record { puts = puts; before = before; after = after }

-- at which moments of a log, with replies of which size, a link is ours before a run and after it
pub record OursAround : Type 1 where
  pub before : ℕ → List Moment → History → Type 0
  pub after : ℕ → List Moment → History → Type 0

-- the two together
abbrev pub ours_around : (ℕ → List Moment → History → Type 0) → (ℕ → List Moment → History → Type 0) → OursAround
ours_around before after = record { before = before; after = after }

-- a run of at most so many steps: over any link its items cover all from the walk's number up to the new one; over one
-- that was ours, wherever the walk stays near, they are what its answers brought, and it is ours still
abbrev pub IsRun : OursAround → Losses → WalkPlace → WalkPlace → ℕ → Ended → List Item → Type 0
IsRun ours losses before after steps ended items =
    ((s : ℕ) → Goes before.fresh before.next s items after.fresh after.next)
    × ((r : ℕ) (M : List Moment) (H : History) (s : ℕ) → ours.before r M H → before.next ≡ sequence_number s →
    StaysNear r before.count H M before.fresh s steps →
    (answers : List (List Item)) × (t : ℕ) × (after.next ≡ sequence_number t)
    × Collected (our_log r M H) (started_at before.count before.fresh s) steps losses (yield items ended) t answers
    × ours.after r (after_answers (length answers) M) H × IsFreshAfter before.fresh answers after.fresh)

-- such a run into a sink: over any link each step puts at most 100 records and at most one gap; each brought a record
-- at least if it ended since there were so many
abbrev pub Delivery : {S : Type 0} → SinkFilled S → OursAround → Losses → WalkPlace → WalkPlace → ℕ → Ended → Type 0
Delivery {S = S} sink ours losses before after steps ended =
    (calls : List Call) × Takes sink.puts sink.before calls (is_stopped ended) sink.after
    × (length calls ≤ 100 * steps) × (gaps calls ≤ steps)
    × IsRun ours losses before after steps ended (put_items calls)
    × (ended ≡ StepLimit → steps ≤ length calls)

-- Over a link that was ours, at moments within half of the count: from the ordinal of its number on, or from that of
-- the oldest record if it begins there, so many answers deliver the items, and the link is ours still.
abbrev pub IsDelivered : (ℕ → List Moment → History → Type 0) →
    (ℕ → List Moment → History → Type 0) → WalkPlace → WalkPlace → List Item → Type 0
IsDelivered was is before after items =
    (r : ℕ) (M : List Moment) (H : History) (s low : ℕ) →
    was r M H → before.next ≡ sequence_number s → AreInWindow low M →
    (before.fresh ≡ false → (low ≤ s) × (s < low + 2147483648)) →
    (b : ℕ) × (a : ℕ) × (t : ℕ) × (before.fresh ≡ false → b ≡ s) × (after.next ≡ sequence_number t)
    × DeliversTo H b items t M a × is r (after_answers a M) H

-- the same wherever the walk stays near, in so many steps
abbrev pub IsDeliveredNear : (ℕ → List Moment → History → Type 0) →
    (ℕ → List Moment → History → Type 0) → WalkPlace → WalkPlace → ℕ → List Item → Type 0
IsDeliveredNear was is before after steps items =
    (r : ℕ) (M : List Moment) (H : History) (s : ℕ) →
    was r M H → before.next ≡ sequence_number s → StaysNear r before.count H M before.fresh s steps →
    (b : ℕ) × (a : ℕ) × (t : ℕ) × (before.fresh ≡ false → b ≡ s) × (after.next ≡ sequence_number t)
    × DeliversTo H b items t M a × is r (after_answers a M) H
