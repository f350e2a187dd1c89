-- What a run of a walk delivers, and what two runs are together.
use Rattle.std.specs.Prelude.{◌≡◌, ℕ, Bool, ◌+◌, ◌≤◌, List, ◌++◌, length}
use Rattle.bac_wire.specs.Primitive.{Id}
use Rattle.bac_link.specs.declared.item.Item.{Item}
use Rattle.bac_link.specs.Delivery.{History, Moment, DeliversTo}
use Rattle.bac_walk.specs.declared.outcome.Ended.{Ended}
use Rattle.bac_walk.specs.declared.outcome.Ended.TheVariants.{StepLimit}
use Rattle.bac_walk.specs.Place.{WalkPlace}
use Rattle.bac_walk.specs.Collects.{start_of, Collected, our_log, started_at, losses_of, yield}
use Rattle.bac_walk.specs.Sinks.{IsDeliveredNear, IsRun, ours_around}

-- what the answers of a run brought is delivered from the ordinal where it began: for a walk from the oldest entry, the
-- oldest of its first batch's moment
abbrev pub CollectedIsDelivered : Type 0
CollectedIsDelivered =
    (r count : ℕ) (H : History) (M : List Moment) (fresh : Bool) (s steps retries old new : ℕ) (items : List Item)
    (t : ℕ) (ended : Ended) (answers : List (List Item)) →
    Collected (our_log r M H) (started_at count fresh s) steps (losses_of retries old new) (yield items ended)
    t answers →
    DeliversTo H (start_of fresh s M answers) items t M (length answers)

-- a run over links of ours so delivers its items
abbrev pub RunsDeliver : {L : Type 0} → (L → Id → ℕ → List Moment → History → Type 0) → Type 0
RunsDeliver {L = L} ours =
    (link left : L) (log : Id) (retries old new : ℕ) (before after : WalkPlace) (steps : ℕ) (ended : Ended)
    (items : List Item) →
    IsRun (ours_around (ours link log) (ours left log)) (losses_of retries old new) before after steps ended items →
    IsDeliveredNear (ours link log) (ours left log) before after steps items

-- A run whose steps were all whole, and one from where it ended that asks for as many records, are together one run of
-- as many steps: what both brought, ended as the second.
abbrev pub RunsJoin : {L : Type 0} → (L → Id → ℕ → List Moment → History → Type 0) → Type 0
RunsJoin {L = L} ours =
    (link half left : L) (log : Id) (retries old mid new : ℕ) (before middle after : WalkPlace) (steps more : ℕ)
    (ended : Ended) (first rest : List Item) → old ≤ mid → middle.count ≡ before.count →
    IsRun (ours_around (ours link log) (ours half log)) (losses_of retries old mid) before middle steps
    StepLimit first →
    IsRun (ours_around (ours half log) (ours left log)) (losses_of retries mid new) middle after more ended rest →
    IsRun (ours_around (ours link log) (ours left log)) (losses_of retries old new) before after (steps + more) ended
    (first ++ rest)
