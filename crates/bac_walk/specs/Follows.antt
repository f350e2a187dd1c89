-- What follows from what came over a link, whoever answered: why a run ended, and that its numbers go on.
use Rattle.std.specs.Prelude.{◌≡◌, ℕ, Result, List}
use Rattle.bac_link.specs.declared.item.Item.{Item}
use Rattle.bac_link.specs.declared.link.Lost.{Lost as Loss}
use Rattle.bac_link.specs.Path.{Path}
use Rattle.bac_walk.specs.declared.outcome.Ended.{Ended}
use Rattle.bac_walk.specs.Came.{Came, Brought, restarted, reaching, walk_over}
use Rattle.bac_walk.specs.Collects.{Goes}
use Rattle.bac_walk.specs.Place.{WalkPlace}
use Rattle.bac_walk.specs.Told.{Told}

-- what came tells why: the last exchange of a run, from where the walk is up to a restart, told its fault, or that
-- there is no more
abbrev pub BroughtTells : {S : Type 0} → (S → List ℕ → Result (List ℕ) Loss → S → Type 0) → Type 0
BroughtTells {S = S} asks =
    (path : Path) (retries : ℕ) (old new : S) (before after : WalkPlace) (steps : ℕ) (came : List Came)
    (items : List Item) (ended : Ended) →
    Brought (reaching asks path retries) (walk_over old before) steps came items ended (walk_over new after) →
    (here : WalkPlace) × (restarted here ≡ restarted after) × Told asks path retries ended here new

-- What came goes on: the items begin at the walk's number, or at that of the oldest record, and cover each number up to
-- the next one.
abbrev pub BroughtGoes : {S : Type 0} → (S → List ℕ → Result (List ℕ) Loss → S → Type 0) → Type 0
BroughtGoes {S = S} asks =
    (path : Path) (retries : ℕ) (old new : S) (before after : WalkPlace) (steps : ℕ) (came : List Came)
    (items : List Item) (ended : Ended) →
    Brought (reaching asks path retries) (walk_over old before) steps came items ended (walk_over new after) →
    (s : ℕ) → Goes before.fresh before.next s items after.fresh after.next
