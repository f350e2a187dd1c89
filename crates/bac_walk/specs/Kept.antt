-- A sink that keeps what it is given, as far as it has room.
use Rattle.std.specs.Prelude.{◌≡◌, ℕ, ◌+◌, ◌≤◌, Bool, true, Option, List, [], ◌∷◌, ◌++◌, length}
use Rattle.bac_link.specs.declared.item.Item.{Item}
use Rattle.bac_walk.specs.declared.batch.Gap.{Gap as GapOf}
use Rattle.bac_walk.specs.declared.batch.Numbered.{Numbered}
use Rattle.bac_walk.specs.Walks.{gap_items, item_of}
use Rattle.bac_walk.specs.Sinks.{gaps_in}

-- the room and the items before, the gap, the record, the answer, and the room and the items after
abbrev pub IsKept : ℕ → List Item → Option GapOf → Numbered → Bool → ℕ → List Item → Type 0
IsKept room old gap item taken left new =
    (length old + gaps_in gap + 1 ≤ room → (taken ≡ true)
    × (left ≡ room) × (new ≡ old ++ (gap_items gap ++ item_of item ∷ [])))
