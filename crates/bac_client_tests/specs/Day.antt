-- A device with one log, and a day at it.
use Rattle.std.specs.Prelude.{ℕ, List, [], ◌∷◌}
use Rattle.bac_wire.specs.Primitive.{Id}
use Rattle.bac_objects.specs.Build.{built}
use Rattle.bac_objects.specs.State.{State}
use Rattle.bac_objects.specs.declared.lines.DeviceLine.{DeviceLine}
use Rattle.bac_objects.specs.declared.lines.ObjectLine.TheVariants.{Log}
use Rattle.bac_link.specs.Delivery.{Moment}
use Rattle.bac_memory_link.specs.declared.event.LinkEvent.{LinkEvent}
use Rattle.bac_memory_link.specs.declared.event.LinkEvent.TheVariants.{Sample, Handle, Answer, Lose}

-- Trend Log 1, which holds three records, and logged none before; of any source
abbrev pub plant : DeviceLine → List ℕ → Id → State
plant device name source = built device (Log 1 name source 3 0 0 ∷ [])

-- WriteProperty of Record_Count 0 of Trend Log 1, which purges it
abbrev pub purge : List ℕ
purge =
    0x81 ∷ 0x0a ∷ 0x00 ∷ 0x15 ∷ 0x01 ∷ 0x04 ∷ 0x00 ∷ 0x05 ∷ 0x09 ∷ 0x0f ∷ 0x0c ∷ 0x05 ∷ 0x00 ∷ 0x00 ∷ 0x01
    ∷ 0x19 ∷ 0x8d ∷ 0x3e ∷ 0x21 ∷ 0x00 ∷ 0x3f ∷ []

-- Records 1 and 2, an answer; records 3 and 4, a loss, 5 and 6, the last three in
-- place of the oldest, an answer; record 7, and a purge, whose own record is 8.
abbrev pub day : List LinkEvent
day =
    Sample 1 ∷ Sample 1 ∷ Answer
    ∷ Sample 1 ∷ Sample 1 ∷ Lose ∷ Sample 1 ∷ Sample 1 ∷ Answer
    ∷ Sample 1 ∷ Handle purge ∷ []

-- a moment at which the log holds the ordinals from oldest to newest
abbrev pub holding : ℕ → ℕ → Moment
holding oldest newest = record { newest = newest; oldest = oldest }

-- the answers come when records 1 and 2 are held, 4 to 6, and 8 alone
abbrev pub day_moments : List Moment
day_moments = holding 1 2 ∷ holding 4 6 ∷ holding 8 8 ∷ []
