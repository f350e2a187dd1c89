-- What a log holds, as a walk delivers it.
use Rattle.std.specs.Prelude.{ℕ, ◌-◌, max, nat_lt, if◌then◌else◌, List, [], ◌∷◌, ◌++◌, drop}
use Rattle.bac_log.specs.TrendLog.{Log, newest, sequence_number, oldest}
use Rattle.bac_link.specs.declared.item.Item.{Item}
use Rattle.bac_link.specs.declared.item.Item.TheVariants.{Gap}
use Rattle.bac_walk.specs.Walks.{logged_from}

-- the gap up to the oldest record, if number s is below it, and the records
-- from there on; nothing if none is held
abbrev pub held_from : Log → ℕ → List Item
held_from log s =
    if nat_lt (newest log) (max s (oldest log)) then []
    else ((if nat_lt s (oldest log) then Gap (sequence_number s) (sequence_number (oldest log)) ∷ [] else [])
    ++ logged_from (max s (oldest log)) (drop (max s (oldest log) - oldest log) log.entries))
