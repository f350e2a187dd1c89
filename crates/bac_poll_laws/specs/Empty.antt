-- How a first run ends of a log that shows no record.
use Rattle.std.specs.Prelude.{◌≡◌, ℕ, ◌<◌, Option, None, Some, []}
use Rattle.bac_wire.specs.Primitive.{Id}
use Rattle.bac_link.specs.Ordinals.{number_after}
use Rattle.bac_poll.specs.Poll.{after_count, after_reply, starting}
use Rattle.bac_poll.specs.Starts.{total_of}
use Rattle.bac_poll.specs.State.{Reply, ToldAs}
use Rattle.bac_poll.specs.Turns.{Turned}
use Rattle.bac_poll_steps.specs.declared.turn.PollEnd.{PollEnd}
use Rattle.bac_poll_steps.specs.declared.turn.PollEnd.TheVariants.{CaughtUp, ShowsNone}

-- It is caught up, unless the count is refused, and a run before put a beginning on record by the count.
abbrev pub end_of_none : (begins : Option ℕ) → (count : Option ℕ) → PollEnd
end_of_none None None = CaughtUp
end_of_none (Some begins) None = ShowsNone
end_of_none begins (Some total) = CaughtUp

-- a turn keeps no record and goes on
abbrev pub LooksOn : Turned → Type 0
LooksOn t = (t.records ≡ []) × (t.end ≡ None)

-- a turn keeps no record and ends the poll so, at this number
abbrev pub EndsAt : PollEnd → ℕ → Turned → Type 0
EndsAt why next t = (t.records ≡ []) × (t.end ≡ Some why) × (t.poll.next ≡ next)

-- The count is told or refused, no record is shown as the oldest, and none up to the count: two questions, if nothing
-- was logged, and else three. The number behind the count comes next.
abbrev pub EmptyEnds : Type 0
EmptyEnds =
    (log device : Id) (many : ℕ) (begins count : Option ℕ) (word told : ToldAs) (oldest up : Reply) →
    oldest.records ≡ [] → up.records ≡ [] →
    LooksOn (after_count (starting log device many begins word told) count)
    × (total_of count ≡ 0 →
    EndsAt (end_of_none begins count) (number_after (total_of count) 1)
    (after_reply (after_count (starting log device many begins word told) count).poll oldest))
    × (0 < total_of count →
    LooksOn (after_reply (after_count (starting log device many begins word told) count).poll oldest)
    × EndsAt (end_of_none begins count) (number_after (total_of count) 1)
    (after_reply (after_reply (after_count (starting log device many begins word told) count).poll oldest).poll up))
