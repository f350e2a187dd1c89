-- How often a log is asked whose newest known record is shown as it is known: once where nothing is newer, and once
-- more for each reply with news. What is kept then is what stands behind that record, and nothing else.
use Rattle.std.specs.Prelude.{◌≡◌, false, true, List, [], ◌∷◌, None, Some}
use Rattle.bac_walk.specs.declared.batch.Numbered.{Numbered}
use Rattle.bac_poll.specs.Known.{means_in, record_at, records_behind}
use Rattle.bac_poll.specs.Poll.{after_reply, more_of}
use Rattle.bac_poll.specs.State.{KeptAs, PollState, Reply}
use Rattle.bac_poll.specs.Turns.{last_in, number_or}
use Rattle.bac_known.specs.declared.known.Means.TheVariants.{Same}
use Rattle.bac_poll_steps.specs.declared.stage.Stage.TheVariants.{Joins}
use Rattle.bac_poll_steps.specs.declared.turn.PollEnd.TheVariants.{CaughtUp}

-- a poll that heard a reply
abbrev pub having_heard : PollState → Reply → PollState
having_heard p reply = record p { more = more_of p reply; held = [] }

-- the reply to a question that begins with known records shows those of them that it has as they are known, the newest
-- known one among them, as this
pub record ShowsKnown (p : PollState) (reply : Reply) (kept : KeptAs) (held : Numbered) : Type 0 where
  pub asked : p.stage ≡ Joins
  pub newest : p.newest ≡ Some kept
  pub same : means_in (having_heard p reply) reply.records ≡ Same
  pub shown : record_at kept.number reply.records ≡ Some held

-- Nothing stands behind it, and the flags say so (LAST_ITEM set, MORE_ITEMS not): nothing is kept, and nothing more is
-- asked. Records do: these are kept, whatever the flags say, and one more question is asked, from the last of them on.
abbrev pub AsksOnceMore : Type 0
AsksOnceMore =
    (p : PollState) (reply : Reply) (kept : KeptAs) (held : Numbered) → ShowsKnown p reply kept held →
    ((records_behind kept.number reply.records ≡ []) → (reply.last ≡ true) → (reply.more ≡ false) →
    ((after_reply p reply).records ≡ []) × ((after_reply p reply).end ≡ Some CaughtUp))
    × ((first : Numbered) (others : List Numbered) → records_behind kept.number reply.records ≡ first ∷ others →
    ((after_reply p reply).records ≡ first ∷ others) × ((after_reply p reply).end ≡ None)
    × ((after_reply p reply).poll.stage ≡ Joins)
    × ((after_reply p reply).poll.reference ≡ number_or 0 (last_in (first ∷ others))))
