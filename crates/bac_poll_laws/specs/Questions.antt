-- How many questions a log costs that goes on, and whose newest known record is shown as it is known: as many as there
-- are replies with news, and one.
use Rattle.std.specs.Prelude.{◌≡◌, ℕ, ◌+◌, ◌≤◌, ◌⊎◌, false, true, List, [], ◌∷◌, None, length}
use Rattle.bac_walk.specs.declared.batch.Numbered.{Numbered}
use Rattle.bac_poll_laws.specs.Asks.{ShowsKnown}
use Rattle.bac_poll.specs.Known.{records_behind}
use Rattle.bac_poll.specs.Poll.{after_reply}
use Rattle.bac_poll.specs.State.{KeptAs, PollState, Reply}
use Rattle.bac_poll_steps.specs.declared.stage.Stage.TheVariants.{Ahead, Joins}

-- The replies to all questions that are asked: the last of them ends the poll, and no other.
abbrev pub AreAll : PollState → List Reply → Type 0
AreAll p [] = ⊥
AreAll p (reply ∷ []) = (after_reply p reply).end ≡ None → ⊥
AreAll p (reply ∷ next ∷ rest) = ((after_reply p reply).end ≡ None) × AreAll (after_reply p reply).poll (next ∷ rest)

-- one if any records are kept
abbrev pub one_if_kept : List Numbered → ℕ
one_if_kept [] = 0
one_if_kept (held ∷ others) = 1

-- how many of them bring news
abbrev pub with_news : PollState → List Reply → ℕ
with_news p [] = 0
with_news p (reply ∷ replies) =
    one_if_kept (after_reply p reply).records + with_news (after_reply p reply).poll replies

-- A reply shows the newest known record, and each known one that it has, as it is known; and where nothing stands
-- behind that one it says so (LAST_ITEM set, MORE_ITEMS not).
abbrev pub IsKnown : PollState → Reply → Type 0
IsKnown p reply =
    (kept : KeptAs) × (held : Numbered) × ShowsKnown p reply kept held
    × (records_behind kept.number reply.records ≡ [] → (reply.last ≡ true) × (reply.more ≡ false))

-- Or it doesn't set LAST_ITEM, and shows that one alone; and to the question for what follows it there is no record.
abbrev pub IsPlain : PollState → Reply → Type 0
IsPlain p reply =
    ((kept : KeptAs) × (held : Numbered) × ShowsKnown p reply kept held
    × (records_behind kept.number reply.records ≡ [] →
    (reply.more ≡ false) × ((reply.last ≡ true) ⊎ (length reply.records ≡ 1))))
    ⊎ ((p.stage ≡ Ahead) × (reply.records ≡ []))

-- each of these replies, to the question of its place
abbrev pub AreEach : (PollState → Reply → Type 0) → PollState → List Reply → Type 0
AreEach R p [] = Unit {0}
AreEach R p (reply ∷ replies) = R p reply × AreEach R (after_reply p reply).poll replies

-- Such a log costs one question more than there are replies with news, and so one where nothing is new; and of a device
-- that doesn't set LAST_ITEM two more at most.
abbrev pub QuestionsAreFew : Type 0
QuestionsAreFew =
    (p : PollState) (replies : List Reply) → AreAll p replies →
    (AreEach IsKnown p replies → length replies ≡ with_news p replies + 1)
    × (p.stage ≡ Joins → AreEach IsPlain p replies → length replies ≤ with_news p replies + 2)
