-- What is true of everything that is delivered.
use Rattle.std.specs.Prelude.{◌≡◌, ℕ, zero, suc, ◌+◌, ◌<◌, List, [], ◌∷◌, ◌++◌}
use Rattle.bac_log.specs.TrendLog.{sequence_number}
use Rattle.bac_log.specs.declared.entry.Entry.{Entry}
use Rattle.bac_link.specs.declared.item.Item.{Item}
use Rattle.bac_link.specs.declared.item.Item.TheVariants.{Gap, Logged}
use Rattle.bac_link.specs.Delivery.{History, IsEntry, Moment, Holds, now, later, DeliversTo}

-- the moments without the first so many, of which the last stays
abbrev pub after_answers : ℕ → List Moment → List Moment
after_answers zero M = M
after_answers (suc count) M = after_answers count (later M)

-- the moment of the answer at place i from now, the next one being at place 0
abbrev pub moment_at : List Moment → ℕ → Moment
moment_at M i = now (after_answers i M)

-- Read in order, items cover the ordinals s to t - 1, each once: a gap those up to its end, of which there is one at
-- least, an entry its own.
abbrev pub CoversEach : ℕ → List Item → ℕ → Type 0
CoversEach s [] t = t ≡ s
CoversEach s (Gap first before ∷ items) t =
    (u : ℕ) × (s < u) × (first ≡ sequence_number s) × (before ≡ sequence_number u) × CoversEach u items t
CoversEach s (Logged shown entry ∷ items) t = (shown ≡ sequence_number s) × CoversEach (s + 1) items t

-- each number is delivered once, in rising order
abbrev pub DeliversEachOnce : Type 0
DeliversEachOnce = (H : History) (s t count : ℕ) (M : List Moment) (items : List Item) →
    DeliversTo H s items t M count → CoversEach s items t

-- Stopped after any entry, a walk has delivered all up to it; that entry was held at the moment of its answer, and is
-- the history's. Resumed at the next ordinal, over the moments that are left, it delivers exactly the rest.
abbrev pub CanBeResumed : Type 0
CanBeResumed = (H : History) (s t count shown : ℕ) (entry : Entry) (M : List Moment) (before after : List Item) →
    DeliversTo H s (before ++ Logged shown entry ∷ after) t M count →
    (k : ℕ) × (i : ℕ) × (shown ≡ sequence_number k) × (i < count) × Holds (moment_at M i) k × IsEntry H k entry
    × DeliversTo H s (before ++ Logged shown entry ∷ []) (k + 1) M (i + 1)
    × ((rest : List Item) (u more : ℕ) → DeliversTo H (k + 1) rest u (after_answers (i + 1) M) more →
    DeliversTo H s ((before ++ Logged shown entry ∷ []) ++ rest) u M ((i + 1) + more))

-- one walk, and another from where it stopped, deliver together as one
abbrev pub CanBeJoined : Type 0
CanBeJoined = (H : History) (s t u count more : ℕ) (M : List Moment) (first rest : List Item) →
    DeliversTo H s first t M count → DeliversTo H t rest u (after_answers count M) more →
    DeliversTo H s (first ++ rest) u M (count + more)
