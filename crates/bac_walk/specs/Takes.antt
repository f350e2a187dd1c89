-- What is read of an answer.
use Rattle.std.specs.Prelude.{◌≡◌, ℕ, List, Option, Some, None, length}
use Rattle.bac_apdu.specs.declared.service.extent.Extent.{Extent}
use Rattle.bac_log.specs.declared.entry.Entry.{Entry}
use Rattle.bac_log.specs.Select.{selected, packed, first_shown, entries_in}
use Rattle.bac_log.specs.TrendLog.{Log}
use Rattle.bac_link.specs.Delivery.{History, Moment}
use Rattle.bac_walk.specs.Replies.{Wanted}
use Rattle.bac_walk.specs.Replies.{IsAnswer}
use Rattle.bac_link.specs.Heard.{AckParameters}

-- the records and the first number that a log's reply holds
abbrev pub records_of : ℕ → Log → Extent → List Entry
records_of r log extent = entries_in (packed extent r (selected log extent))

-- the first number that the reply shows
abbrev pub first_of : ℕ → Log → Extent → Option ℕ
first_of r log extent = first_shown extent (packed extent r (selected log extent))

-- what a walk hears is the whole reply of a moment, with the right count
abbrev pub Says : ℕ → Moment → History → Wanted → Option AckParameters → Type 0
Says r m H wanted None = ⊥
Says r m H wanted (Some h) = IsAnswer r m H wanted h.first h.entries × (h.count ≡ length h.entries)
