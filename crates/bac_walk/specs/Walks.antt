-- What a walk asks, and what it makes of an answer.
use Rattle.std.specs.Prelude.{◌≡◌, ℕ, Bool, true, false, ◌+◌, nat_lt, nat_le, not, ◌&&◌, ◌||◌, ◌==◌, if◌then◌else◌}
use Rattle.std.specs.Prelude.{Option, Some, None, Result, Ok, Err, List, [], ◌∷◌, ◌++◌, length, map}
use Rattle.bac_apdu.specs.declared.service.extent.Extent.{Extent}
use Rattle.bac_log.specs.declared.entry.Entry.{Entry}
use Rattle.bac_log.specs.TrendLog.{sequence_number}
use Rattle.bac_link.specs.Standard.{Asked, FromNumber, FromOldest as FromTheOldest, extent_asked}
use Rattle.bac_walk.specs.Replies.{Wanted, FromOrdinal, FromOldest}
use Rattle.bac_link.specs.Heard.{AckParameters}
use Rattle.bac_link.specs.Ordinals.{is_number, distance, number_after, is_ahead}
use Rattle.bac_link.specs.declared.item.Item.{Item}
use Rattle.bac_link.specs.declared.item.Item.TheVariants.{Gap, Logged}
use Rattle.bac_walk.specs.Place.{WalkPlace}
use Rattle.bac_walk.specs.declared.batch.Gap.{Gap as GapOf}
use Rattle.bac_walk.specs.declared.batch.Numbered.{Numbered}
use Rattle.bac_walk.specs.declared.batch.Batch.{Batch}
use Rattle.bac_walk.specs.declared.outcome.BadReply.{BadReply}
use Rattle.bac_walk.specs.declared.outcome.Progress.{Progress}
use Rattle.bac_walk.specs.declared.outcome.Progress.TheVariants.{Batch as BatchOf, AskOldest, CaughtUp}

-- whether the oldest entries are asked for
abbrev pub asks_oldest_now : WalkPlace → Bool
asks_oldest_now w = w.fresh || w.asks_oldest

-- what a walk that is here asks for
abbrev pub asked_by : WalkPlace → Asked
asked_by w = if asks_oldest_now w then FromTheOldest w.count else FromNumber w.next w.count

-- the extent of that
abbrev pub question_of : WalkPlace → Extent
question_of w = extent_asked (asked_by w)

-- what is asked for when the walk is at ordinal s
abbrev pub wanted_at : WalkPlace → ℕ → Wanted
wanted_at w s = if asks_oldest_now w then FromOldest w.count else FromOrdinal s w.count

-- entries with their numbers, the first of which is this
abbrev pub with_numbers : ℕ → List Entry → List Numbered
with_numbers n [] = []
with_numbers n (e ∷ es) = record { number = n; entry = e } ∷ with_numbers (number_after n 1) es

-- items that show these numbers
abbrev pub shown_from : ℕ → List Entry → List Item
shown_from n [] = []
shown_from n (e ∷ es) = Logged n e ∷ shown_from (number_after n 1) es

-- the entries of the ordinals from k on
abbrev pub logged_from : ℕ → List Entry → List Item
logged_from k [] = []
logged_from k (e ∷ es) = Logged (sequence_number k) e ∷ logged_from (k + 1) es

-- a record with its number, as an item
abbrev pub item_of : Numbered → Item
item_of n = Logged n.number n.entry

-- the gap before a record, as an item, if there is one
abbrev pub gap_items : Option GapOf → List Item
gap_items None = []
gap_items (Some g) = Gap g.first g.before ∷ []

-- the items of a batch, in order
abbrev pub items_in : Batch → List Item
items_in b = gap_items b.gap ++ map item_of b.entries.items

-- the gap before number `first`
abbrev pub gap_of : WalkPlace → ℕ → List Item
gap_of w first = if not w.fresh && nat_lt 0 (distance w.next first) then Gap w.next first ∷ [] else []

-- what entries from number `first` on bring to a walk
abbrev pub brought : WalkPlace → ℕ → List Entry → List Item
brought w first es = gap_of w first ++ shown_from first es

-- whether the oldest entries were asked for and begin before the next number
abbrev pub is_past : WalkPlace → ℕ → Bool
is_past w first = asks_oldest_now w && not w.fresh && not (is_ahead w.next first)

-- what is to be done with an answer
pub data NextAct : Type 0 where
  Refuse : NextAct
  Ask : NextAct
  End : NextAct
  Bring : (first : ℕ) → NextAct

-- whether so many entries from number `first` on, which is one, were asked for
abbrev pub fits : WalkPlace → ℕ → ℕ → Bool
fits w first count =
    nat_le count w.count
    && (is_number first
    && (asks_oldest_now w || nat_le (distance w.next first + count) w.count))

-- without records: no more, or ask for the oldest; with records and no first number: refused; if those are past: no
-- more; else they are taken if the count is right and they were asked for
abbrev pub verdict : WalkPlace → Option ℕ → ℕ → List Entry → NextAct
verdict w first count [] = if asks_oldest_now w then End else Ask
verdict w None count (e ∷ es) = Refuse
verdict w (Some first) count (e ∷ es) =
    if is_past w first then End
    else (if (count == length (e ∷ es)) && fits w first (length (e ∷ es)) then Bring first else Refuse)

-- what is answered by a verdict on these entries, and where the walk is then
abbrev pub IsTaken : WalkPlace → List Entry → NextAct → Result Progress BadReply → WalkPlace → Type 0
IsTaken old es Refuse (Err e) new = new ≡ old
IsTaken old es Ask (Ok AskOldest) new = new ≡ record old { asks_oldest = true }
IsTaken old es End (Ok CaughtUp) new = new ≡ old
IsTaken old es (Bring first) (Ok (BatchOf b)) new =
    (items_in b ≡ brought old first es)
    × (new ≡ record old { next = number_after first (length es); fresh = false; asks_oldest = false })
IsTaken old es _ _ new = ⊥

-- the same of parameters that say nothing to the walk, which are refused, or what they say
abbrev pub IsTakenFrom : WalkPlace → Option AckParameters → Result Progress BadReply → WalkPlace → Type 0
IsTakenFrom old None result new = IsTaken old [] Refuse result new
IsTakenFrom old (Some h) result new = IsTaken old h.entries (verdict old h.first h.count h.entries) result new
