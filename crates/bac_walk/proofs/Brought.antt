-- What an answer says of the place that asked for it, and what a batch brings.
use Rattle.std.proofs.Common.{◌≡◌, ℕ, ◌<◌, Bool, true, false, not, ◌&&◌, ◌==◌, if◌then◌else◌, Option, Some, None, Ok, List, [], ◌∷◌, length, map, refl, sym, arith, append-nil}
use Rattle.std.proofs.lemmas.List.{length-append}
use Rattle.bac_link.specs.Ordinals.{is_ahead}
use Rattle.bac_link.specs.declared.item.Item.{Item}
use Rattle.bac_link.specs.Delivery.{items_of}
use Rattle.bac_log.specs.declared.entry.Entry.{Entry}
use Rattle.bac_walk.specs.Collects.{batches}
use Rattle.bac_link.specs.Heard.{AckParameters}
use Rattle.bac_walk.specs.Place.{WalkPlace}
use Rattle.bac_walk.specs.Walks.{asks_oldest_now, is_past, fits, gap_items, item_of, items_in, verdict, Refuse, Ask, End, Bring, IsTaken, IsTakenFrom}
use Rattle.bac_walk.specs.declared.batch.Batch.{Batch}
use Rattle.bac_walk.specs.declared.batch.Numbered.{Numbered}
use Rattle.bac_walk.specs.declared.outcome.Progress.TheVariants.{CaughtUp as IsUp}

first_true : (a b c : Bool) → (a && b && c) ≡ true → a ≡ true
first_true true b c is = refl
first_true false b c is = absurd (cc)

up_by : (w : WalkPlace) (first : Option ℕ) (count : ℕ) (es : List Entry) (after : WalkPlace) → IsTaken w es (verdict w first count es) (Ok IsUp) after →
    asks_oldest_now w ≡ true
up_by w first count [] after taken = none (asks_oldest_now w) refl taken
  where
    none : (b : Bool) → asks_oldest_now w ≡ b → IsTaken w [] (if b then End else Ask) (Ok IsUp) after → asks_oldest_now w ≡ true
    none true is h = is
    none false is h = absurd h
up_by w None count (e ∷ es) after taken = absurd taken
up_by w (Some f) count (e ∷ es) after taken = some (is_past w f) refl ((count == length (e ∷ es)) && fits w f (length (e ∷ es))) taken
  where
    some : (a : Bool) → is_past w f ≡ a → (b : Bool) → IsTaken w (e ∷ es) (if a then End else (if b then Bring f else Refuse)) (Ok IsUp) after → asks_oldest_now w ≡ true
    some true is b h = first_true (asks_oldest_now w) (not w.fresh) (not (is_ahead w.next f)) is
    some false is true h = absurd h
    some false is false h = absurd h

pub up_asks : (w : WalkPlace) (heard : Option AckParameters) (after : WalkPlace) → IsTakenFrom w heard (Ok IsUp) after → asks_oldest_now w ≡ true
up_asks w None after taken = absurd taken
up_asks w (Some h) after taken = up_by w h.first h.count h.entries after taken

length_items : (xs : List Numbered) → length (map item_of xs) ≡ length xs
length_items [] = refl
length_items (x ∷ xs) = omega (arith, length_items xs)

-- a batch has a record
pub full_batch : (b : Batch) → 0 < length (items_in b)
full_batch b = omega (arith, length-append (gap_items b.gap) (map item_of b.entries.items), length_items b.entries.items, b.some)

pub one_batch : (xs : List Item) → 0 < length xs → batches (xs ∷ []) ≡ 1
one_batch [] some = absurd (omega arith)
one_batch (x ∷ xs) some = refl

pub all_items : (xs : List Item) → xs ≡ items_of (xs ∷ [])
all_items xs = sym (append-nil xs)
