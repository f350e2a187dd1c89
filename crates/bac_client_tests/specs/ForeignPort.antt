-- A port with the device that isn't ours behind it, and what is printed of its log.
use Rattle.std.specs.Prelude.{◌≡◌, ℕ, ◌+◌, if◌then◌else◌, Ok, Err, List, [], ◌∷◌, ◌++◌, length}
use Rattle.std.specs.Io.KnownBytes.{Appends}
use Rattle.std.specs.Str.{bytes_eq}
use Rattle.bac_client_tests.specs.Foreign.{all_held, held, said_to}
use Rattle.bac_link.specs.Delivery.{Moment}
use Rattle.bac_link.specs.declared.item.Item.{Item}
use Rattle.bac_ports.specs.Port.{Receiving, Sending}
use Rattle.bac_query.specs.Reading.{Held}
use Rattle.bac_query.specs.declared.fetching.Fetched.{Fetched}
use Rattle.bac_query.specs.Ends.{end_line}
use Rattle.bac_query.specs.Items.{items_text}
use Rattle.bac_walk.specs.declared.outcome.WalkFault.{WalkFault}
use Rattle.bac_walk.specs.declared.outcome.WalkFault.TheVariants.{Lost}
use Rattle.bac_walk.specs.declared.outcome.Why.TheVariants.{CaughtUp, Fault}

-- the device is at 192.168.1.20:47808
abbrev pub device_at : List ℕ
device_at = 192 ∷ 168 ∷ 1 ∷ 20 ∷ 186 ∷ 192 ∷ []

-- what a send that is done does: the device has this question
abbrev pub IsPut : List ℕ → Sending → List ℕ → Type 0
IsPut octets (Ok done) question = question ≡ octets
IsPut octets (Err fault) question = Unit {0}

-- what a receive brings: of others anything, from the device its answer to the question that it has
abbrev pub IsBrought : List ℕ → Receiving → Type 0
IsBrought question (Ok heard) = heard.from ≡ device_at → heard.datagram ≡ said_to question
IsBrought question (Err fault) = Unit {0}

-- the moments of a link over the port that takes what comes from this address: those of the log, if it is the device's
abbrev pub moments_at : List ℕ → List Moment
moments_at peer = if bytes_eq peer device_at then held ∷ [] else []

-- What is printed: the lines of the first so many of its four records, and the end line with the number after these.
-- Caught up, none is left; and the only fault is a loss.
abbrev pub PrintsHeld : Fetched → Held → Held → Type 0
PrintsHeld done old new =
    (items : List Item) × (left : List Item) × (items ++ left ≡ all_held) × (done.next ≡ 7 + length items)
    × Appends old new (items_text items ++ end_line done.why done.next)
    × (done.why ≡ CaughtUp → left ≡ []) × ((e : WalkFault) → done.why ≡ Fault e → e ≡ Lost)
