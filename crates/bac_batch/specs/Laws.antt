-- What the batches of a machine are to those of the machine inside, in the words of events.
use Rattle.std.specs.Prelude.{◌≡◌, ◌⊎◌, ℕ, ◌-◌, ◌<◌, ◌≤◌, Bool, true, false, Option, None, Some, List, [], ◌∷◌, ◌++◌}
use Rattle.std.specs.Prelude.{filter, filter_map, flat_map, length, map}
use Rattle.std.specs.List.{All}
use Rattle.bac_archive.specs.declared.row.Put.{Put}
use Rattle.bac_drive.specs.Chain.{Chain}
use Rattle.bac_ports.specs.Port.{Receiving}
use Rattle.bac_drive.specs.Event.{Event, Kept, Printed, Read, Sent, Waited, Warned}
use Rattle.bac_drive.specs.Happens.{Acts, Happens, Scene, Steps}
use Rattle.bac_drive.specs.Laws.{puts_of}
use Rattle.bac_drive.specs.declared.machine.Next.{Next}
use Rattle.bac_drive.specs.declared.machine.Next.TheVariants as next
use Rattle.bac_batch.specs.Batch.{Batched, GivesBatched, HearsBatched, HoldsRows, ReadsBatched}

-- ---- events

-- over the port, or the clock
abbrev pub is_traffic : Event → Bool
is_traffic (Sent octets to answer) = true
is_traffic (Waited within heard) = true
is_traffic (Read ms) = true
is_traffic (Kept puts) = false
is_traffic (Printed text) = false
is_traffic (Warned text) = false

-- a line
abbrev pub is_line : Event → Bool
is_line (Printed text) = true
is_line (Warned text) = true
is_line (Sent octets to answer) = false
is_line (Waited within heard) = false
is_line (Read ms) = false
is_line (Kept puts) = false

-- rows, if there are any
abbrev pub rows_of : Event → Option (List Put)
rows_of (Kept []) = None
rows_of (Kept (put ∷ puts)) = Some (put ∷ puts)
rows_of (Sent octets to answer) = None
rows_of (Waited within heard) = None
rows_of (Read ms) = None
rows_of (Printed text) = None
rows_of (Warned text) = None

-- what goes over the port and the clock, in order
abbrev pub traffic_of : List Event → List Event
traffic_of es = filter is_traffic es

-- the lines, in order
abbrev pub lines_of : List Event → List Event
lines_of es = filter is_line es

-- the rows that are put in one transaction, and in the next, and so on
abbrev pub keeps_of : List Event → List (List Put)
keeps_of es = filter_map rows_of es

-- a line that is held, as the event that it comes to
abbrev pub line_held : Next → Option Event
line_held (next.Print text) = Some (Printed text.items)
line_held (next.Warn text) = Some (Warned text.items)
line_held (next.Send datagram to) = None
line_held (next.Wait most) = None
line_held next.Read = None
line_held (next.Keep puts) = None
line_held next.End = None

-- those that are held, in order
abbrev pub lines_held : List Next → List Event
lines_held behind = filter_map line_held behind

-- lists, one behind the other
abbrev pub joined : {X : Type 0} → List (List X) → List X
joined xss = flat_map (λ xs. xs) xss

-- ---- the machine inside

-- the same event; of a wait, it may end sooner
abbrev pub IsCutShort : Event → Event → Type 0
IsCutShort (Waited less heard) (Waited most other) = (less ≤ most) × (heard ≡ other)
IsCutShort e other = e ≡ other

-- so is each of them
abbrev pub AreCutShort : List Event → List Event → Type 0
AreCutShort [] [] = Unit {0}
AreCutShort (e ∷ es) (f ∷ fs) = IsCutShort e f × AreCutShort es fs
AreCutShort es fs = ⊥

-- a line is to be done
abbrev pub IsLine : Next → Type 0
IsLine (next.Print text) = Unit {0}
IsLine (next.Warn text) = Unit {0}
IsLine other = ⊥

-- a wait, or the end
abbrev pub IsWish : Next → Type 0
IsWish (next.Wait most) = Unit {0}
IsWish next.End = Unit {0}
IsWish other = ⊥

-- behind the batch stands what the machine inside wanted last, which is a wait or the end
abbrev pub IsAhead : {M : Type 0} → (M → Next → M → Type 0) → M → Batched M → Type 0
IsAhead gives last b =
    (wish : Next) × (lines : List Next) × (b.puts ≡ []) × (b.behind ≡ lines ++ wish ∷ []) × All IsLine lines
    × IsWish wish × gives last wish b.machine

-- the machine inside is at this; or it has also wanted what stands at the end of what is held
abbrev pub IsAt : {M : Type 0} → (M → Next → M → Type 0) → M → Batched M → Type 0
IsAt gives last b = ((last ≡ b.machine) × All IsLine b.behind) ⊎ IsAhead gives last b

-- The machine inside makes these events from one place to another. Over the port and the clock they are the same as
-- those of its batches, in the same order, but that a wait may be cut short. Its rows, and its lines, are those that
-- were put and told, and those that are held. A batch is the rows of at most 64 replies in a row.
pub record Inside {M : Type 0} (gives : M → Next → M → Type 0) (steps : M → Event → M → Type 0) (old : M)
    (es : List Event) (new : Batched M) (inner : List Event) (last : M) : Type 0 where
  pub run : Chain steps old inner last
  pub at : IsAt gives last new
  pub traffic : AreCutShort (traffic_of es) (traffic_of inner)
  pub rows : puts_of inner ≡ puts_of es ++ new.puts
  pub lines : lines_of inner ≡ lines_of es ++ lines_held new.behind
  pub batches : (groups : List (List (List Put))) × (held : List (List Put))
      × (keeps_of inner ≡ joined groups ++ held) × (keeps_of es ≡ map joined groups) × (joined held ≡ new.puts)
      × All (λ group. length group ≤ 64) groups

-- ---- laws

-- nothing is held
abbrev pub HoldsNothing : {M : Type 0} → Batched M → Type 0
HoldsNothing b = (b.puts ≡ []) × (b.behind ≡ [])

-- one event of a machine whose rows are held
abbrev pub BatchedSteps : {M : Type 0} → (M → Next → M → Type 0) → (M → Receiving → M → Type 0) →
    (M → ℕ → M → Type 0) → Batched M → Event → Batched M → Type 0
BatchedSteps gives hears reads = Steps (GivesBatched gives) (HearsBatched hears) (ReadsBatched reads)

-- What happens while a machine is driven is steps of the machine: so these laws speak of it too.
abbrev pub StepsHappen : {M P C : Type 0} → Acts M P C → Type 0
StepsHappen {M = M} {P = P} {C = C} acts =
    (old new : Scene M P C) (es : List Event) → Chain (Happens acts) old es new →
    Chain (Steps acts.gives acts.hears acts.reads) old.machine es new.machine

-- Nothing is lost or made up: the machine inside makes such events.
abbrev pub LosesNothing : {M : Type 0} → (M → Next → M → Type 0) → (M → Receiving → M → Type 0) →
    (M → ℕ → M → Type 0) → Type 0
LosesNothing {M = M} gives hears reads =
    (old new : Batched M) (es : List Event) → HoldsNothing old → Chain (BatchedSteps gives hears reads) old es new →
    (inner : List Event) × (last : M) × Inside gives (Steps gives hears reads) old.machine es new inner last

-- At the end nothing is held: it ends where the machine inside does, whose rows and lines are those that were put and
-- told.
abbrev pub EndsWhole : {M : Type 0} → (M → Next → M → Type 0) → (M → Receiving → M → Type 0) →
    (M → ℕ → M → Type 0) → Type 0
EndsWhole {M = M} gives hears reads =
    (old last new : Batched M) (es : List Event) → HoldsNothing old →
    Chain (BatchedSteps gives hears reads) old es last → GivesBatched gives last next.End new →
    (inner : List Event) × (end : M) × Chain (Steps gives hears reads) old.machine inner end
    × gives end next.End new.machine × AreCutShort (traffic_of es) (traffic_of inner) × (puts_of inner ≡ puts_of es)
    × (lines_of inner ≡ lines_of es)

-- A line stands behind its rows: when it is told, all that the machine inside wanted to be put has been put before,
-- and what it wanted to be told has been told up to that line.
abbrev pub LinesStandBehind : {M : Type 0} → (M → Next → M → Type 0) → (M → Receiving → M → Type 0) →
    (M → ℕ → M → Type 0) → Type 0
LinesStandBehind {M = M} gives hears reads =
    (old new : Batched M) (es : List Event) (line : Event) → HoldsNothing old → is_line line ≡ true →
    Chain (BatchedSteps gives hears reads) old (es ++ line ∷ []) new →
    (inner : List Event) × (last : M) × Inside gives (Steps gives hears reads) old.machine (es ++ line ∷ []) new inner
    last
    × (puts_of inner ≡ puts_of es)

-- the machine inside wanted these rows to be put; what had gone over the port and the clock by then is the beginning of
-- what had by the end of these events
abbrev pub WasWanted : {M : Type 0} → (M → Next → M → Type 0) → (M → Receiving → M → Type 0) → (M → ℕ → M → Type 0) →
    M → List Event → List Put → Type 0
WasWanted {M = M} gives hears reads start front rows =
    (before behind : List Event) × (last : M)
    × Chain (Steps gives hears reads) start (before ++ Kept rows ∷ behind) last
    × ((early late : List Event) × (traffic_of front ≡ early ++ late) × AreCutShort early (traffic_of before))

-- A batch is the rows of at most 64 replies, in order, each of which the machine inside wanted to be put before.
abbrev pub BatchesAreReplies : {M : Type 0} → (M → Next → M → Type 0) → (M → Receiving → M → Type 0) →
    (M → ℕ → M → Type 0) → Type 0
BatchesAreReplies {M = M} gives hears reads =
    (old new : Batched M) (front behind : List Event) (puts : List Put) → HoldsNothing old →
    Chain (BatchedSteps gives hears reads) old (front ++ Kept puts ∷ behind) new →
    (replies : List (List Put)) × (puts ≡ joined replies) × (length replies ≤ 64)
    × All (WasWanted gives hears reads old.machine front) replies

-- Where it waits, rows that are held came less than 100 milliseconds before, by the clock as it was read last, and it
-- waits no longer than they may be held.
abbrev pub WaitsWithYoungRows : {M : Type 0} → (M → Next → M → Type 0) → Type 0
WaitsWithYoungRows {M = M} gives =
    (old new : Batched M) (most : ℕ) → GivesBatched gives old (next.Wait most) new → HoldsRows new →
    (new.time - new.since < 100) × (most ≤ 100 - (new.time - new.since))
