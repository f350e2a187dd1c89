-- What driving a machine is. Read `Happens`, then `Runs`, `Stops` and `Leaves`.
use Rattle.std.specs.Prelude.{◌≡◌, ℕ, Bool, true, false, IsTrue, Option, List, length, Result, Ok, Err}
use Rattle.std.specs.Io.KnownBytes.{Appends}
use Rattle.sqlite.specs.Effect.{Database}
use Rattle.sqlite.specs.Held.{Held, state}
use Rattle.sqlite.specs.State.{HasCleanDisk, State}
use Rattle.sqlite_trees.specs.Tree.{Trees}
use Rattle.sqlite_trees.specs.declared.store.Store.{Ghosts}
use Rattle.bac_archive.specs.Put.{FailsToPut, IsPut}
use Rattle.bac_archive.specs.declared.row.Put.{Put}
use Rattle.bac_drive.specs.Chain.{Chain}
use Rattle.bac_ports.specs.Port.{Receiving, Sending}
use Rattle.bac_print.specs.Output.{AppendsPart}
use Rattle.bac_drive.specs.Event.{Event, Kept, Printed, Read, Sent, Waited, Warned}
use Rattle.bac_drive.specs.declared.driving.Fault.{Fault}
use Rattle.bac_drive.specs.declared.driving.Fault.TheVariants as fault
use Rattle.bac_drive.specs.declared.machine.Next.{Next}
use Rattle.bac_drive.specs.declared.machine.Next.TheVariants as next

-- what a machine says and makes of what it is told; and what a send, a receive and a reading of the clock are
pub record Acts (M P C : Type 0) : Type 1 where
  pub gives : M → Next → M → Type 0
  pub hears : M → Receiving → M → Type 0
  pub reads : M → ℕ → M → Type 0
  pub sends : P → List ℕ → List ℕ → Sending → P → Type 0
  pub receives : P → ℕ → Receiving → P → Type 0
  pub tells : C → ℕ → C → Type 0

-- the acts that are these
abbrev pub acting : {M P C : Type 0} → (M → Next → M → Type 0) → (M → Receiving → M → Type 0) → (M → ℕ → M → Type 0) →
    (P → List ℕ → List ℕ → Sending → P → Type 0) → (P → ℕ → Receiving → P → Type 0) → (C → ℕ → C → Type 0) →
    Acts M P C
acting gives hears reads sends receives tells =
    record { gives = gives; hears = hears; reads = reads; sends = sends; receives = receives; tells = tells }

-- a machine, and what it is driven over: a port, a clock, a database, and what the output and the errors have
pub record Scene (M P C : Type 0) : Type 0 where
  pub machine : M
  pub port : P
  pub clock : C
  pub database : Database
  pub output : Option (List ℕ)
  pub errors : Option (List ℕ)

-- all of it together
abbrev pub scene : {M P C : Type 0} → M → P → C → Database → Option (List ℕ) → Option (List ℕ) → Scene M P C
scene machine port clock database output errors =
    record { machine = machine; port = port; clock = clock; database = database; output = output; errors = errors }

-- an event is what was to be done
abbrev pub Does : Next → Event → Type 0
Does (next.Send octets to) (Sent sent peer answer) = (sent ≡ octets) × (peer ≡ to)
Does (next.Wait most) (Waited within heard) = within ≡ most
Does next.Read (Read ms) = Unit {0}
Does (next.Keep puts) (Kept all) = all ≡ puts.items
Does (next.Print text) (Printed all) = all ≡ text.items
Does (next.Warn text) (Warned all) = all ≡ text.items
Does other event = ⊥

-- what a machine makes of it that hears and reads so
abbrev pub Learns : {M : Type 0} → (M → Receiving → M → Type 0) → (M → ℕ → M → Type 0) → M → Event → M → Type 0
Learns hears reads old (Waited within heard) new = hears old heard new
Learns hears reads old (Read ms) new = reads old ms new
Learns hears reads old event new = new ≡ old

-- One event, of a machine alone: it says what is to be done, the event is that, and it is told what came of it.
abbrev pub Steps : {M : Type 0} → (M → Next → M → Type 0) → (M → Receiving → M → Type 0) → (M → ℕ → M → Type 0) →
    M → Event → M → Type 0
Steps {M = M} gives hears reads old event new =
    (wanted : Next) × (mid : M) × gives old wanted mid × Does wanted event × Learns hears reads mid event new

-- what the machine makes of it
abbrev pub IsTold : {M P C : Type 0} → Acts M P C → M → Event → M → Type 0
IsTold acts old event new = Learns acts.hears acts.reads old event new

-- what else changes by it: one thing
abbrev pub Changes : {M P C : Type 0} → Acts M P C → Scene M P C → Event → Scene M P C → Type 0
Changes acts old (Sent octets to answer) new =
    acts.sends old.port octets to answer new.port × (new ≡ record old { machine = new.machine; port = new.port })
Changes acts old (Waited within heard) new =
    acts.receives old.port within heard new.port × (new ≡ record old { machine = new.machine; port = new.port })
Changes acts old (Read ms) new =
    acts.tells old.clock ms new.clock × (new ≡ record old { machine = new.machine; clock = new.clock })
Changes acts old (Kept puts) new =
    IsPut old.database new.database puts × (new ≡ record old { machine = new.machine; database = new.database })
Changes acts old (Printed text) new =
    Appends old.output new.output text × (new ≡ record old { machine = new.machine; output = new.output })
Changes acts old (Warned text) new =
    Appends old.errors new.errors text × (new ≡ record old { machine = new.machine; errors = new.errors })

-- One event: the machine says what is to be done, it is done, and the machine is told what came of it.
abbrev pub Happens : {M P C : Type 0} → Acts M P C → Scene M P C → Event → Scene M P C → Type 0
Happens {M = M} acts old event new =
    (wanted : Next) × (mid : M) × acts.gives old.machine wanted mid × Does wanted event
    × IsTold acts mid event new.machine × Changes acts old event new

-- the machine says that it has ended, and nothing else changes
abbrev pub Ends : {M P C : Type 0} → Acts M P C → Scene M P C → Scene M P C → Type 0
Ends acts old new = acts.gives old.machine next.End new.machine × (new ≡ record old { machine = new.machine })

-- one thing that it wants is done, or it has ended
abbrev pub Takes : {M P C : Type 0} → Acts M P C → Scene M P C → Scene M P C → Bool → Type 0
Takes acts old new false = (e : Event) × Happens acts old e new
Takes acts old new true = Ends acts old new

-- Events lead from one scene to another, and then the machine has ended.
abbrev pub Runs : {M P C : Type 0} → Acts M P C → Scene M P C → Scene M P C → Type 0
Runs {M = M} {P = P} {C = C} acts old new =
    (es : List Event) × (last : Scene M P C) × Chain (Happens acts) old es last × Ends acts last new

-- A fault comes here, and this is left: the archive gives up on the rows that the machine wants to be put; the output
-- or the errors refuse a text that it wants there, and have a part of it at most; or there is no memory for what it
-- wants next, or no more is done. Nothing else is done then.
abbrev pub Fails : {M P C S : Type 0} → Ghosts S → Acts M P C → (at left : Scene M P C) → Fault → Type 0
Fails {M = M} {S = S} g acts at left (fault.Archive error) =
    (left ≡ record at { machine = left.machine; database = left.database })
    × ((wanted : Next) × (mid : M) × (puts : List Put) × acts.gives at.machine wanted mid × Does wanted (Kept puts)
    × ((held : Held S) × ((state g held).now ≡ at.database) × FailsToPut g held puts error))
Fails {M = M} g acts at left fault.Output =
    (left ≡ record at { machine = left.machine; output = left.output })
    × ((wanted : Next) × (mid : M) × (text : List ℕ) × acts.gives at.machine wanted mid
    × Does wanted (Printed text) × AppendsPart at.output left.output text)
Fails {M = M} g acts at left fault.Errors =
    (left ≡ record at { machine = left.machine; errors = left.errors })
    × ((wanted : Next) × (mid : M) × (text : List ℕ) × acts.gives at.machine wanted mid
    × Does wanted (Warned text) × AppendsPart at.errors left.errors text)
Fails g acts at left fault.Memory = left ≡ record at { machine = left.machine }
Fails g acts at left fault.Unending = left ≡ at

-- and the database, if it is open still, is as it was
abbrev pub IsStopped : {M P C S : Type 0} → Ghosts S → Acts M P C → (at left : Scene M P C) → (is_open : Bool) →
    Fault → Type 0
IsStopped g acts at left is_open fault =
    Fails g acts at left fault × (IsTrue is_open → left.database ≡ at.database)

-- no more is done behind as many events as 64 bits count
abbrev pub IsUnending : List Event → Fault → Type 0
IsUnending es fault.Unending = length es ≡ 18446744073709551615
IsUnending es other = Unit {0}

-- Events lead to where it is so.
abbrev pub Stops : {M P C S : Type 0} → Ghosts S → Acts M P C → (old left : Scene M P C) → (is_open : Bool) →
    Fault → Type 0
Stops {M = M} {P = P} {C = C} g acts old left is_open fault =
    (es : List Event) × (last : Scene M P C) × Chain (Happens acts) old es last
    × IsStopped g acts last left is_open fault × IsUnending es fault

-- These trees are those of the database behind such events.
abbrev pub Leaves : {M P C : Type 0} → Acts M P C → Scene M P C → Trees → Type 0
Leaves {M = M} {P = P} {C = C} acts old trees =
    (es : List Event) × (last : Scene M P C) × Chain (Happens acts) old es last × (trees ≡ last.database.trees)

-- Where all that was done in a database was committed, it is so still, unless an error shut it.
abbrev pub StaysSettled : {T E : Type 0} → (old new : State) → Result T E → Type 0
StaysSettled old new (Ok value) = HasCleanDisk new → old.committed ≡ old.now → new.committed ≡ new.now
StaysSettled old new (Err error) =
    HasCleanDisk new → old.committed ≡ old.now → IsTrue new.is_open → new.committed ≡ new.now
