-- Nothing is made up: what `bac keep` adds to the table `items` is what came. Read `AddsWhatCame`, then `AddsOnly`.
--
-- A run polls log 7, of which record 41 was kept before, and this is sent and comes, to and from 10.0.0.9:47808: a
-- ReadRange for the records from 41 on; an ACK with 41 and 42, where 42 is of 2026-12-01 08:15:00, the REAL 21.5, no
-- flag set. Behind the run the table has the row of 41 as before, and beside it no other row than one like this:
--   (7 * 32768 + epoch) * 4294967296 + 42 | NULL | 2026-12-01T08:15:00.00 | 21.5 | 21.5 | 0000
-- or that of a gap. With 21.6 as its datum or its value, another minute, or another number the row would be no
-- record's that came, so no program that puts it keeps to this; nor one that puts it where no such ACK came, or where
-- it came from another address than that of the device of log 7, or for another log there.
use Rattle.std.specs.Prelude.{◌≡◌, ◌≢◌, ◌⊎◌, ℕ, ℤ, pos, ◌+◌, ◌*◌, List, [], ◌∷◌, None, Ok, Some, IfSome, codes}
use Rattle.std.specs.List.{Contains}
use Rattle.sqlite_disk.specs.declared.Disk as disk
use Rattle.sqlite_disk.specs.declared.start.Start as start
use Rattle.sqlite_rules.specs.Cast.{cast}
use Rattle.sqlite_schema.specs.declared.schema.Kind.TheVariants.{Real as Number}
use Rattle.sqlite_value.specs.Order.{Row as Columns, column}
use Rattle.sqlite_value.specs.declared.value.Value.{Value}
use Rattle.sqlite_value.specs.declared.value.Value.TheVariants.{Int, Null, Real, Text}
use Rattle.sqlite_wal.specs.Files.{image_at}
use Rattle.sqlite.specs.Effect.{Database}
use Rattle.sqlite.specs.Values.{bound_value, or_null}
use Rattle.bac_archive.specs.Put.{HaveOwnIds}
use Rattle.bac_archive.specs.Schema.{no_schema}
use Rattle.bac_files.specs.Files.{FileOf, IsDoneTo}
use Rattle.bac_files.specs.declared.disk_files.DiskFiles.{DiskFiles}
use Rattle.bac_plan.specs.Addresses.{peer_in}
use Rattle.bac_print.specs.Entries.{datum_text, flags_text}
use Rattle.bac_row_ids.specs.Rows.{stamp_text, value_of}
use Rattle.bac_socket_notes.specs.Ports.{Event, Received}
use Rattle.bac_walk.specs.declared.batch.Numbered.{Numbered}
use Rattle.bac_wire.specs.Primitive.{Id}
use Rattle.bac_laws.specs.Printed.{HasRecord}

-- ---- rows of the table `items`

-- that of a gap: it has a last number, and no date and time, no value and no flags; perhaps that the log began anew
abbrev pub IsGapRow : Columns → Type 0
IsGapRow row = (id : ℤ) × (last : ℕ) × (doubt : Value) × ((doubt ≡ Null) ⊎ (doubt ≡ Text (codes "or began anew")))
    × (row ≡ Int id ∷ Null ∷ Int (pos last) ∷ Null ∷ Null ∷ doubt ∷ Null ∷ [])

-- that of this record, in an epoch of a log: with its number in the id, no last number, its date and time, the number
-- that its datum is (as SQLite keeps it: NULL if it is none, and a zero has no sign), its datum, its status flags
abbrev pub IsRecordRow : ℕ → Numbered → Columns → Type 0
IsRecordRow era held row = row ≡ Int (pos (era * 4294967296 + held.number)) ∷ Null ∷ Null
    ∷ Text (stamp_text held.entry) ∷ cast Number (bound_value (or_null Real (value_of held.entry.datum)))
    ∷ Text (datum_text held.entry.datum) ∷ Text (flags_text held.entry.flags) ∷ []

-- the tables `logs` and `devices` have a log under this id, with this instance, of a device that is asked at this
-- address
abbrev pub HasLogAt : Database → ℕ → ℕ → List ℕ → Type 0
HasLogAt db log instance from = (device : ℕ)
    × ((row : Columns) × Contains (db.trees 3) row × (column row 0 ≡ Int (pos log))
    × (column row 2 ≡ Int (pos device)) × (column row 3 ≡ Int (pos instance)))
    × ((row : Columns) × Contains (db.trees 1) row × (column row 0 ≡ Int (pos device))
    × (address : List ℕ) × (column row 2 ≡ Text address) × (peer_in address ≡ Some from))

-- That of a record that came: a datagram came from the device of its log, the ACK of a ReadRange for that log, and has
-- the record under its number.
abbrev pub IsOfRecord : List Event → Database → Columns → Type 0
IsOfRecord es db row = (log : ℕ) × (epoch : ℕ) × (held : Numbered) × IsRecordRow (log * 32768 + epoch) held row
    × (instance : ℕ) × (from : List ℕ) × HasLogAt db log instance from
    × ((datagram : List ℕ) × Contains es (Received (Ok (record { from = from; datagram = Some datagram })))
    × ((object : Id) × (object.instance ≡ instance) × HasRecord object datagram held.number held.entry))

-- ---- what is added

-- each row was there before, or is that of a gap, or that of a record that came; where no two devices and no two logs
-- had one id, as SQLite keeps them
abbrev pub AddsOnly : List Event → Database → Database → Type 0
AddsOnly es found left = HaveOwnIds (found.trees 1) → HaveOwnIds (found.trees 3)
    → (row : Columns) → Contains (left.trees 5) row
    → Contains (found.trees 5) row ⊎ (IsGapRow row ⊎ IsOfRecord es left row)

-- So it is of what two files held, and hold once they are closed; if they held something, or no part before them was
-- read, whose newest items a new part begins with.
abbrev pub AddsWhatCame : {F G : Type 0} {s : start.Ghosts F} {t : start.Ghosts G} → disk.Ghosts (FileOf s) →
    (files closed : DiskFiles F s) → (parts : DiskFiles G t) → List Event → Type 0
AddsWhatCame {s = s} g files closed parts es = files.closed ≡ None → IfSome closed.closed
    (IsDoneTo g (image_at s) (λ found left. (found.schema ≢ no_schema) ⊎ (parts.closed ≡ None)
    → AddsOnly es found left))

-- the exit status where an archive is of no use, 6 or 7, or memory is wanting, 5
abbrev pub IsUseless : ℕ → Type 0
IsUseless status = (status ≡ 5) ⊎ ((status ≡ 6) ⊎ (status ≡ 7))
