-- What the program may send, and to whom: the law that it sends nothing else. Read `MaySend`, then `SendsOnly`.
use Rattle.std.specs.Prelude.{◌≡◌, ◌⊎◌, ℕ, Bool, true, List, Option, None, IfOk, IfSome}
use Rattle.std.specs.List.{Contains}
use Rattle.sqlite_disk.specs.declared.Disk as disk
use Rattle.sqlite_disk.specs.declared.start.Start as start
use Rattle.sqlite_wal.specs.Reads.{AreClean}
use Rattle.bac_answers.specs.Way.{who_is_octets as own_who_is}
use Rattle.bac_apdu.specs.Npdu.{Place}
use Rattle.bac_apdu.specs.declared.service.read_property.ReadProperty.{ReadProperty}
use Rattle.bac_apdu.specs.declared.service.read_range.ReadRange.{ReadRange}
use Rattle.bac_apdu.specs.declared.service.write_property.WriteProperty.{WriteProperty}
use Rattle.bac_files.specs.Files.{FileOf}
use Rattle.bac_files.specs.declared.disk_files.DiskFiles.{DiskFiles}
use Rattle.bac_link.specs.Path.{Path}
use Rattle.bac_link.specs.Requests.{request_octets}
use Rattle.bac_link.specs.declared.request.Request.{Request}
use Rattle.bac_link.specs.declared.request.Request.TheVariants as request
use Rattle.bac_ports.specs.Port.{Opening, Receiving, Sending}
use Rattle.bac_ports.specs.Sockets.{SocketRules}
use Rattle.bac_query.specs.Requests.{who_is_octets}
use Rattle.bac_query.specs.declared.search.Search.{Search}
use Rattle.bac_command_line.specs.declared.job.Job.{Job}
use Rattle.bac_command_line.specs.declared.job.Job.TheVariants as job
use Rattle.bac_command_line.specs.declared.job.Stations.{Stations}
use Rattle.bac_command_line.specs.declared.job.Stations.TheVariants.{Listed, Input}

-- ---- which datagrams

-- a Confirmed-Request of this service, to a device of this network or behind a router
abbrev pub Requests : (Request → Type 0) → List ℕ → Type 0
Requests of octets =
    (path : Path) × (invoke : ℕ) × (r : Request) × of r × (octets ≡ request_octets path invoke r)

-- ReadProperty (clause 15.5)
abbrev pub IsReadProperty : Request → Type 0
IsReadProperty r = (asked : ReadProperty) × (r ≡ request.ReadProperty asked)

-- ReadRange (clause 15.8)
abbrev pub IsReadRange : Request → Type 0
IsReadRange r = (asked : ReadRange) × (r ≡ request.ReadRange asked)

-- WriteProperty (clause 15.9)
abbrev pub IsWriteProperty : Request → Type 0
IsWriteProperty r = (said : WriteProperty) × (r ≡ request.WriteProperty said)

-- one of the two that read
abbrev pub IsRead : Request → Type 0
IsRead r = IsReadProperty r ⊎ IsReadRange r

-- a Who-Is (clause 16.10)
abbrev pub AsksWho : List ℕ → Type 0
AsksWho octets = (search : Search) × (octets ≡ who_is_octets search)

-- a Who-Is to one device alone, by its router or by none
abbrev pub AsksItself : List ℕ → Type 0
AsksItself octets = (place : Option Place) × (octets ≡ own_who_is place)

-- one of the stations of the words; those of the input may be any
abbrev pub IsStation : Stations → List ℕ → Type 0
IsStation (Listed addresses) to = Contains addresses to
IsStation Input to = Unit {0}

-- ---- the table

-- What a tool may send, and to which address: `wp` alone writes. `serve` answers, and isn't spoken of.
abbrev pub MaySend : Job → List ℕ → List ℕ → Type 0
MaySend (job.Rp said) octets to = Requests IsReadProperty octets × (to ≡ said.asked.address)
MaySend (job.Logs said) octets to = Requests IsReadProperty octets × (to ≡ said.asked.address)
MaySend (job.Log said) octets to = Requests IsReadRange octets × (to ≡ said.asked.address)
MaySend (job.Wp said) octets to = Requests IsWriteProperty octets × (to ≡ said.asked.address)
MaySend (job.Wi said) octets to = AsksWho octets × IsStation said.stations to
MaySend (job.Keep asked) octets to = Requests IsRead octets ⊎ AsksItself octets
MaySend (job.Serve said) octets to = Unit {0}
MaySend other octets to = ⊥

-- ---- the law

-- what else is done to sockets: they are switched to tell each datagram, or not
abbrev pub AreSwitched : {S : Type 0} → (S → Bool → S → Type 0) → S → S → Type 0
AreSwitched switches old new = (on : Bool) × switches old on new

-- A seal on sockets and on each port that they open, which is whole or broken. A port that is opened has a whole one.
-- All that is done to them leaves it whole, but for a send of what may not be sent.
pub record Seal {S P : Type 0} (rules : SocketRules S P) (changes : S → S → Type 0)
    (may : List ℕ → List ℕ → Type 0) : Type 0 where
  pub sockets : S → Bool
  pub port : P → Bool
  pub opens : (old new : S) (address : List ℕ) (wait : ℕ) (answer : Opening P) → sockets old ≡ true
      → rules.opens old address wait answer new → (sockets new ≡ true) × IfOk answer (λ p. port p ≡ true)
  pub sends : (old new : P) (octets to : List ℕ) (answer : Sending) → may octets to → port old ≡ true
      → rules.sends old octets to answer new → port new ≡ true
  pub receives : (old new : P) (answer : Receiving) → port old ≡ true → rules.receives old answer new → port new ≡ true
  pub waits : (old new : P) (ms : ℕ) (answer : Receiving) → port old ≡ true → rules.receives_within old ms answer new
      → port new ≡ true
  pub closes : (old new : S) (last : P) → sockets old ≡ true → port last ≡ true → rules.closes old last new
      → sockets new ≡ true
  pub changed : (old new : S) → sockets old ≡ true → changes old new → sockets new ≡ true

-- Whatever the seal: whole before, it is whole afterwards. So nothing was sent but what may be.
abbrev pub SendsOnly : {S P : Type 0} → SocketRules S P → (S → S → Type 0) → (List ℕ → List ℕ → Type 0) → S → S
    → Type 0
SendsOnly rules changes may old new =
    (seal : Seal rules changes may) → seal.sockets old ≡ true → seal.sockets new ≡ true

-- a tool of which it is said whatever its files are: any but `serve`, and `keep` without `--stop`
abbrev pub IsBound : Job → Type 0
IsBound (job.Serve said) = ⊥
IsBound (job.Keep asked) = asked.stop ≡ true
IsBound other = Unit {0}

-- each file that was opened could be closed, and the disk gave back what was written
abbrev pub GaveBack : {F : Type 0} {s : start.Ghosts F} → disk.Ghosts (FileOf s) → DiskFiles F s → Type 0
GaveBack g files = (files.unclosed ≡ None) × IfSome files.closed (λ closed. AreClean g closed.log closed.db)
