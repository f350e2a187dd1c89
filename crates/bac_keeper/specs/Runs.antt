-- `bac keep` at the place of its archive. Read `RunsTool` from the end.
use Rattle.std.specs.Prelude.{◌≡◌, ◌⊎◌, ℕ, Bool, List, IfOk, Result, Ok, Err}
use Rattle.sqlite_disk.specs.declared.Disk as disk
use Rattle.sqlite_disk.specs.declared.start.Start as start
use Rattle.sqlite_wal.specs.Recovery.{Image}
use Rattle.bac_batch.specs.Batch.{Batched}
use Rattle.bac_device_poller.specs.declared.status.Status.{Status}
use Rattle.bac_drive.specs.Happens.{Acts}
use Rattle.bac_files.specs.Files.{FileOf}
use Rattle.bac_files.specs.Parts.{IsPlaced, blamed}
use Rattle.bac_files.specs.declared.disk_files.DiskFiles.{DiskFiles}
use Rattle.bac_files.specs.declared.folder.Place.{Place}
use Rattle.bac_historian.specs.Files.{IsLeftAt, KeepsAt, RunsAt}
use Rattle.bac_historian.specs.declared.fault.Fault.{Fault as RunFault}
use Rattle.bac_keep_command_line.specs.Orders.{order_as, order_in}
use Rattle.bac_keep_command_line.specs.declared.orders.Order.{Order}
use Rattle.bac_keeping.specs.Keeping.{Around, around}
use Rattle.bac_ports.specs.Sockets.{SocketRules, UsesSocket}
use Rattle.bac_ports.specs.declared.port.OpenFault.{OpenFault}
use Rattle.bac_print.specs.Output.{Held}
use Rattle.bac_site_poller.specs.Site.{SiteState}
use Rattle.bac_wire.specs.Stamp.{CivilTime}
use Rattle.bac_command_line.specs.Groups.{are_any}
use Rattle.bac_command_line.specs.declared.job.Keep.{Keep}
use Rattle.bac_keeper.specs.Ends.{EndsRun}
use Rattle.bac_keeper.specs.Machine.{Hands, hands}
use Rattle.bac_keeper.specs.Places.{AreUntouched, PlacesNone, RefusesWords}
use Rattle.bac_keeper.specs.declared.fault.Fault.{Fault}
use Rattle.bac_keeper.specs.declared.fault.Fault.TheVariants.{Unopened}

-- a port in place of the sockets
abbrev pub at_port : {S P C : Type 0} → P → Around S C → Around P C
at_port port room = around port room.clock room.output room.errors

-- the path of the file at a place, or, where that is blamed, of the part before it
abbrev pub path_told : (blames : Bool) → Place → List ℕ
path_told blames place = blamed (record place { blames_before = blames })

-- no port is opened at our own address, and nothing is done
abbrev pub OpensNone : {S P C F G : Type 0} {s : start.Ghosts F} {t : start.Ghosts G} → SocketRules S P → Order →
    (old new : Hands S C s t) → OpenFault → Type 0
OpensNone rules order old new why =
    rules.opens old.room.port order.local order.run.options.limits.wait_ms (Err why) new.room.port
    × (new ≡ hands (around new.room.port old.room.clock old.room.output old.room.errors) old.files old.parts)

-- where the archive is kept can't be told, and nothing else is done
abbrev pub FindsNone : {S C F G : Type 0} {s : start.Ghosts F} {t : start.Ghosts G} → Keep →
    (old new : Hands S C s t) → Result ℕ Fault → Type 0
FindsNone keep old new result =
    PlacesNone keep.file (are_any keep.groups) old.files new.files old.room.errors new.room.errors result
    × (new.room ≡ around old.room.port old.room.clock old.room.output new.room.errors) × (new.parts ≡ old.parts)

module _ {S P C F G : Type 0} {s : start.Ghosts F} {t : start.Ghosts G} (rules : SocketRules S P)
    (acts : Acts (Batched SiteState) P C) (f : disk.Ghosts (FileOf s)) (file : Image) (g : disk.Ghosts (FileOf t))
    (part : Image) where
  -- A run goes over a port and the file at a place: it ends so, and the closed files hold what it kept, or left.
  pub record RunsOver (order : Order) (place : Place) (blames : Bool) (old new : Hands S C s t) (port last : P)
      (came : Result Status RunFault) : Type 0 where
    pub runs : RunsAt f file g part acts order.run place blames old.files new.files new.parts (at_port port old.room)
        (at_port last new.room) came
    pub kept : IfOk came (KeepsAt f file g part acts order.run place new.files new.parts (at_port port old.room)
        (at_port last new.room))
    pub left : IsLeftAt f file g part acts order.run place old.files new.files new.parts (at_port port old.room)

  -- one port is opened at our own address for such a run, and closed
  abbrev pub RunsOpened : Order → Place → (blames : Bool) → (old new : Hands S C s t) → Result Status RunFault →
      Type 0
  RunsOpened order place blames old new came = UsesSocket rules order.local order.run.options.limits.wait_ms
      old.room.port (λ port last. RunsOver order place blames old new port last came) new.room.port

  -- at a place: no port is opened, which is the fault; or a run goes over one, and then the tool ends
  abbrev pub RunsPlaced : Order → Place → (old new : Hands S C s t) → Result ℕ Fault → Type 0
  RunsPlaced order place old new result =
      ((why : OpenFault) × OpensNone rules order old new why × (result ≡ Err (Unopened why)))
      ⊎ ((blames : Bool) × (came : Result Status RunFault) × (told : Held)
      × RunsOpened order place blames old
      (hands (around new.room.port new.room.clock new.room.output told) new.files new.parts) came
      × EndsRun came (path_told blames place) told new.room.errors result)

  -- what words ask for: it is done at the place of their archive, if that can be told
  abbrev pub RunsOrder : Keep → Order → (old new : Hands S C s t) → Result ℕ Fault → Type 0
  RunsOrder keep order old new result = FindsNone keep old new result
      ⊎ ((place : Place) × IsPlaced keep.file place × (files : DiskFiles F s) × AreUntouched old.files files
      × RunsPlaced order place (hands old.room files old.parts) new result)

  -- The words are refused, and nothing is done; or what they ask for is done.
  abbrev pub RunsTool : Keep → CivilTime → (old new : Hands S C s t) → Result ℕ Fault → Type 0
  RunsTool keep begun old new result =
      (RefusesWords (order_in keep begun) result × (new ≡ old))
      ⊎ ((order : Order) × (order_in keep begun ≡ Ok (order_as order)) × RunsOrder keep order old new result)
