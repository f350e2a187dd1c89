-- What a run of `bac keep` means that ended with 0. Read `IsKeptNow`.
use Rattle.std.specs.Prelude.{◌≡◌, ℕ, Bool, true, false, List, Option, Some, IfSome, IsSome, Ok, String, count_by}
use Rattle.std.specs.Io.KnownBytes.{Keeps}
use Rattle.std.specs.List.{All, Contains}
use Rattle.std.specs.declared.alloc.Global.{Global}
use Rattle.sqlite_disk.specs.declared.Disk as disk
use Rattle.sqlite_disk.specs.declared.start.Start as start
use Rattle.sqlite_wal.specs.Recovery.{Image}
use Rattle.sqlite.specs.Effect.{Database}
use Rattle.bac_batch.specs.Batch.{Batched}
use Rattle.bac_device_poll.specs.declared.turn.DeviceEnd.TheVariants.{Done}
use Rattle.bac_device_poller.specs.declared.doing.Doing.TheVariants.{Ended}
use Rattle.bac_drive.specs.Happens.{Acts, Runs}
use Rattle.bac_files.specs.Files.{FileOf, IsDoneTo}
use Rattle.bac_files.specs.Parts.{IsPlaced}
use Rattle.bac_files.specs.declared.disk_files.DiskFiles.{DiskFiles}
use Rattle.bac_files.specs.declared.folder.Place.{Place}
use Rattle.bac_historian.specs.Kept.{IsReady}
use Rattle.bac_keep_command_line.specs.Orders.{order_as, order_in}
use Rattle.bac_keep_command_line.specs.declared.orders.Order.{Order}
use Rattle.bac_keeping.specs.Keeping.{Around, IsSet, amid, around, at_first}
use Rattle.bac_keeping.specs.RecordLaws.{HasNamed, RiseThere}
use Rattle.bac_keeping.specs.declared.run.Run.{Run}
use Rattle.bac_plan.specs.declared.named.Named.{Named}
use Rattle.bac_ports.specs.Sockets.{SocketRules, UsesSocket}
use Rattle.bac_print.specs.Output.{Held}
use Rattle.bac_run.specs.Setup.{Setup}
use Rattle.bac_site_poller.specs.Site.{SiteState}
use Rattle.bac_site_poller.specs.SiteLaws.{is_of, seats_of}
use Rattle.bac_site_poller.specs.declared.seat.Seat.{Seat}
use Rattle.bac_tools.specs.Finding.{IsListWithin}
use Rattle.bac_wire.specs.Stamp.{CivilTime}
use Rattle.bac_command_line.specs.Devices.{devices_of}
use Rattle.bac_command_line.specs.Jobs.{with_groups}
use Rattle.bac_command_line.specs.declared.group.Group.{Group}
use Rattle.bac_command_line.specs.declared.job.Keep.{Keep}

-- the devices of `keep` are those of its words, for which the input isn't read, or those that it lists
abbrev pub HasDevices : Bool → Keep → Held → Held → Keep → Type 0
HasDevices false asked input left which = (which ≡ asked) × (left ≡ input)
HasDevices true asked input left which =
    (groups : List Group) × IsListWithin devices_of 1048576 input left (Ok groups) × (which ≡ with_groups asked groups)

-- nothing more is asked of a device, which was heard to the end
abbrev pub IsHeardOut : Seat → Type 0
IsHeardOut seat = seat.poller.doing ≡ Ended Done

-- so it is of each device of a site, and none is left out, at whatever address
abbrev pub AreHeardOut : (begun last : SiteState) → Type 0
AreHeardOut begun last = All IsHeardOut (seats_of last)
    × ((peer : List ℕ) → count_by (is_of peer) (seats_of last) ≡ count_by (is_of peer) begun.waiting)

module _ {P C G : Type 0} {t : start.Ghosts G} (acts : Acts (Batched SiteState) P C) (g : disk.Ghosts (FileOf t))
    (part : Image) where
  -- What was found, or the part that follows on the one before, is polled: as that begins, each device that words name
  -- is on record; and each device on record that isn't stopped was heard to the end.
  pub record IsKept (run : Run) (before : Option (String Global)) (parts : DiskFiles G t) (by left : Around P C)
      (found kept : Database) : Type 0 where
    pub ready : Database
    pub is_ready : IsReady g part before parts found ready
    pub begun : Database
    pub site : SiteState
    pub set : IsSet run ready begun site
    pub named : RiseThere ready → (n : Named) → Contains run.named.items n → HasNamed set.told n
    pub last : Batched SiteState
    pub runs : Runs acts (at_first by site begun) (amid left last kept)
    pub heard : AreHeardOut site last.machine

module _ {S P C W Q F G : Type 0} {s : start.Ghosts F} {t : start.Ghosts G} (rules : SocketRules S P)
    (acts : Acts (Batched SiteState) P W) (f : disk.Ghosts (FileOf s)) (file : Image) (g : disk.Ghosts (FileOf t))
    (part : Image) (waits : W) where
  -- One port was opened, and closed files hold the archive in which all that the words choose was kept over it; nothing
  -- was told behind that.
  pub record IsAllKept (asked : Keep) (moment : CivilTime) (old new : Setup S C Q s t) : Type 0 where
    pub order : Order
    pub by_words : order_in asked moment ≡ Ok (order_as order)
    pub place : Place
    pub placed : IsPlaced asked.file place
    pub is_closed : IsSome new.files.closed
    pub waited : W
    pub said : Held
    pub quiet : Keeps said new.streams.errors
    pub over : UsesSocket rules order.local order.run.options.limits.wait_ms old.streams.sockets
        (λ port last. IfSome new.files.closed (IsDoneTo f file
        (IsKept acts g part order.run place.before new.parts (around port waits old.streams.output old.streams.errors)
        (around last waited new.streams.output said))))
        new.streams.sockets

  -- so it was from a moment on that the clock told
  abbrev pub IsKeptNow : (C → Option CivilTime → C → Type 0) → Keep → (old new : Setup S C Q s t) → Type 0
  IsKeptNow tells asked old new = (moment : CivilTime) × tells old.streams.clock (Some moment) new.streams.clock
      × IsAllKept asked moment old new
