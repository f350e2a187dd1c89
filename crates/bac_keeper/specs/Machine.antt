-- What the tool has of the machine that it runs on.
use Rattle.std.specs.Prelude.{◌≡◌, ℕ, List, Option}
use Rattle.sqlite_disk.specs.declared.start.Start as start
use Rattle.bac_files.specs.declared.disk_files.DiskFiles.{DiskFiles}
use Rattle.bac_keeping.specs.Keeping.{Around, around}
use Rattle.bac_keeper.specs.declared.machine.Machine.{Machine}

-- beside its files: sockets, a clock, and what the output and the errors have
abbrev pub in_machine : {S C W V : Type 0} → (W → Option (List ℕ)) → (V → Option (List ℕ)) → Machine S C W V
    → Around S C
in_machine output errors machine =
    around machine.sockets.now machine.clock.now (output machine.output.now) (errors machine.errors.now)

-- each part of it is still the one that was lent
pub record IsSameMachine {S C W V : Type 0} (old new : Machine S C W V) : Type 0 where
  pub sockets : new.sockets.ghost_name ≡ old.sockets.ghost_name
  pub clock : new.clock.ghost_name ≡ old.clock.ghost_name
  pub output : new.output.ghost_name ≡ old.output.ghost_name
  pub errors : new.errors.ghost_name ≡ old.errors.ghost_name

-- all of it: what is there beside the files, the files of the archive, and those of the part that it follows on
pub record Hands (S C : Type 0) {F G : Type 0} (s : start.Ghosts F) (t : start.Ghosts G) : Type 0 where
  pub room : Around S C
  pub files : DiskFiles F s
  pub parts : DiskFiles G t

-- these
abbrev pub hands : {S C F G : Type 0} {s : start.Ghosts F} {t : start.Ghosts G} → Around S C → DiskFiles F s
    → DiskFiles G t → Hands S C s t
hands room files parts = record { room = room; files = files; parts = parts }
