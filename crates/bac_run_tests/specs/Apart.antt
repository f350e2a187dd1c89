-- What a run leaves alone.
use Rattle.std.specs.Prelude.{◌≡◌, ◌⊎◌, Bool, false}
use Rattle.sqlite_disk.specs.declared.start.Start as start
use Rattle.bac_run.specs.Setup.{HasFiles, IsOffFiles, Setup}
use Rattle.bac_tools.specs.Streams.{IsUntouched}

module _ {S C Q F G : Type 0} {s : start.Ghosts F} {t : start.Ghosts G} where
  -- nothing is read or opened: only the output and the errors are written
  abbrev pub OnlyWrites : (old new : Setup S C Q s t) → Type 0
  OnlyWrites old new = IsUntouched old.streams new.streams × IsOffFiles old new

  -- No socket is opened: they are as they were, or as they are once they are switched to tell datagrams, or not to. The
  -- input isn't read, and the clock isn't looked at.
  abbrev pub IsOffline : (S → Bool → S → Type 0) → Bool → (old new : Setup S C Q s t) → Type 0
  IsOffline traces on old new =
      ((new.streams.sockets ≡ old.streams.sockets) ⊎ traces old.streams.sockets on new.streams.sockets)
      × (new.streams.input ≡ old.streams.input) × (new.streams.clock ≡ old.streams.clock)

  -- an archive is read so, and the files that `keep` writes are as they were
  abbrev pub ReadsOffline : (S → Bool → S → Type 0) → (old new : Setup S C Q s t) → Type 0
  ReadsOffline traces old new = IsOffline traces false old new × HasFiles old new

  -- one file is written so, and that of the part before isn't opened
  abbrev pub StopsOffline : (S → Bool → S → Type 0) → Bool → (old new : Setup S C Q s t) → Type 0
  StopsOffline traces on old new =
      IsOffline traces on old new × (new.parts ≡ old.parts) × (new.folders ≡ old.folders)
