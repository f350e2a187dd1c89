-- What is done over the database in a file, which is opened, and closed behind it. Read `Works`.
use Rattle.std.specs.Prelude.{◌≡◌, ℕ, false, List, Result, Ok, Err}
use Rattle.sqlite_disk.specs.declared.Disk as disk
use Rattle.sqlite_disk.specs.declared.start.Start as start
use Rattle.sqlite_store.specs.declared.store.FileStore.{FileStore}
use Rattle.sqlite_trees.specs.declared.store.Store.{Ghosts}
use Rattle.sqlite_wal.specs.Recovery.{Image}
use Rattle.sqlite.specs.Files.{over_files}
use Rattle.sqlite.specs.Held.{Held as Connected, state}
use Rattle.sqlite.specs.State.{State}
use Rattle.bac_files.specs.Files.{FileOf, IsNamed, IsOpenedBy}
use Rattle.bac_files.specs.declared.disk_files.DiskFiles.{DiskFiles}
use Rattle.bac_files.specs.declared.not_opened.NotOpened.{NotOpened}
use Rattle.bac_parts.specs.Archives.{IsNotOpened, IsShut}
use Rattle.bac_parts.specs.declared.works.Done.{Done}

-- a connection over some store, as it was opened and as it is left
pub record Passage : Type 1 where
  pub Store : Type 0
  pub ghosts : Ghosts Store
  pub old : Connected Store
  pub new : Connected Store

-- from the one to the other
abbrev pub passage : {S : Type 0} → Ghosts S → Connected S → Connected S → Passage
passage {S} ghosts old new = record { Store = S; ghosts = ghosts; old = old; new = new }

-- what the connection showed as it was opened
abbrev pub opened_state : Passage → State
opened_state over = state over.ghosts over.old

-- what it shows as it is left
abbrev pub left_state : Passage → State
left_state over = state over.ghosts over.new

-- what a work is: the connection as it was opened and as it is left, what it is done with before it and behind it, and
-- what comes of it
abbrev pub Does : Type 0 → Type 0 → Type 1
Does X T = Passage → X → X → T → Type 0

module _ {F X : Type 0} {s : start.Ghosts F} where
  -- the file isn't opened for this reason, and nothing is done
  pub record IsUndone (path : List ℕ) (old new : DiskFiles F s) (before after : X) (why : NotOpened) : Type 0 where
    pub reason : IsNotOpened path false new why
    pub still : after ≡ before
    pub closed : (new.closed ≡ old.closed) × (new.unclosed ≡ old.unclosed)

module _ {F X T : Type 0} {s : start.Ghosts F} where
  -- this was done over the open database, which was closed then, or couldn't be
  pub record IsDone (g : disk.Ghosts (FileOf s)) (image : Image) (does : Does X T) (path : List ℕ)
      (old new : DiskFiles F s) (before after : X) (done : Done T) : Type 0 where
    pub opened : Connected (FileStore (FileOf s) g)
    pub last : Connected (FileStore (FileOf s) g)
    pub is : IsOpenedBy image opened
    pub did : does (passage over_files opened last) before after done.came
    pub named : IsNamed path false new
    pub shut : IsShut last old new done.closed

  -- a work was done over the database in the file of this name, if that is opened
  abbrev pub Works : disk.Ghosts (FileOf s) → Image → Does X T → List ℕ → DiskFiles F s → DiskFiles F s → X → X
      → Result (Done T) NotOpened → Type 0
  Works g image does path old new before after (Ok done) = IsDone g image does path old new before after done
  Works g image does path old new before after (Err why) = IsUndone path old new before after why
