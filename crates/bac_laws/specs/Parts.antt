-- What is left of the parts of an archive, which is one file or a folder of them. Read `LeavesArchive`.
use Rattle.std.specs.Prelude.{◌≡◌, ◌⊎◌, ℕ, List, [], ◌∷◌}
use Rattle.bac_files.specs.Parts.{Listing, PartRules, Reading}
use Rattle.bac_files.specs.declared.not_opened.NotOpened.{NotOpened}
use Rattle.bac_parts.specs.Visits.{IsAsFound}

module _ {Q : Type 0} (rules : PartRules Q) where
  -- a part is left as it is found, if the disk gave back what was written and no fault of it shut the database; or it
  -- isn't opened
  abbrev pub LeavesPart : List ℕ → Q → Q → Type 0
  LeavesPart path old new = ((found : Reading) × rules.holds old path found new × IsAsFound found)
      ⊎ ((why : NotOpened) × rules.bars old path why new)

  -- so are the parts that are opened, one after the other, and nothing else is touched
  abbrev pub LeavesParts : List (List ℕ) → Q → Q → Type 0
  LeavesParts [] old new = new ≡ old
  LeavesParts (path ∷ more) old new = (mid : Q) × LeavesPart path old mid × LeavesParts more mid new

  -- No part is looked for; or those of an archive of this name are, and some are opened.
  abbrev pub LeavesArchive : List ℕ → Q → Q → Type 0
  LeavesArchive name old new = (new ≡ old)
      ⊎ ((listing : Listing) × (listed : Q) × rules.lists old name listing listed
      × ((opened : List (List ℕ)) × LeavesParts opened listed new))
