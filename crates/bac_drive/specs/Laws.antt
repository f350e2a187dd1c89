-- What a run leaves of an archive, whatever machine is driven, in the words of the events.
use Rattle.std.specs.Prelude.{List, [], ◌∷◌, ◌++◌}
use Rattle.sqlite_trees.specs.Tree.{Trees}
use Rattle.bac_archive.specs.Put.{IsPut, LoseNothing}
use Rattle.bac_archive.specs.Schema.{HasArchive}
use Rattle.bac_archive.specs.declared.row.Put.{Put}
use Rattle.bac_drive.specs.Chain.{Chain}
use Rattle.bac_drive.specs.Event.{Event, Kept, Printed, Read, Sent, Waited, Warned}
use Rattle.bac_drive.specs.Happens.{Acts, Happens, Leaves, Scene}

-- the rows that these events put, in turn
abbrev pub puts_of : List Event → List Put
puts_of [] = []
puts_of (Sent octets to answer ∷ es) = puts_of es
puts_of (Waited within heard ∷ es) = puts_of es
puts_of (Read ms ∷ es) = puts_of es
puts_of (Kept puts ∷ es) = puts ++ puts_of es
puts_of (Printed text ∷ es) = puts_of es
puts_of (Warned text ∷ es) = puts_of es

-- What a database has behind events is what it had, with the rows of their batches put in turn, and nothing else.
abbrev pub RunsPut : {M P C : Type 0} → Acts M P C → Type 0
RunsPut {M = M} {P = P} {C = C} acts =
    (old new : Scene M P C) (es : List Event) → Chain (Happens acts) old es new →
    IsPut old.database new.database (puts_of es)

-- Whatever ends a run, a kill too, nothing is lost that an archive had.
abbrev pub LosesNothing : {M P C : Type 0} → Acts M P C → Type 0
LosesNothing {M = M} {P = P} {C = C} acts =
    (old : Scene M P C) (trees : Trees) → HasArchive old.database.schema → Leaves acts old trees →
    LoseNothing old.database.trees trees
