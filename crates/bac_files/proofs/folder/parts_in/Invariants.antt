use Rattle.std.proofs.Common.{ℕ, List}
use Rattle.bac_files.specs.Parts.{AreNamed, ArePartsOf}
use Rattle.bac_files.proofs.folder.parts_in.Given as goal

-- no entry was told by an error, and the parts among them are found
abbrev pub invariant-loop-entry : goal.invariant-loop-entry
invariant-loop-entry g l = (names : List (List ℕ)) × AreNamed l.yielded names × ArePartsOf names l.found
