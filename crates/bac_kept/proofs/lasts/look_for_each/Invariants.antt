use Rattle.std.proofs.Common.{map, take}
use Rattle.sqlite.specs.State.{HasCleanDisk, Survives}
use Rattle.sqlite.specs.Held.{state}
use Rattle.bac_archive.specs.Ask.{IsAsWas}
use Rattle.bac_archive.specs.Schema.{HasArchive}
use Rattle.bac_kept.specs.Lasts.{LooksForEach}
use Rattle.bac_kept.specs.Shown.{told_of}
use Rattle.bac_kept.proofs.lasts.look_for_each.Given as goal

-- of the logs so far the newest records are looked for, and the archive is as it was
abbrev pub invariant-loop-shown : goal.invariant-loop-shown
invariant-loop-shown g l =
    let old = state g.A.Store l.fn.conn in
    let now = state g.A.Store l.conn in
    (HasCleanDisk now → HasCleanDisk old)
    × (HasCleanDisk now → HasArchive old.now.schema → IsAsWas g.A.Store l.fn.conn l.conn
    × LooksForEach (old.now.trees 5) (map told_of (take l.shown-index l.fn.logs)) l.fn.found.items l.found.items)
    × (HasCleanDisk now → HasArchive old.now.schema → Survives old now (λ _. ⊥))
