use Rattle.std.proofs.Common.{List, map, take}
use Rattle.std.specs.Io.KnownBytes.{Appends}
use Rattle.sqlite.specs.State.{HasCleanDisk, Survives}
use Rattle.sqlite.specs.Held.{state}
use Rattle.bac_archive.specs.Ask.{IsAsWas}
use Rattle.bac_archive.specs.Schema.{HasArchive}
use Rattle.bac_kept.specs.Parts.{PrintsLogs}
use Rattle.bac_kept.specs.Shown.{told_of}
use Rattle.bac_kept.proofs.parts.print_logs.Given as goal

-- the text of the logs so far is written, and the archive is as it was
abbrev pub invariant-loop-shown : goal.invariant-loop-shown
invariant-loop-shown g l =
    let old = state g.A.Store l.fn.conn in
    let now = state g.A.Store l.conn in
    (HasCleanDisk now → HasCleanDisk old)
    × (HasCleanDisk now → HasArchive old.now.schema → IsAsWas g.A.Store l.fn.conn l.conn
    × (text : List _) × PrintsLogs l.fn.words l.fn.heads (map told_of (take l.shown-index l.fn.all)) (old.now.trees 5) l.fn.seen text l.seen
    × Appends (g.O.Write.contents l.fn.output) (g.O.Write.contents l.output) text)
    × (HasCleanDisk now → HasArchive old.now.schema → Survives old now (λ _. ⊥))
