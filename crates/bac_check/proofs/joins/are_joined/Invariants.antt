use Rattle.std.proofs.Common.{true, take}
use Rattle.std.specs.List.{All}
use Rattle.sqlite.specs.State.{HasCleanDisk}
use Rattle.sqlite.specs.Held.{state}
use Rattle.bac_archive.specs.Ask.{IsAsWas}
use Rattle.bac_archive.specs.Schema.{HasArchive}
use Rattle.bac_check.specs.Joins.{IsJoined}
use Rattle.bac_check.proofs.joins.are_joined.Given as goal

-- the logs so far go on, and the archive is as it was
abbrev pub invariant-loop-course : goal.invariant-loop-course
invariant-loop-course g l =
    let old = state g.A.Store l.fn.conn in
    let now = state g.A.Store l.conn in
    (HasCleanDisk now → HasCleanDisk old)
    × (HasCleanDisk now → HasArchive old.now.schema → IsAsWas g.A.Store l.fn.conn l.conn
    × All (λ course. IsJoined (old.now.trees 5) l.fn.courses course true) (take l.course-index l.fn.courses))
