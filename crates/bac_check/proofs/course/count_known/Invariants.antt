use Rattle.std.proofs.Common.{map, take}
use Rattle.std.specs.List.{AllZip}
use Rattle.sqlite.specs.State.{HasCleanDisk}
use Rattle.sqlite.specs.Held.{state}
use Rattle.bac_archive.specs.Ask.{IsAsWas}
use Rattle.bac_archive.specs.Schema.{HasArchive}
use Rattle.bac_check.specs.Counted.{updated_by}
use Rattle.bac_check.specs.Rows.{CountsCourse}
use Rattle.bac_check.proofs.course.count_known.Given as goal

-- those so far are counted, and the archive is as it was
abbrev pub invariant-loop-course : goal.invariant-loop-course
invariant-loop-course g l =
    let old = state g.A.Store l.fn.conn in
    let now = state g.A.Store l.conn in
    (HasCleanDisk now → HasCleanDisk old)
    × (HasCleanDisk now → HasArchive old.now.schema → IsAsWas g.A.Store l.fn.conn l.conn
    × AllZip (CountsCourse old.now.trees) (map (updated_by l.begun) (take l.course-index l.courses)) l.counted.items)
