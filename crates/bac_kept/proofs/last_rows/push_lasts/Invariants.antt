use Rattle.std.proofs.Common.{◌≡◌, ◌++◌, List, map, option_copied, take}
use Rattle.bac_kept.specs.LastRows.{AreLastTexts}
use Rattle.bac_kept.specs.Shown.{told_of}
use Rattle.bac_kept.proofs.last_rows.push_lasts.Given as goal

-- the texts of the logs so far
abbrev pub invariant-loop-shown : goal.invariant-loop-shown
invariant-loop-shown l = (rows : List _)
    × AreLastTexts l.form l.found (option_copied l.last) (map told_of (take l.shown-index l.logs)) rows
    × (l.text.items ≡ l.fn.text.items ++ rows)
