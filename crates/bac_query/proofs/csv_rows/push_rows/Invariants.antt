use Rattle.std.proofs.Common.{◌≡◌, ◌++◌, List, ℕ, drop}
use Rattle.bac_query.specs.Rows.{AreRows}
use Rattle.bac_query.proofs.csv_rows.push_rows.Given as goal

-- the rows so far, behind which those of the other items make the rows of all
abbrev pub invariant-loop-item : goal.invariant-loop-item
invariant-loop-item l =
    (done : List ℕ) × (l.text.items ≡ l.initial.text.items ++ done)
    × ((rest : List ℕ) → AreRows (drop l.item-index l.items) rest → AreRows l.items (done ++ rest))
