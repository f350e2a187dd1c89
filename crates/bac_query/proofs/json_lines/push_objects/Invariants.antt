use Rattle.std.proofs.Common.{◌≡◌, ◌++◌, List, ℕ, drop}
use Rattle.bac_query.specs.Json.{AreJson}
use Rattle.bac_query.proofs.json_lines.push_objects.Given as goal

-- the lines so far, behind which those of the other items make the lines of all
abbrev pub invariant-loop-item : goal.invariant-loop-item
invariant-loop-item l =
    (done : List ℕ) × (l.text.items ≡ l.initial.text.items ++ done)
    × ((rest : List ℕ) → AreJson (drop l.item-index l.items) rest → AreJson l.items (done ++ rest))
