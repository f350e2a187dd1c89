use Rattle.std.proofs.Common.{◌≡◌, map, take}
use Rattle.bac_archive.specs.Schema.{column as column_of}
use Rattle.bac_archive.proofs.shape.are_columns.Given as goal

abbrev pub invariant-loop-place : goal.invariant-loop-place
invariant-loop-place l = take l.place l.columns ≡ map (λ w. column_of w.0.now w.1 w.2) (take l.place l.wanted)
