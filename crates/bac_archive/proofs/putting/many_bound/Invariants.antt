use Rattle.std.proofs.Common.{◌≡◌, flat_map, length, take}
use Rattle.sqlite.specs.Values.{bound}
use Rattle.bac_archive.specs.Put.{given_record}
use Rattle.bac_archive.proofs.putting.many_bound.Given as goal

abbrev pub invariant-loop-at : goal.invariant-loop-at
invariant-loop-at l = (length l.rows ≡ 32) × (bound (flat_map (λ row. row) (take l.at l.rows)) ≡ flat_map given_record (take l.at l.these))
