use Rattle.std.proofs.Common.{◌≡◌, ◌≤◌, ◌+◌, ◌-◌, map}
use Rattle.std.specs.List.{range_with_len}
use Rattle.std.specs.String.{string_bytes}
use Rattle.bac_files.specs.Parts.{part_path}
use Rattle.bac_files.proofs.folder.paths_of.Given as goal

-- the paths of those before this number
abbrev pub invariant-loop-number : goal.invariant-loop-number
invariant-loop-number l =
    (map string_bytes l.paths.items ≡ map (part_path l.folder) (range_with_len l.least (l.number - l.least))) × (l.number ≤ l.greatest + 1)
