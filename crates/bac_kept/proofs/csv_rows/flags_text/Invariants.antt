use Rattle.std.proofs.Common.{◌≡◌, map, take}
use Rattle.bac_kept.specs.Csv.{letter}
use Rattle.bac_kept.proofs.csv_rows.flags_text.Given as goal

abbrev pub invariant-loop-flag : goal.invariant-loop-flag
invariant-loop-flag l = l.text.items ≡ map letter (take l.flag-index l.flags)
