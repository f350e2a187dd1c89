use Rattle.std.proofs.Common.{◌≡◌, drop}
use Rattle.bac_command_line.specs.Dates.{is_front}
use Rattle.bac_command_line.proofs.dates.is_front.Given as goal

abbrev pub invariant-loop-octet : goal.invariant-loop-octet
invariant-loop-octet l = is_front l.form l.text ≡ is_front l.rest (drop l.octet-index l.text)
