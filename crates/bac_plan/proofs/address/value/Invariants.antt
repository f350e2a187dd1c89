use Rattle.std.proofs.Common.{◌≡◌, ◌<◌, ◌^◌, drop}
use Rattle.bac_plan.specs.Addresses.{value_of}
use Rattle.bac_plan.proofs.address.value.Given as goal

abbrev pub invariant-loop-digit : goal.invariant-loop-digit
invariant-loop-digit l = (value_of 0 l.text ≡ value_of l.number (drop l.digit-index l.text)) × (l.number < 10 ^ l.digit-index)
