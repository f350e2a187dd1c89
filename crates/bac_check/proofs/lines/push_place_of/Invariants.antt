use Rattle.std.proofs.Common.{◌≡◌, ◌++◌, flat_map, take}
use Rattle.bac_check.specs.Lines.{place_if}
use Rattle.bac_check.proofs.lines.push_place_of.Given as goal

-- the place of that device, if it is among those so far
abbrev pub invariant-loop-device : goal.invariant-loop-device
invariant-loop-device l = l.text.items ≡ l.fn.text.items ++ flat_map (place_if l.id) (take l.device-index l.devices)
