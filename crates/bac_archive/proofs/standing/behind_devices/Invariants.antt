use Rattle.std.proofs.Common.{◌≡◌, map, take}
use Rattle.bac_archive.specs.Stands.{behind}
use Rattle.bac_archive.proofs.standing.behind_devices.Given as goal

abbrev pub invariant-loop-device : goal.invariant-loop-device
invariant-loop-device l = l.next ≡ behind (map (λ d. d.id) (take l.device-index l.devices))
