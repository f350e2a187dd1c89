use Rattle.std.proofs.Common.{◌≡◌, ◌++◌, map}
use Rattle.bac_archive.specs.declared.row.Put.TheVariants.{NewDevice}
use Rattle.bac_archive.proofs.following.with_devices.Given as goal

abbrev pub invariant-loop-device : goal.invariant-loop-device
invariant-loop-device l = l.puts.items ++ map NewDevice l.device-iterator.rest.items ≡ l.fn.before.items ++ map NewDevice l.fn.devices.items
