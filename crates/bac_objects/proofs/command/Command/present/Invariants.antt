use Rattle.std.proofs.Common.{◌≡◌, drop}
use Rattle.bac_objects.specs.Command.{present}
use Rattle.bac_objects.proofs.command.Command.present.Given as goal

abbrev pub invariant-loop-slot : goal.invariant-loop-slot
invariant-loop-slot l = present l.fn.self.slots l.fn.self.default ≡ present (drop l.slot-index l.slot-items) l.self.default
