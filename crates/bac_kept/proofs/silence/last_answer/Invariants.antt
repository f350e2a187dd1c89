use Rattle.std.proofs.Common.{◌≡◌, option_copied, take}
use Rattle.bac_kept.specs.Silence.{last_answer}
use Rattle.bac_kept.proofs.silence.last_answer.Given as goal

abbrev pub invariant-loop-device : goal.invariant-loop-device
invariant-loop-device l = option_copied l.last ≡ last_answer (take l.device-index l.devices)
