use Rattle.std.proofs.Common.{◌≡◌, ◌<◌, ◌^◌, drop}
use Rattle.bac_command_line.specs.Numbers.{value_of}
use Rattle.bac_command_line.proofs.numbers.value.Given as goal

abbrev pub invariant-loop-c : goal.invariant-loop-c
invariant-loop-c l = (value_of 0 l.word ≡ value_of l.n (drop l.c-index l.word)) × (l.n < 10 ^ l.c-index)
