-- What is still to be appended makes the whole.
use Rattle.std.proofs.Common.{◌≡◌, ◌++◌, drop}
use Rattle.bac_wire.specs.Number.{bits_of}
use Rattle.bac_print.specs.Numbers.{bit_digits}
use Rattle.bac_print.proofs.numbers.push_all_bits.Given as goal

abbrev pub invariant-loop-octet : goal.invariant-loop-octet
invariant-loop-octet l = l.text.items ++ bit_digits (bits_of (drop l.octet-index l.octets)) ≡ l.initial.text.items ++ bit_digits (bits_of l.octets)
