-- What is still to be appended makes the whole.
use Rattle.std.proofs.Common.{◌≡◌, ◌++◌, drop, encode_utf8_all}
use Rattle.std.specs.String.{string_bytes}
use Rattle.bac_print.proofs.texts.of_octets.Given as goal

abbrev pub invariant-loop-octet : goal.invariant-loop-octet
invariant-loop-octet l = string_bytes l.text ++ encode_utf8_all (drop l.octet-index l.octets) ≡ encode_utf8_all l.octets
