-- The characters of the pairs that are gone from `rest` were appended.
use Rattle.std.proofs.Common.{◌≡◌, ◌+◌, ◌*◌, ◌++◌, ℕ, List, length, option_map, encode_utf8_all}
use Rattle.std.specs.String.{string_bytes}
use Rattle.bac_print.specs.Texts.{pairs_of}
use Rattle.bac_print.proofs.texts.of_pairs.Given as goal

abbrev pub invariant-loop-taken : goal.invariant-loop-taken
invariant-loop-taken l =
    (done : List ℕ) × (string_bytes l.text ≡ encode_utf8_all done)
    × (pairs_of l.octets ≡ option_map (λ more. done ++ more) (pairs_of l.rest)) × (2 * l.taken + length l.rest ≡ length l.octets)
