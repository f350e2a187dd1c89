use Rattle.std.proofs.Common.{◌≡◌, ◌≤◌, ◌+◌, ◌++◌, length, option_map}
use Rattle.bac_answers.specs.Values.{objects_in}
use Rattle.bac_answers.proofs.read.objects_in.Given as goal

-- the objects that are gone from the front were found
abbrev pub invariant-loop-taken : goal.invariant-loop-taken
invariant-loop-taken l = record {
  all : objects_in l.octets ≡ option_map (λ more. l.found.items ++ more) (objects_in l.rest);
  few : l.taken + length l.rest ≤ length l.octets;
}
