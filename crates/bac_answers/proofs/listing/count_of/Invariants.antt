use Rattle.std.proofs.Common.{◌≡◌, ◌≤◌, take}
use Rattle.bac_answers.specs.Listing.{count_of}
use Rattle.bac_answers.proofs.listing.count_of.Given as goal

-- those so far are counted
abbrev pub invariant-loop-object : goal.invariant-loop-object
invariant-loop-object l = record {
  few : l.count ≤ l.object-index;
  counted : l.count ≡ count_of l.kind (take l.object-index l.objects);
}
