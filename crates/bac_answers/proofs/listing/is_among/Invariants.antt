use Rattle.std.proofs.Common.{◌≡◌, false, take}
use Rattle.std.specs.List.{list_any}
use Rattle.bac_answers.specs.Listing.{is_object}
use Rattle.bac_answers.proofs.listing.is_among.Given as goal

-- none so far is the object
abbrev pub invariant-loop-one : goal.invariant-loop-one
invariant-loop-one l = list_any (is_object l.object) (take l.one-index l.objects) ≡ false
