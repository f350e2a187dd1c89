use Rattle.std.proofs.Common.{◌≡◌, take}
use Rattle.std.specs.List.{All}
use Rattle.bac_device_poll.specs.Listing.{new_among}
use Rattle.bac_device_poll.proofs.listing.new_among.Given as goal

-- those so far that aren't on record were found
abbrev pub invariant-loop-object : goal.invariant-loop-object
invariant-loop-object l = record {
  new : l.found.items ≡ new_among l.logs l.stopped (take l.object-index l.objects);
  kinds : All (λ log. log.kind ≡ 20) l.found.items;
}
