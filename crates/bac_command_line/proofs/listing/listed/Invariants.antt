use Rattle.std.proofs.Common.{◌≡◌, ◌+◌, [], map, drop}
use Rattle.bac_command_line.specs.Listing.{listed}
use Rattle.bac_command_line.proofs.listing.listed.Given as goal

abbrev pub invariant-loop-line : goal.invariant-loop-line
invariant-loop-line l =
    (listed [] 1 (map (λ line. line.now) l.lines) ≡ listed l.list.items l.number (map (λ line. line.now) (drop l.line-index l.lines)))
    × (l.number ≡ l.line-index + 1)
