use Rattle.std.proofs.Common.{◌≡◌, ◌+◌, [], map, drop}
use Rattle.bac_command_line.specs.Devices.{devices_in}
use Rattle.bac_command_line.specs.Listing.{listed_by}
use Rattle.bac_command_line.proofs.devices.listed.Given as goal

abbrev pub invariant-loop-line : goal.invariant-loop-line
invariant-loop-line l =
    (listed_by devices_in [] 1 (map (λ line. line.now) l.lines) ≡ listed_by devices_in l.list.items l.number (map (λ line. line.now) (drop l.line-index l.lines)))
    × (l.number ≡ l.line-index + 1)
