use Rattle.bac_plan.proofs.SiteLemmas.{Seated}
use Rattle.bac_plan.proofs.site.site_of.Given as goal

-- so far the devices that were taken have seats, if they aren't stopped
abbrev pub invariant-loop-device : goal.invariant-loop-device
invariant-loop-device l = Seated l.options l.rows.items l.groups.items l.next_log l.yielded l.site
