use Rattle.std.proofs.Common.{◌≡◌, ◌/◌, ◌==◌, ◌&&◌, not, drop}
use Rattle.std.specs.List.{list_any}
use Rattle.bac_archive.specs.Stands.{epochs}
use Rattle.bac_kept.specs.Lasts.{is_counted}
use Rattle.bac_kept.proofs.lasts.has_begun.Given as goal

abbrev pub invariant-loop-beginning : goal.invariant-loop-beginning
invariant-loop-beginning l =
    list_any (λ b. (b.id / epochs == l.shown.log.now.id) && not (is_counted b)) (drop l.beginning-index l.shown.beginnings.now)
    ≡ list_any (λ b. (b.id / epochs == l.shown.log.now.id) && not (is_counted b)) l.shown.beginnings.now
