use Rattle.std.proofs.Common.{◌≡◌, false, take, All}
use Rattle.bac_archive.proofs.shape.have_no_trigger.Given as goal

abbrev pub invariant-loop-view : goal.invariant-loop-view
invariant-loop-view l = All (λ view. view.binds ≡ false) (take l.view-index l.views)
