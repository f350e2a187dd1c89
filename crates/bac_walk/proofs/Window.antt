-- What is delivered at moments in a window stays in it.
use Rattle.std.proofs.Common.{ℕ, zero, suc, ◌+◌, ◌<◌, ◌≤◌, List, [], ◌∷◌, length, arith}
use Rattle.bac_link.specs.declared.item.Item.{Item}
use Rattle.bac_link.specs.Delivery.{History, Moment, Leads, later, now}
use Rattle.bac_link.specs.Laws.{after_answers}
use Rattle.bac_link.specs.Moments.{AreServed}
use Rattle.bac_walk.specs.Meant.{SaidMeans}
use Rattle.bac_link.specs.Moments.{AreInWindow}
use Rattle.bac_walk.specs.Near.{StaysInWindow}
use Rattle.bac_walk.specs.Place.{WalkPlace}
use Rattle.bac_link.specs.Heard.{heard_in}
use Rattle.bac_walk.specs.Sinks.{IsDelivered, IsDeliveredNear}
use Rattle.bac_walk.proofs.Came.{some_later, window_later, window_now}
use Rattle.bac_walk.proofs.Near.{brings_end, windows_near}
use Rattle.bac_walk.proofs.Standard as standard

pub after_in : (low count : ℕ) (M : List Moment) → AreInWindow low M → AreInWindow low (after_answers count M)
after_in low zero M are = are
after_in low (suc count) M are = after_in low count (later M) (window_later low M are)

ends_in : (H : History) (low : ℕ) (M : List Moment) (s t : ℕ) (answers : List (List Item)) → 0 < length M → AreInWindow low M → low ≤ s → s < low + 2147483648 →
    Leads H M s answers t → (low ≤ t) × (t < low + 2147483648)
ends_in H low M s t [] some are above below goes = (omega (arith, goes, above), omega (arith, goes, below))
ends_in H low M s t ([] ∷ answers) some are above below goes =
    ends_in H low (later M) goes.0 t answers (some_later M some) (window_later low M are) (omega (arith, goes.1, above)) (omega (arith, goes.1, below)) goes.2
ends_in H low M s t ((x ∷ xs) ∷ answers) some are above below goes =
    let one = brings_end H (now M) s goes.0 x xs goes.1 in
    let here = window_now low M some are in
    ends_in H low (later M) goes.0 t answers (some_later M some) (window_later low M are) (omega (arith, one.0, here.oldest)) (omega (arith, one.1, here.newest)) goes.2

pub stays_in_window : StaysInWindow
stays_in_window = λ H M low s t count items some are above below (answers, many, all, goes).
    let place = ends_in H low M s t answers some are above below goes in
    (place.0, place.1, after_in low count M are)

pub said_means : SaidMeans
said_means = λ m H low s w after datagram p says here window at taken.
    standard.said_means H m low s w (heard_in w.log datagram) says.heard p after says.reads says.asks window here at says.counts says.says taken

-- in a window a walk is near wherever it comes
pub in_window_of : (was is : ℕ → List Moment → History → Type 0) (before after : WalkPlace) (steps : ℕ) (items : List Item) →
    ((r : ℕ) (M : List Moment) (H : History) → was r M H → AreServed r M H) → IsDeliveredNear was is before after steps items → IsDelivered was is before after items
in_window_of was is before after steps items serves near = λ r M H s low ours next window at.
    near r M H s ours next (windows_near r before.count H M low s steps before.fresh (serves r M H ours) window at)
