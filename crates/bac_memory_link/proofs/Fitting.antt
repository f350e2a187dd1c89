-- A reply of ours fits a datagram with any route.
use Rattle.std.proofs.Common.{ℕ, ◌+◌, ◌≤◌, List, length, arith}
use Rattle.std.specs.Prelude.{All}
use Rattle.bac_wire.specs.Primitive.{Id}
use Rattle.bac_apdu.specs.declared.service.extent.Extent.{Extent}
use Rattle.bac_log.specs.Entry.{IsLoggable}
use Rattle.bac_link.specs.Delivery.{History, Moment, now}
use Rattle.bac_link.specs.Links.{reply_parameters}
use Rattle.bac_link.specs.Moments.{AreServed, log_at}
use Rattle.bac_walk.specs.Replies.{IsShown}
use Rattle.bac_walk.proofs.Bridge.{shown}
use Rattle.bac_walk.proofs.Held.{Sound-now, In-now}
use Rattle.bac_walk.proofs.ReadBack.{reply_short}

pub reply_small : (r : ℕ) (M : List Moment) (H : History) (id : Id) (extent : Extent) → AreServed r M H → All IsLoggable (log_at (now M) H).entries →
    3 + length (reply_parameters id (log_at (now M) H) extent r) ≤ 1476
reply_small r M H id extent served loggable =
    let is : IsShown (log_at (now M) H) = shown (now M) H (Sound-now r M H served) (In-now r M H served) loggable in
    omega (arith, reply_short (log_at (now M) H) extent r is served.greatest id (omega (arith, served.least)), served.greatest)
