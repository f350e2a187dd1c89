use Rattle.std.proofs.Common.{◌≡◌, ℕ, ◌≤◌, List}
use Rattle.bac_wire.specs.Primitive.{Id}
use Rattle.bac_apdu.specs.declared.service.extent.Extent.{Extent}
use Rattle.bac_link.specs.Delivery.{History, Moment}
use Rattle.bac_link.specs.Exchanges.{Unanswered}
use Rattle.bac_link.specs.Links.{AsksFor, RisesBy}
use Rattle.bac_link.specs.Path.{Path, towards}
use Rattle.bac_link.specs.Requests.{next_invoke, request_octets}
use Rattle.bac_link.specs.Transactions.{begun_with, closed}
use Rattle.bac_link.proofs.exchanges.exchange.Given as goal

-- each try so far was lost and counted, and the link is where it was
abbrev pub invariant-loop-tried : goal.invariant-loop-tried
invariant-loop-tried g l = record {
  begun : l.transactions ≡ closed (begun_with l.fn.request l.fn.transactions);
  unanswered : Unanswered g.L.LogLink.asks (request_octets (towards l.fn.transactions.route) (next_invoke l.fn.transactions.invoke) l.fn.request) l.tried l.fn.link l.link;
  never_falls : g.L.LogLink.failures l.fn.link ≤ g.L.LogLink.failures l.link;
  sure : (path : Path) → g.L.LogLink.is_sure l.fn.link path → g.L.LogLink.is_sure l.link path;
  kept : (id : Id) (extent : Extent) → g.L.LogLink.is_sure l.fn.link (towards l.fn.transactions.route) → AsksFor id extent l.fn.request → g.L.LogLink.keeps l.fn.link l.link;
  ours : (id : Id) (r : ℕ) (M : List Moment) (H : History) (extent : Extent) → g.L.LogLink.is_ours l.fn.link id r M H → AsksFor id extent l.fn.request →
      RisesBy l.tried (g.L.LogLink.failures l.fn.link) (g.L.LogLink.failures l.link) × g.L.LogLink.is_ours l.link id r M H
      × (g.L.LogLink.is_sure l.fn.link (towards l.fn.transactions.route) → l.tried ≡ 0);
  lacking : (id : Id) (extent : Extent) → g.L.LogLink.lacks l.fn.link id → AsksFor id extent l.fn.request →
      RisesBy l.tried (g.L.LogLink.failures l.fn.link) (g.L.LogLink.failures l.link) × g.L.LogLink.lacks l.link id
      × (g.L.LogLink.is_sure l.fn.link (towards l.fn.transactions.route) → l.tried ≡ 0);
}
