use Rattle.std.proofs.Common.{◌≡◌, ◌+◌, ◌*◌, ◌≤◌}
use Rattle.bac_walk.specs.declared.outcome.Ended.TheVariants.{StepLimit}
use Rattle.bac_walk.specs.Transacted.{BroughtIntoBy, walk_by}
use Rattle.bac_walk.specs.Sinks.{Delivery, sink_filled, ours_around}
use Rattle.bac_walk.specs.Collects.{losses_of}
use Rattle.bac_link.specs.Path.{towards}
use Rattle.bac_walk.proofs.sink.deliver.Given as goal

-- so far it was a run of so many steps
abbrev pub invariant-loop-done : goal.invariant-loop-done
invariant-loop-done g l = record {
  log : l.walk.log ≡ l.fn.walk.log;
  count : l.walk.count ≡ l.fn.walk.count;
  retries : l.transactions.retries ≡ l.fn.transactions.retries;
  route : l.transactions.route ≡ l.fn.transactions.route;
  begun : l.transactions.begun ≤ l.fn.transactions.begun + 2 * l.done;
  never_falls : g.L.LogLink.failures l.fn.link ≤ g.L.LogLink.failures l.link;
  sure : g.L.LogLink.is_sure l.fn.link (towards l.fn.transactions.route) → g.L.LogLink.is_sure l.link (towards l.transactions.route);
  unchanged : g.L.LogLink.is_sure l.fn.link (towards l.fn.transactions.route) → g.L.LogLink.keeps l.fn.link l.link;
  missing : g.L.LogLink.lacks l.fn.link l.fn.walk.log → g.L.LogLink.lacks l.link l.fn.walk.log × (l.done ≡ 0);
  none : l.done ≡ 0 → (l.sink ≡ l.fn.sink) × (l.walk.next ≡ l.fn.walk.next) × (l.walk ≡ l.fn.walk) × (l.link ≡ l.fn.link) × (l.transactions ≡ l.fn.transactions);
  delivers : Delivery (sink_filled g.S.Sink.puts l.fn.sink l.sink) (ours_around (λ r M H. g.L.LogLink.is_ours l.fn.link l.fn.walk.log r M H) (λ r M H. g.L.LogLink.is_ours l.link l.fn.walk.log r M H)) (losses_of l.fn.transactions.retries (g.L.LogLink.failures l.fn.link) (g.L.LogLink.failures l.link)) l.fn.walk l.walk l.done StepLimit;
  transacted : BroughtIntoBy g.L.LogLink.asks (sink_filled g.S.Sink.puts l.fn.sink l.sink) (walk_by l.fn.link l.fn.transactions l.fn.walk) l.done StepLimit (walk_by l.link l.transactions l.walk);
}
