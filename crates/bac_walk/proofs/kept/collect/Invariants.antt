use Rattle.std.proofs.Common.{[], ◌≡◌, ◌+◌, ◌*◌, ◌≤◌, length}
use Rattle.bac_walk.specs.declared.outcome.Ended.TheVariants.{StepLimit}
use Rattle.std.specs.Prelude.{List}
use Rattle.bac_walk.specs.Came.{Came}
use Rattle.bac_walk.specs.Transacted.{BroughtBy, walk_by}
use Rattle.bac_walk.specs.Sinks.{IsRun, ours_around}
use Rattle.bac_walk.specs.Collects.{losses_of}
use Rattle.bac_link.specs.Path.{towards}
use Rattle.bac_walk.proofs.kept.collect.Given as goal

-- so far it was a run of so many steps
abbrev pub invariant-loop-done : goal.invariant-loop-done
invariant-loop-done g l = record {
  log : l.walk.log ≡ l.fn.walk.log;
  count : l.walk.count ≡ l.fn.walk.count;
  retries : l.transactions.retries ≡ l.fn.transactions.retries;
  route : l.transactions.route ≡ l.fn.transactions.route;
  begun : l.transactions.begun ≤ l.fn.transactions.begun + 2 * l.done;
  never_falls : g.L.LogLink.failures l.fn.link ≤ g.L.LogLink.failures l.link;
  sure : g.L.LogLink.is_sure l.fn.link (towards l.fn.transactions.route) → g.L.LogLink.is_sure l.link (towards l.transactions.route);
  unchanged : g.L.LogLink.is_sure l.fn.link (towards l.fn.transactions.route) → g.L.LogLink.keeps l.fn.link l.link;
  missing : g.L.LogLink.lacks l.fn.link l.fn.walk.log → g.L.LogLink.lacks l.link l.fn.walk.log × (l.done ≡ 0);
  none : l.done ≡ 0 → (l.kept.items.items ≡ []) × (l.walk.next ≡ l.fn.walk.next) × (l.walk ≡ l.fn.walk) × (l.link ≡ l.fn.link) × (l.transactions ≡ l.fn.transactions);
  many : l.done ≤ length l.kept.items.items;
  few : length l.kept.items.items ≤ 101 * l.done;
  run : IsRun (ours_around (λ r M H. g.L.LogLink.is_ours l.fn.link l.fn.walk.log r M H) (λ r M H. g.L.LogLink.is_ours l.link l.fn.walk.log r M H)) (losses_of l.fn.transactions.retries (g.L.LogLink.failures l.fn.link) (g.L.LogLink.failures l.link)) l.fn.walk l.walk l.done StepLimit l.kept.items.items;
  transacted : (came : List Came) × BroughtBy g.L.LogLink.asks (walk_by l.fn.link l.fn.transactions l.fn.walk) l.done came l.kept.items.items StepLimit (walk_by l.link l.transactions l.walk);
}
