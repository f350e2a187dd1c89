use Rattle.std.proofs.Common.{◌+◌, List, not, sym, ap, subst, take}
use Rattle.std.specs.List.{AllZip, filter}
use Rattle.bac_device_poll.specs.State.{LogAs as TaskAs}
use Rattle.bac_plan.specs.Logs.{IsTask, is_asked}
use Rattle.bac_plan.proofs.Shares.{zip_leaving, zip_taking}
use Rattle.bac_plan.proofs.logs.tasks_of.Goals as goal
use Rattle.bac_plan.proofs.logs.tasks_of.Goals.{then-not-log+in_ok-task_of+in_ok-push, else-not-log}

pub loop-log-preserved : goal.loop-log-preserved
loop-log-preserved c = elim c.if-not-log.branch [
  | then-not-log+in_ok-task_of+in_ok-push w ↦
      rw w.tasks-is (subst (λ (ys : List TaskAs). AllZip (IsTask c.args.told.now) (filter is_asked (take (c.loop-log.log-index + 1) c.args.logs.now)) ys)
      (sym w.in_ok-push.ensures.items)
      (zip_taking (IsTask c.args.told.now) is_asked c.args.logs.now c.loop-log.tasks.items c.loop-log.log-index c.log-item.result w.in_ok-task_of.field-0
      c.loop-log-test.true c.log-item.is (ap not w.if-not-log.true) c.loop-log.invariant w.in_ok-task_of.ensures.ok))
  | else-not-log w ↦
      rw w.tasks-is
      (zip_leaving (IsTask c.args.told.now) is_asked c.args.logs.now c.loop-log.tasks.items c.loop-log.log-index c.log-item.result
      c.loop-log-test.true c.log-item.is (ap not w.if-not-log.false) c.loop-log.invariant)
]
