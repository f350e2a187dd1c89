use Rattle.std.proofs.Common.{rules, subst, sym, All}
use Rattle.std.proofs.lemmas.List.{take_all}
use Rattle.std.proofs.lemmas.List.Elements.{All-get_or, All-more}
use Rattle.bac_archive.specs.Archive.{IsOfDevice}
use Rattle.bac_archive.proofs.opening.are_of_devices.Goals as goal

pub loop-log-preserved : goal.loop-log-preserved
loop-log-preserved c =
    All-more (IsOfDevice c.args.devices.now 1) c.args.logs.now c.loop-log.log-index c.log-item.result (search rules) c.loop-log.invariant
    (subst (IsOfDevice c.args.devices.now 1) c.log-item.is (c.if-not-is_of_device.ensures.0 (search rules)))

pub returns-then-not-is_of_device : goal.returns-then-not-is_of_device
returns-then-not-is_of_device c = (
  λ h. search rules,
  λ all.
      let one = All-get_or (IsOfDevice c.args.devices.now 1) c.args.logs.now c.loop-log.log-index c.log-item.result (search rules) all.each in
      let holds = c.if-not-is_of_device.ensures.1 (subst (IsOfDevice c.args.devices.now 1) (sym c.log-item.is) one) in
      search rules,
)

pub returns : goal.returns
returns c = (
  λ _. record { each = subst (All (IsOfDevice c.args.devices.now 1)) (take_all c.loop-log.log-index c.args.logs.now c.loop-log-test.false) c.loop-log.invariant },
  λ _. search rules,
)
