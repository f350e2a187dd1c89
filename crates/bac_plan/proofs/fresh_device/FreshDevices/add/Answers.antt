use Rattle.std.proofs.Common.{sym, ap, inr, ◌∙◌}
use Rattle.bac_plan.specs.Fresh.{has_place}
use Rattle.bac_plan.proofs.FreshLemmas.{fresh_there, known_there, none_left, one_added}
use Rattle.bac_plan.proofs.fresh_device.FreshDevices.add.Goals as goal
use Rattle.bac_plan.proofs.fresh_device.FreshDevices.add.Goals.{then-has_place-via-then-has_place, then-has_place-via-else-has_place+then-has_place-2}

pub returns-then-has_place-clause-ok : goal.returns-then-has_place-clause-ok
returns-then-has_place-clause-ok c = elim c.then-has_place.branch [
  | then-has_place-via-then-has_place w ↦
      known_there c.args.named.now c.args.devices.now c.args.self.now c.args.one.now (sym c.has_place.ensures ∙ w.if-has_place.true)
  | then-has_place-via-else-has_place+then-has_place-2 w ↦
      fresh_there c.args.named.now c.args.devices.now c.args.self.now c.args.one.now c.self.inside.rows.items c.self.inside.next c.self.view_is
      (sym (w.has_place-else-has_place.ensures ∙ ap (has_place c.args.one.now) w.as_slice.ensures.value) ∙ w.if-has_place-2.true)
]

pub returns-in_ok-push-in-Some-clause-ok : goal.returns-in_ok-push-in-Some-clause-ok
returns-in_ok-push-in-Some-clause-ok c =
    one_added c.args.named.now c.args.devices.now c.args.self.now c.args.one.now c.self.inside.rows.items c.self.inside.next c.in-Some.id c.in_ok-row-in-Some.row c.push.new.self.items
    c.self.view_is (sym c.has_place.ensures ∙ c.if-has_place.false)
    (sym (c.has_place-else-has_place.ensures ∙ ap (has_place c.args.one.now) c.as_slice.ensures.value) ∙ c.if-has_place-2.false) (sym c.in-Some.ensures)
    c.in_ok-row-in-Some.ensures c.in_ok-push-in-Some.ensures.items

pub returns-in-None-clause-err : goal.returns-in-None-clause-err
returns-in-None-clause-err c =
    inr (none_left c.args.named.now c.args.devices.now c.args.self.now c.args.one.now c.self.inside.rows.items c.self.inside.next
    c.self.view_is (sym c.has_place.ensures ∙ c.if-has_place.false)
    (sym (c.has_place-else-has_place.ensures ∙ ap (has_place c.args.one.now) c.as_slice.ensures.value) ∙ c.if-has_place-2.false) (sym c.in-None.ensures))
