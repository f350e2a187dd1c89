use Rattle.std.proofs.Common.{rules, ap, sym, ◌∙◌, append-nil, ◌++◌, List, ℕ}
use Rattle.bac_apdu.proofs.Between.{more_between, value_full, open_full, closes}
use Rattle.bac_apdu.specs.Adding.{open_octets}
use Rattle.bac_apdu.proofs.parameters_out.add_between.Goals as goal

pub returns-in_err-add_open : goal.returns-in_err-add_open
returns-in_err-add_open c = open_full c.args.tag c.args.values.now c.args.out.now c.args.out.now c.add_open.new.out c.from_residual.result c.in_err-add_open.field-0.0 (search rules) c.in_err-add_open.ensures

pub loop-value-init : goal.loop-value-init
loop-value-init c = c.in_ok-add_open.ensures.0 ∙ ap (λ (l : List ℕ). c.args.out.now ++ l) (sym (append-nil (open_octets c.args.tag)))

pub loop-value-preserved : goal.loop-value-preserved
loop-value-preserved c = more_between c.args.tag c.args.values.now c.loop-value.value-index c.value-item.result c.args.out.now c.loop-value.out c.add_value.new.out (search rules) c.loop-value-test.true c.loop-value.invariant c.in_ok-add_value.ensures.written.0

pub returns-in_err-add_value : goal.returns-in_err-add_value
returns-in_err-add_value c =
    value_full c.args.tag c.args.values.now c.args.out.now c.loop-value.out c.add_value.new.out c.from_residual-in_err-add_value.result c.loop-value.value-index c.value-item.result c.in_err-add_value.field-0.0 (search rules) c.loop-value-test.true (search rules) c.loop-value.invariant c.in_err-add_value.ensures.written

pub returns : goal.returns
returns c = closes c.args.tag c.args.values.now c.loop-value.value-index c.args.out.now c.loop-value.out c.add_close.new.out c.add_close.result c.loop-value-test.false c.loop-value.invariant c.add_close.ensures
