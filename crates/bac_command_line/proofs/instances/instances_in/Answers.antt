use Rattle.std.proofs.Common.{[], ◌∷◌, ◌∙◌, Ok, ap, refl, sym, rules}
use Rattle.bac_command_line.specs.Numbers.{number_in}
use Rattle.bac_command_line.specs.Rows.{instances_in}
use Rattle.bac_command_line.proofs.Gathering.{all_read, ended, no_instance, one_on, instance_first}
use Rattle.bac_command_line.proofs.instances.instances_in.Goals as goal

pub loop-text-preserved : goal.loop-text-preserved
loop-text-preserved c =
    one_on instances_in _ c.args.texts.now (λ text. text.now) c.loop-text.text-index _ c.loop-text.list.items c.push.new.self.items (c.in-Some.instance ∷ [])
    c.loop-text-test.true c.loop-text.invariant
    (instance_first _ c.in-Some.instance (ap (number_in 0 4194303) (sym c.as_bytes.ensures.value) ∙ sym c.in-Some.ensures)) (search rules)

pub returns-in_default : goal.returns-in_default
returns-in_default c =
    ended instances_in _ c.args.texts.now (λ text. text.now) c.loop-text.text-index _ c.loop-text.list.items _ c.loop-text-test.true c.loop-text.invariant
    (no_instance _ (ap (number_in 0 4194303) (sym c.as_bytes.ensures.value) ∙ sym c.number.ensures ∙ c.in_default.is))

pub returns : goal.returns
returns c =
    all_read instances_in _ c.args.texts.now (λ text. text.now) c.loop-text.text-index c.loop-text.list.items c.loop-text-test.false refl c.loop-text.invariant
    ∙ ap Ok (sym c.of.ensures)
