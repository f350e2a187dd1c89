use Rattle.std.proofs.Common.{ap, sym, ◌∙◌}
use Rattle.std.specs.Option.{option_map}
use Rattle.bac_script.specs.Flaw.{blank_at, words_left}
use Rattle.bac_script.proofs.Flaws.{blank_at-words}
use Rattle.bac_script.proofs.script.flaw.blank_at.Goals as goal

pub returns-in-Some : goal.returns-in-Some
returns-in-Some c =
    sym (ap (λ rest. blank_at c.args.place (words_left (option_map (λ text. text.now) rest))) c.in-Some.is ∙ blank_at-words c.args.place c.in-Some.field-0.now)
