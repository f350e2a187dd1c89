use Rattle.bac_script.specs.Script.Words.{is_space}
use Rattle.bac_script.proofs.Splits.{HasTwo-from_first}
use Rattle.bac_script.proofs.script.words.last_word.Goals as goal

pub returns-in-Some-clause-more : goal.returns-in-Some-clause-more
returns-in-Some-clause-more c = HasTwo-from_first is_space c.args.line.now c.in-Some.field-0.0.now c.in-Some.field-0.1.now c.in-Some.ensures.words
