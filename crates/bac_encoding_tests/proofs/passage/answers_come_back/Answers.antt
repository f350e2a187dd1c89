use Rattle.bac_encoding_tests.proofs.Passages.{answer_again}
use Rattle.bac_encoding_tests.proofs.passage.answers_come_back.Goals as goal

pub returns : goal.returns
returns c = answer_again c.apdus_come_back.ensures c.levels_are_made.ensures.value c.levels_are_made.ensures.joined c.value_is_read_back.ensures c.fields_are_read_back.ensures
