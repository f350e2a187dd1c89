use Rattle.bac_encoding_tests.proofs.Passages.{question_again}
use Rattle.bac_encoding_tests.proofs.passage.questions_come_back.Goals as goal

pub returns : goal.returns
returns c = question_again c.apdus_come_back.ensures c.canon_is_short.ensures.apdu c.fields_are_read_back.ensures
