use Rattle.bac_encoding_tests.proofs.Passages.{apdu_again}
use Rattle.bac_encoding_tests.proofs.passage.apdus_come_back.Goals as goal

pub returns : goal.returns
returns c = apdu_again c.frame_is_read.ensures c.header_is_read.ensures c.apdu_is_read.ensures c.frames_have_a_size.ensures.header
