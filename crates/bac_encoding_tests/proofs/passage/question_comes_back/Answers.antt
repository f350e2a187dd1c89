use Rattle.std.proofs.Common.{ap, ◌∙◌}
use Rattle.bac_encoding_tests.specs.Passage.{question_in}
use Rattle.bac_encoding_tests.proofs.passage.question_comes_back.Goals as goal

pub returns : goal.returns
returns c =
    let sent = c.question_sent-datagram.ensures in
    c.question_received.ensures ∙ (ap question_in (c.octets.ensures.value ∙ sent.datagram) ∙ c.questions_come_back.ensures c.args.range.now c.args.invoke sent.in_range c.requires)
