use Rattle.bac_memory_link.proofs.Routing.{question_handed}
use Rattle.bac_memory_link.proofs.laws.routers_hand_on_questions.Goals as goal

pub returns : goal.returns
returns c = λ far near path id extent invoke octets inner near_is asks handed.
    let q = question_handed far near path id extent invoke octets inner near_is asks handed in (q.1, q.0)
