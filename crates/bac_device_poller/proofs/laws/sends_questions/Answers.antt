use Rattle.std.proofs.Common.{◌≡◌, ℕ, List}
use Rattle.bac_drive.specs.declared.machine.Next.TheVariants as next
use Rattle.bac_device_poll.specs.Poll.{asked_of_device}
use Rattle.bac_device_poll.specs.declared.question.Question.{Question}
use Rattle.bac_device_poll.specs.declared.question.Question.TheVariants.{Confirmed, Nothing, WhoIs}
use Rattle.bac_device_poller.specs.Laws.{IsQuestion}
use Rattle.bac_device_poller.specs.Poller.{AsksNext, PollerAs}
use Rattle.bac_device_poller.proofs.laws.sends_questions.Goals as goal

sent : (question : Question) (p new : PollerAs) (octets to : List ℕ) → AsksNext question p (next.Send octets to) new →
    (to ≡ p.way.peer) × IsQuestion question p octets
sent (Confirmed request) p new octets to asked = (asked.1, asked.0)
sent WhoIs p new octets to asked = (asked.1, asked.0)
sent Nothing p new octets to asked = absurd asked

pub returns : goal.returns
returns c = λ p new octets to asked. sent (asked_of_device p.poll) p new octets to asked
