-- What a device's poll sends, and puts, whoever answers.
use Rattle.std.specs.Prelude.{◌≡◌, ℕ, List}
use Rattle.bac_drive.specs.declared.machine.Next.TheVariants as next
use Rattle.bac_link.specs.Path.{towards}
use Rattle.bac_link.specs.Requests.{next_invoke, request_octets}
use Rattle.bac_device_poll.specs.Poll.{asked_of_device}
use Rattle.bac_device_poll.specs.Way.{who_is_octets}
use Rattle.bac_device_poll.specs.declared.question.Question.{Question}
use Rattle.bac_device_poll.specs.declared.question.Question.TheVariants.{Confirmed, Nothing, WhoIs}
use Rattle.bac_device_poller.specs.Poller.{GivesBy, PollerAs}
use Rattle.bac_device_poller.specs.declared.doing.Doing.TheVariants as doing

-- ---- what is sent

-- octets are a question of a poll: a request by its next transaction, or a Who-Is
abbrev pub IsQuestion : Question → PollerAs → List ℕ → Type 0
IsQuestion (Confirmed request) p octets =
    octets ≡ request_octets (towards p.transactions.route) (next_invoke p.transactions.invoke) request
IsQuestion WhoIs p octets = octets ≡ who_is_octets p.way.route
IsQuestion Nothing p octets = ⊥

-- What is sent to ask is the question of the device's poll, to the device.
abbrev pub SendsQuestions : Type 0
SendsQuestions = (p new : PollerAs) (octets to : List ℕ) → GivesBy doing.Asks p (next.Send octets to) new →
    (to ≡ p.way.peer) × IsQuestion (asked_of_device p.poll) p octets
