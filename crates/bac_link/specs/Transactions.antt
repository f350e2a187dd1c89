-- One transaction at a time (clause 5.4.4, without segments).
use Rattle.std.specs.Prelude.{◌≡◌, ℕ, ◌+◌, ◌<◌, ◌≤◌, min, Bool, true, false, List, Option, Some, None, IfSome}
use Rattle.bac_link.specs.declared.answer.Answer.{Answer as AnswerCode}
use Rattle.bac_link.specs.declared.transactions.Pending.{Pending}
use Rattle.bac_link.specs.declared.transactions.Transactions.{Transactions}
use Rattle.bac_link.specs.declared.transactions.Timeout.{Timeout}
use Rattle.bac_link.specs.declared.transactions.Timeout.TheVariants.{Resend, GaveUp}
use Rattle.bac_link.specs.declared.transactions.Received.{Received}
use Rattle.bac_link.specs.declared.transactions.Received.TheVariants.{Done, Ignored}
use Rattle.bac_link.specs.declared.request.Request.{Request}
use Rattle.bac_link.specs.Answer.{Answer, answer_of}
use Rattle.bac_link.specs.Datagrams.{answer_in, answers_to, apdu_in}
use Rattle.bac_link.specs.Path.{towards}
use Rattle.bac_link.specs.Requests.{request_octets, next_invoke}

-- an invoke ID and an answer of the code, if there is one
abbrev pub maybe_answer_of : Option (ℕ × AnswerCode) → Option (ℕ × Answer)
maybe_answer_of None = None
maybe_answer_of (Some x) = Some (x.0, answer_of x.1)

-- one begun more, up to the greatest number
abbrev pub bumped : ℕ → ℕ
bumped begun = min (begun + 1) 18446744073709551615

-- nothing is open
abbrev pub closed : Transactions → Transactions
closed old = record old { pending = None }

-- a request is open under the next invoke ID, none of its repeats given
abbrev pub begun_with : Request → Transactions → Transactions
begun_with r old = record old {
  invoke = next_invoke old.invoke;
  begun = bumped old.begun;
  pending = Some (record { request = request_octets (towards old.route) (next_invoke old.invoke) r; repeats = 0 });
}

-- the same octets once more, as long as repeats are left, or the end
abbrev pub TimesOut : Transactions → Timeout → Transactions → Type 0
TimesOut old (Resend datagram) new =
    (p : Pending) × (old.pending ≡ Some p) × (p.repeats < old.retries) × (datagram ≡ p.request)
    × (new ≡ record old { pending = Some (record p { repeats = p.repeats + 1 }) })
TimesOut old GaveUp new = IfSome old.pending (λ p. old.retries ≤ p.repeats) × (new ≡ closed old)

-- whether a datagram answers the open request
abbrev pub is_awaited : Option Pending → List ℕ → Bool
is_awaited None datagram = false
is_awaited (Some p) datagram = answers_to p.request datagram

-- the answer to the open request closes it; nothing else changes anything
abbrev pub Receives : Transactions → List ℕ → Received → Transactions → Type 0
Receives old datagram (Done answer) new =
    (is_awaited old.pending datagram ≡ true)
    × ((invoke : ℕ) × (answer_in (apdu_in datagram) ≡ Some (invoke, answer_of answer))) × (new ≡ closed old)
Receives old datagram Ignored new = (is_awaited old.pending datagram ≡ false) × (new ≡ old)
