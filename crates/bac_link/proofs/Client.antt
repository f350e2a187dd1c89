-- The client's steps, and which request a datagram answers.
use Rattle.std.proofs.Common.{◌≡◌, ℕ, ◌+◌, ◌%◌, ◌<◌, ◌≤◌, nat_lt, Bool, true, false, ◌&&◌, if◌then◌else◌, List, length, Option, Some, None, refl, sym, ap, subst, ◌∙◌, arith}
use Rattle.std.proofs.lemmas.Bool.{and_parts, eqb-true, le-ltb, lt-ltb}
use Rattle.bac_link.specs.Answer.{Answer}
use Rattle.bac_link.specs.Client.{AnswersTellApart, CallsAreEvents, after_event, timed_out, Come, TimeOut}
use Rattle.bac_link.specs.Datagrams.{answer_in, answers_to, apdu_in, asked_id, path_in, same_id, same_path}
use Rattle.bac_link.specs.Path.{Path, AreWays}
use Rattle.bac_link.specs.Requests.{request_apdu, request_octets, IsTooLong}
use Rattle.bac_link.specs.Transactions.{closed, Receives, TimesOut}
use Rattle.bac_link.specs.declared.request.Request.{Request}
use Rattle.bac_link.specs.declared.transactions.Pending.{Pending}
use Rattle.bac_link.specs.declared.transactions.Received.{Received}
use Rattle.bac_link.specs.declared.transactions.Received.TheVariants.{Done, Ignored}
use Rattle.bac_link.specs.declared.transactions.Timeout.{Timeout}
use Rattle.bac_link.specs.declared.transactions.Timeout.TheVariants.{Resend, GaveUp}
use Rattle.bac_link.specs.declared.transactions.Transactions.{Transactions}
use Rattle.bac_link.proofs.Datagrams.{request_again, same_size}

-- ---- steps

received : (old new : Transactions) (datagram : List ℕ) (result : Received) → Receives old datagram result new → new ≡ after_event old (Come datagram)
received old new datagram (Done answer) is = is.2 ∙ sym (ap (λ (b : Bool). if b then closed old else old) is.0)
received old new datagram Ignored is = is.1 ∙ sym (ap (λ (b : Bool). if b then closed old else old) is.0)

given_up : (old new : Transactions) (pending : Option Pending) → old.pending ≡ pending → TimesOut old GaveUp new → new ≡ timed_out old pending
given_up old new None none is = is.1 ∙ closed_same old none
  where
    closed_same : (t : Transactions) → t.pending ≡ None → closed t ≡ t
    closed_same t e = ap (λ (p : Option Pending). record t { pending = p }) (sym e)
given_up old new (Some p) opened is =
    let P : Option Pending → Type 0 = λ o. TimesOut (record old { pending = o }) GaveUp new in
    let late : nat_lt p.repeats old.retries ≡ false = le-ltb p.repeats old.retries (subst P opened is).0 in
    is.1 ∙ sym (ap (λ (b : Bool). if b then record old { pending = Some (record p { repeats = p.repeats + 1 }) } else closed old) late)

gone_on : (old new : Transactions) (result : Timeout) → TimesOut old result new → new ≡ after_event old TimeOut
gone_on old new GaveUp is = given_up old new old.pending refl is
gone_on old new (Resend datagram) (p, opened, early, octets, left) =
    left ∙ sym (ap (λ (o : Option Pending). timed_out old o) opened
    ∙ ap (λ (b : Bool). if b then record old { pending = Some (record p { repeats = p.repeats + 1 }) } else closed old) (lt-ltb p.repeats old.retries early))

pub calls_are_events : CallsAreEvents
calls_are_events = (received, gone_on)

-- ---- invoke IDs

same_number : (i : ℕ) (o : Option (ℕ × Answer)) → same_id (Some i) o ≡ true → (a : Answer) × (o ≡ Some (i, a))
same_number i None e = absurd cc
same_number i (Some x) e = (x.1, ap (λ n. (let y : ℕ × Answer = (n, x.1) in Some y)) (sym (eqb-true i x.0 e)))

-- the answer to a request has its invoke ID
answered_as : (path : Path) (i : ℕ) (r : Request) (datagram : List ℕ) → AreWays path → (IsTooLong r → ⊥) → answers_to (request_octets path i r) datagram ≡ true →
    (a : Answer) × (answer_in (apdu_in datagram) ≡ Some (i, a))
unfolding answers_to
answered_as path i r datagram ways fits is =
    let small : length (request_apdu i r) ≤ 1476 = omega (arith, same_size i r, fits) in
    let o = answer_in (apdu_in datagram) in
    let way = same_path (path_in (request_octets path i r)) (path_in datagram) in
    let asked : asked_id (apdu_in (request_octets path i r)) ≡ Some i = rw (request_again path i r ways small) refl in
    let P : Option ℕ → Type 0 = λ n. (same_id n o && way) ≡ true in
    same_number i o (and_parts (same_id (Some i) o) way (subst P asked is)).0

-- a datagram that answers two requests has the invoke ID of both
pub one_invoke : (path way : Path) (r q : Request) (i j : ℕ) (datagram : List ℕ) → AreWays path → AreWays way → (IsTooLong r → ⊥) → (IsTooLong q → ⊥) →
    answers_to (request_octets path i r) datagram ≡ true → answers_to (request_octets way j q) datagram ≡ true → i ≡ j
one_invoke path way r q i j datagram ways others r_fits q_fits first second =
    let a = answered_as path i r datagram ways r_fits first in
    let b = answered_as way j q datagram others q_fits second in
    ap number_of (sym a.1 ∙ b.1)
  where
    number_of : Option (ℕ × Answer) → ℕ
    number_of None = 0
    number_of (Some x) = x.0

pub answers_tell_apart : AnswersTellApart
answers_tell_apart = λ path way r q early late datagram ways others r_fits q_fits le near first second.
    let a = answered_as path (early % 256) r datagram ways r_fits first in
    let b = answered_as way (late % 256) q datagram others q_fits second in
    let number : Option (ℕ × Answer) → ℕ = λ o. number_of o in
    close early late le near (ap number_of (sym a.1 ∙ b.1))
  where
    number_of : Option (ℕ × Answer) → ℕ
    number_of None = 0
    number_of (Some x) = x.0

    close : (a b : ℕ) → a ≤ b → b < a + 256 → a % 256 ≡ b % 256 → a ≡ b
    close a b le lt same = omega arith
