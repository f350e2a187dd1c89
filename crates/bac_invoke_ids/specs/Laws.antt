-- What it comes to that invoke IDs go on, in the words of questions and answers.
use Rattle.std.specs.Prelude.{◌≡◌, ◌<◌, ◌≤◌, ℕ, ◌+◌, ◌-◌, ◌%◌, true, List, slice_index_or}
use Rattle.std.specs.Prelude.{Some, None, IfSome, Result, Ok}
use Rattle.std.specs.Option.{option_map}
use Rattle.bac_apdu.specs.Apdu.{Apdu}
use Rattle.bac_apdu.specs.Apdu as apdu
use Rattle.bac_link.specs.Datagrams.{answers_to, message_in}
use Rattle.bac_link.specs.Path.{AreWays, Path}
use Rattle.bac_link.specs.Requests.{IsTooLong, request_octets}
use Rattle.bac_link.specs.declared.link.Lost.{Lost}
use Rattle.bac_link.specs.declared.request.Request.{Request}
use Rattle.bac_ports.specs.Asking.{Asks, to_peer}
use Rattle.bac_ports.specs.Port.{Receiving, Sending}
use Rattle.bac_ports.specs.declared.port.Heard.{Heard}
use Rattle.bac_wire.specs.Chain.{result_map}
use Rattle.bac_invoke_ids.specs.Ids.{sent_by, taken_by}
use Rattle.bac_invoke_ids.specs.Onward.{after, behind, shift_of}
use Rattle.bac_invoke_ids.specs.declared.ids.Ids.{Ids}
use Rattle.bac_invoke_ids.specs.declared.ports.OnwardPort.{OnwardPort}

-- Of a question from this network nothing but its ID is another when it is sent: it is the same request, begun with the
-- other ID.
abbrev pub QuestionsStay : Type 0
QuestionsStay = (path : Path) (r : Request) (id shift : ℕ) → AreWays path → path.source ≡ None →
    (IsTooLong r → ⊥) → id < 256 →
    sent_by shift (request_octets path id r) ≡ request_octets path ((id + shift) % 256) r

-- an answer whose ID is so much smaller, and any other APDU as it is
abbrev pub told_less : ℕ → Apdu → Apdu
told_less shift (apdu.Confirmed segmented size id service parameters) =
    apdu.Confirmed segmented size id service parameters
told_less shift (apdu.Unconfirmed service parameters) = apdu.Unconfirmed service parameters
told_less shift (apdu.Simple id service) = apdu.Simple ((id + (256 - shift)) % 256) service
told_less shift (apdu.Complex segmented id service parameters) =
    apdu.Complex segmented ((id + (256 - shift)) % 256) service parameters
told_less shift (apdu.SegmentAck id) = apdu.SegmentAck ((id + (256 - shift)) % 256)
told_less shift (apdu.Error id service class code) = apdu.Error ((id + (256 - shift)) % 256) service class code
told_less shift (apdu.Reject id reason) = apdu.Reject ((id + (256 - shift)) % 256) reason
told_less shift (apdu.Abort by_server id reason) = apdu.Abort by_server ((id + (256 - shift)) % 256) reason

-- Of what comes nothing but the ID of an answer is another as it is taken: where it came from, where it goes to, and
-- all else that it says.
abbrev pub AnswersSayTheSame : Type 0
AnswersSayTheSame = (shift : ℕ) (datagram : List ℕ) → shift < 256 →
    ((i : ℕ) → slice_index_or datagram i 0 < 256) →
    message_in (taken_by shift datagram)
    ≡ option_map (λ message. (message.0, told_less shift message.1)) (message_in datagram)

-- A datagram answers a question, as it is taken, exactly if it answers the question as it was sent, as it came.
abbrev pub AnswersStay : Type 0
AnswersStay = (path : Path) (r : Request) (id shift : ℕ) (datagram : List ℕ) → AreWays path → (IsTooLong r → ⊥) →
    id < 256 → shift < 256 → ((i : ℕ) → slice_index_or datagram i 0 < 256) →
    answers_to (request_octets path id r) (taken_by shift datagram)
    ≡ answers_to (request_octets path ((id + shift) % 256) r) datagram

-- The questions over a port, whose IDs go on by one from any first one, are sent with those behind the last one before,
-- by one, too.
abbrev pub QuestionsGoOn : Type 0
QuestionsGoOn = (last first n : ℕ) → first < 256 →
    (((first + n) % 256 + shift_of (behind last) first) % 256 ≡ (last + 1 + n) % 256)
    × ((id : ℕ) → shift_of (after (behind last) first) id ≡ shift_of (behind last) first)

-- A question was the one of this number of all that were asked before a port was opened, so many of them. A datagram
-- that answers it, late or once more, answers none of the next questions over that port, as it is taken there: as long
-- as there are fewer than 256 from the one to the other.
abbrev pub LateAnswersAreNone : Type 0
LateAnswersAreNone = (path way : Path) (r q : Request) (number asked first n : ℕ) (datagram : List ℕ) →
    AreWays path → AreWays way → (IsTooLong r → ⊥) → (IsTooLong q → ⊥) → first < 256 → number ≤ asked →
    asked + 1 + n < number + 256 → ((i : ℕ) → slice_index_or datagram i 0 < 256) →
    answers_to (request_octets path (number % 256) r) datagram ≡ true →
    answers_to (request_octets way ((first + n) % 256) q) (taken_by (shift_of (behind (asked % 256)) first) datagram)
    ≡ true → ⊥

-- ---- an ask

-- what a port receives are octets
abbrev pub HearsOctets : {P : Type 0} → (P → Receiving → P → Type 0) → Type 0
HearsOctets {P = P} receives = (old new : P) (heard : Heard) (datagram : List ℕ) → receives old (Ok heard) new →
    heard.datagram ≡ Some datagram → (i : ℕ) → slice_index_or datagram i 0 < 256

-- so are invoke IDs
abbrev pub AreIds : Ids → Type 0
AreIds ids = (ids.last < 256) × IfSome ids.shift (λ shift. shift < 256)

-- What is asked over a port is asked over the port below: the same request with the ID behind the last one, as often
-- received for; and it has that answer, with the ID that was asked.
abbrev pub AsksAreBelow : {P : Type 0} → (OnwardPort P → List ℕ → List ℕ → Sending → OnwardPort P → Type 0) →
    (OnwardPort P → Receiving → OnwardPort P → Type 0) → (P → List ℕ → List ℕ → Sending → P → Type 0) →
    (P → Receiving → P → Type 0) → Type 0
AsksAreBelow {P = P} sends receives sends_below receives_below = HearsOctets receives_below →
    (peer : List ℕ) (path : Path) (r : Request) (id limit : ℕ) (old new : OnwardPort P)
    (result : Result (List ℕ) Lost) →
    AreWays path → path.source ≡ None → (IsTooLong r → ⊥) → id < 256 → AreIds old.ids →
    Asks sends receives (to_peer peer (request_octets path id r)) limit old result new →
    (below : Result (List ℕ) Lost)
    × Asks sends_below receives_below (to_peer peer (request_octets path ((id + shift_of old.ids id) % 256) r)) limit
    old.port below new.port
    × (result ≡ result_map (taken_by (shift_of old.ids id)) below) × (new.ids ≡ after old.ids id)
