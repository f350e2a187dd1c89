-- What the log of a link of ours holds when it replies is loggable.
use Rattle.std.proofs.Common.{ℕ, zero, suc, Option, Result, Ok, Err, List, refl, sym, subst, ◌∙◌, arith}
use Rattle.bac_wire.specs.Primitive.{Id}
use Rattle.bac_apdu.specs.Npdu.{Place}
use Rattle.bac_apdu.specs.declared.service.extent.Extent.{Extent}
use Rattle.bac_link.specs.declared.link.Lost.{Lost as Loss}
use Rattle.bac_link.specs.Delivery.{History, Moment, now}
use Rattle.bac_link.specs.Exchanges.{IsNoAnswer, Unanswered}
use Rattle.bac_link.specs.Links.{question, IsAsked, IsQuestion, TellsOurs, our_question}
use Rattle.bac_link.specs.Moments.{log_at}
use Rattle.bac_link.specs.Path.{towards}
use Rattle.bac_link.specs.Requests.{request_octets}
use Rattle.bac_link.proofs.Verdicts.{our_answers}
use Rattle.bac_walk.specs.Honest.{RepliesAreLoggable}
use Rattle.bac_walk.specs.Walks.{question_of}
use Rattle.bac_walk.proofs.Asking.{ranged_of}
use Rattle.bac_walk.proofs.Came.{Asking}

-- a try that brought no answer was lost, and leaves the moments
left_by : (stays : List Moment → Type 0) (r : ℕ) (M : List Moment) (H : History) (log : Id) (extent : Extent) (place : Option Place) (invoke : ℕ) (octets : List ℕ) (answer : Result (List ℕ) Loss) →
    IsQuestion log extent (towards place) invoke octets → IsAsked stays (our_question r M H log extent (towards place)) invoke answer → IsNoAnswer octets answer → stays M
left_by stays r M H log extent place invoke octets (Err lost) is told none = told
left_by stays r M H log extent place invoke octets (Ok datagram) is told none =
    absurd (let e = sym (our_answers r (log_at (now M) H) log extent place invoke octets datagram is told.0.1) ∙ none in cc)

stays_ours : {S : Type 0} (asks : Asking S) (ours : S → Id → ℕ → List Moment → History → Type 0) → TellsOurs asks ours →
    (log : Id) (r : ℕ) (M : List Moment) (H : History) (extent : Extent) (place : Option Place) (invoke : ℕ) (octets : List ℕ) → IsQuestion log extent (towards place) invoke octets →
    (n : ℕ) (old new : S) → ours old log r M H → Unanswered asks octets n old new → ours new log r M H
stays_ours asks ours tells log r M H extent place invoke octets is zero old new here same = subst (λ x. ours x log r M H) (sym same) here
stays_ours asks ours tells log r M H extent place invoke octets is (suc n) old new here (mid, answer, first, asked, none) =
    left_by (λ N. ours new log r N H) r M H log extent place invoke octets answer is
    (tells mid new octets answer log r M H extent (towards place) invoke (stays_ours asks ours tells log r M H extent place invoke octets is n old mid here first) is asked) none

pub replies_loggable : {S : Type 0} (asks : Asking S) (ours : S → Id → ℕ → List Moment → History → Type 0) → TellsOurs asks ours → RepliesAreLoggable asks ours
replies_loggable asks ours tells = λ place retries old new w after c came r s M H here way valid many next
    (mid, onward, p, at, (invoke, (tries, half, few, first, asked, answers)), taken, items, rest).
    let octets : List ℕ = request_octets (towards place) invoke (question w.log (question_of w)) in
    let is : IsQuestion w.log (question_of w) (towards place) invoke octets = (refl, ranged_of w (omega (arith, next)) many, valid, (way, tt)) in
    (tells half mid octets (Ok c.datagram) w.log r M H (question_of w) (towards place) invoke
    (stays_ours asks ours tells w.log r M H (question_of w) place invoke octets is tries old half here first) is asked).0.0
