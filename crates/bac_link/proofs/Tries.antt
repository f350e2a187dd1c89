-- Tries over any link.
use Rattle.std.proofs.Common.{◌≡◌, ◌≤◌, ◌+◌, ℕ, true, Result, Ok, List, sym, subst, ◌∙◌, ap, add-one}
use Rattle.bac_link.specs.declared.exchanges.Verdict.{Verdict}
use Rattle.bac_link.specs.declared.link.Lost.{Lost}
use Rattle.bac_link.specs.declared.request.Request.{Request}
use Rattle.bac_link.specs.Datagrams.{answers_to, apdu_in}
use Rattle.bac_link.specs.Exchanges.{Answers, IsNoAnswer, Unanswered, verdict_of, way_by}
use Rattle.bac_link.specs.Path.{Path}
use Rattle.bac_link.specs.Requests.{request_octets}

-- one more without an answer
pub one_more : {S : Type 0} (asks : S → List ℕ → Result (List ℕ) Lost → S → Type 0) (octets sent : List ℕ) (n : ℕ) (old mid new : S) (answer : Result (List ℕ) Lost) →
    sent ≡ octets → Unanswered asks octets n old mid → asks mid sent answer new → IsNoAnswer sent answer → Unanswered asks octets (n + 1) old new
one_more asks octets sent n old mid new answer same first asked none =
    let P : ℕ → Type 0 = λ k. Unanswered asks octets k old new in
    let Q : List ℕ → Type 0 = λ l. asks mid l answer new in
    let R : List ℕ → Type 0 = λ l. IsNoAnswer l answer in
    subst P (sym (add-one n)) (mid, answer, first, subst Q same asked, subst R same none)

-- one that brought an answer
pub answered_by : {S : Type 0} (asks : S → List ℕ → Result (List ℕ) Lost → S → Type 0) (path : Path) (invoke : ℕ) (r : Request) (retries : ℕ) (verdict : Verdict) (sent datagram heard : List ℕ)
    (tries : ℕ) (old mid new : S) → sent ≡ request_octets path invoke r → heard ≡ datagram → tries ≤ retries →
    Unanswered asks (request_octets path invoke r) tries old mid → asks mid sent (Ok datagram) new → answers_to sent datagram ≡ true →
    verdict ≡ verdict_of r (apdu_in heard) → Answers asks (way_by path invoke retries) r verdict old datagram new
answered_by asks path invoke r retries verdict sent datagram heard tries old mid new same whole few first asked answers judged =
    let Q : List ℕ → Type 0 = λ l. asks mid l (Ok datagram) new in
    let R : List ℕ → Type 0 = λ l. answers_to l datagram ≡ true in
    (tries, mid, few, first, subst Q same asked, (subst R same answers, sym (judged ∙ ap (λ l. verdict_of r (apdu_in l)) whole)))
