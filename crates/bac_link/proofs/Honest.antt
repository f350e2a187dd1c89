-- How long a link is honest.
use Rattle.std.proofs.Common.{ℕ, zero, suc, Result, Ok, Err, List}
use Rattle.bac_wire.specs.Primitive.{Id}
use Rattle.bac_link.specs.declared.link.Lost.{Lost as Loss}
use Rattle.bac_link.specs.Delivery.{History, Moment, later}
use Rattle.bac_link.specs.Honest.{IsSaidOrLost, IsHonestFor, IsHonestWhere, IsHonest, HonestWhereItStands, asked_octets, asked_log}
use Rattle.bac_link.specs.Path.{Path}
use Rattle.bac_link.specs.Standard.{Asked}

abbrev pub Asking : Type 0 → Type 1
Asking S = S → List ℕ → Result (List ℕ) Loss → S → Type 0

mapped : (stays goes : List Moment → Type 0) (M : List Moment) (H : History) (log : Id) (asked : Asked) (octets : List ℕ) (answer : Result (List ℕ) Loss) →
    ((N : List Moment) → stays N → goes N) → IsSaidOrLost stays M H log asked octets answer → IsSaidOrLost goes M H log asked octets answer
mapped stays goes M H log asked octets (Ok datagram) to said = ((λ yes. let x = said.0 yes in (x.0, to (later M) x.1)), λ no. to M (said.1 no))
mapped stays goes M H log asked octets (Err lost) to said = to M said

honest_on : {S : Type 0} (asks : Asking S) (stands : S → List Moment → Type 0) (path : Path) (log : Id) (count : ℕ) (H : History) (low : ℕ) → IsHonestWhere asks (asked_log path log count) H low stands →
    (more : ℕ) (link : S) (M : List Moment) → stands link M → IsHonestFor asks (asked_log path log count) H low more link M
honest_on asks stands path log count H low honest zero link M at = tt
honest_on asks stands path log count H low honest (suc more) link M at = λ new asked invoke answer some window is ask.
    mapped (λ N. stands new N) (λ N. IsHonestFor asks (asked_log path log count) H low more new N) M H log asked (asked_octets path invoke log asked) answer
    (λ N stood. honest_on asks stands path log count H low honest more new N stood) (honest link new M asked invoke answer at some window is ask)

pub stands_honest : {S : Type 0} (asks : Asking S) (stands : S → List Moment → Type 0) → HonestWhereItStands asks stands
stands_honest asks stands = λ path log count H low link M honest at more. honest_on asks stands path log count H low honest more link M at

however_many : {S : Type 0} (asks : Asking S) (path : Path) (log : Id) (count : ℕ) (H : History) (low : ℕ) (new : S) (M : List Moment) (asked : Asked) (octets : List ℕ) (answer : Result (List ℕ) Loss) →
    ((more : ℕ) → IsSaidOrLost (λ N. IsHonestFor asks (asked_log path log count) H low more new N) M H log asked octets answer) → IsSaidOrLost (λ N. IsHonest asks (asked_log path log count) H low new N) M H log asked octets answer
however_many asks path log count H low new M asked octets (Ok datagram) said = ((λ yes. (((said 0).0 yes).0, (λ more. ((said more).0 yes).1))), λ no more. (said more).1 no)
however_many asks path log count H low new M asked octets (Err lost) said = said

pub goes_on : {S : Type 0} (asks : Asking S) (path : Path) (log : Id) (count : ℕ) (H : History) (low : ℕ) → IsHonestWhere asks (asked_log path log count) H low (λ link M. IsHonest asks (asked_log path log count) H low link M)
goes_on asks path log count H low = λ old new M asked invoke answer honest some window is ask.
    however_many asks path log count H low new M asked (asked_octets path invoke log asked) answer
    (λ more. honest (suc more) new asked invoke answer some window is ask)
