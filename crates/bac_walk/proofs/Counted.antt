-- What the asks of a run come to.
use Rattle.std.proofs.Common.{◌≡◌, ℕ, zero, suc, ◌+◌, Result, Ok, List, [], ◌∷◌, length, refl, ap, subst, arith}
use Rattle.std.proofs.lemmas.List.{length-append}
use Rattle.bac_link.specs.declared.exchanges.ExchangeFault.{ExchangeFault}
use Rattle.bac_link.specs.declared.item.Item.{Item}
use Rattle.bac_link.specs.declared.item.Item.TheVariants.{Logged}
use Rattle.bac_link.specs.Exchanges.{Exchanges, Unanswered, way_by}
use Rattle.bac_link.specs.Links.{question}
use Rattle.bac_link.specs.Path.{Path}
use Rattle.bac_link.specs.Requests.{request_octets}
use Rattle.bac_link.specs.declared.link.Lost.{Lost as Loss}
use Rattle.bac_walk.specs.Came.{AreOf, Came, Comes, LostIsAsked, NothingCame, reaching, walk_over}
use Rattle.bac_walk.specs.Place.{WalkPlace}
use Rattle.bac_walk.specs.Walks.{question_of}
use Rattle.bac_walk.specs.declared.outcome.Ended.{Ended}
use Rattle.bac_walk.specs.declared.outcome.Ended.TheVariants.{CaughtUp, StepLimit, Stopped, Fault}
use Rattle.bac_walk.proofs.Told.{Asking}

counted : {S : Type 0} (asks : Asking S) (count : S → ℕ) (octets : List ℕ) → ((a b : S) (o : List ℕ) (r : Result (List ℕ) Loss) → asks a o r b → count b ≡ count a + 1) →
    (n : ℕ) (old new : S) → Unanswered asks octets n old new → count new ≡ count old + n
counted asks count octets one zero old new none = omega (arith, ap count none)
counted asks count octets one (suc n) old new (mid, answer, before, ask, unheard) =
    omega (arith, counted asks count octets one n old mid before, one mid new octets answer ask)

pub lost_asked : {S : Type 0} (asks : Asking S) → LostIsAsked asks
lost_asked {S = S} asks = λ count path retries old new w after steps came items one run.
    let here : WalkPlace = run.0 in
    let mid : S = run.1 in
    let asked = run.3.1.1 in
    let P : Result (List ℕ) ExchangeFault → Type 0 = λ r. Exchanges asks (way_by path asked.0 retries) (question here.log (question_of here)) mid r new in
    (here, mid, run.2, counted asks count (request_octets path asked.0 (question here.log (question_of here))) one (retries + 1) mid new (subst P run.3.1.2 asked.1))

none_came : {S : Type 0} (asks : Asking S) (path : Path) (retries : ℕ) (old mid : S) (w here : WalkPlace) (came : List Came) →
    ((a b : S) (octets datagram : List ℕ) → asks a octets (Ok datagram) b → ⊥) → Comes (reaching asks path retries) (walk_over old w) came (walk_over mid here) → came ≡ []
none_came asks path retries old mid w here [] silent comes = refl
none_came asks path retries old mid w here (c ∷ came) silent comes =
    absurd (let answers = comes.4.1 in silent answers.1 comes.0 _ c.datagram answers.4)

no_items : (ended : Ended) (came : List Came) (items : List Item) (after : WalkPlace) → came ≡ [] → AreOf ended came items after → items ≡ []
no_items ended [] items after none are = by_end ended are
  where
    by_end : (why : Ended) → AreOf why [] items after → items ≡ []
    by_end CaughtUp is = is
    by_end StepLimit is = is
    by_end Stopped is = absurd (omega (arith, ap length is.5, length-append items is.3, ap length is.4, length-append is.0 (Logged is.1 is.2 ∷ [])))
    by_end (Fault e) is = is
no_items ended (c ∷ came) items after none are = absurd (cc)

pub nothing_came : {S : Type 0} (asks : Asking S) → NothingCame asks
nothing_came asks = λ path retries old new w after steps came items ended silent run.
    let none = none_came asks path retries old run.1 _ run.0 came silent run.2 in (none, no_items ended came items after none run.4)
