-- What an ask of a link says of it, beside what it does: so what is proved of asks holds of links of ours.
use Rattle.std.specs.Prelude.{ℕ, List, Result}
use Rattle.bac_wire.specs.Primitive.{Id}
use Rattle.bac_apdu.specs.declared.service.extent.Extent.{Extent}
use Rattle.bac_link.specs.Delivery.{History, Moment}
use Rattle.bac_link.specs.Links.{IsAsked, IsQuestion, our_question}
use Rattle.bac_link.specs.Path.{Path}
use Rattle.bac_link.specs.declared.link.Lost.{Lost}

-- of a link that was ours for these logs, and then for those: an answer to a question is the reply of the next moment
abbrev pub IsOurAsk : (Id → ℕ → List Moment → History → Type 0) → (Id → ℕ → List Moment → History → Type 0) →
    List ℕ → Result (List ℕ) Lost → Type 0
IsOurAsk was is octets answer =
    (id : Id) (r : ℕ) (M : List Moment) (H : History) (extent : Extent) (path : Path) (invoke : ℕ) → was id r M H →
    IsQuestion id extent path invoke octets →
    IsAsked (λ N. is id r N H) (our_question r M H id extent path) invoke answer
