use Rattle.std.proofs.Common.{◌≡◌, ◌+◌, ◌∙◌, ℕ, List, Result, Ok, Err, sym, subst}
use Rattle.bac_link.specs.Exchanges.{Exchanges, Unanswered}
use Rattle.bac_link.specs.Requests.{request_octets}
use Rattle.bac_link.specs.declared.exchanges.ExchangeFault.{ExchangeFault}
use Rattle.bac_link.specs.declared.exchanges.ExchangeFault.TheVariants.{Lost}
use Rattle.bac_link.specs.declared.link.Lost.{Lost as Loss}
use Rattle.bac_link.specs.declared.request.Request.{Request}
use Rattle.bac_query.specs.Reading.{Answer, Held, Way, next_way, printing}
use Rattle.bac_query.specs.Writing.{PrintsIfDone, WritesOver}
use Rattle.bac_query.specs.declared.fault.QueryFault.TheVariants.{Exchange}
use Rattle.bac_tools_tests.proofs.query_callers.written_until_lost.Goals as goal

-- what was told as lost was lost
lost_only : {S : Type 0} (asks : S → List ℕ → Result (List ℕ) Loss → S → Type 0) (way : Way) (asked : Request) (link left : S)
    (result : Answer) (old new : Held) → WritesOver asks way asked (printing link old) result (printing left new) → result ≡ Err (Exchange Lost) →
    Unanswered asks (request_octets way.path way.invoke asked) (way.retries + 1) link left
lost_only asks way asked link left result old new (Ok datagram, done, printed) is =
    let P : Answer → Type 0 = λ r. PrintsIfDone (Ok datagram) r old new in
    absurd (subst P is printed)
lost_only {S = S} asks way asked link left result old new (Err fault, done, (told, keeps)) is =
    let same : Err (Exchange fault) ≡ Err (Exchange Lost) = sym told ∙ is in
    let lost : fault ≡ Lost = cc in
    let Q : ExchangeFault → Type 0 = λ f. Exchanges asks way asked link (Err f) left in
    subst Q lost done

pub returns : goal.returns
returns g c = λ lost.
    lost_only g.L.LogLink.asks (next_way c.args.transactions.now) c.args.asked.now c.args.link.now c.write_property.new.link
    c.write_property.result (g.W.Write.contents c.args.out.now) (g.W.Write.contents c.write_property.new.out) c.write_property.ensures.asked lost
