-- The limits are kept in a whole run.
use Rattle.std.proofs.Common.{List, [], ◌∷◌, sym, subst}
use Rattle.bac_drive.specs.Chain.{Chain}
use Rattle.bac_drive.specs.Event.{Event, Kept, Printed, Read, Sent, Waited, Warned}
use Rattle.bac_drive.specs.Happens.{Learns}
use Rattle.bac_site_poller.specs.Site.{IsWithin, SiteHears, SiteState}
use Rattle.bac_site_poller.specs.SiteLaws.{WithinLimits, SiteSteps, SiteReads}
use Rattle.bac_site_poller.proofs.Within.{stays_within}
use Rattle.bac_site_poller.proofs.WithinRun.{wants_within}

told : (old new : SiteState) (e : Event) → IsWithin old → Learns SiteHears SiteReads old e new → IsWithin new
told old new (Waited most heard) within (now, moment, is) =
    let P : SiteState → Type 0 = λ s. IsWithin s in subst P (sym is) ((stays_within old within).0 now heard)
told old new (Read ms) within is =
    let P : SiteState → Type 0 = λ s. IsWithin s in subst P (sym is) ((stays_within old within).1 ms)
told old new (Sent octets to answer) within is = let P : SiteState → Type 0 = λ s. IsWithin s in subst P (sym is) within
told old new (Kept puts) within is = let P : SiteState → Type 0 = λ s. IsWithin s in subst P (sym is) within
told old new (Printed text) within is = let P : SiteState → Type 0 = λ s. IsWithin s in subst P (sym is) within
told old new (Warned text) within is = let P : SiteState → Type 0 = λ s. IsWithin s in subst P (sym is) within

run : (old new : SiteState) (es : List Event) → IsWithin old → Chain SiteSteps old es new → IsWithin new
run old new [] within same =
    let Q : SiteState → Type 0 = λ s. IsWithin s in subst Q (sym same) within
run old new (e ∷ es) within (mid, (wanted, half, gives, does, is), more) =
    let one = wants_within old half wanted within gives in
    run mid new es (told half mid e one is) more

pub within_limits : WithinLimits
within_limits = λ old new es within chain. run old new es within chain
