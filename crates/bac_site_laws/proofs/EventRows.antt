-- The rows of logs that events put, and that the steps of a device keep.
use Rattle.std.proofs.Common.{◌≡◌, ◌∙◌, ℕ, ◌+◌, Bool, true, false, List, [], ◌∷◌, ◌++◌}
use Rattle.std.proofs.Common.{map, refl, ap, subst, arith}
use Rattle.std.specs.List.{sum_by}
use Rattle.std.proofs.lemmas.List.{map-append}
use Rattle.std.proofs.lemmas.List.Elements.{filter-append}
use Rattle.std.proofs.lemmas.List.Sums.{sum_by-append}
use Rattle.bac_archive.specs.declared.row.Put.{Put}
use Rattle.bac_drive.specs.Chain.{Chain}
use Rattle.bac_drive.specs.Event.{Event, Kept, Printed, Read, Sent, Waited, Warned}
use Rattle.bac_drive.specs.Happens.{Does}
use Rattle.bac_drive.specs.Laws.{puts_of}
use Rattle.bac_drive.specs.declared.machine.Next.{Next}
use Rattle.bac_drive.specs.declared.machine.Next.TheVariants as next
use Rattle.bac_device_poller.specs.Poller.{PollerAs}
use Rattle.bac_device_poller.specs.Puts.{PutAs, put_as}
use Rattle.bac_device_poller.specs.Telling.{IsToldBy}
use Rattle.bac_site_poller.specs.Site.{Rests, SiteState}
use Rattle.bac_site_poller.specs.SiteLaws.{Answered, Missed, Own, OwnStep, Wanted}
use Rattle.bac_site_laws.specs.Own.{is_of_log, kept_of, rows_in, wanted_rows}
use Rattle.bac_site_laws.specs.Tracks.{rows_put}

-- ---- rows of events

abbrev pub event_rows : Event → List PutAs
event_rows (Kept puts) = rows_in (map put_as puts)
event_rows (Sent octets to answer) = []
event_rows (Waited within heard) = []
event_rows (Read ms) = []
event_rows (Printed text) = []
event_rows (Warned text) = []

pub rows_cons : (e : Event) (es : List Event) → rows_put (e ∷ es) ≡ event_rows e ++ rows_put es
rows_cons (Kept puts) es =
    ap rows_in (map-append put_as puts (puts_of es)) ∙ filter-append is_of_log (map put_as puts) (map put_as (puts_of es))
rows_cons (Sent octets to answer) es = refl
rows_cons (Waited within heard) es = refl
rows_cons (Read ms) es = refl
rows_cons (Printed text) es = refl
rows_cons (Warned text) es = refl

pub rows_sum : (g : PutAs → ℕ) (e : Event) (es : List Event) → sum_by g (rows_put (e ∷ es)) ≡ sum_by g (event_rows e) + sum_by g (rows_put es)
rows_sum g e es = ap (sum_by g) (rows_cons e es) ∙ sum_by-append g (event_rows e) (rows_put es)

pub rows_more : (g : PutAs → ℕ) (done : List Event) (e : Event) → sum_by g (rows_put (done ++ e ∷ [])) ≡ sum_by g (rows_put done) + sum_by g (event_rows e)
rows_more g [] e = omega (arith, rows_sum g e [])
rows_more g (d ∷ done) e = omega (arith, rows_sum g d (done ++ e ∷ []), rows_sum g d done, rows_more g done e)

pub does_rows : (wanted : Next) (e : Event) → Does wanted e → event_rows e ≡ wanted_rows wanted
does_rows (next.Send octets to) (Sent sent peer answer) does = refl
does_rows (next.Send octets to) (Waited within heard) does = absurd does
does_rows (next.Send octets to) (Read ms) does = absurd does
does_rows (next.Send octets to) (Kept all) does = absurd does
does_rows (next.Send octets to) (Printed said) does = absurd does
does_rows (next.Send octets to) (Warned said) does = absurd does
does_rows (next.Wait most) (Sent sent peer answer) does = absurd does
does_rows (next.Wait most) (Waited within heard) does = refl
does_rows (next.Wait most) (Read ms) does = absurd does
does_rows (next.Wait most) (Kept all) does = absurd does
does_rows (next.Wait most) (Printed said) does = absurd does
does_rows (next.Wait most) (Warned said) does = absurd does
does_rows next.Read (Sent sent peer answer) does = absurd does
does_rows next.Read (Waited within heard) does = absurd does
does_rows next.Read (Read ms) does = refl
does_rows next.Read (Kept all) does = absurd does
does_rows next.Read (Printed said) does = absurd does
does_rows next.Read (Warned said) does = absurd does
does_rows (next.Keep puts) (Sent sent peer answer) does = absurd does
does_rows (next.Keep puts) (Waited within heard) does = absurd does
does_rows (next.Keep puts) (Read ms) does = absurd does
does_rows (next.Keep puts) (Kept all) does = ap (λ (l : List Put). rows_in (map put_as l)) does
does_rows (next.Keep puts) (Printed said) does = absurd does
does_rows (next.Keep puts) (Warned said) does = absurd does
does_rows (next.Print text) (Sent sent peer answer) does = absurd does
does_rows (next.Print text) (Waited within heard) does = absurd does
does_rows (next.Print text) (Read ms) does = absurd does
does_rows (next.Print text) (Kept all) does = absurd does
does_rows (next.Print text) (Printed said) does = refl
does_rows (next.Print text) (Warned said) does = absurd does
does_rows (next.Warn text) (Sent sent peer answer) does = absurd does
does_rows (next.Warn text) (Waited within heard) does = absurd does
does_rows (next.Warn text) (Read ms) does = absurd does
does_rows (next.Warn text) (Kept all) does = absurd does
does_rows (next.Warn text) (Printed said) does = absurd does
does_rows (next.Warn text) (Warned said) does = refl
does_rows next.End (Sent sent peer answer) does = absurd does
does_rows next.End (Waited within heard) does = absurd does
does_rows next.End (Read ms) does = absurd does
does_rows next.End (Kept all) does = absurd does
does_rows next.End (Printed said) does = absurd does
does_rows next.End (Warned said) does = absurd does

pub told_none : (good : Bool) (text : List ℕ) (wanted : Next) → IsToldBy good text wanted → wanted_rows wanted ≡ []
told_none true text (next.Keep puts) is = absurd is
told_none true text (next.Send octets to) is = refl
told_none true text (next.Wait most) is = refl
told_none true text next.Read is = refl
told_none true text (next.Print line) is = refl
told_none true text (next.Warn line) is = refl
told_none true text next.End is = refl
told_none false text (next.Keep puts) is = absurd is
told_none false text (next.Send octets to) is = refl
told_none false text (next.Wait most) is = refl
told_none false text next.Read is = refl
told_none false text (next.Print line) is = refl
told_none false text (next.Warn line) is = refl
told_none false text next.End is = refl

pub rests_none : (s : SiteState) (wanted : Next) → Rests s wanted → wanted_rows wanted ≡ []
rests_none s (next.Keep puts) is = absurd is
rests_none s (next.Send octets to) is = refl
rests_none s (next.Wait most) is = refl
rests_none s next.Read is = refl
rests_none s (next.Print line) is = refl
rests_none s (next.Warn line) is = refl
rests_none s next.End is = refl

-- ---- own steps

abbrev pub own_kept : Own → List PutAs
own_kept (Wanted ids wanted) = wanted_rows wanted
own_kept (Answered from datagram now) = []
own_kept Missed = []

pub own_cons : (o : Own) (own : List Own) → kept_of (o ∷ own) ≡ own_kept o ++ kept_of own
own_cons (Wanted ids wanted) own = refl
own_cons (Answered from datagram now) own = refl
own_cons Missed own = refl

pub own_more : (g : PutAs → ℕ) (own : List Own) (o : Own) → sum_by g (kept_of (own ++ o ∷ [])) ≡ sum_by g (kept_of own) + sum_by g (own_kept o)
own_more g [] o = omega (arith, ap (sum_by g) (own_cons o []) ∙ sum_by-append g (own_kept o) [])
own_more g (d ∷ own) o =
    omega (
      arith,
      ap (sum_by g) (own_cons d (own ++ o ∷ [])) ∙ sum_by-append g (own_kept d) (kept_of (own ++ o ∷ [])),
      ap (sum_by g) (own_cons d own) ∙ sum_by-append g (own_kept d) (kept_of own),
      own_more g own o,
    )

pub chain_more : (a : PollerAs) (own : List Own) (b c : PollerAs) (step : Own) → Chain OwnStep a own b → OwnStep b step c → Chain OwnStep a (own ++ step ∷ []) c
chain_more a [] b c step same is =
    let P : PollerAs → Type 0 = λ x. OwnStep x step c in (c, subst P same is, refl)
chain_more a (e ∷ own) b c step (mid, first, chain) is = (mid, first, chain_more mid own b c step chain is)
