-- A site whose rows are put in batches.
use Rattle.std.proofs.Common.{◌≡◌, ◌∙◌, inl, inr, ℕ, List, ◌++◌, Ok, append_assoc, ap, sym, subst}
use Rattle.std.specs.List.{Contains}
use Rattle.std.proofs.lemmas.List.Elements.{All-weaker, Contains-append_left}
use Rattle.bac_archive.specs.declared.row.Put.{Put}
use Rattle.bac_drive.specs.Event.{Event, Waited}
use Rattle.bac_batch.specs.Laws.{AreCutShort, WasWanted, traffic_of}
use Rattle.bac_batch.proofs.Inside.{ends_whole, loses_nothing}
use Rattle.bac_batch.proofs.Parts.{traffic_append}
use Rattle.bac_batch.proofs.Replies.{batches_are_replies, cut_split}
use Rattle.bac_device_poller.specs.Poller.{PollerAs}
use Rattle.bac_site_poller.specs.Asked.{AreCome, WasAnswered, question_of}
use Rattle.bac_site_poller.specs.Site.{GivesSite, SiteHears, SiteState}
use Rattle.bac_site_poller.specs.SiteLaws.{BatchesCome, BatchesEnd, BatchesWithin, IsUnasked, SiteReads}
use Rattle.bac_site_poller.specs.declared.seat.Seat.{Seat}
use Rattle.bac_site_poller.proofs.Ended.{all_have_ended}
use Rattle.bac_site_poller.proofs.Open.{open_within}
use Rattle.bac_site_poller.proofs.SeatedRun.{site_rows_came}
use Rattle.bac_site_poller.proofs.Traffic.{sent_among, traffic_split, waited_among}

-- what was answered by some events was so by others whose traffic begins with theirs
answered : (front before early late : List Event) (p : PollerAs) (from datagram : List ℕ) →
    traffic_of front ≡ early ++ late →
    AreCutShort early (traffic_of before) → WasAnswered before p from datagram → WasAnswered front p from datagram
answered front before early late p from datagram whole cut
    (asked, heard, is, (answer, sent), (within, came, waited, at, same), answers) =
    let C : List Event → Type 0 = λ l. AreCutShort early l in
    let (first, second, parts, cut_first, cut_second) =
    cut_split early (traffic_of asked) (traffic_of heard)
    (subst C (ap traffic_of is ∙ traffic_append asked heard) cut) in
    let both = whole ∙ ap (λ (l : List Event). l ++ late) parts ∙ append_assoc first second late in
    let ask = traffic_split front first (second ++ late) both in
    let hear = traffic_split ask.behind second late ask.late_is in
    let S : List Event → Type 0 = λ l. AreCutShort l (traffic_of asked) in
    let W : List Event → Type 0 = λ l. AreCutShort l (traffic_of heard) in
    let (less, there) = waited_among hear.before heard within (Ok came) (subst W (sym hear.early_is) cut_second) waited
    in
    let P : List Event → Type 0 = λ l. Contains l (Waited less (Ok came)) in (
      ask.before,
      ask.behind,
      ask.is,
      (
        answer,
        sent_among ask.before asked (question_of p) p.way.peer answer (subst S (sym ask.early_is) cut_first)
            sent,
      ),
      (
        less,
        came,
        subst P (sym hear.is) (Contains-append_left hear.before hear.behind (Waited less (Ok came)) there),
        at,
        same,
      ),
      answers,
    )

-- so it is of rows
come : (start : List Seat) (front before early late : List Event) (rows : List Put) → traffic_of front ≡ early ++ late →
    AreCutShort early (traffic_of before) → AreCome start before rows → AreCome start front rows
come start front before early late rows whole cut (p, after, of, inl (came, was, turn)) =
    (p, after, of, inl (came, answered front before early late p came.from came.datagram whole cut was, turn))
come start front before early late rows whole cut (p, after, of, inr none) = (p, after, of, inr none)

wanted_come : (old : SiteState) (front : List Event) (rows : List Put) → IsUnasked old →
    WasWanted GivesSite SiteHears SiteReads old front rows →
    AreCome old.waiting front rows
wanted_come old front rows unasked (before, behind, last, chain, (early, late, whole, cut)) =
    come old.waiting front before early late rows whole cut (site_rows_came old last before behind rows unasked chain)

pub batches_come : BatchesCome
batches_come = λ old new front behind puts nothing unasked chain.
    let (replies, is, few, wanted) = batches_are_replies GivesSite SiteHears SiteReads old new front behind puts
    nothing chain in
    let W : List Put → Type 0 = λ rows. WasWanted GivesSite SiteHears SiteReads old.machine front rows in
    let C : List Put → Type 0 = λ rows. AreCome old.machine.waiting front rows in
    (replies, is, few, All-weaker W C (λ rows was. wanted_come old.machine front rows unasked was) replies wanted)

pub batches_within : BatchesWithin
batches_within = λ old new es nothing unasked chain.
    let (inner, last, inside) = loses_nothing GivesSite SiteHears SiteReads old new es nothing chain in
    (inner, last, inside, open_within old.machine last inner unasked inside.run)

pub batches_end : BatchesEnd
batches_end = λ old last new es nothing unasked chain end.
    let (inner, here, run, ends, traffic, rows, lines) =
    ends_whole GivesSite SiteHears SiteReads old last new es nothing chain end in
    all_have_ended old.machine here new.machine inner unasked run ends
