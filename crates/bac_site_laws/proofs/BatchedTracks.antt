-- The same where the rows of a site are put in batches.
use Rattle.std.proofs.Common.{◌≡◌, ◌∙◌, ℕ, ◌+◌, ◌++◌, List, map, ap, sym}
use Rattle.std.specs.List.{sum_by}
use Rattle.std.proofs.lemmas.List.{map-append}
use Rattle.std.proofs.lemmas.List.Elements.{filter-append}
use Rattle.std.proofs.lemmas.List.Sums.{sum_by-append}
use Rattle.bac_archive.specs.declared.row.Put.{Put}
use Rattle.bac_drive.specs.Laws.{puts_of}
use Rattle.bac_batch.specs.Laws.{LosesNothing}
use Rattle.bac_device_poller.specs.Puts.{PutAs, put_as}
use Rattle.bac_site_poller.specs.Site.{GivesSite, SiteHears}
use Rattle.bac_site_poller.specs.SiteLaws.{SiteReads}
use Rattle.bac_site_laws.specs.Own.{is_of_log, rows_in}
use Rattle.bac_site_laws.specs.Tracks.{BatchedRowsAreOwn}
use Rattle.bac_site_laws.proofs.Tracks.{rows_are_own}

rows_both : (g : PutAs → ℕ) (xs ys : List Put) → sum_by g (rows_in (map put_as (xs ++ ys))) ≡ sum_by g (rows_in (map put_as xs)) + sum_by g (rows_in (map put_as ys))
rows_both g xs ys =
    ap (sum_by g) (ap rows_in (map-append put_as xs ys) ∙ filter-append is_of_log (map put_as xs) (map put_as ys))
    ∙ sum_by-append g (rows_in (map put_as xs)) (rows_in (map put_as ys))

pub batched_rows_are_own : LosesNothing GivesSite SiteHears SiteReads → BatchedRowsAreOwn
batched_rows_are_own law = λ old new es nothing chain.
    let (inner, last, inside) = law old new es nothing chain in
    let (tracks, are) = rows_are_own old.machine last inner inside.run in (
      tracks,
      record {
        own = are.own;
        each = are.each;
        rows = λ g. sym (rows_both g (puts_of es) new.puts)
            ∙ ap (λ (l : List Put). sum_by g (rows_in (map put_as l))) (sym inside.rows) ∙ are.rows g;
      },
    )
