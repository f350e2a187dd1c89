use Rattle.std.proofs.Common.{List, map, refl, sym, ap, subst, ◌∙◌}
use Rattle.std.specs.Option.{option_map}
use Rattle.sqlite_value.specs.Order.{Row as Values}
use Rattle.bac_archive.specs.Put.{beginning_columns, item_columns, log_columns}
use Rattle.bac_poll.specs.State.{standing_as}
use Rattle.bac_resume.specs.Resumed.{IsPlaceOf, SaysOf}
use Rattle.bac_resume.specs.Rows.{LogTold}
use Rattle.bac_resume.proofs.resumed.go_on.Goals as goal

pub returns-then-is_counted : goal.returns-then-is_counted
returns-then-is_counted c =
    let log = log_columns c.args.log.now in
    let begins = beginning_columns c.in-Some.begins in
    let items = ap (map item_columns) c.as_slice-items.ensures.value ∙ ap (λ (t : LogTold). t.newest) c.told.view_is in (
      begins,
      sym (ap (λ (t : LogTold). t.begins) c.told.view_is) ∙ ap (option_map beginning_columns) c.in-Some.is,
      sym c.is_counted.ensures ∙ c.if-is_counted.true,
      subst (λ (l : List Values). IsPlaceOf log begins l c.place_of-place.result) items c.place_of-place.ensures,
      refl,
      c.in_ok-word.ensures,
    )

pub returns : goal.returns
returns c =
    let log = log_columns c.args.log.now in
    let begins = beginning_columns c.in-Some.begins in
    let items = ap (map item_columns) c.as_slice-items.ensures.value ∙ ap (λ (t : LogTold). t.newest) c.told.view_is in (
      begins,
      sym (ap (λ (t : LogTold). t.begins) c.told.view_is) ∙ ap (option_map beginning_columns) c.in-Some.is,
      sym c.is_counted.ensures ∙ c.if-is_counted.false,
      subst (λ (l : List Values). IsPlaceOf log begins l c.place_of-place.result) items c.place_of-place.ensures,
      subst (λ (l : List Values). SaysOf log begins l (standing_as c.in_ok-at.at)) items c.in_ok-at.ensures,
    )
