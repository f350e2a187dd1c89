use Rattle.std.proofs.Common.{◌+◌, ◌/◌, List, map, take, drop, true, ap, sym, subst, refl, rules, arith}
use Rattle.std.specs.List.{Contains}
use Rattle.std.specs.List.Sorted.{IsSorted}
use Rattle.std.proofs.lemmas.List.{take_all}
use Rattle.sqlite_value.specs.Order.{column}
use Rattle.bac_archive.specs.Ask.{falls, first}
use Rattle.bac_archive.specs.Put.{beginning_columns}
use Rattle.bac_archive.specs.Stands.{Meets, epochs, TellsFirst}
use Rattle.bac_archive.proofs.NewestLemmas.{Told, told_nothing, told_more_row}
use Rattle.bac_archive.proofs.ReadLemmas.{one_more_row, with_rest}
use Rattle.bac_archive.proofs.standing.last_of.Goals as goal

pub loop-row-init : goal.loop-row-init
loop-row-init c sorted = told_nothing epochs 1 (λ _. true) beginning_columns (first 3) _ (search rules) refl (omega arith)

pub loop-row-preserved : goal.loop-row-preserved
loop-row-preserved c sorted =
    let rows = c.args.rows.now in
    let k = c.loop-row.row-index in
    let row = c.row-item.result in
    let b = c.in_ok-beginning_of.field-0 in
    let read = c.in_ok-beginning_of.ensures.read in
    subst (λ l. Told epochs 1 (λ _. true) beginning_columns (first 3) l c.in_ok-found.found) (one_more_row rows k row (search rules) (search rules))
    (told_more_row epochs 1 (λ _. true) beginning_columns (first 3) (λ x y le. omega (arith, le)) (λ r. refl) (omega arith) (take k rows) (drop (k + 1) rows) row b.id true c.loop-row.found c.in_ok-found.found
    (subst (IsSorted falls) (with_rest rows k row (search rules) (search rules)) sorted) (sym (ap (λ r. column r 0) read)) (λ _. refl) (subst (λ (v : List _). Meets beginning_columns 1 (b.id / epochs) true c.loop-row.found v c.in_ok-found.found) read c.in_ok-found.ensures.meets) (c.loop-row.invariant sorted))

pub returns-clause-told : goal.returns-clause-told
returns-clause-told c sorted =
    let told = map beginning_columns c.loop-row.found.rows.items in
    let all = take_all c.loop-row.row-index c.args.rows.now c.loop-row-test.false in
    let was = (c.loop-row.invariant sorted).0 in (
      subst (λ l. TellsFirst epochs 1 (λ _. true) (map (first 3) l) told) all was.kept,
      λ row has. subst (λ l. Contains (map (first 3) l) row) all (was.there row has),
    )
