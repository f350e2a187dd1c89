use Rattle.std.proofs.Common.{rules, subst, sym, All}
use Rattle.std.proofs.lemmas.List.{take_all}
use Rattle.std.proofs.lemmas.List.Elements.{All-get_or, All-more}
use Rattle.bac_archive.specs.Archive.{HasIdBelow}
use Rattle.bac_archive.proofs.opening.have_ids_below.Goals as goal

pub loop-row-preserved : goal.loop-row-preserved
loop-row-preserved c =
    All-more (HasIdBelow c.args.most) c.args.rows.now c.loop-row.row-index c.row-item.result (search rules) c.loop-row.invariant
    (subst (HasIdBelow c.args.most) c.row-item.is (c.if-not-is_id_below.ensures.0 (search rules)))

pub returns-then-not-is_id_below : goal.returns-then-not-is_id_below
returns-then-not-is_id_below c = (
  λ h. search rules,
  λ all.
      let one = All-get_or (HasIdBelow c.args.most) c.args.rows.now c.loop-row.row-index c.row-item.result (search rules) all.each in
      let holds = c.if-not-is_id_below.ensures.1 (subst (HasIdBelow c.args.most) (sym c.row-item.is) one) in
      search rules,
)

pub returns : goal.returns
returns c = (
  λ _. record { each = subst (All (HasIdBelow c.args.most)) (take_all c.loop-row.row-index c.args.rows.now c.loop-row-test.false) c.loop-row.invariant },
  λ _. search rules,
)
