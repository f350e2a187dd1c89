use Rattle.std.proofs.Common.{◌≡◌, true, rules, subst, All}
use Rattle.std.proofs.lemmas.List.{take_all}
use Rattle.std.proofs.lemmas.List.Elements.{All-more}
use Rattle.sqlite_schema.specs.declared.schema.Index.{Index}
use Rattle.bac_archive.specs.Schema.{lets_in}
use Rattle.bac_archive.proofs.shape.are_let_in.Goals as goal

pub loop-index-preserved : goal.loop-index-preserved
loop-index-preserved c =
    All-more (λ (i : Index). lets_in i ≡ true) c.args.indexes.now c.loop-index.index-index c.index-item.result (search rules) c.loop-index.invariant
    (subst (λ (i : Index). lets_in i ≡ true) c.index-item.is (c.if-not-is_let_in.ensures.0 (search rules)))

pub returns : goal.returns
returns c = (
  λ _. subst (All (λ (i : Index). lets_in i ≡ true)) (take_all c.loop-index.index-index c.args.indexes.now c.loop-index-test.false) c.loop-index.invariant,
  λ _. search rules,
)
