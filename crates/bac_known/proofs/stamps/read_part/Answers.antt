-- A star is the part that is unspecified; any other text of a part is its number.
use Rattle.std.proofs.Common.{ℕ, Some, [], ◌∷◌, sym, ap, subst, ◌∙◌}
use Rattle.std.specs.Str.Parse.{ParsesUnsigned}
use Rattle.std.proofs.lemmas.Slice.Eq.{bytes_eq-Decides}
use Rattle.bac_known.proofs.ReadBack.{differ, part_parsed, part_star}
use Rattle.bac_known.proofs.stamps.read_part.Goals as goal

pub returns-then-eq : goal.returns-then-eq
returns-then-eq c n few is =
    let star = (bytes_eq-Decides c.args.text.now (42 ∷ [])).0 (sym c.eq.ensures ∙ c.if-eq.true) in
    ap (λ (m : ℕ). Some m) (sym (part_star n few (sym is ∙ star)))

pub returns-in-Ok : goal.returns-in-Ok
returns-in-Ok c n few is =
    let other = differ c.args.text.now (42 ∷ []) c.eq.result c.eq.ensures c.if-eq.false in
    let read = part_parsed n c.parse.result few (λ star. other (is ∙ star)) (subst (λ l. ParsesUnsigned 8 10 l c.parse.result) is c.parse.ensures.value.0) in
    let same = sym c.in-Ok.is ∙ read in cc

pub returns-in-Err : goal.returns-in-Err
returns-in-Err c n few is =
    let other = differ c.args.text.now (42 ∷ []) c.eq.result c.eq.ensures c.if-eq.false in
    let read = part_parsed n c.parse.result few (λ star. other (is ∙ star)) (subst (λ l. ParsesUnsigned 8 10 l c.parse.result) is c.parse.ensures.value.0) in
    let same = sym c.in-Err.is ∙ read in absurd cc
