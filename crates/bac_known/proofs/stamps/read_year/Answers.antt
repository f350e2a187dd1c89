-- The same of a year.
use Rattle.std.proofs.Common.{arith, ℕ, Some, [], ◌∷◌, sym, ap, subst, ◌∙◌}
use Rattle.std.specs.Str.Parse.{ParsesUnsigned}
use Rattle.std.proofs.lemmas.Slice.Eq.{bytes_eq-Decides}
use Rattle.bac_known.proofs.ReadBack.{differ, year_parsed, year_star, year_value}
use Rattle.bac_known.proofs.stamps.read_year.Goals as goal

pub returns-then-eq : goal.returns-then-eq
returns-then-eq c n few is =
    let star = (bytes_eq-Decides c.args.text.now (42 ∷ [])).0 (sym c.eq.ensures ∙ c.if-eq.true) in
    ap (λ (m : ℕ). Some m) (sym (year_star n few (sym is ∙ star)))

pub returns-then-year-lt1900 : goal.returns-then-year-lt1900
returns-then-year-lt1900 c n few is =
    let other = differ c.args.text.now (42 ∷ []) c.eq.result c.eq.ensures c.if-eq.false in
    let read = year_parsed n c.parse.result few (λ star. other (is ∙ star)) (subst (λ l. ParsesUnsigned 16 10 l c.parse.result) is c.parse.ensures.value.0) in
    let year = year_value c.parse.result c.in-Ok.year n c.in-Ok.is read.0 in
    absurd (omega (arith, c.then-year-lt1900.either, year, few))

pub returns-else-year-gt2154 : goal.returns-else-year-gt2154
returns-else-year-gt2154 c n few is =
    let other = differ c.args.text.now (42 ∷ []) c.eq.result c.eq.ensures c.if-eq.false in
    let read = year_parsed n c.parse.result few (λ star. other (is ∙ star)) (subst (λ l. ParsesUnsigned 16 10 l c.parse.result) is c.parse.ensures.value.0) in
    let year = year_value c.parse.result c.in-Ok.year n c.in-Ok.is read.0 in
    ap (λ (m : ℕ). Some m) (omega (arith, year))

pub returns-in-Err : goal.returns-in-Err
returns-in-Err c n few is =
    let other = differ c.args.text.now (42 ∷ []) c.eq.result c.eq.ensures c.if-eq.false in
    let read = year_parsed n c.parse.result few (λ star. other (is ∙ star)) (subst (λ l. ParsesUnsigned 16 10 l c.parse.result) is c.parse.ensures.value.0) in
    let same = sym c.in-Err.is ∙ read.0 in absurd cc
