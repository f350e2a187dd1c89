use Rattle.std.proofs.Common.{◌≡◌, ◌++◌, ◌∙◌, ap, subst, sym, codes, arith}
use Rattle.std.proofs.lemmas.Str.Pattern.{starts_char}
use Rattle.bac_files.proofs.PartNames.{Tells, no_part, not_so, other_length, signed, tells, without_end}
use Rattle.bac_files.proofs.folder.number_of.Goals as goal
use Rattle.bac_files.proofs.folder.number_of.Goals.{then-digits-ne6-via-then-digits-ne6, then-digits-ne6-via-else-digits-ne6+then-starts_with}

pub returns-in_err-digits : goal.returns-in_err-digits
returns-in_err-digits c = rw (sym c.from_residual.ensures) at (no_part c.args.name.now (without_end c.args.name.now c.in_err-digits.ensures.cases))

pub returns-then-digits-ne6 : goal.returns-then-digits-ne6
returns-then-digits-ne6 c =
    let digits = c.in_ok-digits.digits.now in
    let at = c.in_ok-digits.ensures.cases in
    let is : c.args.name.now ≡ digits ++ codes ".db" = at.1.1 ∙ ap (λ l. l ++ codes ".db") (sym at.2) in
    no_part c.args.name.now (elim c.then-digits-ne6.branch [
      | then-digits-ne6-via-then-digits-ne6 w ↦ other_length c.args.name.now digits is w.if-digits-ne6.true
      | then-digits-ne6-via-else-digits-ne6+then-starts_with w ↦
          signed c.args.name.now digits is
          ((starts_char 43 digits w.starts_with.result w.starts_with.ensures.cases (omega arith) (omega arith)).0 w.if-starts_with.true)
    ])

pub returns-in-Ok : goal.returns-in-Ok
returns-in-Ok c =
    let digits = c.in_ok-digits.digits.now in
    let at = c.in_ok-digits.ensures.cases in
    let is : c.args.name.now ≡ digits ++ codes ".db" = at.1.1 ∙ ap (λ l. l ++ codes ".db") (sym at.2) in
    let unsigned = not_so c.starts_with.result (starts_char 43 digits c.starts_with.result c.starts_with.ensures.cases (omega arith) (omega arith)) c.if-starts_with.false in
    let read = tells c.args.name.now digits c.parse.result is c.if-digits-ne6.false unsigned c.parse.ensures.value.0 in
    (subst (Tells c.args.name.now) c.in-Ok.is read).0 c.if-number-gt0.true

pub returns-in_default : goal.returns-in_default
returns-in_default c =
    let digits = c.in_ok-digits.digits.now in
    let at = c.in_ok-digits.ensures.cases in
    let is : c.args.name.now ≡ digits ++ codes ".db" = at.1.1 ∙ ap (λ l. l ++ codes ".db") (sym at.2) in
    let unsigned = not_so c.starts_with.result (starts_char 43 digits c.starts_with.result c.starts_with.ensures.cases (omega arith) (omega arith)) c.if-starts_with.false in
    let read = tells c.args.name.now digits c.parse.result is c.if-digits-ne6.false unsigned c.parse.ensures.value.0 in
    no_part c.args.name.now ((subst (Tells c.args.name.now) c.in-Ok.is read).1 (λ some. omega (arith, some, c.if-number-gt0.false)))

pub returns-in_default-2 : goal.returns-in_default-2
returns-in_default-2 c =
    let digits = c.in_ok-digits.digits.now in
    let at = c.in_ok-digits.ensures.cases in
    let is : c.args.name.now ≡ digits ++ codes ".db" = at.1.1 ∙ ap (λ l. l ++ codes ".db") (sym at.2) in
    let unsigned = not_so c.starts_with.result (starts_char 43 digits c.starts_with.result c.starts_with.ensures.cases (omega arith) (omega arith)) c.if-starts_with.false in
    let read = tells c.args.name.now digits c.parse.result is c.if-digits-ne6.false unsigned c.parse.ensures.value.0 in
    no_part c.args.name.now (subst (Tells c.args.name.now) c.in_default.is read)
