use Rattle.std.proofs.Common.{arith}
use Rattle.bac_wire.specs.Primitive.{Unsigned}
use Rattle.bac_query.proofs.AnswerLemmas.{same_number, unsigned_value}
use Rattle.bac_query.proofs.answers.number_in.Goals as goal

pub returns-in_default-clause-none : goal.returns-in_default-clause-none
returns-in_default-clause-none c = λ same number less is. c.in_default.ensures.only (Unsigned number) is

pub returns-in_default-value : goal.returns-in_default-value
returns-in_default-value c = record {
  found = tt;
  small = tt;
  none = λ same number less is. c.in_default-value.not-Unsigned number (unsigned_value c.in-Some.value number (c.in-Some.ensures.only (Unsigned number) is));
}

pub returns-then-number-gt4294967295-clause-none : goal.returns-then-number-gt4294967295-clause-none
returns-then-number-gt4294967295-clause-none c = λ same number less is.
    let one = same_number c.in-Some.value c.in-Unsigned.number number c.in-Unsigned.is (c.in-Some.ensures.only (Unsigned number) is) in
    omega (arith, one, less, c.if-number-gt4294967295.true)
