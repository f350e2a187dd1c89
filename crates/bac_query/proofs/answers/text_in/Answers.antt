use Rattle.bac_wire.specs.Primitive.{Chars}
use Rattle.bac_query.proofs.AnswerLemmas.{chars_value}
use Rattle.bac_query.proofs.answers.text_in.Goals as goal

pub returns-in_default-clause-none : goal.returns-in_default-clause-none
returns-in_default-clause-none c = λ same set octets is. c.in_default.ensures.only (Chars set octets) is

pub returns-in_default-value : goal.returns-in_default-value
returns-in_default-value c = record {
  found = tt;
  none = λ same set octets is. chars_value c.in-Some.value set octets (c.in-Some.ensures.only (Chars set octets) is) c.in_default-value.not-Chars;
}
