-- What is answered to a confirmed request (clause 5.4), apart from where it lies in memory.
use Rattle.std.specs.Prelude.{ℕ, List}
use Rattle.bac_link.specs.declared.answer.Answer.{Answer as AnswerCode}
use Rattle.bac_link.specs.declared.answer.Answer.TheVariants as code

-- Complex has the service parameters, Error class and code, Reject and Abort the reason.
pub data Answer : Type 0 where
  Simple : Answer
  Complex : List ℕ → Answer
  Segmented : Answer
  Error : ℕ → ℕ → Answer
  Reject : ℕ → Answer
  Abort : ℕ → Answer

-- an answer of the code, apart from where its parameters lie in memory
abbrev pub answer_of : AnswerCode → Answer
answer_of code.Simple = Simple
answer_of (code.Complex parameters) = Complex parameters.now
answer_of code.Segmented = Segmented
answer_of (code.Error class number) = Error class number
answer_of (code.Reject reason) = Reject reason
answer_of (code.Abort reason) = Abort reason
