-- The lines of a configuration, one after the other.
use Rattle.std.proofs.Common.{◌≡◌, ℕ, ◌+◌, List, ◌∷◌, ◌++◌, Option, None, Some, Result, Err, sym, ap, ◌∙◌}
use Rattle.std.specs.Str.Lines.{strip_carriage_return, lines}
use Rattle.bac_script.specs.Configuration.{Plan, plan_of, next_plan, with_text, AddsLine, Describes}
use Rattle.bac_script.specs.Reason.{described, with_next}
use Rattle.bac_script.specs.Script.Lines.{parts, ended_lines, open_line}
use Rattle.bac_script.specs.declared.replay.fault.ReplayFault.{ReplayFault}
use Rattle.bac_script.specs.declared.replay.fault.ReplayFault.TheVariants.{BadLine, Build, Read, TooLong, Write, Memory}
use Rattle.bac_script.proofs.LineLemmas.{ended_lines-first, open_line-first, lines-parts}

-- the first line, and the lines of the rest
pub lines-first : (text line more : List ℕ) → parts text ≡ line ∷ parts more → lines text ≡ strip_carriage_return line ∷ lines more
lines-first text line more h =
    lines-parts text
    ∙ ap (λ l. l ++ open_line text) (ended_lines-first text line more h)
    ∙ ap (λ l. (strip_carriage_return line ∷ ended_lines more) ++ l) (open_line-first text line more h)
    ∙ ap (λ l. strip_carriage_return line ∷ l) (sym (lines-parts more))

-- a plan of the lines of a text is one of its first line and the lines after it
pub plan_of-cut : (said : Result Plan ℕ) (n : ℕ) (plan : Plan) (text line more first : List ℕ) → said ≡ plan_of n plan (lines text)
    → parts text ≡ line ∷ parts more → first ≡ strip_carriage_return line → said ≡ plan_of n plan (first ∷ lines more)
plan_of-cut said n plan text line more first is h e =
    is ∙ ap (plan_of n plan) (lines-first text line more h ∙ ap (λ l. l ∷ lines more) (sym e))

module _ (said : Result Plan ℕ) (n : ℕ) (plan new : Plan) (text : List ℕ) (more : List (List ℕ)) (is : said ≡ plan_of n plan (text ∷ more)) where
  pub plan_of-line : with_text plan text ≡ Some new → said ≡ plan_of (n + 1) new more
  plan_of-line e = is ∙ ap (λ o. next_plan n o (λ next. plan_of (n + 1) next more)) e

  pub Describes-fault : (f : ReplayFault) → AddsLine (with_text plan text) n (Err f) new → Describes said (Err f)
  Describes-fault (BadLine k) h = is ∙ ap (λ o. next_plan n o (λ next. plan_of (n + 1) next more)) h.0 ∙ ap Err (sym h.1)
  Describes-fault (Build f) h = h
  Describes-fault Read h = h
  Describes-fault TooLong h = h
  Describes-fault Write h = h
  Describes-fault Memory h = tt

-- ---- up to the first line that describes nothing

pub described-cut : (said plan : Plan) (text line more first : List ℕ) → said ≡ described plan (lines text) → parts text ≡ line ∷ parts more → first ≡ strip_carriage_return line
    → said ≡ described plan (first ∷ lines more)
described-cut said plan text line more first is h e =
    is ∙ ap (described plan) (lines-first text line more h ∙ ap (λ (l : List ℕ). l ∷ lines more) (sym e))

pub described-line : (said plan next : Plan) (text : List ℕ) (more : List (List ℕ)) → said ≡ described plan (text ∷ more) → with_text plan text ≡ Some next → said ≡ described next more
described-line said plan next text more is e = is ∙ ap (λ (o : Option Plan). with_next plan o (λ q. described q more)) e

pub described-stop : (said plan : Plan) (text : List ℕ) (more : List (List ℕ)) → said ≡ described plan (text ∷ more) → with_text plan text ≡ None → said ≡ plan
described-stop said plan text more is e = is ∙ ap (λ (o : Option Plan). with_next plan o (λ q. described q more)) e
