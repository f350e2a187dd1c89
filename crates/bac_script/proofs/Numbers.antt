-- The number of the line that begins with a kind and an instance.
use Rattle.std.proofs.Common.{◌≡◌, ◌<◌, ◌-◌, ◌+◌, zero, suc, true, false, Bool, if◌then◌else◌, ℕ, List, ◌∷◌, Option, Some, ap, sym, ◌∙◌, arith}
use Rattle.std.specs.Str.Lines.{strip_carriage_return, lines}
use Rattle.bac_objects.specs.declared.lines.LineId.{LineId}
use Rattle.bac_script.specs.Reason.{is_of, number_of, unless_others}
use Rattle.bac_script.specs.Script.Lines.{parts}
use Rattle.bac_script.specs.Script.Words.{words_of}
use Rattle.bac_script.proofs.ConfigurationLemmas.{lines-first}

none_before : (k n : ℕ) (more : ℕ → Option ℕ) → k ≡ 0 → unless_others k n more ≡ Some n
none_before k n more h = ap (λ j. unless_others j n more) h

some_before : (k n : ℕ) (more : ℕ → Option ℕ) → 0 < k → unless_others k n more ≡ more (k - 1)
some_before zero n more h = absurd (omega arith)
some_before (suc k) n more h = let e : suc k - 1 ≡ k = omega arith in sym (ap more e)

module _ (id : LineId) (k n : ℕ) (text line more first : List ℕ) (cut : parts text ≡ line ∷ parts more) (is : first ≡ strip_carriage_return line) where
  opened : number_of id k n (lines text) ≡ number_of id k n (first ∷ lines more)
  opened = ap (number_of id k n) (lines-first text line more cut ∙ ap (λ l. l ∷ lines more) (sym is))

  chosen : (b : Bool) → is_of id (words_of first) ≡ b
      → number_of id k n (lines text) ≡ (if b then unless_others k n (λ left. number_of id left (n + 1) (lines more)) else number_of id k (n + 1) (lines more))
  chosen b h = opened ∙ ap (λ c. if c then unless_others k n (λ left. number_of id left (n + 1) (lines more)) else number_of id k (n + 1) (lines more)) h

  pub number-here : is_of id (words_of first) ≡ true → k ≡ 0 → number_of id k n (lines text) ≡ Some n
  number-here h none = chosen true h ∙ none_before k n (λ left. number_of id left (n + 1) (lines more)) none

  pub number-next : is_of id (words_of first) ≡ true → 0 < k → number_of id k n (lines text) ≡ number_of id (k - 1) (n + 1) (lines more)
  number-next h some = chosen true h ∙ some_before k n (λ left. number_of id left (n + 1) (lines more)) some

  pub number-past : is_of id (words_of first) ≡ false → number_of id k n (lines text) ≡ number_of id k (n + 1) (lines more)
  number-past h = chosen false h
