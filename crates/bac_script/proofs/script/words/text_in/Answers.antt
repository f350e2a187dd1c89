use Rattle.std.proofs.Common.{◌≡◌, ◌==◌, ℕ, Bool, true, false, cond, List, [], ◌∷◌, length, Some, None, refl, sym, ap, ◌∙◌}
use Rattle.std.specs.Str.{IsUtf8, is_utf8}
use Rattle.std.proofs.lemmas.Str.{IsUtf8-from_is_utf8, is_utf8-from_IsUtf8}
use Rattle.bac_script.specs.Script.Words.{text_in}
use Rattle.bac_script.proofs.script.words.text_in.Goals as goal

refused_by : (b : Bool) (word : List ℕ) → (b ≡ true → IsUtf8 word) → (IsUtf8 word → ⊥) → cond b (Some word) None ≡ None
refused_by true word found never = absurd (never (found refl))
refused_by false word found never = refl

refused : (word : List ℕ) → (IsUtf8 word → ⊥) → text_in word ≡ None
refused [] never = refl
refused (b ∷ bs) never = refused_by (is_utf8 (b ∷ bs)) (b ∷ bs) (IsUtf8-from_is_utf8 (b ∷ bs)) never

read : (word : List ℕ) → (length word == 0) ≡ false → IsUtf8 word → text_in word ≡ Some word
read [] some is = cc
read (b ∷ bs) some is = ap (λ v. cond v (Some (b ∷ bs)) None) (is_utf8-from_IsUtf8 (b ∷ bs) is)

pub returns-in-Ok : goal.returns-in-Ok
returns-in-Ok c =
    let is = c.in-Ok.ensures.cases in
    read c.args.word.now (sym c.is_empty.ensures ∙ c.if-is_empty.false) is.1 ∙ ap Some (sym is.0)

pub returns-in-Err : goal.returns-in-Err
returns-in-Err c = refused c.args.word.now c.in-Err.ensures.cases.0
