-- Words that are wanting, and words too many.
use Rattle.std.proofs.Common.{◌≡◌, ◌<◌, ◌≤◌, ◌+◌, ◌-◌, cond, Bool, true, ℕ, List, [], ◌∷◌, length, get_or, drop, refl, ap, subst, ◌∙◌, arith}
use Rattle.std.proofs.lemmas.List.{at_drop_more, drop_all, length-drop}
use Rattle.std.specs.Prelude.{nat_le}
use Rattle.std.specs.Str.Lines.{strip_carriage_return, lines}
use Rattle.bac_script.specs.Flaw.{blank_at, flaw_from, is_wanted, line_at, wrong_word}
use Rattle.bac_script.specs.Script.Lines.{parts}
use Rattle.bac_script.proofs.ConfigurationLemmas.{lines-first}
use Rattle.std.proofs.lemmas.Bool.Decides.{nat_tests}
use Rattle.bac_script.specs.Script.Words.{is_space, words_of}
use Rattle.bac_script.specs.declared.script.flaw.Flaw.TheVariants.{Blanks, Count}
use Rattle.bac_script.specs.declared.script.flaw.LineKind.{LineKind}
use Rattle.bac_script.specs.declared.script.flaw.Wanted.{Wanted}
use Rattle.bac_script.proofs.Splits.{IsCons, slice_split-IsCons}

nat_le-true : {a b : ℕ} → a ≤ b → nat_le a b ≡ true
nat_le-true h = grind (arith, nat_tests, h)

-- a word is wanted, and none is left
none_left : (kind : LineKind) (n : ℕ) (all : List Wanted) → 0 < length all → flaw_from kind n all [] ≡ Count kind
none_left kind n [] h = absurd (omega arith)
none_left kind n (w ∷ more) h = refl

pub flaw-none_left : (kind : LineKind) (n i : ℕ) (all : List Wanted) → i < length all → flaw_from kind n (drop i all) [] ≡ Count kind
flaw-none_left kind n i all h = none_left kind n (drop i all) (omega (arith, length-drop i all, h))

-- no word is wanted
pub flaw-past : (kind : LineKind) (n i : ℕ) (all : List Wanted) (words : List (List ℕ)) → length all ≤ i → flaw_from kind n (drop i all) words ≡ flaw_from kind n [] words
flaw-past kind n i all words h = ap (λ rest. flaw_from kind n rest words) (drop_all i all h)

-- a word is wanted, and the next one is what it has to be
pub flaw-next : (kind : LineKind) (n i : ℕ) (all items : List Wanted) (d : Wanted) (word : List ℕ) (left words : List (List ℕ)) → items ≡ all
    → i < length items → left ≡ word ∷ words → is_wanted (get_or items i d) word ≡ true
    → flaw_from kind n (drop i all) left ≡ flaw_from kind (n + 1) (drop (i + 1) all) words
flaw-next kind n i all items d word left words same below cut fits =
    let below : i < length all = subst (λ (l : List Wanted). i < length l) same below in
    let fits : is_wanted (get_or all i d) word ≡ true = subst (λ (l : List Wanted). is_wanted (get_or l i d) word ≡ true) same fits in
    ap (flaw_from kind n (drop i all)) cut
    ∙ at_drop_more (λ (ws : List Wanted). flaw_from kind n ws (word ∷ words)) all i d below
    ∙ ap (λ (b : Bool). cond b (flaw_from kind (n + 1) (drop (i + 1) all) words) (wrong_word n (get_or all i d) word words)) fits

-- ---- an empty word

blank_before : (n : ℕ) (words : List (List ℕ)) → IsCons words → blank_at n words ≡ Blanks n
blank_before n words (y, ys, e) = ap (blank_at n) e

pub blank_at-words : (n : ℕ) (text : List ℕ) → blank_at n (words_of text) ≡ Blanks n
blank_at-words n text = blank_before n (words_of text) (slice_split-IsCons is_space text)

-- ---- the line with a number

here : (n : ℕ) (line : List ℕ) (more : List (List ℕ)) → n ≤ 1 → line_at n (line ∷ more) ≡ line
here n line more h = ap (λ first. cond first line (line_at (n - 1) more)) (nat_le-true h)

pub line_at-here : (n : ℕ) (text line more : List ℕ) → parts text ≡ line ∷ parts more → n ≤ 1 → line_at n (lines text) ≡ strip_carriage_return line
line_at-here n text line more cut h = ap (line_at n) (lines-first text line more cut) ∙ here n (strip_carriage_return line) (lines more) h
