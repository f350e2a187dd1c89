-- Where a text is cut at its line feeds.
use Rattle.std.proofs.Common.{◌≡◌, ◌==◌, ℕ, suc, arith, Bool, true, false, cond, refl, List, [], ◌∷◌, ◌++◌, length, sym, ap, ◌∙◌}
use Rattle.std.specs.List.{onto_first}
use Rattle.std.specs.Str.Lines.{strip_carriage_return, lines_of_parts, lines}
use Rattle.bac_script.specs.Script.Lines.{is_line_feed, parts, all_but_last, last_if_any, ended_lines, open_line}
use Rattle.std.proofs.lemmas.Bool.Decides.{nat_tests}
use Rattle.bac_script.proofs.Splits.{IsCons, onto_first-IsCons, slice_split-IsCons}

-- the first line, and the lines of the rest
pub ended_lines-first : (text line more : List ℕ) → parts text ≡ line ∷ parts more → ended_lines text ≡ strip_carriage_return line ∷ ended_lines more
ended_lines-first text line more h =
    let (y, ys, e) = slice_split-IsCons is_line_feed more in
    ap all_but_last (h ∙ ap (λ l. line ∷ l) e) ∙ ap (λ l. strip_carriage_return line ∷ all_but_last l) (sym e)

pub open_line-first : (text line more : List ℕ) → parts text ≡ line ∷ parts more → open_line text ≡ open_line more
open_line-first text line more h =
    let (y, ys, e) = slice_split-IsCons is_line_feed more in
    ap last_if_any (h ∙ ap (λ l. line ∷ l) e) ∙ ap last_if_any (sym e)

-- the lines of a text are those that a line feed ended, and the open one
lines-parts_of : (ps : List (List ℕ)) → lines_of_parts ps ≡ all_but_last ps ++ last_if_any ps
lines-parts_of [] = refl
lines-parts_of ([] ∷ []) = refl
lines-parts_of ((b ∷ bs) ∷ []) =
    let some : (suc (length bs) == 0) ≡ false = grind (arith, nat_tests) in
    ap (λ none. cond none [] ((b ∷ bs) ∷ [])) some
lines-parts_of (x ∷ y ∷ more) = ap (λ l. strip_carriage_return x ∷ l) (lines-parts_of (y ∷ more))

pub lines-parts : (text : List ℕ) → lines text ≡ ended_lines text ++ open_line text
lines-parts text = lines-parts_of (parts text)

-- ---- a text and a front of it: each whole part of the front is a part of the text

abbrev Begins : List (List ℕ) → List (List ℕ) → Type 0
Begins [] zs = Unit {0}
Begins (x ∷ []) zs = IsCons zs
Begins (x ∷ y ∷ more) zs = (rest : List (List ℕ)) × (zs ≡ x ∷ rest) × Begins (y ∷ more) rest

Begins-IsCons : (y : List ℕ) (more zs : List (List ℕ)) → Begins (y ∷ more) zs → IsCons zs
Begins-IsCons y [] zs h = h
Begins-IsCons y (w ∷ ws) zs h = (y, h.0, h.1)

Begins-onto_first : (x : ℕ) (xs zs : List (List ℕ)) → IsCons xs → Begins xs zs → Begins (onto_first x xs) (onto_first x zs)
Begins-onto_first x [] zs c h = onto_first-IsCons x zs
Begins-onto_first x (y ∷ []) zs c h = onto_first-IsCons x zs
Begins-onto_first x (y ∷ w ∷ ws) zs c h = (h.0, ap (onto_first x) h.1, h.2)

Begins-cut : (xs zs : List (List ℕ)) → IsCons xs → Begins xs zs → Begins ([] ∷ xs) ([] ∷ zs)
Begins-cut [] zs c h = ([], zs, refl)
Begins-cut (y ∷ ys) zs c h = (zs, refl, h)

Begins-cond : (b : Bool) (x : ℕ) (xs zs : List (List ℕ)) → IsCons xs → Begins xs zs → Begins (cond b ([] ∷ xs) (onto_first x xs)) (cond b ([] ∷ zs) (onto_first x zs))
Begins-cond true x xs zs c h = Begins-cut xs zs c h
Begins-cond false x xs zs c h = Begins-onto_first x xs zs c h

Begins-parts : (front rest : List ℕ) → Begins (parts front) (parts (front ++ rest))
Begins-parts [] rest = slice_split-IsCons is_line_feed rest
Begins-parts (x ∷ xs) rest = Begins-cond (is_line_feed x) x (parts xs) (parts (xs ++ rest)) (slice_split-IsCons is_line_feed xs) (Begins-parts xs rest)

all_but_last-first : (x : List ℕ) (zs : List (List ℕ)) → IsCons zs → all_but_last (x ∷ zs) ≡ strip_carriage_return x ∷ all_but_last zs
all_but_last-first x zs (y, ys, e) = ap (λ l. all_but_last (x ∷ l)) e ∙ ap (λ l. strip_carriage_return x ∷ all_but_last l) (sym e)

all_but_last-longer : (xs zs : List (List ℕ)) → Begins xs zs → (more : List (List ℕ)) × (all_but_last zs ≡ all_but_last xs ++ more)
all_but_last-longer [] zs h = (all_but_last zs, refl)
all_but_last-longer (x ∷ []) zs h = (all_but_last zs, refl)
all_but_last-longer (x ∷ y ∷ more) zs (rest, is, h) =
    let (later, e) = all_but_last-longer (y ∷ more) rest h in
    (later, ap all_but_last is ∙ all_but_last-first x rest (Begins-IsCons y more rest h) ∙ ap (λ l. strip_carriage_return x ∷ l) e)

-- the ended lines of a front come first
pub ended_lines-longer : (front rest : List ℕ) → (more : List (List ℕ)) × (ended_lines (front ++ rest) ≡ ended_lines front ++ more)
ended_lines-longer front rest = all_but_last-longer (parts front) (parts (front ++ rest)) (Begins-parts front rest)
