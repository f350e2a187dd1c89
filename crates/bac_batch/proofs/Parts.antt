-- Events in two parts.
use Rattle.std.proofs.Common.{◌≡◌, ◌∙◌, List, [], ◌∷◌, ◌++◌, refl, sym, ap, subst, append_assoc}
use Rattle.std.proofs.lemmas.List.Elements.{filter-append, filter_map-append}
use Rattle.std.proofs.lemmas.Grind.{flat_map-append}
use Rattle.bac_archive.specs.declared.row.Put.{Put}
use Rattle.bac_drive.specs.Event.{Event, Kept, Printed, Read, Sent, Waited, Warned}
use Rattle.bac_drive.specs.Laws.{puts_of}
use Rattle.bac_drive.specs.Chain.{Chain}
use Rattle.bac_batch.specs.Laws.{AreCutShort, is_line, is_traffic, joined, keeps_of, lines_of, rows_of, traffic_of}

pub cut_append : (es fs gs hs : List Event) → AreCutShort es fs → AreCutShort gs hs → AreCutShort (es ++ gs) (fs ++ hs)
cut_append [] [] gs hs none more = more
cut_append (e ∷ es) (f ∷ fs) gs hs (first, rest) more = (first, cut_append es fs gs hs rest more)
cut_append [] (f ∷ fs) gs hs none more = absurd none
cut_append (e ∷ es) [] gs hs none more = absurd none

pub traffic_append : (es fs : List Event) → traffic_of (es ++ fs) ≡ traffic_of es ++ traffic_of fs
traffic_append es fs = filter-append is_traffic es fs

pub lines_append : (es fs : List Event) → lines_of (es ++ fs) ≡ lines_of es ++ lines_of fs
lines_append es fs = filter-append is_line es fs

pub keeps_append : (es fs : List Event) → keeps_of (es ++ fs) ≡ keeps_of es ++ keeps_of fs
keeps_append es fs = filter_map-append rows_of es fs

pub joined_append : {X : Type 0} (a b : List (List X)) → joined (a ++ b) ≡ joined a ++ joined b
joined_append {X = X} a b = flat_map-append (λ (xs : List X). xs) a b

pub puts_append : (es fs : List Event) → puts_of (es ++ fs) ≡ puts_of es ++ puts_of fs
puts_append [] fs = refl
puts_append (Sent octets to answer ∷ es) fs = puts_append es fs
puts_append (Waited within heard ∷ es) fs = puts_append es fs
puts_append (Read ms ∷ es) fs = puts_append es fs
puts_append (Kept puts ∷ es) fs = ap (λ (l : List Put). puts ++ l) (puts_append es fs)
    ∙ sym (append_assoc puts (puts_of es) (puts_of fs))
puts_append (Printed text ∷ es) fs = puts_append es fs
puts_append (Warned text ∷ es) fs = puts_append es fs

-- what is held before, in between and behind
pub carried : {X : Type 0} (before between behind a b c d : List X) → before ++ a ≡ c ++ between →
    between ++ b ≡ d ++ behind → before ++ (a ++ b) ≡ c ++ d ++ behind
carried {X = X} before between behind a b c d one more =
    sym (append_assoc before a b) ∙ ap (λ (l : List X). l ++ b) one ∙ append_assoc c between b
    ∙ ap (λ (l : List X). c ++ l) more
    ∙ sym (append_assoc c d behind)

-- the last of steps
pub last_step : {S E : Type 0} (step : S → E → S → Type 0) (old new : S) (es : List E) (e : E) →
    Chain step old (es ++ e ∷ []) new → (mid : S) × Chain step old es mid × step mid e new
last_step {S = S} {E = E} step old new [] e (mid, one, same) =
    (old, refl, let P : S → Type 0 = λ s. step old e s in subst P (sym same) one)
last_step step old new (f ∷ es) e (mid, one, more) = let r = last_step step mid new es e more in
    (r.0, (mid, one, r.1), r.2)
