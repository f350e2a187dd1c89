-- Values one after the other, and their lines.
use Rattle.std.proofs.Common.{◌≡◌, ◌==◌, true, false, ℕ, ◌<◌, List, [], ◌∷◌, ◌++◌, length, take, drop, refl, sym, ap, subst, ◌∙◌, append_assoc, append-nil, take-append-drop, rules, arith}
use Rattle.std.proofs.lemmas.Bool.{eqb-true}
use Rattle.std.proofs.lemmas.List.{drop_at}
use Rattle.bac_wire.specs.Primitive.{Primitive}
use Rattle.bac_wire.specs.Spelling.{Spells}
use Rattle.bac_print.specs.Values.{value_text}
use Rattle.bac_query.specs.Values.{AreLines, AreNumberLines, AreValues, IsNumberText, IsText, value_lines}
use Rattle.bac_query.specs.declared.reals.Reals.{Reals}
use Rattle.bac_query.specs.declared.reals.Reals.TheVariants.{Octets, Numbers}

-- one line more
plain_more : (values : List Primitive) (value : Primitive) →
    value_lines (values ++ value ∷ []) ≡ value_lines values ++ (value_text value ++ 10 ∷ [])
plain_more [] value = search rules
plain_more (v ∷ values) value = ap (λ l. (value_text v ++ 10 ∷ []) ++ l) (plain_more values value) ∙ sym (append_assoc (value_text v ++ 10 ∷ []) (value_lines values) (value_text value ++ 10 ∷ []))

number_more : (values : List Primitive) (value : Primitive) (lines one : List ℕ) → AreNumberLines values lines → IsNumberText value one →
    AreNumberLines (values ++ value ∷ []) (lines ++ (one ++ 10 ∷ []))
number_more [] value lines one is it = (one, [], ap (λ l. l ++ (one ++ 10 ∷ [])) is ∙ sym (append-nil (one ++ 10 ∷ [])), it, refl)
number_more (v ∷ values) value lines one (text, rest, split, is, are) it =
    (text, rest ++ (one ++ 10 ∷ []), ap (λ l. l ++ (one ++ 10 ∷ [])) split ∙ append_assoc (text ++ 10 ∷ []) rest (one ++ 10 ∷ []), is, number_more values value rest one are it)

lines_more : (reals : Reals) (values : List Primitive) (value : Primitive) (lines one : List ℕ) → AreLines reals values lines → IsText reals value one →
    AreLines reals (values ++ value ∷ []) (lines ++ (one ++ 10 ∷ []))
lines_more Octets values value lines one is it =
    ap (λ l. l ++ (one ++ 10 ∷ [])) is ∙ ap (λ l. value_lines values ++ (l ++ 10 ∷ [])) it ∙ sym (plain_more values value)
lines_more Numbers values value lines one is it = number_more values value lines one is it

no_lines : (reals : Reals) → AreLines reals [] []
no_lines Octets = refl
no_lines Numbers = refl

-- values that were found at the front, and the values after them: those are there if and only if all are values
abbrev pub Covers : Reals → List ℕ → List ℕ → List ℕ → List ℕ → Type 0
Covers reals octets old text rest =
    (done : List Primitive) × ((lines : List ℕ) × AreLines reals done lines × (text ≡ old ++ lines))
    × ((values : List Primitive) → AreValues rest values → AreValues octets (done ++ values))
    × ((values : List Primitive) → AreValues octets values → (more : List Primitive) × AreValues rest more)

-- none was found yet
pub covers_none : (reals : Reals) (octets old : List ℕ) → Covers reals octets old old octets
covers_none reals octets old = ([], ([], no_lines reals, sym (append-nil old)), λ values are. are, λ values are. (values, are))

-- a value at the front is the only one
abbrev pub IsOnly : List ℕ → Primitive → ℕ → Type 0
IsOnly rest value n = (text after : List ℕ) (other : Primitive) → Spells text other → rest ≡ text ++ after → (value ≡ other) × (n ≡ length text)

behind : (rest : List ℕ) (value : Primitive) (n : ℕ) → 0 < length rest → IsOnly rest value n →
    (values : List Primitive) → AreValues rest values → (more : List Primitive) × AreValues (drop n rest) more
behind rest value n some only [] none = absurd (omega (arith, some, ap length none))
behind rest value n some only (v ∷ values) (text, after, spelled, split, are) =
    let same = only text after v spelled split in
    let P : List ℕ → Type 0 = λ l. AreValues l values in
    let e : drop n rest ≡ after = ap (λ l. drop n l) split ∙ drop_at text after n (sym same.1) in
    (values, subst P (sym e) are)

-- one value more
pub covers_more : (reals : Reals) (octets old text new rest after one : List ℕ) (value : Primitive) (n : ℕ) →
    after ≡ drop n rest → 0 < length rest → Spells (take n rest) value → IsOnly rest value n → IsText reals value one →
    new ≡ (text ++ one) ++ 10 ∷ [] → Covers reals octets old text rest → Covers reals octets old new after
covers_more reals octets old text new rest after one value n e some spelled only shown grown (done, (lines, are_lines, is), all, back) =
    let P : List ℕ → Type 0 = λ l. Covers reals octets old new l in
    subst P (sym e) (
      done ++ value ∷ [],
      (
        lines ++ (one ++ 10 ∷ []),
        lines_more reals done value lines one are_lines shown,
        grown ∙ append_assoc text one (10 ∷ []) ∙ ap (λ l. l ++ (one ++ 10 ∷ [])) is ∙ append_assoc old lines (one ++ 10 ∷ []),
      ),
      λ values are.
          let Q : List Primitive → Type 0 = λ l. AreValues octets l in
          subst Q (sym (append_assoc done (value ∷ []) values)) (all (value ∷ values) (take n rest, drop n rest, spelled, sym (take-append-drop n rest), are)),
      λ values are. let more = back values are in behind rest value n some only more.0 more.1,
    )

no_values : (rest : List ℕ) → 0 < length rest →
    ((front after : List ℕ) (value : Primitive) → Spells front value → rest ≡ front ++ after → ⊥) →
    (values : List Primitive) → AreValues rest values → ⊥
no_values rest some none [] e = omega (arith, some, ap length e)
no_values rest some none (v ∷ values) (front, after, spelled, split, are) = none front after v spelled split

-- nothing is left
pub covers_all : (reals : Reals) (octets old text : List ℕ) → Covers reals octets old text [] →
    (values : List Primitive) × AreValues octets values × ((lines : List ℕ) × AreLines reals values lines × (text ≡ old ++ lines))
covers_all reals octets old text (done, (lines, are_lines, is), all, back) =
    let P : List Primitive → Type 0 = λ l. AreValues octets l in
    (done, subst P (append-nil done) (all [] refl), (lines, are_lines, is))

-- no value is at the front of what is left
pub covers_no_more : (reals : Reals) (octets old text rest : List ℕ) → 0 < length rest →
    ((front after : List ℕ) (value : Primitive) → Spells front value → rest ≡ front ++ after → ⊥) → Covers reals octets old text rest →
    ((values : List Primitive) → AreValues octets values → ⊥) × ((lines : List ℕ) × (text ≡ old ++ lines))
covers_no_more reals octets old text rest some none (done, (lines, are_lines, is), all, back) =
    (λ values are. let more = back values are in no_values rest some none more.0 more.1, (lines, is))

-- no octets are left
pub none_left : (rest : List ℕ) → (length rest == 0) ≡ true → rest ≡ []
none_left [] e = refl
none_left (x ∷ rest) e = absurd (omega (arith, eqb-true (length (x ∷ rest)) 0 e))

pub some_left : (rest : List ℕ) → (length rest == 0) ≡ false → 0 < length rest
some_left [] e = absurd (cc)
some_left (x ∷ rest) e = omega arith
