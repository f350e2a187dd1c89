use Rattle.std.proofs.Common.{◌≡◌, ◌∙◌, ◌++◌, ◌∷◌, [], List, ap, append_assoc, append-nil, IfOk, OnOk, Some, Bool, true, false, refl, sym, Result, Ok, Err}
use Rattle.std.specs.Float.Ieee.{Float, binary64}
use Rattle.ryu.specs.Parse.{parse_float}
use Rattle.json.specs.Json.{Json}
use Rattle.json.specs.Json as json
use Rattle.json.specs.Print.{print}
use Rattle.json.specs.Tree.{json_tokens, members_tokens}
use Rattle.json.specs.Token.{Token, begin_object, end_object, key, number}
use Rattle.std.specs.Prelude.{Vec}
use Rattle.bac_json.specs.declared.line.Line.{Line}
use Rattle.bac_json.specs.Lines.{Field, IsFinite, field_tokens, fields_tokens, line_of, members_of}

-- a key and a number behind it are a field
pub number_field : {E : Type 0} (r : Result (Unit {0}) E) (real : Float) (name : List _) (old keyed new : List Token)
    → keyed ≡ old ++ key name ∷ []
    → OnOk r ((s : List _) × (new ≡ keyed ++ number s ∷ []) × (parse_float binary64 s ≡ Some real))
    → OnOk r ((value : Json) × IsFinite true real value × (new ≡ old ++ field_tokens (name, value)))
number_field (Ok done) real name old keyed new at it =
    (json.number it.0, (it.0, it.2, refl), it.1 ∙ ap (λ l. l ++ number it.0 ∷ []) at ∙ append_assoc old (key name ∷ []) (number it.0 ∷ []))
number_field (Err e) real name old keyed new at it = it

-- no number is a field of null
pub null_field : {E : Type 0} (r : Result (Unit {0}) E) (X : Json → Type 0) (name : List _) (old new : List Token)
    → X json.null → OnOk r (new ≡ old ++ field_tokens (name, json.null))
    → OnOk r ((value : Json) × X value × (new ≡ old ++ field_tokens (name, value)))
null_field (Ok done) X name old new none it = (json.null, none, it)
null_field (Err e) X name old new none it = it

-- a number that isn't finite is null
pub not_finite : (real : Float) (finite : Bool) → finite ≡ false → IsFinite finite real json.null
not_finite real true is = absurd (let it = is in cc)
not_finite real false is = refl

-- the tokens of fields and the end of the object are those of its members
pub tokens_of_members : (fields : List Field) → members_tokens (members_of fields) ≡ fields_tokens fields ++ end_object ∷ []
tokens_of_members [] = refl
tokens_of_members (field ∷ fields) =
    ap (λ l. key field.0 ∷ (json_tokens field.1 ++ l)) (tokens_of_members fields)
    ∙ ap (λ l. key field.0 ∷ l) (sym (append_assoc (json_tokens field.1) (fields_tokens fields) (end_object ∷ [])))

-- so the line of fields has been written
pub line_written : (fields : List Field) (before text : List _) (tokens : List Token) → tokens ≡ begin_object ∷ fields_tokens fields
    → text ≡ before ++ (print (tokens ++ end_object ∷ []) ++ 10 ∷ []) → text ≡ before ++ line_of fields
line_written fields before text tokens at it =
    it ∙ ap (λ l. before ++ (print (l ++ end_object ∷ []) ++ 10 ∷ [])) at
    ∙ ap (λ l. before ++ (print (begin_object ∷ l) ++ 10 ∷ [])) (sym (tokens_of_members fields))

pub ended_line : {E A : Type 0} (r : Result (Vec _ A) E) (line : Line)
    → IfOk r (λ text. text.items ≡ line.writer.before ++ (print (line.writer.tokens ++ end_object ∷ []) ++ 10 ∷ []))
    → IfOk r (λ text. (fields : List Field) → line.writer.tokens ≡ begin_object ∷ fields_tokens fields
    → text.items ≡ line.writer.before ++ line_of fields)
ended_line (Ok text) line it = λ fields at. line_written fields line.writer.before text.items line.writer.tokens at it
ended_line (Err e) line it = it

-- ---- for callers: fields, one behind the other

pub tokens_of_both : (these those : List Field) → fields_tokens (these ++ those) ≡ fields_tokens these ++ fields_tokens those
tokens_of_both [] those = refl
tokens_of_both (field ∷ fields) those =
    ap (λ l. field_tokens field ++ l) (tokens_of_both fields those)
    ∙ sym (append_assoc (field_tokens field) (fields_tokens fields) (fields_tokens those))

-- the first field
pub field_first : (old new : List Token) (field : Field) → new ≡ old ++ field_tokens field → new ≡ old ++ fields_tokens (field ∷ [])
field_first old new field it = it ∙ ap (λ l. old ++ l) (sym (append-nil (field_tokens field)))

-- fields behind fields
pub fields_more : (old mid new : List Token) (these those : List Field) → mid ≡ old ++ fields_tokens these
    → new ≡ mid ++ fields_tokens those → new ≡ old ++ fields_tokens (these ++ those)
fields_more old mid new these those before it =
    it ∙ ap (λ l. l ++ fields_tokens those) before ∙ append_assoc old (fields_tokens these) (fields_tokens those)
    ∙ ap (λ l. old ++ l) (sym (tokens_of_both these those))

-- one field more
pub field_more : (old mid new : List Token) (these : List Field) (field : Field) → mid ≡ old ++ fields_tokens these
    → new ≡ mid ++ field_tokens field → new ≡ old ++ fields_tokens (these ++ field ∷ [])
field_more old mid new these field before it = fields_more old mid new these (field ∷ []) before (field_first mid new field it)

-- the same, if it is written
pub field_last : {E : Type 0} (r : Result (Unit {0}) E) (old mid new : List Token) (these : List Field) (field : Field)
    → mid ≡ old ++ fields_tokens these → OnOk r (new ≡ mid ++ field_tokens field) → OnOk r (new ≡ old ++ fields_tokens (these ++ field ∷ []))
field_last (Ok done) old mid new these field before it = field_more old mid new these field before it
field_last (Err e) old mid new these field before it = it

-- a line is ended behind a text, once these fields are written
pub line_ended : {E A : Type 0} (r : Result (Vec _ A) E) (before first : List _) (begun tokens : List Token) (fields : List Field)
    → begun ≡ begin_object ∷ [] → tokens ≡ begun ++ fields_tokens fields → before ≡ first
    → IfOk r (λ text. (fs : List Field) → tokens ≡ begin_object ∷ fields_tokens fs → text.items ≡ before ++ line_of fs)
    → IfOk r (λ text. text.items ≡ first ++ line_of fields)
line_ended (Ok text) before first begun tokens fields none are is ends =
    ends fields (are ∙ ap (λ l. l ++ fields_tokens fields) none) ∙ ap (λ l. l ++ line_of fields) is
line_ended (Err e) before first begun tokens fields none are is ends = ends
