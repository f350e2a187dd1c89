-- What a line says, by the kind that its first word tells.
use Rattle.std.proofs.Common.{◌≡◌, ℕ, Bool, true, false, if◌then◌else◌, List, [], ◌∷◌, Option, Some, None, refl, ap, sym, ◌∙◌}
use Rattle.std.specs.Prelude.{codes}
use Rattle.std.specs.Str.{bytes_eq}
use Rattle.bac_script.specs.Flaw.{line_kind}
use Rattle.bac_script.specs.Script.Line.{ScriptLine, binary_line, clock_line, device_line, integer_line, kinds, line_in, log_line, multistate_line, rx_line, said, said_by, sample_line, walk_line}
use Rattle.bac_script.specs.Script.Words.{words_of}
use Rattle.bac_script.specs.declared.script.flaw.LineKind.{LineKind}
use Rattle.bac_script.specs.declared.script.flaw.LineKind.TheVariants as line

abbrev pub said_as : Option LineKind → List (List ℕ) → Option ScriptLine
said_as None words = None
said_as (Some line.Device) words = device_line words
said_as (Some line.Binary) words = binary_line words
said_as (Some line.Multistate) words = multistate_line words
said_as (Some line.Integer) words = integer_line words
said_as (Some line.Log) words = log_line words
said_as (Some line.Rx) words = rx_line words
said_as (Some line.Clock) words = clock_line words
said_as (Some line.Sample) words = sample_line words
said_as (Some line.Walk) words = walk_line words

pick : (b : Bool) (kind : LineKind) (x y : Option ScriptLine) (other : Option LineKind) (words : List (List ℕ))
    → x ≡ said_as (Some kind) words → y ≡ said_as other words → (if b then x else y) ≡ said_as (if b then Some kind else other) words
pick true kind x y other words own more = own
pick false kind x y other words own more = more

by_kind : (word : List ℕ) (words : List (List ℕ)) → said_by kinds word words ≡ said_as (line_kind word) words
by_kind word words =
    pick (bytes_eq word (codes "device")) line.Device _ _ _ words refl
    (pick (bytes_eq word (codes "binary")) line.Binary _ _ _ words refl
    (pick (bytes_eq word (codes "multistate")) line.Multistate _ _ _ words refl
    (pick (bytes_eq word (codes "integer")) line.Integer _ _ _ words refl
    (pick (bytes_eq word (codes "log")) line.Log _ _ _ words refl
    (pick (bytes_eq word (codes "rx")) line.Rx _ _ _ words refl
    (pick (bytes_eq word (codes "clock")) line.Clock _ _ _ words refl
    (pick (bytes_eq word (codes "sample")) line.Sample _ _ _ words refl
    (pick (bytes_eq word (codes "walk")) line.Walk _ None None words refl refl))))))))

read_as : (text word : List ℕ) (words : List (List ℕ)) (kind : Option LineKind) → words_of text ≡ word ∷ words → kind ≡ line_kind word
    → line_in text ≡ said_as kind words
unfolding line_in
read_as text word words kind cut is = ap said cut ∙ by_kind word words ∙ ap (λ k. said_as k words) (sym is)

-- a line with words behind its first one says what they say in a line of its kind
pub read_of : (text word : List ℕ) (words : List (List ℕ)) (told : Option LineKind) (kind known : LineKind) → words_of text ≡ word ∷ words
    → told ≡ line_kind word → told ≡ Some kind → kind ≡ known → line_in text ≡ said_as (Some known) words
read_of text word words told kind known cut is found same = read_as text word words (Some known) cut (sym (found ∙ ap Some same) ∙ is)

-- and nothing if that is no kind
pub read_none : (text word : List ℕ) (words : List (List ℕ)) (told : Option LineKind) → words_of text ≡ word ∷ words
    → told ≡ line_kind word → told ≡ None → line_in text ≡ None
read_none text word words told cut is none = read_as text word words None cut (sym none ∙ is)

none_alone : (kind : Option LineKind) → said_as kind [] ≡ None
unfolding device_line binary_line multistate_line integer_line log_line rx_line clock_line sample_line walk_line
none_alone None = refl
none_alone (Some line.Device) = refl
none_alone (Some line.Binary) = refl
none_alone (Some line.Multistate) = refl
none_alone (Some line.Integer) = refl
none_alone (Some line.Log) = refl
none_alone (Some line.Rx) = refl
none_alone (Some line.Clock) = refl
none_alone (Some line.Sample) = refl
none_alone (Some line.Walk) = refl

-- a line of one word says nothing
pub read_alone : (text : List ℕ) → words_of text ≡ text ∷ [] → line_in text ≡ None
read_alone text cut = read_as text text [] _ cut refl ∙ none_alone (line_kind text)
