-- What is wrong with a line that is none of a script: its first word that isn't what it has to be.
use Rattle.std.specs.Prelude.{ℕ, ◌+◌, ◌-◌, ◌^◌, ◌&&◌, nat_le, nat_lt, Bool, true, false, is_some, if◌then◌else◌, codes}
use Rattle.std.specs.Prelude.{List, [], ◌∷◌, length, Option, None, Some}
use Rattle.std.specs.Char.{is_ascii_digit}
use Rattle.std.specs.List.{list_all}
use Rattle.std.specs.Str.{bytes_eq}
use Rattle.bac_script.specs.Script.Hexadecimal.{octets_in}
use Rattle.bac_script.specs.Script.Line.{kind_in, start_in, walked_log}
use Rattle.bac_script.specs.Script.Number.{below, integer_in, number_in}
use Rattle.bac_script.specs.Script.Stamp.{stamp_in}
use Rattle.bac_script.specs.Script.Words.{text_in, words_of}
use Rattle.bac_script.specs.declared.script.flaw.Flaw.{Flaw}
use Rattle.bac_script.specs.declared.script.flaw.Flaw.TheVariants as flaw
use Rattle.bac_script.specs.declared.script.flaw.LineKind.{LineKind}
use Rattle.bac_script.specs.declared.script.flaw.LineKind.TheVariants as line
use Rattle.bac_script.specs.declared.script.flaw.Wanted.{Wanted}
use Rattle.bac_script.specs.declared.script.flaw.Wanted.TheVariants as wanted

-- Whether a word is what it has to be to make a line. Of these numbers not all can be built (bac_objects); what is told
-- of a word has the range of those that can.
abbrev pub is_wanted : Wanted → List ℕ → Bool
is_wanted wanted.Number word = is_some (below (2 ^ 32) (number_in word))
is_wanted wanted.Object word = is_some (below (2 ^ 32) (number_in word))
is_wanted wanted.Binary word = is_some (below (2 ^ 32) (number_in word))
is_wanted wanted.States word = is_some (below (2 ^ 32) (number_in word))
is_wanted wanted.State word = is_some (below (2 ^ 32) (number_in word))
is_wanted wanted.Capacity word = is_some (below (2 ^ 32) (number_in word))
is_wanted wanted.Interval word = is_some (below (2 ^ 32) (number_in word))
is_wanted wanted.Short word = is_some (below (2 ^ 16) (number_in word))
is_wanted wanted.Reply word = is_some (below (2 ^ 16) (number_in word))
is_wanted wanted.Name word = is_some (text_in word)
is_wanted wanted.Integer word = is_some (integer_in word)
is_wanted wanted.Stamp word = is_some (stamp_in word)
is_wanted wanted.Kind word = is_some (kind_in word)
is_wanted wanted.Instance word = is_some (walked_log word)
is_wanted wanted.Digits word = is_some (octets_in word)
is_wanted wanted.Start word = is_some (start_in word)

-- what the words behind the first one have to be, by the kind of the line
abbrev pub words_wanted : LineKind → List Wanted
words_wanted line.Device = wanted.Object ∷ wanted.Name ∷ wanted.Short ∷ wanted.Reply ∷ wanted.Stamp ∷ []
words_wanted line.Binary = wanted.Object ∷ wanted.Name ∷ wanted.Binary ∷ []
words_wanted line.Multistate = wanted.Object ∷ wanted.Name ∷ wanted.States ∷ wanted.State ∷ []
words_wanted line.Integer = wanted.Object ∷ wanted.Name ∷ wanted.Integer ∷ []
words_wanted line.Log =
    wanted.Object
    ∷ wanted.Name
    ∷ wanted.Kind ∷ wanted.Instance ∷ wanted.Capacity ∷ wanted.Interval ∷ wanted.Number ∷ []
words_wanted line.Rx = wanted.Digits ∷ []
words_wanted line.Clock = wanted.Stamp ∷ []
words_wanted line.Sample = wanted.Number ∷ []
words_wanted line.Walk = wanted.Instance ∷ wanted.Start ∷ wanted.Number ∷ []

-- the kind of a line, by its first word
abbrev pub line_kind : List ℕ → Option LineKind
line_kind word =
    if bytes_eq word (codes "device") then Some line.Device else
    if bytes_eq word (codes "binary") then Some line.Binary else
    if bytes_eq word (codes "multistate") then Some line.Multistate else
    if bytes_eq word (codes "integer") then Some line.Integer else
    if bytes_eq word (codes "log") then Some line.Log else
    if bytes_eq word (codes "rx") then Some line.Rx else
    if bytes_eq word (codes "clock") then Some line.Clock else
    if bytes_eq word (codes "sample") then Some line.Sample else
    if bytes_eq word (codes "walk") then Some line.Walk else None

-- a number, which has at most 10 digits
abbrev pub is_number : Wanted → Bool
is_number wanted.Name = false
is_number wanted.Stamp = false
is_number wanted.Kind = false
is_number wanted.Digits = false
is_number other = true

-- a number is wanted, and the word is one of more than 10 digits
abbrev pub is_long : Wanted → List ℕ → Bool
is_long wanted word = is_number wanted && (nat_lt 10 (length word) && list_all is_ascii_digit word)

-- The word with this number is empty: a blank ends the line, or if more words follow, one blank too many stands before
-- them.
abbrev pub blank_at : ℕ → List (List ℕ) → Flaw
blank_at n [] = flaw.Blank
blank_at n (word ∷ words) = flaw.Blanks n

-- the word with this number isn't what it has to be
abbrev pub wrong_word : ℕ → Wanted → List ℕ → List (List ℕ) → Flaw
wrong_word n wanted [] words = blank_at n words
wrong_word n wanted (c ∷ cs) words = if is_long wanted (c ∷ cs) then flaw.Long n wanted else flaw.Word n wanted

-- the word with this number is one too many
abbrev pub extra_word : LineKind → ℕ → List ℕ → List (List ℕ) → Flaw
extra_word kind n [] words = blank_at n words
extra_word kind n (c ∷ cs) words = flaw.Count kind

-- the first word says no kind of line
abbrev pub no_kind : List ℕ → List (List ℕ) → Flaw
no_kind [] words = blank_at 1 words
no_kind (c ∷ cs) words = flaw.Kind

-- the first word, counted on from n, that isn't what it has to be, or that words are missing or too many; a line
-- without such a word stands in the wrong place
abbrev pub flaw_from : LineKind → ℕ → List Wanted → List (List ℕ) → Flaw
flaw_from kind n [] [] = flaw.Place kind
flaw_from kind n [] (word ∷ words) = extra_word kind n word words
flaw_from kind n (wanted ∷ more) [] = flaw.Count kind
flaw_from kind n (wanted ∷ more) (word ∷ words) =
    if is_wanted wanted word then flaw_from kind (n + 1) more words else wrong_word n wanted word words

-- the same of the words after the first one, if that says a kind
abbrev pub flaw_of_kind : Option LineKind → List ℕ → List (List ℕ) → Flaw
flaw_of_kind None word words = no_kind word words
flaw_of_kind (Some kind) word words = flaw_from kind 2 (words_wanted kind) words

-- what is wrong with a line of these words
abbrev pub flaw_of_words : List (List ℕ) → Flaw
flaw_of_words [] = flaw.Kind
flaw_of_words (word ∷ words) = flaw_of_kind (line_kind word) word words

-- what is wrong with a bad line
unfoldable pub flaw_of : List ℕ → Flaw
flaw_of text = flaw_of_words (words_of text)

-- ---- a line of a configuration

-- a line of this kind describes an event
abbrev pub is_event : LineKind → Bool
is_event line.Rx = true
is_event line.Clock = true
is_event line.Sample = true
is_event line.Walk = true
is_event other = false

-- an event stands in no configuration, whatever else is wrong with its line; and no event is told of where no kind is
abbrev pub told_there : Option LineKind → Flaw → Flaw
told_there (Some kind) told = if is_event kind then flaw.Event else told
told_there None flaw.Kind = flaw.Described
told_there None told = told

-- the kind of a line of these words
abbrev pub kind_of_words : List (List ℕ) → Option LineKind
kind_of_words [] = None
kind_of_words (word ∷ words) = line_kind word

-- what is wrong with a bad line of a configuration
unfoldable pub flaw_there : List ℕ → Flaw
flaw_there text = told_there (kind_of_words (words_of text)) (flaw_of text)

-- ---- lines by their numbers

-- the words of what is left of a line, if anything is
abbrev pub words_left : Option (List ℕ) → List (List ℕ)
words_left None = []
words_left (Some text) = words_of text

-- the line with this number, counted from 1
abbrev pub line_at : ℕ → List (List ℕ) → List ℕ
line_at number [] = []
line_at number (line ∷ more) = if nat_le number 1 then line else line_at (number - 1) more
