-- A line whose flaw is its place is a line of a script, and no other is.
use Rattle.std.proofs.Common.{◌≡◌, refl, ap, sym, ◌∙◌, ℕ, suc, ◌+◌, ◌^◌, arith, Bool, true, false, ◌&&◌, if◌then◌else◌, nat_lt, List, [], ◌∷◌, length, Option, Some, None}
use Rattle.std.specs.Prelude.{◌↔◌, codes, is_some}
use Rattle.std.specs.Option.{IsSome}
use Rattle.std.specs.Str.{bytes_eq}
use Rattle.std.proofs.lemmas.Bool.{and_right}
use Rattle.bac_wire.specs.OptionChain.{◌>>=◌}
use Rattle.bac_wire.specs.Primitive.{Id}
use Rattle.bac_script.specs.Flaw.{blank_at, extra_word, flaw_from, flaw_of, flaw_of_kind, flaw_of_words, is_long, is_wanted, line_kind, no_kind, words_wanted, wrong_word}
use Rattle.bac_script.specs.Script.Line.{ScriptLine, binary_line, clock_line, device_line, integer_line, kind_in, kinds, line_in, log_line, multistate_line, object_id, rx_line, said, said_by, sample_line, source_in, start_in, walk_line, walked_log}
use Rattle.bac_script.specs.Script.Hexadecimal.{octets_in}
use Rattle.bac_script.specs.Script.Number.{below, integer_in, number_in}
use Rattle.bac_script.specs.Script.Stamp.{stamp_in}
use Rattle.bac_script.specs.Script.Words.{text_in, words_of}
use Rattle.bac_script.specs.declared.script.flaw.Flaw.{Flaw}
use Rattle.bac_script.specs.declared.script.flaw.Flaw.TheVariants as flaw
use Rattle.bac_script.specs.declared.script.flaw.LineKind.{LineKind}
use Rattle.bac_script.specs.declared.script.flaw.LineKind.TheVariants as line
use Rattle.bac_script.specs.declared.script.flaw.Wanted.{Wanted}

abbrev is_place : Flaw → Bool
is_place (flaw.Place kind) = true
is_place other = false

-- there are as many words as are wanted, and each is what it has to be
abbrev fit : List Wanted → List (List ℕ) → Bool
fit [] [] = true
fit [] (word ∷ words) = false
fit (wanted ∷ more) [] = false
fit (wanted ∷ more) (word ∷ words) = is_wanted wanted word && fit more words

blank_never : (n : ℕ) (words : List (List ℕ)) → is_place (blank_at n words) ≡ false
blank_never n [] = refl
blank_never n (word ∷ words) = refl

long_never : (b : Bool) (n : ℕ) (wanted : Wanted) → is_place (if b then flaw.Long n wanted else flaw.Word n wanted) ≡ false
long_never true n wanted = refl
long_never false n wanted = refl

wrong_never : (n : ℕ) (wanted : Wanted) (word : List ℕ) (words : List (List ℕ)) → is_place (wrong_word n wanted word words) ≡ false
wrong_never n wanted [] words = blank_never n words
wrong_never n wanted (c ∷ cs) words = long_never (is_long wanted (c ∷ cs)) n wanted

extra_never : (kind : LineKind) (n : ℕ) (word : List ℕ) (words : List (List ℕ)) → is_place (extra_word kind n word words) ≡ false
extra_never kind n [] words = blank_never n words
extra_never kind n (c ∷ cs) words = refl

kind_never : (word : List ℕ) (words : List (List ℕ)) → is_place (no_kind word words) ≡ false
kind_never [] words = blank_never 1 words
kind_never (c ∷ cs) words = refl

one_fits : (b : Bool) (x : Flaw) (n : ℕ) (wanted : Wanted) (word : List ℕ) (words : List (List ℕ)) (c : Bool) → is_place x ≡ c
    → is_place (if b then x else wrong_word n wanted word words) ≡ (b && c)
one_fits true x n wanted word words c h = h
one_fits false x n wanted word words c h = wrong_never n wanted word words

placed : (kind : LineKind) (n : ℕ) (all : List Wanted) (words : List (List ℕ)) → is_place (flaw_from kind n all words) ≡ fit all words
placed kind n [] [] = refl
placed kind n [] (word ∷ words) = extra_never kind n word words
placed kind n (wanted ∷ more) [] = refl
placed kind n (wanted ∷ more) (word ∷ words) =
    one_fits (is_wanted wanted word) (flaw_from kind (n + 1) more words) n wanted word words (fit more words) (placed kind (n + 1) more words)

-- ---- more words, or fewer

differ : (all : List Wanted) (words : List (List ℕ)) → (length all ≡ length words → ⊥) → false ≡ fit all words
differ [] [] h = absurd (h refl)
differ [] (word ∷ words) h = refl
differ (wanted ∷ more) [] h = refl
differ (wanted ∷ more) (word ∷ words) h =
    sym (and_right (is_wanted wanted word) (fit more words) (sym (differ more words (λ e. h (ap suc e)))))

-- ---- one word after the other

next : {X Y : Type 0} (a : Option X) (f : X → Option Y) (b : Bool) → ((x : X) → is_some (f x) ≡ b) → is_some (a >>= f) ≡ (is_some a && b)
next None f b h = refl
next (Some x) f b h = h x

and_assoc : (a b c : Bool) → ((a && b) && c) ≡ (a && (b && c))
and_assoc true b c = refl
and_assoc false b c = refl

picked : (x y : Id) (b : Bool) → is_some (if b then Some x else None) ≡ is_some (if b then Some y else None)
picked x y true = refl
picked x y false = refl

object_there : (kind : ℕ) (o : Option ℕ) → is_some (o >>= (λ i. object_id kind i)) ≡ is_some (o >>= (λ i. object_id 20 i))
object_there kind None = refl
object_there kind (Some i) = picked (record { kind = kind; instance = i }) (record { kind = 20; instance = i }) (nat_lt i (2 ^ 22))

source_there : (kind instance : List ℕ) → is_some (source_in kind instance) ≡ (is_some (kind_in kind) && is_some (walked_log instance))
unfolding source_in walked_log
source_there kind instance = next (kind_in kind) _ (is_some (below (2 ^ 32) (number_in instance) >>= (λ i. object_id 20 i))) (λ k. object_there k (below (2 ^ 32) (number_in instance)))

source_next : (kind instance : List ℕ) (f : Id → Option ScriptLine) (b : Bool) → ((x : Id) → is_some (f x) ≡ b) → is_some (source_in kind instance >>= f) ≡ (is_some (kind_in kind) && (is_some (walked_log instance) && b))
source_next kind instance f b h =
    next (source_in kind instance) f b h ∙ ap (λ (v : Bool). v && b) (source_there kind instance) ∙ and_assoc (is_some (kind_in kind)) (is_some (walked_log instance)) b

-- ---- the words of each kind

-- a number of 32 bits, and one of 16
abbrev word : List ℕ → Option ℕ
word digits = below (2 ^ 32) (number_in digits)

abbrev short : List ℕ → Option ℕ
short digits = below (2 ^ 16) (number_in digits)

device_fits : (words : List (List ℕ)) → is_some (device_line words) ≡ fit (words_wanted line.Device) words
unfolding device_line
device_fits [] = refl
device_fits (a ∷ []) = differ (words_wanted line.Device) (a ∷ []) (λ e. omega (arith, e))
device_fits (a ∷ b ∷ []) = differ (words_wanted line.Device) (a ∷ b ∷ []) (λ e. omega (arith, e))
device_fits (a ∷ b ∷ c ∷ []) = differ (words_wanted line.Device) (a ∷ b ∷ c ∷ []) (λ e. omega (arith, e))
device_fits (a ∷ b ∷ c ∷ d ∷ []) = differ (words_wanted line.Device) (a ∷ b ∷ c ∷ d ∷ []) (λ e. omega (arith, e))
device_fits (a ∷ b ∷ c ∷ d ∷ e ∷ []) =
    next (word a) _ _ (λ instance. next (text_in b) _ _ (λ name. next (short c) _ _ (λ vendor. next (short d) _ _ (λ reply. next (stamp_in e) _ true (λ clock. refl)))))
device_fits (a ∷ b ∷ c ∷ d ∷ e ∷ f ∷ more) = differ (words_wanted line.Device) (a ∷ b ∷ c ∷ d ∷ e ∷ f ∷ more) (λ e. omega (arith, e))

binary_fits : (words : List (List ℕ)) → is_some (binary_line words) ≡ fit (words_wanted line.Binary) words
unfolding binary_line
binary_fits [] = refl
binary_fits (a ∷ []) = differ (words_wanted line.Binary) (a ∷ []) (λ e. omega (arith, e))
binary_fits (a ∷ b ∷ []) = differ (words_wanted line.Binary) (a ∷ b ∷ []) (λ e. omega (arith, e))
binary_fits (a ∷ b ∷ c ∷ []) = next (word a) _ _ (λ instance. next (text_in b) _ _ (λ name. next (word c) _ true (λ default. refl)))
binary_fits (a ∷ b ∷ c ∷ d ∷ more) = differ (words_wanted line.Binary) (a ∷ b ∷ c ∷ d ∷ more) (λ e. omega (arith, e))

multistate_fits : (words : List (List ℕ)) → is_some (multistate_line words) ≡ fit (words_wanted line.Multistate) words
unfolding multistate_line
multistate_fits [] = refl
multistate_fits (a ∷ []) = differ (words_wanted line.Multistate) (a ∷ []) (λ e. omega (arith, e))
multistate_fits (a ∷ b ∷ []) = differ (words_wanted line.Multistate) (a ∷ b ∷ []) (λ e. omega (arith, e))
multistate_fits (a ∷ b ∷ c ∷ []) = differ (words_wanted line.Multistate) (a ∷ b ∷ c ∷ []) (λ e. omega (arith, e))
multistate_fits (a ∷ b ∷ c ∷ d ∷ []) = next (word a) _ _ (λ instance. next (text_in b) _ _ (λ name. next (word c) _ _ (λ states. next (word d) _ true (λ default. refl))))
multistate_fits (a ∷ b ∷ c ∷ d ∷ e ∷ more) = differ (words_wanted line.Multistate) (a ∷ b ∷ c ∷ d ∷ e ∷ more) (λ e. omega (arith, e))

integer_fits : (words : List (List ℕ)) → is_some (integer_line words) ≡ fit (words_wanted line.Integer) words
unfolding integer_line
integer_fits [] = refl
integer_fits (a ∷ []) = differ (words_wanted line.Integer) (a ∷ []) (λ e. omega (arith, e))
integer_fits (a ∷ b ∷ []) = differ (words_wanted line.Integer) (a ∷ b ∷ []) (λ e. omega (arith, e))
integer_fits (a ∷ b ∷ c ∷ []) = next (word a) _ _ (λ instance. next (text_in b) _ _ (λ name. next (integer_in c) _ true (λ default. refl)))
integer_fits (a ∷ b ∷ c ∷ d ∷ more) = differ (words_wanted line.Integer) (a ∷ b ∷ c ∷ d ∷ more) (λ e. omega (arith, e))

log_fits : (words : List (List ℕ)) → is_some (log_line words) ≡ fit (words_wanted line.Log) words
unfolding log_line
log_fits [] = refl
log_fits (a ∷ []) = differ (words_wanted line.Log) (a ∷ []) (λ e. omega (arith, e))
log_fits (a ∷ b ∷ []) = differ (words_wanted line.Log) (a ∷ b ∷ []) (λ e. omega (arith, e))
log_fits (a ∷ b ∷ c ∷ []) = differ (words_wanted line.Log) (a ∷ b ∷ c ∷ []) (λ e. omega (arith, e))
log_fits (a ∷ b ∷ c ∷ d ∷ []) = differ (words_wanted line.Log) (a ∷ b ∷ c ∷ d ∷ []) (λ e. omega (arith, e))
log_fits (a ∷ b ∷ c ∷ d ∷ e ∷ []) = differ (words_wanted line.Log) (a ∷ b ∷ c ∷ d ∷ e ∷ []) (λ e. omega (arith, e))
log_fits (a ∷ b ∷ c ∷ d ∷ e ∷ f ∷ []) = differ (words_wanted line.Log) (a ∷ b ∷ c ∷ d ∷ e ∷ f ∷ []) (λ e. omega (arith, e))
log_fits (a ∷ b ∷ c ∷ d ∷ e ∷ f ∷ g ∷ []) =
    next (word a) _ _ (λ instance. next (text_in b) _ _ (λ name. source_next c d _ _ (λ source. next (word e) _ _ (λ capacity. next (word f) _ _ (λ interval. next (word g) _ true (λ logged. refl))))))
log_fits (a ∷ b ∷ c ∷ d ∷ e ∷ f ∷ g ∷ h ∷ more) = differ (words_wanted line.Log) (a ∷ b ∷ c ∷ d ∷ e ∷ f ∷ g ∷ h ∷ more) (λ e. omega (arith, e))

rx_fits : (words : List (List ℕ)) → is_some (rx_line words) ≡ fit (words_wanted line.Rx) words
unfolding rx_line
rx_fits [] = refl
rx_fits (a ∷ []) = next (octets_in a) _ true (λ datagram. refl)
rx_fits (a ∷ b ∷ more) = differ (words_wanted line.Rx) (a ∷ b ∷ more) (λ e. omega (arith, e))

clock_fits : (words : List (List ℕ)) → is_some (clock_line words) ≡ fit (words_wanted line.Clock) words
unfolding clock_line
clock_fits [] = refl
clock_fits (a ∷ []) = next (stamp_in a) _ true (λ stamp. refl)
clock_fits (a ∷ b ∷ more) = differ (words_wanted line.Clock) (a ∷ b ∷ more) (λ e. omega (arith, e))

sample_fits : (words : List (List ℕ)) → is_some (sample_line words) ≡ fit (words_wanted line.Sample) words
unfolding sample_line
sample_fits [] = refl
sample_fits (a ∷ []) = next (word a) _ true (λ instance. refl)
sample_fits (a ∷ b ∷ more) = differ (words_wanted line.Sample) (a ∷ b ∷ more) (λ e. omega (arith, e))

walk_fits : (words : List (List ℕ)) → is_some (walk_line words) ≡ fit (words_wanted line.Walk) words
unfolding walk_line
walk_fits [] = refl
walk_fits (a ∷ []) = differ (words_wanted line.Walk) (a ∷ []) (λ e. omega (arith, e))
walk_fits (a ∷ b ∷ []) = differ (words_wanted line.Walk) (a ∷ b ∷ []) (λ e. omega (arith, e))
walk_fits (a ∷ b ∷ c ∷ []) = next (walked_log a) _ _ (λ log. next (start_in b) _ _ (λ start. next (word c) _ true (λ steps. refl)))
walk_fits (a ∷ b ∷ c ∷ d ∷ more) = differ (words_wanted line.Walk) (a ∷ b ∷ c ∷ d ∷ more) (λ e. omega (arith, e))

-- ---- any line

pick : (b : Bool) (x y : Option ScriptLine) (kind : LineKind) (other : Option LineKind) (first : List ℕ) (words : List (List ℕ))
    → is_some x ≡ fit (words_wanted kind) words → is_some y ≡ is_place (flaw_of_kind other first words)
    → is_some (if b then x else y) ≡ is_place (flaw_of_kind (if b then Some kind else other) first words)
pick true x y kind other first words own more = own ∙ sym (placed kind 2 (words_wanted kind) words)
pick false x y kind other first words own more = more

by_kind : (word : List ℕ) (words : List (List ℕ)) → is_some (said_by kinds word words) ≡ is_place (flaw_of_kind (line_kind word) word words)
by_kind word words =
    pick (bytes_eq word (codes "device")) _ _ line.Device _ word words (device_fits words)
    (pick (bytes_eq word (codes "binary")) _ _ line.Binary _ word words (binary_fits words)
    (pick (bytes_eq word (codes "multistate")) _ _ line.Multistate _ word words (multistate_fits words)
    (pick (bytes_eq word (codes "integer")) _ _ line.Integer _ word words (integer_fits words)
    (pick (bytes_eq word (codes "log")) _ _ line.Log _ word words (log_fits words)
    (pick (bytes_eq word (codes "rx")) _ _ line.Rx _ word words (rx_fits words)
    (pick (bytes_eq word (codes "clock")) _ _ line.Clock _ word words (clock_fits words)
    (pick (bytes_eq word (codes "sample")) _ _ line.Sample _ word words (sample_fits words)
    (pick (bytes_eq word (codes "walk")) _ None line.Walk None word words (walk_fits words) (sym (kind_never word words))))))))))

by_words : (words : List (List ℕ)) → is_some (said words) ≡ is_place (flaw_of_words words)
by_words [] = refl
by_words (word ∷ words) = by_kind word words

by_text : (text : List ℕ) → is_some (line_in text) ≡ is_place (flaw_of text)
unfolding line_in flaw_of
by_text text = by_words (words_of text)

is_its_place : (f : Flaw) → is_place f ≡ true → (kind : LineKind) × (f ≡ flaw.Place kind)
is_its_place flaw.Kind h = absurd cc
is_its_place flaw.Described h = absurd cc
is_its_place (flaw.Count kind) h = absurd cc
is_its_place (flaw.Word n wanted) h = absurd cc
is_its_place (flaw.Long n wanted) h = absurd cc
is_its_place flaw.Blank h = absurd cc
is_its_place (flaw.Blanks n) h = absurd cc
is_its_place (flaw.Place kind) h = (kind, refl)
is_its_place flaw.Event h = absurd cc

pub place_of_line : (text : List ℕ) → ((kind : LineKind) × (flaw_of text ≡ flaw.Place kind)) ↔ IsSome (line_in text)
place_of_line text = (λ e. by_text text ∙ ap is_place e.1, λ s. is_its_place (flaw_of text) (sym (by_text text) ∙ s))
