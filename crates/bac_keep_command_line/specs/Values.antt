-- What the text of one word says, or why it says nothing.
use Rattle.std.specs.Prelude.{◌≡◌, if◌then◌else◌, Option, None, Some, Result, Ok, Err}
use Rattle.std.specs.Option.{ok_or}
use Rattle.clap.specs.Words.{Text}
use Rattle.bac_wire.specs.Chain.{result_map}
use Rattle.bac_command_line.specs.Rows.{is_long_text}
use Rattle.bac_command_line.specs.declared.word.Word.{Word}
use Rattle.bac_keep_command_line.specs.declared.fault.Fault.{Fault}
use Rattle.bac_keep_command_line.specs.declared.fault.Fault.TheVariants.{BadValue, LongNumber, Memory}

-- the value of a word is wrong: told apart is a number that has too many digits
abbrev pub wrong : Word → Option Text → Fault
wrong w text = if is_long_text w text then LongNumber w else BadValue w

-- what the text of a word says, if that is a value of it
abbrev pub said : {A : Type 0} → (Text → Option A) → Word → Text → Result A Fault
said read w text = ok_or (read text) (wrong w (Some text))

-- the same of a word that may be left out, which stands for this then
abbrev pub said_or : {A : Type 0} → A → (Text → Option A) → Word → Option Text → Result A Fault
said_or left read w None = Ok left
said_or left read w (Some text) = said read w text

-- the same of one that stands for nothing then
abbrev pub said_if : {A : Type 0} → (Text → Option A) → Word → Option Text → Result (Option A) Fault
said_if read w None = Ok None
said_if read w (Some text) = result_map Some (said read w text)

-- the answer is what the words say, seen so; or memory was wanting
abbrev pub Makes : {A B : Type 0} → (A → B) → Result B Fault → Result A Fault → Type 0
Makes view words (Ok a) = words ≡ Ok (view a)
Makes view words (Err (BadValue w)) = words ≡ Err (BadValue w)
Makes view words (Err (LongNumber w)) = words ≡ Err (LongNumber w)
Makes view words (Err Memory) = Unit {0}
