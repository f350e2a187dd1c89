-- Steps one after the other: the first wrong word ends them.
use Rattle.std.specs.Prelude.{◌≡◌, Result, Ok, Err}
use Rattle.bac_command_line.specs.declared.word.Word.{Word}
use Rattle.bac_command_line.specs.declared.fault.WordsFault.{WordsFault}
use Rattle.bac_command_line.specs.declared.fault.WordsFault.TheVariants.{Usage, BadValue, LongNumber, Memory}

infixl 10 ◌>>=◌
-- the next step, if this one found no wrong word
abbrev pub ◌>>=◌ : {A B : Type 0} → Result A Word → (A → Result B Word) → Result B Word
Ok a >>= f = f a
Err w >>= f = Err w

-- the answer is what the words say, or memory was wanting
abbrev pub Makes : {A : Type 0} → Result A Word → Result A WordsFault → Type 0
Makes said (Ok a) = said ≡ Ok a
Makes said (Err (BadValue w)) = said ≡ Err w
Makes said (Err (LongNumber w)) = ⊥
Makes said (Err Memory) = Unit {0}
Makes said (Err (Usage e)) = ⊥
