-- How much of a trend log `bac kept` prints: the records of a period, which fronts of stamps say, or the newest one.
use Rattle.std.specs.Prelude.{ℕ, Bool, true, false, ◌==◌, ◌&&◌, ◌||◌, nat_le, if◌then◌else◌, List, [], ◌∷◌, length}
use Rattle.std.specs.Prelude.{Option, None, Some, is_some, Result, Ok, Err, codes}
use Rattle.std.specs.Char.{is_ascii_digit}
use Rattle.std.specs.Option.{ok_or}
use Rattle.clap.specs.Words.{Row, Text}
use Rattle.bac_command_line.specs.declared.job.Extent.{Extent}
use Rattle.bac_command_line.specs.declared.job.Extent.TheVariants.{Dated, Newest}
use Rattle.bac_command_line.specs.declared.word.Word.{Word}
use Rattle.bac_command_line.specs.declared.word.Word.TheVariants.{Last, Since, Until}
use Rattle.bac_command_line.specs.Rows.{is_said, maybe, text_at}
use Rattle.bac_command_line.specs.Steps.{◌>>=◌}

-- the form of a stamp, in which 0 (48) is any digit
abbrev pub stamp_form : Text
stamp_form = codes "0000-00-00T00:00:00.00"

-- an octet fits this one of the form
abbrev pub fits : ℕ → ℕ → Bool
fits mark octet = if mark == 48 then is_ascii_digit octet else octet == mark

-- each octet of a text fits that of the form at its place
abbrev pub is_front : (form text : Text) → Bool
is_front form [] = true
is_front [] (octet ∷ octets) = false
is_front (mark ∷ marks) (octet ∷ octets) = fits mark octet && is_front marks octets

-- the front of a stamp, with its year at least
abbrev pub is_stamp_front : Text → Bool
is_stamp_front text = nat_le 4 (length text) && is_front stamp_form text

-- what is read of one
abbrev pub stamp_in : Text → Option Text
stamp_in text = if is_stamp_front text then Some text else None

-- absent, or the front of a stamp
abbrev pub stamp_at : Word → List Row → Result (Option Text) Word
stamp_at w rows = ok_or (maybe stamp_in (text_at w rows)) w

-- --last goes with neither --since nor --until
abbrev pub extent_of : (last : Bool) → (since until : Option Text) → Result Extent Word
extent_of true since until = if is_some since || is_some until then Err Last else Ok Newest
extent_of false since until = Ok (Dated (record { since = since; until = until }))

-- how much of each log is printed
abbrev pub extent_at : List Row → Result Extent Word
extent_at rows = do
  since ← stamp_at Since rows
  until ← stamp_at Until rows
  extent_of (is_said Last rows) since until
