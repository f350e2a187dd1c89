-- The lines of a script.
use Rattle.std.specs.Prelude.{ℕ, Bool, List, [], ◌∷◌, ◌==◌}
use Rattle.std.specs.List.{slice_split}
use Rattle.std.specs.Str.Lines.{strip_carriage_return}

-- a line feed
abbrev pub is_line_feed : ℕ → Bool
is_line_feed b = b == 10

-- the parts of a text between its line feeds
abbrev pub parts : List ℕ → List (List ℕ)
parts text = slice_split is_line_feed text

-- each part but the last one, less one carriage return at its end
abbrev pub all_but_last : List (List ℕ) → List (List ℕ)
all_but_last [] = []
all_but_last (x ∷ []) = []
all_but_last (x ∷ y ∷ more) = strip_carriage_return x ∷ all_but_last (y ∷ more)

-- the lines that a line feed ended
abbrev pub ended_lines : List ℕ → List (List ℕ)
ended_lines text = all_but_last (parts text)

-- the last part, if it isn't empty
abbrev pub last_if_any : List (List ℕ) → List (List ℕ)
last_if_any [] = []
last_if_any ([] ∷ []) = []
last_if_any ((b ∷ bs) ∷ []) = (b ∷ bs) ∷ []
last_if_any (x ∷ y ∷ more) = last_if_any (y ∷ more)

-- what stands after the last line feed, as a line, if there is anything
abbrev pub open_line : List ℕ → List (List ℕ)
open_line text = last_if_any (parts text)
