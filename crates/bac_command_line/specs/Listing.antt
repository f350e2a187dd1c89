-- Addresses that stand in lines, one or a network in each. Read from the end.
use Rattle.std.specs.Prelude.{◌≡◌, ℕ, ◌+◌, ◌==◌, nat_le, if◌then◌else◌, List, [], ◌∷◌, ◌++◌, length, Option, None, Some}
use Rattle.std.specs.Prelude.{Result, Ok, Err}
use Rattle.std.specs.List.{slice_split}
use Rattle.std.specs.Str.Lines.{strip_carriage_return}
use Rattle.bac_command_line.specs.Networks.{stations_of}
use Rattle.bac_command_line.specs.declared.listing.ListFault.{ListFault}
use Rattle.bac_command_line.specs.declared.listing.ListFault.TheVariants.{BadLine, TooMany, Empty, TooLong, Read}
use Rattle.bac_command_line.specs.declared.listing.ListFault.TheVariants.{Memory}

-- the stations that a line says; none of an empty line and of one that begins with # (35)
abbrev pub said_in : List ℕ → Option (List (List ℕ))
said_in [] = Some []
said_in (c ∷ cs) = if c == 35 then Some [] else stations_of (c ∷ cs)

-- what all lines list, behind what the lines before do: there has to be something
abbrev pub all_listed : {A : Type 0} → List A → Result (List A) ListFault
all_listed [] = Err Empty
all_listed (one ∷ more) = Ok (one ∷ more)

-- a list that goes to the line with this number has 4096 at most
abbrev pub within_list : {A : Type 0} → ℕ → List A → Result (List A) ListFault
within_list number list = if nat_le (length list) 4096 then Ok list else Err (TooMany number)

-- with what this line says
abbrev pub with_said : {A : Type 0} → List A → ℕ → Option (List A) → Result (List A) ListFault
with_said list number None = Err (BadLine number)
with_said list number (Some more) = within_list number (list ++ more)

-- the same of the lines behind it, unless this one is at fault
abbrev pub go_on : {A : Type 0} → Result (List A) ListFault → (List A → Result (List A) ListFault)
    → Result (List A) ListFault
go_on (Err fault) more = Err fault
go_on (Ok list) more = more list

-- What lines list, each of which says so much, of which the first has this number, behind what was listed. A carriage
-- return at the end of a line is no part of it.
abbrev pub listed_by : {A : Type 0} → (List ℕ → Option (List A)) → List A → ℕ → List (List ℕ)
    → Result (List A) ListFault
listed_by said list number [] = all_listed list
listed_by said list number (line ∷ more) = go_on (with_said list number (said (strip_carriage_return line)))
    (λ next. listed_by said next (number + 1) more)

-- the addresses of lines
abbrev pub listed : List (List ℕ) → ℕ → List (List ℕ) → Result (List (List ℕ)) ListFault
listed = listed_by said_in

-- those of the lines of a text (10 ends a line), one at least
abbrev pub addresses_of : List ℕ → Result (List (List ℕ)) ListFault
addresses_of text = listed [] 1 (slice_split (λ c. c == 10) text)

-- this is answered, or memory was wanting
abbrev pub Lists : {A : Type 0} → Result (List A) ListFault → Result (List A) ListFault → Type 0
Lists said (Ok list) = said ≡ Ok list
Lists said (Err Memory) = Unit {0}
Lists said (Err TooLong) = ⊥
Lists said (Err Read) = ⊥
Lists said (Err fault) = said ≡ Err fault

-- ---- what only private calls cite

-- a line was added, or it is at fault, unless memory was wanting
abbrev pub IsListed : {A : Type 0} → Result (List A) ListFault → Result (Unit {0}) ListFault → List A → Type 0
IsListed said (Ok done) new = said ≡ Ok new
IsListed said (Err Memory) new = Unit {0}
IsListed said (Err TooLong) new = ⊥
IsListed said (Err Read) new = ⊥
IsListed said (Err fault) new = said ≡ Err fault
