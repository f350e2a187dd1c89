-- The one text that is written for parameters: each as short as can be.
use Rattle.std.specs.Prelude.{◌≡◌, ◌⊎◌, ℕ, ◌<◌, Bool, true, false, ◌==◌, List, [], ◌∷◌, ◌++◌, if◌then◌else◌}
use Rattle.bac_wire.specs.Spelling.{tag_of}
use Rattle.bac_wire.specs.Level.{IsLevel}
use Rattle.bac_wire.specs.Canon.{IsValid}
use Rattle.bac_apdu.specs.Adding.{context_octets, value_octets, open_octets, close_octets}
use Rattle.bac_apdu.specs.Form.{Absent, Form, Inside, Parameter, Mark, Row, Value, any, application, choice, closing}
use Rattle.bac_apdu.specs.Form.{context, enclosed, end, nothing_or, opening, opening_next, optional, row, value_next}

-- ---- writing

-- one parameter, as short as can be, and nothing if the row doesn't allow it
abbrev pub canon_row : Row → Parameter → List ℕ
canon_row (context tag type fits) (Value value) = context_octets tag value
canon_row (application type fits) (Value value) = value_octets value
canon_row (opening tag) (Mark number) = open_octets tag
canon_row (closing tag) (Mark number) = close_octets tag
canon_row (enclosed tag) (Inside octets) = octets ++ close_octets tag
canon_row any (Value value) = value_octets value
canon_row p parameter = []

-- whether the first parameter is an opening or closing tag of this number; a choice's first form begins with one
abbrev pub starts : ℕ → List Parameter → Bool
starts tag (Mark number ∷ parameters) = number == tag
starts tag parameters = false

-- the parameters one after the other, each as short as can be
abbrev pub canon_form : Form → List Parameter → List ℕ
canon_form end parameters = []
canon_form (row p form) [] = []
canon_form (row p form) (parameter ∷ parameters) = canon_row p parameter ++ canon_form form parameters
canon_form (optional tag type fits form) [] = []
canon_form (optional tag type fits form) (Absent ∷ parameters) = canon_form form parameters
canon_form (optional tag type fits form) (Value value ∷ parameters) =
    context_octets tag value ++ canon_form form parameters
canon_form (optional tag type fits form) (Mark number ∷ parameters) = []
canon_form (optional tag type fits form) (Inside octets ∷ parameters) = []
canon_form (choice tag there otherwise) parameters =
    if starts tag parameters then canon_form there parameters else canon_form otherwise parameters
canon_form (nothing_or form) [] = []
canon_form (nothing_or form) (parameter ∷ parameters) = canon_form form (parameter ∷ parameters)

-- whether there are no octets
abbrev pub is_empty : List ℕ → Bool
is_empty [] = true
is_empty (octet ∷ text) = false

-- a parameter that the row can have
abbrev pub FitsRow : Row → Parameter → Type 0
FitsRow (context tag type fits) (Value value) =
    (tag < 255) × IsValid value × (tag_of value ≡ type) × (fits value ≡ true)
FitsRow (application type fits) (Value value) = IsValid value × (tag_of value ≡ type) × (fits value ≡ true)
FitsRow (opening tag) (Mark number) = (tag < 255) × (number ≡ tag)
FitsRow (closing tag) (Mark number) = (tag < 255) × (number ≡ tag)
FitsRow (enclosed tag) (Inside octets) = (tag < 255) × IsLevel octets
FitsRow any (Value value) = IsValid value
FitsRow p parameter = ⊥

-- parameters that the form can have, and with which nothing else is taken for an optional parameter
abbrev pub Fits : Form → List Parameter → Type 0
Fits end parameters = parameters ≡ []
Fits (row p form) [] = ⊥
Fits (row p form) (parameter ∷ parameters) = FitsRow p parameter × Fits form parameters
Fits (optional tag type fits form) [] = ⊥
Fits (optional tag type fits form) (Absent ∷ parameters) =
    (value_next tag (canon_form form parameters) ≡ false) × Fits form parameters
Fits (optional tag type fits form) (Value value ∷ parameters) =
    FitsRow (context tag type fits) (Value value) × Fits form parameters
Fits (optional tag type fits form) (Mark number ∷ parameters) = ⊥
Fits (optional tag type fits form) (Inside octets ∷ parameters) = ⊥
Fits (choice tag there otherwise) parameters =
    ((starts tag parameters ≡ true) × (opening_next tag (canon_form there parameters) ≡ true) × Fits there parameters)
    ⊎ ((starts tag parameters ≡ false) × (opening_next tag (canon_form otherwise parameters) ≡ false)
    × Fits otherwise parameters)
Fits (nothing_or form) [] = Unit {0}
Fits (nothing_or form) (parameter ∷ parameters) =
    (is_empty (canon_form form (parameter ∷ parameters)) ≡ false) × Fits form (parameter ∷ parameters)
