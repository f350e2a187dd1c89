-- What the rows of a tool's matches say of a word or an option.
use Rattle.std.specs.Prelude.{ℕ, Bool, true, false, List, [], ◌∷◌, ◌++◌, length, nat_le, ◌&&◌, if◌then◌else◌, Option}
use Rattle.std.specs.Prelude.{None}
use Rattle.std.specs.Prelude.{Some}
use Rattle.std.specs.Prelude.{Result, Ok, Err, option_and_then, unwrap_or, codes}
use Rattle.std.specs.Str.{bytes_eq}
use Rattle.std.specs.Option.{ok_or}
use Rattle.std.specs.Result.{result_ok}
use Rattle.hex.specs.Hex.{decode_of}
use Rattle.bac_apdu.specs.Npdu.{Place}
use Rattle.bac_form.specs.declared.form.Form.{Form}
use Rattle.bac_form.specs.declared.form.Form.TheVariants.{Lines, Csv as AsCsv, Json as AsJson}
use Rattle.clap.specs.Words.{Row, Text, first_of, all_of}
use Rattle.bac_command_line.specs.declared.job.Stations.{Stations}
use Rattle.bac_command_line.specs.declared.job.Stations.TheVariants.{Listed, Input}
use Rattle.bac_command_line.specs.declared.word.Word.{Word}
use Rattle.bac_command_line.specs.declared.word.Word.TheVariants.{Address, Instance, Local, Dnet, Dadr, Csv, Json}
use Rattle.bac_command_line.specs.Names.{is_number, name_of}
use Rattle.bac_command_line.specs.Numbers.{is_long, number_in}
use Rattle.bac_command_line.specs.Addresses.{address_in}
use Rattle.bac_command_line.specs.Networks.{stations_of}
use Rattle.bac_command_line.specs.Steps.{◌>>=◌}

-- what a word says, if it is there
abbrev pub text_at : Word → List Row → Option Text
text_at w rows = first_of (name_of w) rows

-- what several words say, each
abbrev pub texts_at : Word → List Row → List Text
texts_at w rows = unwrap_or (all_of (name_of w) rows) []

-- the text that stands for an option without a value that was given
abbrev pub is_true_text : Option Text → Bool
is_true_text None = false
is_true_text (Some text) = bytes_eq text (codes "true")

-- an option without a value was given
abbrev pub is_said : Word → List Row → Bool
is_said w rows = is_true_text (text_at w rows)

-- --csv and --json don't go together
abbrev pub form_of : (csv json : Bool) → Result Form Word
form_of false false = Ok Lines
form_of true false = Ok AsCsv
form_of false true = Ok AsJson
form_of true true = Err Json

-- in which form records are printed
abbrev pub form_at : List Row → Result Form Word
form_at rows = form_of (is_said Csv rows) (is_said Json rows)

-- the word of a number is digits alone, and more than a number has
abbrev pub is_long_text : Word → Option Text → Bool
is_long_text w None = false
is_long_text w (Some text) = is_number w && is_long text

-- a number from low to high
abbrev pub number_at : Word → ℕ → ℕ → List Row → Result ℕ Word
number_at w low high rows = ok_or (option_and_then (number_in low high) (text_at w rows)) w

-- absent, or read
abbrev pub maybe : {A : Type 0} → (Text → Option A) → Option Text → Option (Option A)
maybe f None = Some None
maybe f (Some text) = option_and_then (λ x. Some (Some x)) (f text)

-- absent, or a number from low to high
abbrev pub maybe_number_at : Word → ℕ → ℕ → List Row → Result (Option ℕ) Word
maybe_number_at w low high rows = ok_or (maybe (number_in low high) (text_at w rows)) w

-- the address of one
abbrev pub address_at : List Row → Result (List ℕ) Word
address_at rows = ok_or (option_and_then address_in (text_at Address rows)) Address

-- our own address
abbrev pub local_at : List Row → Result (Option (List ℕ)) Word
local_at rows = ok_or (maybe address_in (text_at Local rows)) Local

-- the stations that each text says
abbrev pub addresses_in : List Text → Result (List (List ℕ)) Word
addresses_in [] = Ok []
addresses_in (text ∷ texts) = do
  stations ← ok_or (stations_of text) Address
  more ← addresses_in texts
  Ok (stations ++ more)

-- the one text is - (45), which stands for the lines of standard input
abbrev pub is_input : List Text → Bool
is_input [] = false
is_input (text ∷ []) = bytes_eq text (codes "-")
is_input (text ∷ other ∷ more) = false

-- the lines of standard input, or the stations of these texts
abbrev pub stations_in : List Text → Result Stations Word
stations_in texts =
    if is_input texts then Ok Input else
    addresses_in texts >>= λ addresses. Ok (Listed addresses)

-- the stations of a list of them
abbrev pub stations_at : List Row → Result Stations Word
stations_at rows = stations_in (texts_at Address rows)

-- the instance that each text says (clause 20.2.14)
abbrev pub instances_in : List Text → Result (List ℕ) Word
instances_in [] = Ok []
instances_in (text ∷ texts) = do
  instance ← ok_or (number_in 0 4194303 text) Instance
  more ← instances_in texts
  Ok (instance ∷ more)

-- the instances that several words say
abbrev pub instances_at : List Row → Result (List ℕ) Word
instances_at rows = instances_in (texts_at Instance rows)

-- an address on a network behind a router: 1 to 15 octets, in two hexadecimal digits each
unfoldable pub mac_in : List ℕ → Option (List ℕ)
mac_in word = if nat_le 2 (length word) && nat_le (length word) 30 then result_ok (decode_of word) else None

-- A place behind a router has both, its network from 1 to 65534; one alone lacks the other.
unfoldable pub route_in : Option Text → Option Text → Result (Option Place) Word
route_in None None = Ok None
route_in (Some net) None = Err Dadr
route_in None (Some address) = Err Dnet
route_in (Some net) (Some address) = do
  n ← ok_or (number_in 1 65534 net) Dnet
  mac ← ok_or (mac_in address) Dadr
  Ok (Some (record { net = n; address = mac }))

-- the place behind a router that is asked, if there is one
abbrev pub route_at : List Row → Result (Option Place) Word
route_at rows = route_in (text_at Dnet rows) (text_at Dadr rows)
