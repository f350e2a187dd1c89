-- Addresses and instances that are read one after the other.
use Rattle.std.proofs.Common.{◌≡◌, ℕ, ◌+◌, ◌<◌, ◌≤◌, List, [], ◌∷◌, ◌++◌, Some, None, Result, Ok, Err, ◌∙◌, ap, append-nil, append_assoc, drop, get_or, length, map, refl, sym}
use Rattle.std.proofs.lemmas.List.{at_drop_more, drop_all}
use Rattle.clap.specs.Words.{Text}
use Rattle.bac_command_line.specs.declared.word.Word.{Word}
use Rattle.bac_command_line.specs.declared.word.Word.TheVariants.{Address, Instance}
use Rattle.bac_command_line.specs.Networks.{stations_of}
use Rattle.bac_command_line.specs.Numbers.{number_in}
use Rattle.bac_command_line.specs.Rows.{addresses_in, instances_in}
use Rattle.bac_command_line.specs.Steps.{◌>>=◌}

-- what was read stands before what is read of the rest
abbrev pub ahead : {A : Type 0} → List A → Result (List A) Word → Result (List A) Word
ahead done (Ok rest) = Ok (done ++ rest)
ahead done (Err w) = Err w

-- what was read of one more text stands behind what was read
pub behind : {A : Type 0} (done more : List A) (rest : Result (List A) Word) → ahead done (rest >>= λ items. Ok (more ++ items)) ≡ ahead (done ++ more) rest
behind {A} done more (Ok rest) = ap (λ (items : List A). Ok items) (sym (append_assoc done more rest))
behind done more (Err w) = refl

-- What a reading tells of texts, one text on. What it tells of the first of them stands before what it tells of the rest.
pub one_on : {A X : Type 0} (reads : List Text → Result (List A) Word) (whole : Result (List A) Word) (texts : List X) (f : X → Text) (i : ℕ) (d : X) (done new more : List A)
    → i < length texts → whole ≡ ahead done (reads (map f (drop i texts)))
    → ((rest : List Text) → reads (f (get_or texts i d) ∷ rest) ≡ (reads rest >>= λ items. Ok (more ++ items)))
    → new ≡ done ++ more → whole ≡ ahead new (reads (map f (drop (i + 1) texts)))
one_on {A} {X} reads whole texts f i d done new more below before first grown =
    before ∙ at_drop_more (λ (ts : List X). ahead done (reads (map f ts))) texts i d below
    ∙ ap (ahead done) (first (map f (drop (i + 1) texts)))
    ∙ behind done more (reads (map f (drop (i + 1) texts)))
    ∙ ap (λ (items : List A). ahead items (reads (map f (drop (i + 1) texts)))) (sym grown)

-- the stations of texts whose first says these
pub stations_first : (text : Text) (more : List (List ℕ)) → stations_of text ≡ Some more
    → (rest : List Text) → addresses_in (text ∷ rest) ≡ (addresses_in rest >>= λ items. Ok (more ++ items))
stations_first text more e rest = rw e refl

-- the instances of texts whose first says this one
pub instance_first : (text : Text) (instance : ℕ) → number_in 0 4194303 text ≡ Some instance
    → (rest : List Text) → instances_in (text ∷ rest) ≡ (instances_in rest >>= λ items. Ok ((instance ∷ []) ++ items))
instance_first text instance e rest = rw e refl

-- behind the last text all of them are read
pub all_read : {A X : Type 0} (reads : List Text → Result (List A) Word) (whole : Result (List A) Word) (texts : List X) (f : X → Text) (i : ℕ) (done : List A)
    → length texts ≤ i → reads [] ≡ Ok [] → whole ≡ ahead done (reads (map f (drop i texts))) → whole ≡ Ok done
all_read {A} {X} reads whole texts f i done past none before =
    before ∙ ap (λ (ts : List X). ahead done (reads (map f ts))) (drop_all i texts past) ∙ ap (ahead done) none
    ∙ ap (λ (items : List A). Ok items) (append-nil done)

-- a text that says nothing is the end
pub ended : {A X : Type 0} (reads : List Text → Result (List A) Word) (whole : Result (List A) Word) (texts : List X) (f : X → Text) (i : ℕ) (d : X) (done : List A)
    (word : Word) → i < length texts → whole ≡ ahead done (reads (map f (drop i texts)))
    → ((rest : List Text) → reads (f (get_or texts i d) ∷ rest) ≡ Err word) → whole ≡ Err word
ended {A} {X} reads whole texts f i d done word below before bad =
    before ∙ at_drop_more (λ (ts : List X). ahead done (reads (map f ts))) texts i d below ∙ ap (ahead done) (bad (map f (drop (i + 1) texts)))

pub no_stations : (text : Text) → stations_of text ≡ None → (rest : List Text) → addresses_in (text ∷ rest) ≡ Err Address
no_stations text e rest = rw e refl

pub no_instance : (text : Text) → number_in 0 4194303 text ≡ None → (rest : List Text) → instances_in (text ∷ rest) ≡ Err Instance
no_instance text e rest = rw e refl
