-- The parts among the files of a folder, and those among them and one file more.
use Rattle.std.proofs.Common.{◌≡◌, ◌≤◌, ◌+◌, ◌-◌, ◌∙◌, ◌++◌, ◌∷◌, ℕ, List, [], Option, Some, None, Result, Ok, inl, inr, map, min, max, ap, subst, sym, arith}
use Rattle.std.specs.Fs.{dir_entry_name}
use Rattle.std.specs.List.{Contains, range_with_len}
use Rattle.std.specs.Prelude.{◌⊎◌}
use Rattle.std.specs.declared.fs.dir.DirEntry.{DirEntry}
use Rattle.std.proofs.lemmas.Bool.{cases_order}
use Rattle.std.proofs.lemmas.List.{map-append}
use Rattle.std.proofs.lemmas.List.FromFn.{map-range_with_len_more}
use Rattle.std.proofs.lemmas.List.Elements.{Contains-append_left, Contains-push, Contains-push_cases}
use Rattle.bac_files.specs.Parts.{AreNamed, ArePartsOf, HasNoPart, HasPart, IsPartFile, part_file, part_path}
use Rattle.bac_files.specs.declared.folder.Numbers.{Numbers}
use Rattle.bac_files.proofs.PartNames.{part_digits, part_is}

one_number : (name : List ℕ) (m n : ℕ) → IsPartFile name m → IsPartFile name n → m ≡ n
one_number name m n one other =
    let it = part_is name m one in
    sym it.value ∙ (part_digits name it.digits n it.named other).2

module _ (names : List (List ℕ)) (name : List ℕ) where
  -- what was there is there yet
  before : (number : ℕ) → HasPart names number → HasPart (names ++ name ∷ []) number
  before number (some, most, there) = (some, most, Contains-append_left names (name ∷ []) (part_file number) there)

  -- and the one more
  this : (number : ℕ) → IsPartFile name number → HasPart (names ++ name ∷ []) number
  this number (some, most, is) = (some, most, subst (Contains (names ++ name ∷ [])) is (Contains-push names name))

  -- and no other
  either : (number : ℕ) → HasPart (names ++ name ∷ []) number → HasPart names number ⊎ IsPartFile name number
  either number (some, most, there) = elim (Contains-push_cases names name (part_file number) there) [
    | inl there ↦ inl (some, most, there)
    | inr is ↦ inr (some, most, is)
  ]

  -- a file that is no part
  pub no_more : (found : Option Numbers) → ((number : ℕ) → IsPartFile name number → ⊥) → ArePartsOf names found → ArePartsOf (names ++ name ∷ []) found
  no_more None other none = λ number has. elim (either number has) [ inl old ↦ none number old | inr new ↦ other number new ]
  no_more (Some found) other (oldest, newest) = (
    (before found.least oldest.0, λ number has. elim (either number has) [ inl old ↦ oldest.1 number old | inr new ↦ absurd (other number new) ]),
    (before found.greatest newest.0, λ number has. elim (either number has) [ inl old ↦ newest.1 number old | inr new ↦ absurd (other number new) ]),
  )

  -- the first part
  pub first : (number : ℕ) → IsPartFile name number → HasNoPart names → ArePartsOf (names ++ name ∷ []) (Some (record { least = number; greatest = number }))
  first number part none = (
    (this number part, λ other has. elim (either other has) [ inl old ↦ absurd (none other old) | inr new ↦ omega (arith, one_number name other number new part) ]),
    (this number part, λ other has. elim (either other has) [ inl old ↦ absurd (none other old) | inr new ↦ omega (arith, one_number name other number new part) ]),
  )

  one_of : (a b k : ℕ) → (k ≡ a) ⊎ (k ≡ b) → HasPart names a → IsPartFile name b → HasPart (names ++ name ∷ []) k
  one_of a b k (inl is) old new = subst (HasPart (names ++ name ∷ [])) (sym is) (before a old)
  one_of a b k (inr is) old new = subst (HasPart (names ++ name ∷ [])) (sym is) (this b new)

  -- one more part
  pub more : (found : Numbers) (number least greatest : ℕ) → IsPartFile name number → ArePartsOf names (Some found)
      → ((least ≡ found.least) ⊎ (least ≡ number)) × (least ≤ found.least) × (least ≤ number)
      → ((greatest ≡ found.greatest) ⊎ (greatest ≡ number)) × (found.greatest ≤ greatest) × (number ≤ greatest)
      → ArePartsOf (names ++ name ∷ []) (Some (record { least = least; greatest = greatest }))
  more found number least greatest part (oldest, newest) low high = (
    (
      one_of found.least number least low.0 oldest.0 part,
      λ other has. elim (either other has) [
        | inl old ↦ omega (arith, oldest.1 other old, low.1)
        | inr new ↦ omega (arith, one_number name other number new part, low.2)
      ],
    ),
    (
      one_of found.greatest number greatest high.0 newest.0 part,
      λ other has. elim (either other has) [
        | inl old ↦ omega (arith, newest.1 other old, high.1)
        | inr new ↦ omega (arith, one_number name other number new part, high.2)
      ],
    ),
  )

-- an entry more that isn't told by an error
pub named_more : {R A F D E : Type 0} (entries : List (Result (DirEntry R A F D) E)) (names : List (List ℕ)) (entry : DirEntry R A F D)
    → AreNamed entries names → AreNamed (entries ++ Ok entry ∷ []) (names ++ dir_entry_name entry ∷ [])
named_more entries names entry (all, are, named) = (
  all ++ entry ∷ [],
  ap (λ l. l ++ Ok entry ∷ []) are ∙ sym (map-append Ok all (entry ∷ [])),
  ap (λ l. l ++ dir_entry_name entry ∷ []) named ∙ sym (map-append dir_entry_name all (entry ∷ [])),
)

-- nothing has no part
pub nothing : HasNoPart []
nothing number (some, most, (place, low, is)) = absurd (omega (arith, low))

-- the lesser of two, and the greater
pub lesser : (a b k : ℕ) → k ≡ min a b → ((k ≡ a) ⊎ (k ≡ b)) × (k ≤ a) × (k ≤ b)
lesser a b k is = elim (cases_order a b) [
  | inl same ↦ (inl (omega (arith, is, same)), omega (arith, is, same), omega (arith, is, same))
  | inr (inl low) ↦ (inl (omega (arith, is, low)), omega (arith, is, low), omega (arith, is, low))
  | inr (inr high) ↦ (inr (omega (arith, is, high)), omega (arith, is, high), omega (arith, is, high))
]

pub greater : (a b k : ℕ) → k ≡ max a b → ((k ≡ a) ⊎ (k ≡ b)) × (a ≤ k) × (b ≤ k)
greater a b k is = elim (cases_order a b) [
  | inl same ↦ (inl (omega (arith, is, same)), omega (arith, is, same), omega (arith, is, same))
  | inr (inl low) ↦ (inr (omega (arith, is, low)), omega (arith, is, low), omega (arith, is, low))
  | inr (inr high) ↦ (inl (omega (arith, is, high)), omega (arith, is, high), omega (arith, is, high))
]

-- ---- their paths

-- none yet
pub no_paths : (folder : List ℕ) (least : ℕ) → map (part_path folder) (range_with_len least (least - least)) ≡ []
no_paths folder least = let none : least - least ≡ 0 = omega arith in ap (λ n. map (part_path folder) (range_with_len least n)) none

-- one more
pub one_path : (folder : List ℕ) (least number : ℕ) → least ≤ number
    → map (part_path folder) (range_with_len least (number + 1 - least)) ≡ map (part_path folder) (range_with_len least (number - least)) ++ part_path folder number ∷ []
one_path folder least number low =
    let one : number + 1 - least ≡ number - least + 1 = omega (arith, low) in
    ap (λ n. map (part_path folder) (range_with_len least n)) one ∙ map-range_with_len_more (part_path folder) least (number - least) number (omega (arith, low))
