-- Several devices that are asked over one port, beside one another. Read `SeveralGoOn`.
use Rattle.std.specs.Prelude.{◌≡◌, ◌⊎◌, ◌<◌, ◌≤◌, ℕ, ◌+◌, ◌-◌, ◌%◌, ◌==◌, max, if◌then◌else◌, List, [], ◌∷◌, ◌++◌}
use Rattle.bac_invoke_ids.specs.Onward.{after, behind, shift_of}
use Rattle.bac_invoke_ids.specs.declared.ids.Ids.{Ids}

-- a question to a device, by its number among those to that device over a port, from 1 on
pub record Question : Type 0 where
  pub device : ℕ
  pub number : ℕ

-- behind so many questions to its device it is the next one, or the last one once more; of 128 at most
abbrev pub IsNext : ℕ → ℕ → Type 0
IsNext asked number = ((number ≡ asked + 1) ⊎ (number ≡ asked)) × (1 ≤ number) × (number ≤ 128)

-- how many each device was asked, with this one
abbrev pub with_one : (ℕ → ℕ) → Question → ℕ → ℕ
with_one asked one device = if device == one.device then one.number else asked device

-- the questions to each device are asked in turn, those to several in any order; so many were asked before
abbrev pub AreInTurn : (ℕ → ℕ) → List Question → Type 0
AreInTurn asked [] = Unit {0}
AreInTurn asked (one ∷ more) = IsNext (asked one.device) one.number × AreInTurn (with_one asked one) more

-- how many the device was asked that was asked most, if it is more than this
abbrev pub most : ℕ → List Question → ℕ
most number [] = number
most number (one ∷ more) = most (max number one.number) more

-- the invoke ID of a question, where those to each device begin with this one and go on by one
abbrev pub id_of : ℕ → Question → ℕ
id_of first one = (first + one.number - 1) % 256

-- the IDs behind these questions
abbrev pub after_all : ℕ → Ids → List Question → Ids
after_all first ids [] = ids
after_all first ids (one ∷ more) = after_all first (after ids (id_of first one)) more

-- The questions to several devices over a port are asked in turn, 128 to each at most, and those to each begin with
-- one ID. Then each is sent with the ID that is its number behind the last one before the port was opened; and the next
-- port goes on behind the device that was asked most.
abbrev pub SeveralGoOn : Type 0
SeveralGoOn = (last first : ℕ) (before : List Question) (one : Question) → last < 256 → first < 256 →
    AreInTurn (λ device. 0) (before ++ one ∷ []) →
    ((id_of first one + shift_of (after_all first (behind last) before) (id_of first one)) % 256
    ≡ (last + one.number) % 256)
    × ((after_all first (behind last) (before ++ one ∷ [])).last ≡ (last + most 0 (before ++ one ∷ [])) % 256)
