-- What may stand in front of the records of a turn.
use Rattle.std.proofs.Common.{◌≡◌, ◌≤◌, ◌⊎◌, ℕ, ◌+◌, ◌%◌, ◌==◌, Bool, true, false}
use Rattle.std.proofs.Common.{if◌then◌else◌, None, List, [], ◌∷◌, arith}
use Rattle.bac_link.specs.Ordinals.{number_after}
use Rattle.bac_link.specs.declared.item.Item.{Item}
use Rattle.bac_link.specs.declared.item.Item.TheVariants.{Gap, Logged}
use Rattle.bac_walk.specs.declared.batch.Numbered.{Numbered}
use Rattle.bac_poll.specs.Turns.{Turned, first_in}
use Rattle.bac_poll.specs.Turns.{gap_up_to, number_or}
use Rattle.bac_poll_steps.specs.declared.stage.Aim.{Aim}
use Rattle.bac_poll_steps.specs.declared.stage.Aim.TheVariants.{Finds, Renews, Starts}

-- a sequence number
abbrev pub IsNumber : ℕ → Type 0
IsNumber n = (1 ≤ n) × (n ≤ 4294967295)

-- gaps alone, each of which ends at a number
abbrev pub AreGaps : List Item → Type 0
AreGaps [] = Unit {0}
AreGaps (Gap first before ∷ items) = IsNumber before × AreGaps items
AreGaps (Logged shown entry ∷ items) = ⊥

-- the first of records has a number
abbrev pub HasFirst : List Numbered → Type 0
HasFirst [] = Unit {0}
HasFirst (held ∷ others) = IsNumber held.number

pub record Fine (n : ℕ) (t : Turned) : Type 0 where
  pub begins : (t.begins ≡ None) ⊎ (n ≡ 1)
  pub missing : AreGaps t.missing
  pub gap : AreGaps t.gap
  pub alone : t.doubtful ≡ true → t.gap ≡ []

-- where the beginning of the first epoch is looked for, its first number comes next
abbrev pub IsOne : ℕ → Aim → Type 0
IsOne n Finds = Unit {0}
IsOne n Renews = Unit {0}
IsOne n Starts = n ≡ 1

pub after_some : (a b : ℕ) → IsNumber (number_after a b)
after_some a b = let m : ℕ = (a + b + 4294967294) % 4294967295 in (omega arith, omega arith)

pub first_some : (a b : ℕ) (rs : List Numbered) → HasFirst rs → IsNumber (number_or (number_after a b) (first_in rs))
first_some a b [] has = after_some a b
first_some a b (r ∷ rs) has = has

pub ends_some : (c : Bool) (a b : ℕ) → IsNumber b → AreGaps (if c then [] else Gap a b ∷ [])
ends_some true a b some = tt
ends_some false a b some = (some, tt)

pub gap_fine : (a b : ℕ) → IsNumber b → AreGaps (gap_up_to a b)
gap_fine a b some = ends_some (a == b) a b some
