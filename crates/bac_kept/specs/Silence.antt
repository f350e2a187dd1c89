-- Since when a device is silent. Moments are texts as `2026-11-30T07:16:23.00`, compared octet by octet.
use Rattle.std.specs.Prelude.{ℕ, ◌&&◌, not, Bool, if◌then◌else◌, List, [], ◌∷◌, ◌++◌, codes, fold, take}
use Rattle.std.specs.Prelude.{Option, None, Some, option_map}
use Rattle.std.specs.Cmp.Lexicographic.{slice_cmp}
use Rattle.std.specs.Ordering.{is_lt, nat_cmp}
use Rattle.std.specs.String.{string_bytes}
use Rattle.bac_archive.specs.declared.row.DeviceRow.{DeviceRow}
use Rattle.bac_kept.specs.Hours.{is_next_hour}

-- a text comes before another
abbrev pub is_before : List ℕ → List ℕ → Bool
is_before text other = is_lt (slice_cmp nat_cmp text other)

-- A moment lies long before another: neither in its hour nor in the one before that. A run may have had both.
abbrev pub is_long_before : List ℕ → List ℕ → Bool
is_long_before moment other = is_before (take 13 moment) (take 13 other) && not (is_next_hour moment other)

-- when a device answered last, if it did
abbrev pub answer_of : DeviceRow → Option (List ℕ)
answer_of d = option_map string_bytes d.answered

-- the later of two moments, if there are any
abbrev pub later : Option (List ℕ) → Option (List ℕ) → Option (List ℕ)
later None answer = answer
later (Some last) None = Some last
later (Some last) (Some answer) = if is_before last answer then Some answer else Some last

-- when any of these devices answered last
abbrev pub last_answer : List DeviceRow → Option (List ℕ)
last_answer = fold (λ last d. later last (answer_of d)) None

-- Since when a device is silent, where devices answered last at that moment, and it at this one: its last answer, if
-- that lies long before, or that it never answered. Nothing of one that is heard, or where no device ever answered.
abbrev pub silence : Option (List ℕ) → Option (List ℕ) → List ℕ
silence None answer = []
silence (Some last) None = codes "never answered"
silence (Some last) (Some answer) = if is_long_before answer last then answer else []

-- this, as a line ends with it
abbrev pub silence_end : Option (List ℕ) → List ℕ → List ℕ
silence_end answer [] = []
silence_end None (c ∷ text) = 32 ∷ (c ∷ text)
silence_end (Some moment) (c ∷ text) = codes " silent since " ++ (c ∷ text)
