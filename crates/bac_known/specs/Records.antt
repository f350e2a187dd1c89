-- How the records of a reply are read.
use Rattle.std.specs.Prelude.{ℕ, List, Option, None, Some}
use Rattle.std.specs.Option.{option_map}
use Rattle.std.specs.Result.{result_ok}
use Rattle.bac_link.specs.Heard.{records_in}
use Rattle.bac_walk.specs.Walks.{with_numbers}
use Rattle.bac_walk.specs.declared.batch.Numbered.{Numbered}

-- the number of the first record that a reply tells; 0, which is none, if it tells none
abbrev pub number_told : Option ℕ → ℕ
number_told None = 0
number_told (Some first) = first

-- octets as records, the first of which has this number; none, if they aren't records all through
abbrev pub numbered_in : ℕ → List ℕ → Option (List Numbered)
numbered_in first octets = option_map (with_numbers first) (result_ok (records_in octets))
