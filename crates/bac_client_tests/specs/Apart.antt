-- Questions over one port after another.
use Rattle.std.specs.Prelude.{◌≡◌, ◌<◌, ◌≤◌, ◌+◌, ◌%◌, ℕ, Bool, true, false, List, slice_index_or}
use Rattle.bac_link.specs.Datagrams.{answers_to}
use Rattle.bac_link.specs.Path.{AreWays, Path}
use Rattle.bac_link.specs.Requests.{IsTooLong, request_octets}
use Rattle.bac_link.specs.declared.request.Request.{Request}
use Rattle.bac_invoke_ids.specs.Ids.{taken_by}
use Rattle.bac_invoke_ids.specs.Onward.{behind, shift_of}

-- What came over a port, which was opened behind so many questions and whose own questions begin with invoke ID 1,
-- isn't taken if it answers one of the last 255 of them, as it came.
abbrev pub IsNoneOfBefore : List ℕ → Bool → Type 0
IsNoneOfBefore came is_taken = (path : Path) (r : Request) (number asked : ℕ) (datagram : List ℕ) →
    AreWays path → (IsTooLong r → ⊥) → number ≤ asked → asked + 1 < number + 256 →
    ((i : ℕ) → slice_index_or datagram i 0 < 256) → came ≡ taken_by (shift_of (behind (asked % 256)) 1) datagram →
    answers_to (request_octets path (number % 256) r) datagram ≡ true → is_taken ≡ false
