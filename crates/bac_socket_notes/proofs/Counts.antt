-- Counts that go up to a limit.
use Rattle.std.proofs.Common.{◌≡◌, ℕ, ◌+◌, ◌≤◌, arith, inl, inr, refl}
use Rattle.std.proofs.lemmas.Bool.{cases_lt, lt-ltb, le-ltb}
use Rattle.bac_socket_notes.specs.Notes.{one_more, up_to}

-- a count that is one more is that of one more
pub counted_on : (n : ℕ) → one_more (up_to n) ≡ up_to (n + 1)
counted_on n = elim (cases_lt n 4294967295) [
  | inl few ↦ rw (lt-ltb n 4294967295 few) refl
  | inr many ↦ let more : 4294967295 ≤ n + 1 = omega arith in rw (le-ltb n 4294967295 many, le-ltb (n + 1) 4294967295 more) refl
]
