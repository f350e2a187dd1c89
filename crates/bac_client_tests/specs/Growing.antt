-- A log of REALs that goes on for ever, behind a link that may lose any ask.
use Rattle.std.specs.Prelude.{◌≡◌, ℕ, ◌+◌, ◌≤◌, ◌==◌, ◌&&◌, nat_lt, nat_le, if◌then◌else◌, Option}
use Rattle.std.specs.Prelude.{Some, None, Result, Ok, Err, List, [], ◌∷◌, get_or, replicate}
use Rattle.bac_log.specs.declared.entry.Entry.{Entry}
use Rattle.bac_link.specs.Growing.{Standing}
use Rattle.bac_link.specs.declared.link.Lost.{Lost}
use Rattle.bac_client_tests.specs.Foreign.{real_at}

-- each of its records is 25.0, logged at 08:00
abbrev pub real : Entry
real = real_at 8 (65 ∷ 200 ∷ 0 ∷ 0 ∷ []) None

-- where the log stands once so many were logged: it holds all of them
abbrev pub logged_so_far : ℕ → Standing
logged_so_far n =
    record {
      history = record { logged = 0; entries = replicate n real };
      moment = record { newest = n; oldest = 1 };
    }

-- its answer with the record of a number of one octet, to a question with this invoke ID
abbrev pub one_record : ℕ → ℕ → List ℕ
one_record invoke k =
    0x81 ∷ 0x0a ∷ 0x00 ∷ 0x2c ∷ 0x01 ∷ 0x00 ∷ 0x30 ∷ invoke ∷ 0x1a ∷ 0x0c ∷ 0x05 ∷ 0x00 ∷ 0x00 ∷ 0x01 ∷ 0x19 ∷ 0x83
    ∷ 0x3a ∷ 0x05 ∷ 0xc0 ∷ 0x49 ∷ 0x01 ∷ 0x5e ∷ 0x0e ∷ 0xa4 ∷ 0x7c ∷ 0x05 ∷ 0x06 ∷ 0x01 ∷ 0xb4 ∷ 0x08 ∷ 0x00 ∷ 0x00
    ∷ 0x00 ∷ 0x0f ∷ 0x1e ∷ 0x2c ∷ 0x41 ∷ 0xc8 ∷ 0x00 ∷ 0x00 ∷ 0x1f ∷ 0x5f ∷ 0x69 ∷ k ∷ []

-- its answer without a record
abbrev pub no_record : ℕ → List ℕ
no_record invoke =
    0x81 ∷ 0x0a ∷ 0x00 ∷ 0x18 ∷ 0x01 ∷ 0x00 ∷ 0x30 ∷ invoke ∷ 0x1a ∷ 0x0c ∷ 0x05 ∷ 0x00 ∷ 0x00 ∷ 0x01 ∷ 0x19 ∷ 0x83
    ∷ 0x3a ∷ 0x05 ∷ 0x00 ∷ 0x4a ∷ 0x00 ∷ 0x00 ∷ 0x5e ∷ 0x5f ∷ []

-- the answer of a log that has so many records about one of them
abbrev pub about : ℕ → ℕ → ℕ → List ℕ
about n invoke k = if nat_lt 0 k && nat_le k n then one_record invoke k else no_record invoke

-- What such a log answers a question of this form (0x6e by number, 0x7e by time), if it answers: by number, one that
-- has one octet (0x21); by time, with the first record.
abbrev pub answer_for : ℕ → ℕ → ℕ → ℕ → ℕ → Option (List ℕ)
answer_for n invoke form size number =
    if form == 0x7e then Some (about n invoke 1) else (if size == 0x21 then Some (about n invoke number) else None)

-- invoke ID, form, and number with its tag stand at these places of a question
abbrev pub answer_to : ℕ → List ℕ → Option (List ℕ)
answer_to n question =
    answer_for n (get_or question 8 0) (get_or question 17 0) (get_or question 18 0) (get_or question 19 0)

-- any ask may be lost; what comes is the answer of a log that has so many records
abbrev pub MayAnswer : ℕ → List ℕ → Result (List ℕ) Lost → Type 0
MayAnswer n question (Ok datagram) = answer_to n question ≡ Some datagram
MayAnswer n question (Err lost) = Unit {0}

-- one ask: before it is answered or lost, up to a hundred records more were logged, and so it goes on for ever
abbrev pub MayGrow : ℕ → List ℕ → Result (List ℕ) Lost → ℕ → Type 0
MayGrow old question answer new = (old ≤ new) × (new ≤ old + 100) × MayAnswer new question answer
