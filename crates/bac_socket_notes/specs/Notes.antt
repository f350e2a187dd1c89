-- What a port notes of its last question. A question is octets and whom they are sent to: the same octets that are sent
-- again to the same receiver are another try of it.
use Rattle.std.specs.Prelude.{ℕ, ◌+◌, ◌==◌, ◌&&◌, nat_lt, Bool, false, if◌then◌else◌, List, [], ◌∷◌, length}
use Rattle.std.specs.Prelude.{Option, Some, None, Ok, Err}
use Rattle.std.specs.Str.{bytes_eq}
use Rattle.bac_ports.specs.Port.{Receiving, Sending}
use Rattle.bac_ports.specs.declared.port.Heard.{Heard}
use Rattle.bac_socket_notes.specs.Contents.{stray_of}
use Rattle.bac_socket_notes.specs.declared.notes.Note.{Note}
use Rattle.bac_socket_notes.specs.declared.notes.Passed.{Passed}

-- a count goes up to 4294967295
abbrev pub up_to : ℕ → ℕ
up_to n = if nat_lt n 4294967295 then n else 4294967295

-- one more
abbrev pub one_more : ℕ → ℕ
one_more n = up_to (n + 1)

-- nothing was sent, and nothing came
abbrev pub nothing : Passed
nothing = record { tries = 0; unsent = 0; came = 0; in_try = 0; full = 0; last = None }

-- one try more of a question; or it couldn't be sent
abbrev pub tried : Sending → Passed → Passed
tried (Ok done) passed = record passed { tries = one_more passed.tries; in_try = 0 }
tried (Err fault) passed = record passed { unsent = one_more passed.unsent; in_try = 0 }

-- the last datagram that a try may take is the 16th
abbrev pub full_by : ℕ → ℕ → ℕ
full_by in_try full = if in_try == 15 then one_more full else full

-- a datagram came
abbrev pub heard_too : Heard → Passed → Passed
heard_too heard passed =
    record passed {
      came = one_more passed.came;
      in_try = one_more passed.in_try;
      full = full_by passed.in_try passed.full;
      last = Some (stray_of heard);
    }

-- ---- notes

-- of a port that nothing was sent over yet
abbrev pub no_note : Note
no_note = record { question = None; to = 0 ∷ 0 ∷ 0 ∷ 0 ∷ 0 ∷ 0 ∷ []; passed = nothing }

-- octets that can be known again: those that a datagram has room for
abbrev pub known : List ℕ → Option (List ℕ)
known octets = if nat_lt 1501 (length octets) then None else Some octets

-- whether these octets are the question
abbrev pub is_question : Option (List ℕ) → List ℕ → Bool
is_question None octets = false
is_question (Some question) octets = bytes_eq question octets

-- whether octets are the last question again, and go to the same receiver
abbrev pub is_again : Note → List ℕ → List ℕ → Bool
is_again note octets to = is_question note.question octets && bytes_eq note.to to

-- what passed since a question that is sent was first sent: nothing, unless it is the last one again
abbrev pub passed_of : Note → List ℕ → List ℕ → Passed
passed_of note octets to = if is_again note octets to then note.passed else nothing

-- octets were sent, or refused
abbrev pub after_send : List ℕ → List ℕ → Sending → Note → Note
after_send octets to sent note =
    record { question = known octets; to = to; passed = tried sent (passed_of note octets to) }

-- a datagram came, or none did
abbrev pub after_receive : Receiving → Note → Note
after_receive (Ok heard) note = record note { passed = heard_too heard note.passed }
after_receive (Err fault) note = note
