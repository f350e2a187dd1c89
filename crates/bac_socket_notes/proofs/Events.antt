-- What notes tell of what happened.
use Rattle.std.proofs.Common.{◌≡◌, ◌∙◌, ap, sym, subst, refl, ℕ, suc, ◌+◌, ◌≤◌, true, false, List, [], ◌∷◌, length, inl, inr, Option, Some, None, Ok, Err, ltb, arith, option_map}
use Rattle.std.specs.Str.{bytes_eq}
use Rattle.std.proofs.lemmas.Bool.{le-ltb}
use Rattle.std.proofs.lemmas.Slice.Eq.{bytes_eq-Decides}
use Rattle.bac_ports.specs.Port.{Receiving, Sending}
use Rattle.bac_ports.specs.declared.port.Heard.{Heard}
use Rattle.bac_socket_notes.proofs.Counts.{counted_on}
use Rattle.bac_socket_notes.specs.Contents.{stray_of}
use Rattle.bac_socket_notes.specs.Laws.{StraysCame}
use Rattle.bac_socket_notes.specs.Notes.{after_receive, after_send, heard_too, is_again, nothing, one_more, tried, up_to}
use Rattle.bac_socket_notes.specs.Ports.{AreOf, Event, Sent, Received, Happen, Happens, IsTallyOf, after_event, after_events, came_in, last_of, tries_in}
use Rattle.bac_socket_notes.specs.declared.contents.Stray.{Stray}
use Rattle.bac_socket_notes.specs.declared.notes.Note.{Note}
use Rattle.bac_socket_notes.specs.declared.notes.Passed.{Passed}

-- ---- a note is that of what happened

module _ {T : Type 0} (note : T → Note) (sends : T → List ℕ → List ℕ → Sending → T → Type 0) (receives : T → Receiving → T → Type 0)
    (within : T → ℕ → Receiving → T → Type 0)
    (of_send : (a b : T) (octets to : List ℕ) (sent : Sending) → sends a octets to sent b → note b ≡ after_send octets to sent (note a))
    (of_receive : (a b : T) (heard : Receiving) → receives a heard b → note b ≡ after_receive heard (note a))
    (of_wait : (a b : T) (wait : ℕ) (heard : Receiving) → within a wait heard b → note b ≡ after_receive heard (note a)) where
  one : (e : Event) (old new : T) → Happens sends receives within e old new → note new ≡ after_event e (note old)
  one (Sent octets to sent) old new is = of_send old new octets to sent is
  one (Received heard) old new (inl is) = of_receive old new heard is
  one (Received heard) old new (inr (wait, is)) = of_wait old new wait heard is

  pub noted : (es : List Event) (old new : T) → Happen sends receives within es old new → note new ≡ after_events es (note old)
  noted [] old new same = ap note same
  noted (e ∷ es) old new (mid, first, rest) = noted es mid new rest ∙ ap (after_events es) (one e old mid first)

-- ---- what a note tells of one question

-- of this question, since which this passed
note_of : List ℕ → List ℕ → Passed → Note
note_of octets to passed = record { question = Some octets; to = to; passed = passed }

-- a question that is sent for the first time, and again
first_try : (note : Note) (octets to : List ℕ) (sent : Sending) → is_again note octets to ≡ false → length octets ≤ 1501 →
    after_send octets to sent note ≡ note_of octets to (tried sent nothing)
unfolding note_of
first_try note octets to sent other fits = let short : ltb 1501 (length octets) ≡ false = le-ltb 1501 (length octets) fits in rw (short, other) refl

next_try : (octets to : List ℕ) (sent : Sending) (passed : Passed) → length octets ≤ 1501 →
    after_send octets to sent (note_of octets to passed) ≡ note_of octets to (tried sent passed)
unfolding note_of
next_try octets to sent passed fits =
    let short : ltb 1501 (length octets) ≡ false = le-ltb 1501 (length octets) fits in
    let same : bytes_eq octets octets ≡ true = (bytes_eq-Decides octets octets).1 refl in
    let there : bytes_eq to to ≡ true = (bytes_eq-Decides to to).1 refl in
    rw (short, same, there) refl

-- the last that came, or this
last_after : Option Stray → List Heard → Option Stray
last_after last [] = last
last_after last (heard ∷ more) = last_after (Some (stray_of heard)) more

last_some : (heard : Heard) (more : List Heard) → last_after (Some (stray_of heard)) more ≡ option_map stray_of (last_of (heard ∷ more))
unfolding last_after
last_some heard [] = refl
last_some heard (next ∷ more) = last_some next more

last_none : (came : List Heard) → last_after None came ≡ option_map stray_of (last_of came)
unfolding last_after
last_none [] = refl
last_none (heard ∷ more) = last_some heard more

-- these many tries and datagrams more, and the last of them
IsTallyFrom : Passed → ℕ → ℕ → List Event → Passed → Type 0
IsTallyFrom passed n m es after =
    (after.tries ≡ up_to (n + length (tries_in es))) × (after.came ≡ up_to (m + length (came_in es))) × (after.last ≡ last_after passed.last (came_in es))

one_on : (n k : ℕ) → up_to (n + 1 + k) ≡ up_to (n + suc k)
one_on n k = let e : n + 1 + k ≡ n + suc k = omega arith in rw e refl

tallied : (octets to : List ℕ) (es : List Event) (passed : Passed) (n m : ℕ) → length octets ≤ 1501 → AreOf octets to es →
    passed.tries ≡ up_to n → passed.came ≡ up_to m → IsTallyFrom passed n m es (after_events es (note_of octets to passed)).passed
unfolding note_of IsTallyFrom last_after
tallied octets to [] passed n m fits are tries came =
    let p : n + 0 ≡ n = omega arith in let q : m + 0 ≡ m = omega arith in (rw p tries, rw q came, refl)
tallied octets to (Sent again other (Ok done) ∷ es) passed n m fits (same, there, are) tries came =
    let P : Note → Type 0 = λ note. IsTallyFrom passed n m (Sent again other (Ok done) ∷ es) (after_events es note).passed in
    let on = next_try octets to (Ok done) passed fits in
    let more : one_more passed.tries ≡ up_to (n + 1) = ap one_more tries ∙ counted_on n in
    let rest = tallied octets to es (tried (Ok done) passed) (n + 1) m fits are more came in
    rw (same, there) (subst P (sym on) (rest.0 ∙ one_on n (length (tries_in es)), rest.1, rest.2))
tallied octets to (Sent again other (Err fault) ∷ es) passed n m fits (same, there, are) tries came =
    let P : Note → Type 0 = λ note. IsTallyFrom passed n m (Sent again other (Err fault) ∷ es) (after_events es note).passed in
    let on = next_try octets to (Err fault) passed fits in
    rw (same, there) (subst P (sym on) (tallied octets to es (tried (Err fault) passed) n m fits are tries came))
tallied octets to (Received (Ok heard) ∷ es) passed n m fits are tries came =
    let more : one_more passed.came ≡ up_to (m + 1) = ap one_more came ∙ counted_on m in
    let rest = tallied octets to es (heard_too heard passed) n (m + 1) fits are tries more in
    (rest.0, rest.1 ∙ one_on m (length (came_in es)), rest.2)
tallied octets to (Received (Err fault) ∷ es) passed n m fits are tries came = tallied octets to es passed n m fits are tries came

pub strays : StraysCame
unfolding note_of IsTallyFrom
strays = λ note octets to sent es other fits are. elim sent as (λ (sent : Sending). IsTallyOf (Sent octets to sent ∷ es) (after_events (Sent octets to sent ∷ es) note).passed) [
  | Ok done ↦
      let P : Note → Type 0 = λ n. IsTallyOf (Sent octets to (Ok done) ∷ es) (after_events es n).passed in
      let rest = tallied octets to es (tried (Ok done) nothing) 1 0 fits are refl refl in
      let none : 0 + length (came_in es) ≡ length (came_in es) = omega arith in
      let first : 1 + length (tries_in es) ≡ suc (length (tries_in es)) = omega arith in
      subst P (sym (first_try note octets to (Ok done) other fits)) (rest.0 ∙ ap up_to first, rest.1 ∙ ap up_to none, rest.2 ∙ last_none (came_in es))
  | Err fault ↦
      let P : Note → Type 0 = λ n. IsTallyOf (Sent octets to (Err fault) ∷ es) (after_events es n).passed in
      let rest = tallied octets to es (tried (Err fault) nothing) 0 0 fits are refl refl in
      let no : 0 + length (tries_in es) ≡ length (tries_in es) = omega arith in
      let none : 0 + length (came_in es) ≡ length (came_in es) = omega arith in
      subst P (sym (first_try note octets to (Err fault) other fits)) (rest.0 ∙ ap up_to no, rest.1 ∙ ap up_to none, rest.2 ∙ last_none (came_in es))
]
