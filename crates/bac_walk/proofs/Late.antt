-- Which reply of a run answers which of its questions.
use Rattle.std.proofs.Common.{◌≡◌, ℕ, ◌+◌, ◌%◌, true, List, [], ◌∷◌, ◌++◌, length, sym, subst, arith}
use Rattle.std.proofs.lemmas.List.{length-append}
use Rattle.bac_link.specs.declared.transactions.Transactions.{Transactions}
use Rattle.bac_link.specs.Datagrams.{answers_to}
use Rattle.bac_link.specs.Links.{question}
use Rattle.bac_link.specs.Path.{towards}
use Rattle.bac_link.specs.Requests.{request_octets}
use Rattle.bac_link.proofs.Client.{answers_tell_apart}
use Rattle.bac_link.proofs.Verdicts.{question_fits}
use Rattle.bac_walk.specs.Came.{Came, restarted}
use Rattle.bac_walk.specs.Place.{WalkPlace}
use Rattle.bac_walk.specs.Transacted.{ComesBy, LateRepliesAreLeft, RepliesAnswer, asked as asked_at, asked_after, walk_by}
use Rattle.bac_walk.specs.Walks.{question_of}
use Rattle.bac_walk.proofs.Told.{Asking}

answers_there : {S : Type 0} (asks : Asking S) (c : Came) (earlier later : List Came) (t last : Transactions) (old new : S) (w after : WalkPlace) →
    ComesBy asks (walk_by old t w) (earlier ++ c ∷ later) (walk_by new last after) → answers_to (asked_after t (length earlier) c.place) c.datagram ≡ true
answers_there asks c [] later t last old new w after (mid, next, p, place, asked, taken, is, rest) =
    let P : WalkPlace → Type 0 = λ v. answers_to (request_octets (towards t.route) ((t.invoke + 1) % 256) (question v.log (question_of v))) c.datagram ≡ true in
    let Q : ℕ → Type 0 = λ i. answers_to (request_octets (towards t.route) (i % 256) (question c.place.log (question_of c.place))) c.datagram ≡ true in
    let none : t.invoke + 1 ≡ t.invoke + 1 + 0 = omega arith in
    subst Q none (subst P (sym place) asked.5.0)
answers_there asks c (e ∷ earlier) later t last old new w after (mid, next, p, place, asked, taken, is, rest) =
    let Q : ℕ → Type 0 = λ i. answers_to (request_octets (towards t.route) i (question c.place.log (question_of c.place))) c.datagram ≡ true in
    let same : ((t.invoke + 1) % 256 + 1 + length earlier) % 256 ≡ (t.invoke + 1 + length (e ∷ earlier)) % 256 = omega arith in
    subst Q same (answers_there asks c earlier later (asked_at w t) last mid new next after rest)

pub replies_answer : {S : Type 0} (asks : Asking S) → RepliesAnswer asks
replies_answer asks = λ t last old new before after steps items ended c earlier later run.
    answers_there asks c earlier later t run.half old run.mid (restarted before) run.here run.comes

pub late_left : {S : Type 0} (asks : Asking S) → LateRepliesAreLeft asks
late_left asks = λ t last old new before after steps items ended c d earlier between later way run few says.
    let first : ℕ = t.invoke + 1 + length earlier in
    let second : ℕ = t.invoke + 1 + length (earlier ++ c ∷ between) in
    let gap = length-append earlier (c ∷ between) in
    let own = answers_there asks d (earlier ++ c ∷ between) later t run.half old run.mid (restarted before) run.here run.comes in
    let same = answers_tell_apart (towards t.route) (towards t.route) (question c.place.log (question_of c.place)) (question d.place.log (question_of d.place)) first second d.datagram
    (way, tt) (way, tt) (question_fits c.place.log (question_of c.place)) (question_fits d.place.log (question_of d.place)) (omega (arith, gap)) (omega (arith, gap, few)) says own in
    omega (arith, same, gap)
