-- Whether a reply is taken.
use Rattle.std.proofs.Common.{◌≡◌, ℕ, suc, ◌==◌, ◌&&◌, ◌||◌, Bool, true, false, if◌then◌else◌, Option, Some, None, List}
use Rattle.std.proofs.Common.{[], ◌∷◌, length, refl, sym, ap, ◌∙◌, nat_le, arith}
use Rattle.std.proofs.lemmas.Bool.{eqb-true}
use Rattle.std.specs.Option.{option_map}
use Rattle.std.specs.Result.{result_ok}
use Rattle.bac_wire.specs.Primitive.{Id}
use Rattle.bac_apdu.specs.Service.ReadRangeAck.{RangeAck}
use Rattle.bac_log.specs.declared.entry.Entry.{Entry}
use Rattle.bac_link.specs.Datagrams.{apdu_in}
use Rattle.bac_link.specs.Heard.{heard_at, heard_from, heard_if, heard_of, heard_with, is_of_log, parameters_in}
use Rattle.bac_link.specs.Heard.{records_in}
use Rattle.bac_walk.specs.Place.{WalkPlace, asking, walk_from_oldest}
use Rattle.bac_walk.specs.Walks.{Ask, Bring, End, NextAct, Refuse, asks_oldest_now, fits, verdict, with_numbers}
use Rattle.bac_walk.specs.declared.batch.Numbered.{Numbered}
use Rattle.bac_walk.proofs.Numbers.{length-with_numbers}
use Rattle.bac_poll_steps.specs.Asked.{ack_at, ack_in, are_asked, has_last, has_more, reply_from, reply_in, reply_of}
use Rattle.bac_poll_steps.specs.Reading.{is_taken, number_told, numbered_in}
use Rattle.bac_poll_steps.specs.State.{PollState, Reply}
use Rattle.bac_poll_steps.specs.Turns.{first_number}

-- ---- a reply

-- what is made of records, by whether they are taken
abbrev pub reply_if : (taken : Bool) → List Numbered → (last more : Bool) → Option Reply
reply_if taken records last more = if taken then Some (record { records = records; last = last; more = more }) else None

-- there is one
one_is_some : (n : ℕ) → (suc n == 0) ≡ false
one_is_some n = by_bool (suc n == 0) refl
  where
    by_bool : (b : Bool) → (suc n == 0) ≡ b → (suc n == 0) ≡ false
    by_bool false e = e
    by_bool true e = absurd (let z : suc n ≡ 0 = eqb-true _ _ e in omega (arith, z))

-- records of a reply that tells no number aren't taken
none_told : (none few rest : Bool) (records : List Numbered) (last more : Bool) → none ≡ false →
    reply_if (none || ((few && false) && rest)) records last more ≡ None
none_told none true rest records last more some = ap (λ (b : Bool). reply_if (b || false) records last more) some
none_told none false rest records last more some = ap (λ (b : Bool). reply_if (b || false) records last more) some

-- nor others, but where there are as many as it says, and they were asked for
by_act : (p : PollState) (first : ℕ) (none equal fit asked : Bool) (es : List Entry) (last more : Bool) → none ≡ false →
    are_asked p p.stage (first_number (with_numbers first es)) (length (with_numbers first es)) ≡ asked →
    reply_of p (if equal && fit then Bring first else Refuse) es last more
    ≡ reply_if (none || (fit && (equal && asked))) (with_numbers first es) last more
by_act p first none false false asked es last more some is = sym (ap (λ (b : Bool). reply_if (b || false) (with_numbers first es) last more) some)
by_act p first none false true asked es last more some is = sym (ap (λ (b : Bool). reply_if (b || false) (with_numbers first es) last more) some)
by_act p first none true false asked es last more some is = sym (ap (λ (b : Bool). reply_if (b || false) (with_numbers first es) last more) some)
by_act p first none true true asked es last more some is =
    ap (λ (b : Bool). reply_if b (with_numbers first es) last more) is
    ∙ sym (ap (λ (b : Bool). reply_if (b || asked) (with_numbers first es) last more) some)

-- what a walk that is at the oldest makes of records with a number
at_oldest : (log : Id) (most first count : ℕ) (e : Entry) (es : List Entry) →
    verdict (asking most (walk_from_oldest log)) (Some first) count (e ∷ es)
    ≡ (if (count == length (e ∷ es)) && fits (asking most (walk_from_oldest log)) first (length (e ∷ es)) then Bring first else Refuse)
at_oldest log most first count e es = refl

with_number : (p : PollState) (first count : ℕ) (e : Entry) (es : List Entry) (last more : Bool) →
    p.walk ≡ asking p.walk.count (walk_from_oldest p.walk.log) →
    reply_of p (verdict p.walk (Some first) count (e ∷ es)) (e ∷ es) last more
    ≡ reply_if (is_taken p first count (length (e ∷ es))) (with_numbers first (e ∷ es)) last more
with_number p first count e es last more fresh =
    ap (λ (w : WalkPlace). reply_of p (verdict w (Some first) count (e ∷ es)) (e ∷ es) last more) fresh
    ∙ ap (λ (act : NextAct). reply_of p act (e ∷ es) last more) (at_oldest p.walk.log p.walk.count first count e es)
    ∙ sym (ap (λ (w : WalkPlace). reply_of p (if (count == length (e ∷ es)) && fits w first (length (e ∷ es)) then Bring first else Refuse) (e ∷ es) last more) fresh)
    ∙ by_act p first (length (e ∷ es) == 0) (count == length (e ∷ es)) (fits p.walk first (length (e ∷ es))) (are_asked p p.stage first (length (e ∷ es))) (e ∷ es) last more
    (one_is_some (length es))
    (ap (λ (n : ℕ). are_asked p p.stage first n) (length-with_numbers first (e ∷ es) (with_numbers first (e ∷ es)) refl))

-- without records nothing is against a reply
empty : (p : PollState) (b last more : Bool) → reply_of p (if b then End else Ask) [] last more ≡ Some (record { records = []; last = last; more = more })
empty p true last more = refl
empty p false last more = refl

taken : (p : PollState) (first : Option ℕ) (count : ℕ) (es : List Entry) (last more : Bool) →
    p.walk ≡ asking p.walk.count (walk_from_oldest p.walk.log) →
    reply_from p (heard_with first count (Some es)) last more
    ≡ reply_if (is_taken p (number_told first) count (length es)) (with_numbers (number_told first) es) last more
taken p None count [] last more fresh = empty p (asks_oldest_now p.walk) last more
taken p (Some first) count [] last more fresh = empty p (asks_oldest_now p.walk) last more
taken p None count (e ∷ es) last more fresh =
    sym (none_told (length (e ∷ es) == 0) (nat_le (length (e ∷ es)) p.walk.count) ((count == length (e ∷ es)) && are_asked p p.stage 0 (length (e ∷ es)))
    (with_numbers 0 (e ∷ es)) last more (one_is_some (length es)))
taken p (Some first) count (e ∷ es) last more fresh = with_number p first count e es last more fresh

no_none : (first : ℕ) (o : Option (List Entry)) (records : List Numbered) → option_map (with_numbers first) o ≡ Some records → o ≡ None → ⊥
no_none first None records is none = absurd (cc)
no_none first (Some es) records is none = absurd (cc)

same_records : (first : ℕ) (o : Option (List Entry)) (es : List Entry) (records : List Numbered) → option_map (with_numbers first) o ≡ Some records → o ≡ Some es →
    with_numbers first es ≡ records
same_records first None es records is e = absurd (cc)
same_records first (Some ys) es records is e =
    let these : ys ≡ es = cc in
    let all : with_numbers first ys ≡ records = cc in
    sym (ap (with_numbers first) these) ∙ all

-- an ACK of the log whose items are these records
pub heard_one : (p : PollState) (a : RangeAck) (records : List Numbered) (last more : Bool) →
    p.walk ≡ asking p.walk.count (walk_from_oldest p.walk.log) → is_of_log p.walk.log a ≡ true →
    numbered_in (number_told a.first_number) a.items ≡ Some records →
    reply_from p (heard_of p.walk.log a) last more
    ≡ reply_if (is_taken p (number_told a.first_number) a.count (length records)) records last more
heard_one p a records last more fresh its is = by_read (result_ok (records_in a.items)) refl
  where
    first : ℕ
    first = number_told a.first_number

    by_read : (o : Option (List Entry)) → result_ok (records_in a.items) ≡ o →
        reply_from p (heard_of p.walk.log a) last more ≡ reply_if (is_taken p first a.count (length records)) records last more
    by_read None e = absurd (no_none first (result_ok (records_in a.items)) records is e)
    by_read (Some es) e =
        let same : with_numbers first es ≡ records = same_records first (result_ok (records_in a.items)) es records is e in
        ap (λ (b : Bool). reply_from p (if b then heard_with a.first_number a.count (result_ok (records_in a.items)) else None) last more) its
        ∙ ap (λ (o : Option (List Entry)). reply_from p (heard_with a.first_number a.count o) last more) e
        ∙ taken p a.first_number a.count es last more fresh
        ∙ ap (λ (n : ℕ). reply_if (is_taken p first a.count n) (with_numbers first es) last more) (sym (length-with_numbers first es records (sym same)))
        ∙ ap (λ (l : List Numbered). reply_if (is_taken p first a.count (length records)) l last more) same

pub heard_is : (p : PollState) (datagram : List ℕ) →
    reply_in p datagram ≡ reply_from p (heard_if p.walk.log (ack_in datagram)) (has_last (ack_in datagram)) (has_more (ack_in datagram))
unfolding heard_at
heard_is p datagram = by_parameters (parameters_in (apdu_in datagram))
  where
    by_parameters : (o : Option (List ℕ)) →
        reply_from p (heard_from p.walk.log o) (has_last (ack_at o)) (has_more (ack_at o))
        ≡ reply_from p (heard_if p.walk.log (ack_at o)) (has_last (ack_at o)) (has_more (ack_at o))
    by_parameters None = refl
    by_parameters (Some parameters) = refl
