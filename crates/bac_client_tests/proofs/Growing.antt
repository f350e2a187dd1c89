-- A log that grows, behind a link that may lose any ask.
use Rattle.std.proofs.Common.{◌≡◌, ℕ, zero, suc, ◌+◌, ◌-◌, ◌*◌, ◌^◌, ◌⊎◌, ◌<◌, ◌≤◌, ◌==◌, ◌&&◌, Bool, true, false, nat_lt, nat_le, get_or, if◌then◌else◌, Some, None, Result, Ok, Err, List, [], ◌∷◌, ◌++◌, length, slice_get, replicate, refl, sym, subst, ap, ◌∙◌, inl, inr, arith}
use Rattle.std.proofs.lemmas.Bool.{cases_Bool, cases_lt, eqb-true, le-leb, leb-true, lt-ltb, ltb-true}
use Rattle.std.proofs.lemmas.List.{length-replicate, replicate-append-replicate}
use Rattle.std.proofs.lemmas.Option.{same_Some}
use Rattle.bac_wire.specs.Canon.{unsigned_octets}
use Rattle.bac_wire.specs.Number.{number}
use Rattle.bac_wire.proofs.Canonical.{unsigned_stands}
use Rattle.bac_wire.specs.Level.{token_at, close_at}
use Rattle.bac_wire.specs.Reading.{number_at as wire_number_at, length_at, value_in, tagged_at, value_at, context_at, mark_at, contents_as}
use Rattle.bac_wire.specs.Encoding.{context_octets, value_octets, open_octets, close_octets}
use Rattle.bac_apdu.specs.Apdu.{segment_at, confirmed_at, complex_at, number_at, error_at, pair_at, unconfirmed_at, segment_ack_at, apdu_behind, apdu_at}
use Rattle.bac_apdu.specs.FormReading.{row_at, optional_at, form_at}
use Rattle.bac_apdu.specs.Frame.{body_at, frame_at, frame_octets}
use Rattle.bac_apdu.specs.Npdu.{place_at, maybe_place_at, hops_at, header_at, place_octets}
use Rattle.bac_apdu.specs.Octets.{word_at, octets_at}
use Rattle.bac_apdu.specs.Service.ReadRangeAck.{read_range_ack_at}
use Rattle.bac_log.specs.RecordReading.{date_at, time_at, behind_at, simple_at, choice_at, chosen_at, datum_at, flags_at, entry_at, entries_at}
use Rattle.bac_link.specs.Datagrams.{carried_in, message_in}
use Rattle.bac_link.specs.Delivery.{IsEntry}
use Rattle.bac_link.specs.Growing.{IsGiven, IsOnward, IsStanding, StaysHonest}
use Rattle.bac_link.specs.Heard.{heard_at, heard_in}
use Rattle.bac_link.specs.Honest.{IsAskedIn, asked_octets, asked_log}
use Rattle.bac_link.specs.Path.{towards}
use Rattle.bac_link.specs.Requests.{parameters_of, request_apdu, request_octets}
use Rattle.bac_link.specs.declared.link.Lost.{Lost}
use Rattle.bac_link.specs.Standard.{Asked, FromNumber, FromOldest, IsCount, IsSaidAt, SaysAt, count_asked}
use Rattle.bac_log.specs.TrendLog.{sequence_number}
use Rattle.bac_client_tests.proofs.Foreign.{with_number, asks_with, low_of}
use Rattle.bac_client_tests.specs.Foreign.{log}
use Rattle.bac_client_tests.specs.Growing.{about, answer_for, answer_to, logged_so_far, no_record, one_record, real, MayAnswer, MayGrow}

-- ---- what is read

in_range : (k : ℕ) → 0 < k → k < 4294967296 → (nat_lt 0 (number (k ∷ [])) && nat_lt (number (k ∷ [])) (2 ^ 32)) ≡ true
in_range k some few =
    let a : nat_lt 0 (number (k ∷ [])) ≡ true = lt-ltb _ _ (omega (arith, some)) in
    let b : nat_lt (number (k ∷ [])) (2 ^ 32) ≡ true = lt-ltb _ _ (omega (arith, few)) in
    rw (a, b) refl

reads_one : (invoke k : ℕ) → (nat_lt 0 (number (k ∷ [])) && nat_lt (number (k ∷ [])) (2 ^ 32)) ≡ true →
    heard_in log (one_record invoke k) ≡ Some (record { first = Some (number (k ∷ [])); count = 1; entries = real ∷ [] })
unfolding token_at close_at wire_number_at length_at value_in tagged_at value_at context_at mark_at contents_as segment_at confirmed_at complex_at number_at error_at pair_at unconfirmed_at segment_ack_at apdu_behind apdu_at row_at optional_at form_at body_at frame_at place_at maybe_place_at hops_at header_at word_at octets_at read_range_ack_at carried_in message_in date_at time_at behind_at simple_at choice_at chosen_at datum_at flags_at entry_at entries_at heard_at
reads_one invoke k ranged = rw ranged refl

reads_none : (invoke : ℕ) → heard_in log (no_record invoke) ≡ Some (record { first = None; count = 0; entries = [] })
unfolding token_at close_at wire_number_at length_at value_in tagged_at value_at context_at mark_at contents_as segment_at confirmed_at complex_at number_at error_at pair_at unconfirmed_at segment_ack_at apdu_behind apdu_at row_at optional_at form_at body_at frame_at place_at maybe_place_at hops_at header_at word_at octets_at read_range_ack_at carried_in message_in date_at time_at behind_at simple_at choice_at chosen_at datum_at flags_at entry_at entries_at heard_at
reads_none invoke = refl

-- ---- what is said

get_same : (n i : ℕ) → i < n → slice_get (replicate n real) i ≡ Some real
get_same zero i lt = absurd (omega (arith, lt))
get_same (suc n) zero lt = refl
get_same (suc n) (suc i) lt = get_same n i (omega (arith, lt))

is_entry : (n k : ℕ) → 0 < k → k ≤ n → IsEntry (logged_so_far n).history k real
is_entry n k some few = (omega (arith, some), get_same n (k - (0 + 1)) (omega (arith, some, few)))

-- the record of a number that is there
said_one : (n invoke k count : ℕ) (asked : Asked) → IsCount count → 0 < k → k ≤ n → k < 4294967296 → (asked ≡ FromNumber k count) ⊎ ((asked ≡ FromOldest count) × (k ≡ 1)) →
    IsSaidAt (logged_so_far n).moment (logged_so_far n).history log asked (one_record invoke k)
said_one n invoke k count asked asks some few octet which = record {
  asks = elim which [
    | inl is ↦ subst (λ a. IsCount (count_asked a)) (sym is) asks
    | inr is ↦ subst (λ a. IsCount (count_asked a)) (sym is.0) asks
  ];
  heard = record { first = Some (number (k ∷ [])); count = 1; entries = real ∷ [] };
  reads = reads_one invoke k (in_range k some octet);
  counts = refl;
  says = elim which [
    | inl is ↦ let P : Asked → Type 0 = λ a. SaysAt (logged_so_far n).moment (logged_so_far n).history a (Some (number (k ∷ []))) (real ∷ []) in
        subst P (sym is) (k, (shown, asks.some, ((omega (arith, some), few), is_entry n k some few, tt)), inl (omega (arith, some, octet)))
    | inr is ↦ let P : Asked → Type 0 = λ a. SaysAt (logged_so_far n).moment (logged_so_far n).history a (Some (number (k ∷ []))) (real ∷ []) in
        subst P (sym is.0) (first is.1, asks.some, ((omega arith, omega (arith, some, few)), is_entry n 1 (omega arith) (omega (arith, some, few)), tt))
  ];
}
  where
    shown : Some (number (k ∷ [])) ≡ Some (sequence_number k)
    shown = ap Some (let e : number (k ∷ []) ≡ sequence_number k = omega (arith, some, octet) in e)

    first : k ≡ 1 → Some (number (k ∷ [])) ≡ Some (sequence_number 1)
    first is = ap Some (let e : number (k ∷ []) ≡ sequence_number 1 = omega (arith, is) in e)

-- no record of a number that isn't there
said_none : (n invoke k count : ℕ) → IsCount count → k < 4294967296 → ((0 < k) × (k ≤ n) → ⊥) → n < 2147483648 → IsSaidAt (logged_so_far n).moment (logged_so_far n).history log (FromNumber k count) (no_record invoke)
said_none n invoke k count asks octet gone few = record {
  asks = asks;
  heard = record { first = None; count = 0; entries = [] };
  reads = reads_none invoke;
  counts = refl;
  says = λ holds. gone (omega (arith, holds.2), omega (arith, holds.1.1, holds.1.0, holds.2, few));
}

-- no record of a log that has none
said_empty : (n invoke count : ℕ) → IsCount count → n ≡ 0 → IsSaidAt (logged_so_far n).moment (logged_so_far n).history log (FromOldest count) (no_record invoke)
said_empty n invoke count asks none = record {
  asks = asks;
  heard = record { first = None; count = 0; entries = [] };
  reads = reads_none invoke;
  counts = refl;
  says = omega (arith, none);
}

-- ---- any question for its records

about_said : (n invoke k count : ℕ) (datagram : List ℕ) → IsCount count → k < 4294967296 → n < 2147483648 → Some (about n invoke k) ≡ Some datagram →
    IsSaidAt (logged_so_far n).moment (logged_so_far n).history log (FromNumber k count) datagram
about_said n invoke k count datagram asks octet few is = by (nat_lt 0 k) (nat_le k n) refl refl is
  where
    by : (some there : Bool) → nat_lt 0 k ≡ some → nat_le k n ≡ there → Some (if some && there then one_record invoke k else no_record invoke) ≡ Some datagram →
        IsSaidAt (logged_so_far n).moment (logged_so_far n).history log (FromNumber k count) datagram
    by true true a b is = subst (λ d. IsSaidAt (logged_so_far n).moment (logged_so_far n).history log (FromNumber k count) d) (same_Some (one_record invoke k) datagram is)
        (said_one n invoke k count (FromNumber k count) asks (ltb-true 0 k a) (leb-true k n b) octet (inl refl))
    by true false a b is = subst (λ d. IsSaidAt (logged_so_far n).moment (logged_so_far n).history log (FromNumber k count) d) (same_Some (no_record invoke) datagram is)
        (said_none n invoke k count asks octet (λ h. absurd (let e = sym b ∙ le-leb k n h.1 in cc)) few)
    by false there a b is = subst (λ d. IsSaidAt (logged_so_far n).moment (logged_so_far n).history log (FromNumber k count) d) (same_Some (no_record invoke) datagram is)
        (said_none n invoke k count asks octet (λ h. absurd (let e = sym a ∙ lt-ltb 0 k h.0 in cc)) few)

first_said : (n invoke count : ℕ) (datagram : List ℕ) → IsCount count → Some (about n invoke 1) ≡ Some datagram →
    IsSaidAt (logged_so_far n).moment (logged_so_far n).history log (FromOldest count) datagram
first_said n invoke count datagram asks is = by (nat_le 1 n) refl is
  where
    by : (there : Bool) → nat_le 1 n ≡ there → Some (if there then one_record invoke 1 else no_record invoke) ≡ Some datagram →
        IsSaidAt (logged_so_far n).moment (logged_so_far n).history log (FromOldest count) datagram
    by true b is = subst (λ d. IsSaidAt (logged_so_far n).moment (logged_so_far n).history log (FromOldest count) d) (same_Some (one_record invoke 1) datagram is)
        (said_one n invoke 1 count (FromOldest count) asks (omega arith) (leb-true 1 n b) (omega arith) (inr (refl, refl)))
    by false b is = subst (λ d. IsSaidAt (logged_so_far n).moment (logged_so_far n).history log (FromOldest count) d) (same_Some (no_record invoke) datagram is)
        (said_empty n invoke count asks (let out : 1 ≤ n → ⊥ = λ le. absurd (let e = sym b ∙ le-leb 1 n le in cc) in elim (cases_lt 0 n) [ inl lt ↦ absurd (out (omega (arith, lt))) | inr ge ↦ omega (arith, ge) ]))

asks_time : (n invoke count : ℕ) → answer_to n (asked_octets (towards None) invoke log (FromOldest count)) ≡ Some (about n invoke 1)
unfolding context_octets value_octets open_octets close_octets frame_octets place_octets parameters_of request_apdu request_octets
asks_time n invoke count = refl

unknown_size : (n invoke size number : ℕ) → (size ≡ 33 → ⊥) → answer_for n invoke 0x6e size number ≡ None
unknown_size n invoke size number other = elim (cases_Bool (size == 33)) [
  | inl e ↦ absurd (other (eqb-true size 33 e))
  | inr e ↦ rw e refl
]

none_said : (n invoke count : ℕ) → answer_to n (with_number invoke count []) ≡ None
unfolding with_number context_octets value_octets open_octets close_octets frame_octets place_octets parameters_of request_apdu request_octets
none_said n invoke count = refl

one_said : (n invoke count a : ℕ) → answer_to n (with_number invoke count (a ∷ [])) ≡ Some (about n invoke a)
unfolding with_number context_octets value_octets open_octets close_octets frame_octets place_octets parameters_of request_apdu request_octets
one_said n invoke count a = refl

more_said : (n invoke count a b : ℕ) (rest : List ℕ) → answer_to n (with_number invoke count (a ∷ b ∷ rest)) ≡ None
unfolding with_number context_octets value_octets open_octets close_octets frame_octets place_octets parameters_of request_apdu request_octets
more_said n invoke count a b rest = unknown_size n invoke _ (get_or (with_number invoke count (a ∷ b ∷ rest)) 19 0) (low_of (length (a ∷ b ∷ rest)) (omega arith))

by_contents : (contents : List ℕ) (n k count invoke : ℕ) (datagram : List ℕ) → IsCount count → k < 4294967296 → n < 2147483648 → number contents ≡ k → answer_to n (with_number invoke count contents) ≡ Some datagram →
    IsSaidAt (logged_so_far n).moment (logged_so_far n).history log (FromNumber k count) datagram
by_contents [] n k count invoke datagram asks least few is said = absurd (let e = sym (none_said n invoke count) ∙ said in cc)
by_contents (a ∷ b ∷ rest) n k count invoke datagram asks least few is said = absurd (let e = sym (more_said n invoke count a b rest) ∙ said in cc)
by_contents (a ∷ []) n k count invoke datagram asks least few is said =
    let N : ℕ → Type 0 = λ x. IsSaidAt (logged_so_far n).moment (logged_so_far n).history log (FromNumber x count) datagram in
    let e : a ≡ k = omega (arith, is) in
    subst N e (about_said n invoke a count datagram asks (omega (arith, e, least)) few (sym (one_said n invoke count a) ∙ said))

answer_said : (n low count invoke : ℕ) (asked : Asked) (datagram : List ℕ) → IsCount count → n < 2147483648 → IsAskedIn low count asked → answer_to n (asked_octets (towards None) invoke log asked) ≡ Some datagram →
    IsSaidAt (logged_so_far n).moment (logged_so_far n).history log asked datagram
answer_said n low count invoke (FromOldest asked) datagram asks few is said = first_said n invoke asked datagram (subst IsCount (sym is) asks) (sym (asks_time n invoke asked) ∙ said)
answer_said n low count invoke (FromNumber k asked) datagram asks few (is, (s, shown, above, below)) said =
    by_contents (unsigned_octets k) n k asked invoke datagram (subst IsCount (sym is) asks) (omega (arith, shown)) few (unsigned_stands k (omega (arith, shown))).1 (ap (answer_to n) (sym (asks_with k invoke asked)) ∙ said)

-- ---- the log goes on

grown : (old new : ℕ) → old ≤ new → new < 2147483648 → IsOnward 1 (logged_so_far old) (logged_so_far new)
grown old new le few =
    let more : ℕ = new - old in
    let all : old + more ≡ new = omega (arith, le) in
    let P : ℕ → Type 0 = λ n. replicate n real ≡ replicate old real ++ replicate more real in record {
      goes_on = (replicate more real, refl, subst P all (sym (replicate-append-replicate old more real)));
      oldest = omega arith;
      newest = le;
      stands = record { within = omega (arith, length-replicate new real); window = record { oldest = omega arith; newest = omega (arith, few) } };
    }

given : (n count invoke : ℕ) (asked : Asked) (answer : Result (List ℕ) Lost) → IsCount count → n < 2147483648 → IsAskedIn 1 count asked → MayAnswer n (asked_octets (towards None) invoke log asked) answer →
    IsGiven (logged_so_far n) log asked (asked_octets (towards None) invoke log asked) answer
given n count invoke asked (Err lost) asks few is may = tt
given n count invoke asked (Ok datagram) asks few is may = λ yes. answer_said n 1 count invoke asked datagram asks few is may

pub stays : {S : Type 0} (logged : S → ℕ) (count more : ℕ) (link : S) → IsCount count → logged link + 100 * more < 2147483648 →
    StaysHonest {S = S} (λ old octets answer new. MayGrow (logged old) octets answer (logged new)) (asked_log (towards None) log count) 1 more link (logged_so_far (logged link))
stays logged count zero link asks room = tt
stays logged count (suc more) link asks room = λ new asked invoke answer is ask.
    let few : logged new + 100 * more < 2147483648 = omega (arith, room, ask.1) in (
      logged_so_far (logged new),
      grown (logged link) (logged new) ask.0 (omega (arith, few)),
      given (logged new) count invoke asked answer asks (omega (arith, few)) is ask.2,
      stays logged count more new asks few,
    )

pub begins : (n : ℕ) → n < 2147483648 → IsStanding 1 (logged_so_far n)
begins n few = record { within = omega (arith, length-replicate n real); window = record { oldest = omega arith; newest = omega (arith, few) } }
