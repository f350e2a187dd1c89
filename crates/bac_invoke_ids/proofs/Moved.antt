-- Datagrams with another invoke ID: what is read of them.
use Rattle.std.proofs.Common.{◌≡◌, ℕ, ◌+◌, ◌-◌, ◌%◌, ◌<◌, ◌≤◌, eqb, Bool, true, false, ◌&&◌, List, ◌∷◌, ◌++◌, length, get_or, set, Option, Some, None, refl, sym, ap, subst, ◌∙◌, arith, inl, inr}
use Rattle.std.proofs.lemmas.Bool.{eqb-true, eqb-false, le-ltb}
use Rattle.std.proofs.lemmas.List.{length-append, set-append_right}
use Rattle.std.proofs.lemmas.Option.{none-some, same_Some}
use Rattle.std.specs.Option.{option_map}
use Rattle.bac_wire.specs.OptionChain.{◌>>=◌}
use Rattle.bac_wire.proofs.Numbers.{IsBytes}
use Rattle.bac_wire.proofs.Values.{IsBytes-after}
use Rattle.bac_apdu.specs.Apdu.{Apdu, Confirmed, Unconfirmed, Simple, Complex, SegmentAck, Error, Reject, Abort, IsEncoding, apdu_at}
use Rattle.bac_apdu.specs.Frame.{Frame, Unicast, Broadcast, Forwarded, Function, frame_at, frame_octets, unicast_head}
use Rattle.bac_apdu.specs.Npdu.{Header, IsHeader, IsControl, header_at, header_encoding, header_octets}
use Rattle.bac_apdu.proofs.Heads.{message_again}
use Rattle.bac_apdu.proofs.Shorts.{length-frame}
use Rattle.bac_apdu.proofs.Grammar.{bind_some, chosen_some, frame_takes, frame_again, header_takes, header_again}
use Rattle.bac_apdu.proofs.ApduGrammar.{apdu_takes, apdu_again}
use Rattle.bac_link.specs.Datagrams.{unicast_in, carried_in, message_in, apdu_in, path_in, answer_in, same_id, same_path, answers_to}
use Rattle.bac_link.specs.Path.{Path, AreWays, path_of}
use Rattle.bac_link.specs.Requests.{IsTooLong, asking, hops_to, parameters_of, request_apdu, request_octets, service_of}
use Rattle.bac_link.specs.declared.request.Request.{Request}
use Rattle.bac_link.proofs.Datagrams.{asking_valid, carried_again, heads_fit, request_again, same_size}
use Rattle.bac_invoke_ids.specs.Ids.{told, id_in, placed_in, question_in, sent_by, taken_by}
use Rattle.bac_invoke_ids.specs.Laws.{told_less}
use Rattle.bac_invoke_ids.specs.declared.ids.InvokeId.{InvokeId}

-- ---- what carries an APDU

unicast_is : (o : Option Frame) (npdu : List ℕ) → unicast_in o ≡ Some npdu → o ≡ Some (Unicast npdu)
unicast_is None npdu e = absurd (none-some npdu e)
unicast_is (Some (Unicast rest)) npdu e = ap (λ (l : List ℕ). (let f : Frame = Unicast l in Some f)) (same_Some rest npdu e)
unicast_is (Some (Broadcast rest)) npdu e = absurd (none-some npdu e)
unicast_is (Some (Forwarded address rest)) npdu e = absurd (none-some npdu e)
unicast_is (Some (Function function rest)) npdu e = absurd (none-some npdu e)

-- the heads of a frame and of its NPDU, before any APDU of the length that they tell
framed_again : (h : Header) (control size : ℕ) (text : List ℕ) → IsHeader h → IsControl h control → h.network ≡ false → size ≡ length (header_encoding control h ++ text) + 4 → size < 65536
    → carried_in ((unicast_head size ++ header_encoding control h) ++ text) ≡ Some (path_of h, text)
unfolding carried_in
framed_again h control size text valid said here is small =
    let npdu : List ℕ = header_encoding control h ++ text in
    let frame : frame_at (unicast_head size ++ npdu) ≡ Some (Unicast npdu) = rw is (frame_again (Unicast npdu) (tt, omega (arith, is, small))) in
    rw (frame, header_again h control text valid said, here) refl

-- A datagram that carries an APDU is a head and that APDU; with another one of this length it carries that.
record Carries (bytes : List ℕ) (path : Path) (text : List ℕ) : Type 0 where
  head : List ℕ
  parts : bytes ≡ head ++ text
  octets : IsBytes text
  again : (other : List ℕ) → length other ≡ length text → carried_in (head ++ other) ≡ Some (path, other)

carries : (bytes : List ℕ) (x : Path × List ℕ) → IsBytes bytes → carried_in bytes ≡ Some x → Carries bytes x.0 x.1
unfolding carried_in
carries bytes x octets e =
    let n = bind_some (unicast_in (frame_at bytes)) _ x e in
    let h = bind_some (header_at n.0) _ x n.2 in
    elim (chosen_some h.0.0.network None (Some (path_of h.0.0, h.0.1)) x h.2) [
      | inl a ↦ absurd (none-some x a.1)
      | inr a ↦
          let size : ℕ = length n.0 + 4 in
          let f = frame_takes bytes (Unicast n.0) octets (unicast_is (frame_at bytes) n.0 n.1) in
          let tail : IsBytes n.0 = λ i. IsBytes-after (unicast_head size) bytes n.0 f.1 octets i in
          let t = header_takes n.0 h.0 tail h.1 in
          let front : List ℕ = header_encoding t.control h.0.0 in
          let long : length n.0 ≡ length front + length h.0.1 = ap (λ (l : List ℕ). length l) t.parts ∙ length-append front h.0.1 in
          let P : Path × List ℕ → Type 0 = λ y. Carries bytes y.0 y.1 in
          subst P (same_Some (path_of h.0.0, h.0.1) x a.1) (record {
            head = unicast_head size ++ front;
            parts = f.1 ∙ ap (λ (l : List ℕ). unicast_head size ++ l) t.parts;
            octets = IsBytes-after front n.0 h.0.1 t.parts tail;
            again = λ other same. framed_again h.0.0 t.control size other t.valid t.said a.0 (omega (arith, long, same, length-append front other)) f.0.1;
          })
    ]

message_of : (bytes : List ℕ) (x : Path × List ℕ) (m : Apdu) → carried_in bytes ≡ Some x → apdu_at x.1 ≡ Some m → message_in bytes ≡ Some (x.0, m)
unfolding message_in
message_of bytes x m is read = rw (is, read) refl

-- an octet of that APDU
set_in : (head text bytes : List ℕ) (k octet : ℕ) → bytes ≡ head ++ text → set bytes (length bytes - length text + k) octet ≡ head ++ set text k octet
set_in head text bytes k octet e =
    let at : length bytes - length text + k ≡ length head + k = omega (arith, ap (λ (l : List ℕ). length l) e, length-append head text) in
    let same : length head + k - length head ≡ k = omega arith in
    rw (at, e) (set-append_right head text (length head) (length head + k) octet refl (omega arith) ∙ ap (λ (i : ℕ). head ++ set text i octet) same)

-- ---- the invoke ID of an answer

-- the same answer with another one
abbrev named : ℕ → Apdu → Apdu
named id (Confirmed segmented size invoke service parameters) = Confirmed segmented size id service parameters
named id (Unconfirmed service parameters) = Unconfirmed service parameters
named id (Simple invoke service) = Simple id service
named id (Complex segmented invoke service parameters) = Complex segmented id service parameters
named id (SegmentAck invoke) = SegmentAck id
named id (Error invoke service class code) = Error id service class code
named id (Reject invoke reason) = Reject id reason
named id (Abort by_server invoke reason) = Abort by_server id reason

-- it is the second octet, and with another one the octets are those of the same answer with that
record Tells (m : Apdu) (text : List ℕ) (x : InvokeId) : Type 0 where
  first : ℕ
  rest : List ℕ
  at : x.at ≡ 1
  parts : text ≡ first ∷ x.id ∷ rest
  again : (id : ℕ) → IsEncoding (named id m) (first ∷ id ∷ rest)

tells_second : (m : Apdu) (text : List ℕ) (x : InvokeId) (first invoke : ℕ) (rest : List ℕ) → text ≡ first ∷ invoke ∷ rest → ((id : ℕ) → IsEncoding (named id m) (first ∷ id ∷ rest))
    → Some (record { at = 1; id = invoke }) ≡ Some x → Tells m text x
tells_second m text x first invoke rest parts again e =
    let is = same_Some (record { at = 1; id = invoke }) x e in
    record { first = first; rest = rest; at = sym (ap (λ (y : InvokeId). y.at) is); parts = parts ∙ ap (λ (y : InvokeId). first ∷ y.id ∷ rest) is; again = again }

tells : (m : Apdu) (text : List ℕ) (x : InvokeId) → IsEncoding m text → told m ≡ Some x → Tells m text x
tells (Confirmed segmented size invoke service parameters) text x is e = absurd (none-some x e)
tells (Unconfirmed service parameters) text x is e = absurd (none-some x e)
tells (Simple invoke service) text x is e = tells_second _ text x is.0 invoke (service ∷ is.1) is.3 (λ id. (is.0, is.1, is.2, refl)) e
tells (Complex segmented invoke service parameters) text x is e = tells_second _ text x is.0 invoke (is.1 ++ service ∷ parameters) is.5 (λ id. (is.0, is.1, is.2, is.3, is.4, refl)) e
tells (SegmentAck invoke) text x is e = tells_second _ text x is.0 invoke (is.1 ∷ is.2 ∷ is.3) is.5 (λ id. (is.0, is.1, is.2, is.3, is.4, refl)) e
tells (Error invoke service class code) text x is e = tells_second _ text x is.0 invoke (service ∷ (is.1 ++ (is.2 ++ is.3))) is.7 (λ id. (is.0, is.1, is.2, is.3, is.4, is.5, is.6, refl)) e
tells (Reject invoke reason) text x is e = tells_second _ text x is.0 invoke (reason ∷ is.1) is.3 (λ id. (is.0, is.1, is.2, refl)) e
tells (Abort by_server invoke reason) text x is e = tells_second _ text x is.0 invoke (reason ∷ is.1) is.4 (λ id. (is.0, is.1, is.2, is.3, refl)) e

-- ---- a datagram with an answer

-- an octet of an APDU that is an invoke ID
abbrev id_at : ℕ → ℕ → InvokeId
id_at at id = record { at = at; id = id }

-- with another invoke ID it has the same answer with that, by the same networks
record Answers (bytes : List ℕ) (y : InvokeId) : Type 0 where
  path : Path
  message : Apdu
  come : message_in bytes ≡ Some (path, message)
  is : told message ≡ Some (id_at 1 y.id)
  small : y.id < 256
  again : (id : ℕ) → message_in (set bytes y.at id) ≡ Some (path, named id message)

answer_in_place : (bytes : List ℕ) (x : Path × List ℕ) (m : Apdu) (z : InvokeId) → IsBytes bytes → carried_in bytes ≡ Some x → apdu_at x.1 ≡ Some m → told m ≡ Some z
    → Answers bytes (id_at (length bytes - length x.1 + z.at) z.id)
answer_in_place bytes x m z octets is read e =
    let k = carries bytes x octets is in
    let t = tells m x.1 z (apdu_takes x.1 m k.octets read) e in
    let moved = λ (id : ℕ). ap (λ (i : ℕ). set bytes (length bytes - length x.1 + i) id) t.at ∙ (set_in k.head x.1 bytes 1 id k.parts ∙ ap (λ (l : List ℕ). k.head ++ set l 1 id) t.parts) in
    record {
      path = x.0;
      message = m;
      come = message_of bytes x m is read;
      is = e ∙ ap (λ (i : ℕ). (let y : InvokeId = id_at i z.id in Some y)) t.at;
      small = subst (λ (l : List ℕ). get_or l 1 0 < 256) t.parts (k.octets 1);
      again = λ id.
          let text : List ℕ = t.first ∷ id ∷ t.rest in
          rw (moved id) (message_of (k.head ++ text) (x.0, text) (named id m) (k.again text (sym (ap (λ (l : List ℕ). length l) t.parts))) (apdu_again (named id m) text (t.again id)));
    }

has_answer : (bytes : List ℕ) (y : InvokeId) → IsBytes bytes → id_in told bytes ≡ Some y → Answers bytes y
unfolding id_in placed_in
has_answer bytes y octets e =
    let p = bind_some (placed_in bytes) _ y e in
    let z = bind_some (told p.0.1) _ y p.2 in
    let c = bind_some (carried_in bytes) _ p.0 p.1 in
    let m = bind_some (apdu_at c.0.1) _ p.0 c.2 in
    let placed = same_Some (length bytes - length c.0.1, m.0) p.0 m.2 in
    let is : told m.0 ≡ Some z.0 = ap (λ (q : ℕ × Apdu). told q.1) placed ∙ z.1 in
    let same : id_at (length bytes - length c.0.1 + z.0.at) z.0.id ≡ y = ap (λ (q : ℕ × Apdu). id_at (q.0 + z.0.at) z.0.id) placed ∙ same_Some (id_at (p.0.0 + z.0.at) z.0.id) y z.2 in
    subst (λ (w : InvokeId). Answers bytes w) same (answer_in_place bytes c.0 m.0 z.0 octets c.1 m.1 is)

-- where no invoke ID of an answer is found, there is no answer
untold : (m : Apdu) (at : InvokeId → InvokeId) → (told m >>= λ x. Some (at x)) ≡ None → answer_in (Some m) ≡ None
untold (Confirmed segmented size invoke service parameters) at e = refl
untold (Unconfirmed service parameters) at e = refl
untold (Simple invoke service) at e = absurd cc
untold (Complex segmented invoke service parameters) at e = absurd cc
untold (SegmentAck invoke) at e = refl
untold (Error invoke service class code) at e = absurd cc
untold (Reject invoke reason) at e = absurd cc
untold (Abort by_server invoke reason) at e = absurd cc

no_answer : (bytes : List ℕ) → id_in told bytes ≡ None → answer_in (apdu_in bytes) ≡ None
unfolding id_in placed_in message_in
no_answer bytes e = carried (carried_in bytes) refl
  where
    read : (x : Path × List ℕ) (o : Option Apdu) → carried_in bytes ≡ Some x → apdu_at x.1 ≡ o → answer_in (apdu_in bytes) ≡ None
    read x None is none = rw (is, none) refl
    read x (Some m) is some = rw (is, some) (untold m (λ y. record { at = length bytes - length x.1 + y.at; id = y.id }) (rw (is, some) at e))

    carried : (o : Option (Path × List ℕ)) → carried_in bytes ≡ o → answer_in (apdu_in bytes) ≡ None
    carried None none = rw none refl
    carried (Some x) some = read x (apdu_at x.1) some refl

-- ---- which questions it answers

same_test : (a b c d : ℕ) (x y : Bool) → (a ≡ b → c ≡ d) → (c ≡ d → a ≡ b) → eqb a b ≡ x → eqb c d ≡ y → x ≡ y
same_test a b c d true true to from e f = refl
same_test a b c d true false to from e f = absurd (eqb-false c d f (to (eqb-true a b e)))
same_test a b c d false true to from e f = absurd (eqb-false a b e (from (eqb-true c d f)))
same_test a b c d false false to from e f = refl

id_of : (invoke i : ℕ) → Some (id_at 1 invoke) ≡ Some (id_at 1 i) → invoke ≡ i
id_of invoke i e = ap (λ (y : InvokeId). y.id) (same_Some (id_at 1 invoke) (id_at 1 i) e)

same_moved : (invoke i id shift : ℕ) → Some (id_at 1 invoke) ≡ Some (id_at 1 i) → i < 256 → id < 256 → shift < 256 → eqb id ((i + (256 - shift)) % 256) ≡ eqb ((id + shift) % 256) invoke
same_moved invoke i id shift e small lt less =
    let is : invoke ≡ i = id_of invoke i e in
    same_test id ((i + (256 - shift)) % 256) ((id + shift) % 256) invoke _ _ (λ e. omega arith) (λ e. omega arith) refl refl

-- the ID of a question is that of the answer as it is taken, exactly if the ID as it was sent is that of the answer
taken_same : (m : Apdu) (i id shift : ℕ) → told m ≡ Some (id_at 1 i) → i < 256 → id < 256 → shift < 256
    → same_id (Some id) (answer_in (Some (named ((i + (256 - shift)) % 256) m))) ≡ same_id (Some ((id + shift) % 256)) (answer_in (Some m))
taken_same (Confirmed segmented size invoke service parameters) i id shift e small lt less = refl
taken_same (Unconfirmed service parameters) i id shift e small lt less = refl
taken_same (Simple invoke service) i id shift e small lt less = same_moved invoke i id shift e small lt less
taken_same (Complex segmented invoke service parameters) i id shift e small lt less = same_moved invoke i id shift e small lt less
taken_same (SegmentAck invoke) i id shift e small lt less = refl
taken_same (Error invoke service class code) i id shift e small lt less = same_moved invoke i id shift e small lt less
taken_same (Reject invoke reason) i id shift e small lt less = same_moved invoke i id shift e small lt less
taken_same (Abort true invoke reason) i id shift e small lt less = same_moved invoke i id shift e small lt less
taken_same (Abort false invoke reason) i id shift e small lt less = refl

-- what a datagram answers, by the question's path and ID
answers_by : (path : Path) (id : ℕ) (r : Request) (bytes : List ℕ) → AreWays path → (IsTooLong r → ⊥)
    → answers_to (request_octets path id r) bytes ≡ (same_id (Some id) (answer_in (apdu_in bytes)) && same_path (Some path) (path_in bytes))
unfolding answers_to
answers_by path id r bytes ways fits =
    let small : length (request_apdu id r) ≤ 1476 = omega (arith, same_size id r, fits) in
    rw (request_again path id r ways small) refl

pub answers_taken : (path : Path) (r : Request) (id shift : ℕ) (bytes : List ℕ) → AreWays path → (IsTooLong r → ⊥) → id < 256 → shift < 256 → IsBytes bytes
    → answers_to (request_octets path id r) (taken_by shift bytes) ≡ answers_to (request_octets path ((id + shift) % 256) r) bytes
answers_taken path r id shift bytes ways fits lt less octets = by_id (id_in told bytes) refl
  where
    by_id : (o : Option InvokeId) → id_in told bytes ≡ o → answers_to (request_octets path id r) (taken_by shift bytes) ≡ answers_to (request_octets path ((id + shift) % 256) r) bytes
    by_id None e = rw (e, answers_by path id r bytes ways fits, answers_by path ((id + shift) % 256) r bytes ways fits, no_answer bytes e) refl
    by_id (Some y) e =
        let a = has_answer bytes y octets e in
        let new : ℕ = (y.id + (256 - shift)) % 256 in
        rw (e, answers_by path id r (set bytes y.at new) ways fits, answers_by path ((id + shift) % 256) r bytes ways fits, a.again new, a.come, taken_same a.message y.id id shift a.is a.small lt less) refl

-- ---- what it says

-- with an ID that is so much smaller it is the same answer
less_named : (m : Apdu) (i shift : ℕ) → told m ≡ Some (id_at 1 i) → named ((i + (256 - shift)) % 256) m ≡ told_less shift m
less_named (Confirmed segmented size invoke service parameters) i shift e = absurd (none-some (id_at 1 i) e)
less_named (Unconfirmed service parameters) i shift e = refl
less_named (Simple invoke service) i shift e = ap (λ (k : ℕ). Simple ((k + (256 - shift)) % 256) service) (sym (id_of invoke i e))
less_named (Complex segmented invoke service parameters) i shift e = ap (λ (k : ℕ). Complex segmented ((k + (256 - shift)) % 256) service parameters) (sym (id_of invoke i e))
less_named (SegmentAck invoke) i shift e = ap (λ (k : ℕ). SegmentAck ((k + (256 - shift)) % 256)) (sym (id_of invoke i e))
less_named (Error invoke service class code) i shift e = ap (λ (k : ℕ). Error ((k + (256 - shift)) % 256) service class code) (sym (id_of invoke i e))
less_named (Reject invoke reason) i shift e = ap (λ (k : ℕ). Reject ((k + (256 - shift)) % 256) reason) (sym (id_of invoke i e))
less_named (Abort by_server invoke reason) i shift e = ap (λ (k : ℕ). Abort by_server ((k + (256 - shift)) % 256) reason) (sym (id_of invoke i e))

-- what has no such ID stays
untold_stays : (m : Apdu) (shift : ℕ) (at : InvokeId → InvokeId) → (told m >>= λ x. Some (at x)) ≡ None → told_less shift m ≡ m
untold_stays (Confirmed segmented size invoke service parameters) shift at e = refl
untold_stays (Unconfirmed service parameters) shift at e = refl
untold_stays (Simple invoke service) shift at e = absurd cc
untold_stays (Complex segmented invoke service parameters) shift at e = absurd cc
untold_stays (SegmentAck invoke) shift at e = absurd cc
untold_stays (Error invoke service class code) shift at e = absurd cc
untold_stays (Reject invoke reason) shift at e = absurd cc
untold_stays (Abort by_server invoke reason) shift at e = absurd cc

stays_whole : (shift : ℕ) (bytes : List ℕ) → id_in told bytes ≡ None → message_in bytes ≡ option_map (λ message. (message.0, told_less shift message.1)) (message_in bytes)
unfolding id_in placed_in message_in
stays_whole shift bytes e = carried (carried_in bytes) refl
  where
    read : (x : Path × List ℕ) (o : Option Apdu) → carried_in bytes ≡ Some x → apdu_at x.1 ≡ o → message_in bytes ≡ option_map (λ message. (message.0, told_less shift message.1)) (message_in bytes)
    read x None is none = rw (is, none) refl
    read x (Some m) is some =
        rw (is, some) (ap (λ (a : Apdu). Some (x.0, a)) (sym (untold_stays m shift (λ y. record { at = length bytes - length x.1 + y.at; id = y.id }) (rw (is, some) at e))))

    carried : (o : Option (Path × List ℕ)) → carried_in bytes ≡ o → message_in bytes ≡ option_map (λ message. (message.0, told_less shift message.1)) (message_in bytes)
    carried None none = rw none refl
    carried (Some x) some = read x (apdu_at x.1) some refl

-- it says the same as it is taken, with another ID
pub says_the_same : (shift : ℕ) (bytes : List ℕ) → shift < 256 → IsBytes bytes
    → message_in (taken_by shift bytes) ≡ option_map (λ message. (message.0, told_less shift message.1)) (message_in bytes)
says_the_same shift bytes less octets = by_id (id_in told bytes) refl
  where
    by_id : (o : Option InvokeId) → id_in told bytes ≡ o → message_in (taken_by shift bytes) ≡ option_map (λ message. (message.0, told_less shift message.1)) (message_in bytes)
    by_id None e = rw e (stays_whole shift bytes e)
    by_id (Some y) e =
        let a = has_answer bytes y octets e in
        let new : ℕ = (y.id + (256 - shift)) % 256 in
        rw (e, a.again new, a.come) (ap (λ (m : Apdu). Some (a.path, m)) (less_named a.message y.id shift a.is))

-- ---- a question

-- where its invoke ID lies, if it fits a datagram
asked_at : (path : Path) (id : ℕ) (r : Request) → AreWays path → length (request_octets path id r) ≤ 1501
    → question_in (request_octets path id r) ≡ Some (id_at (length (request_octets path id r) - length (request_apdu id r) + 2) id)
unfolding id_in placed_in request_octets request_apdu
asked_at path id r ways short =
    let npdu : List ℕ = header_octets (asking path) ++ request_apdu id r in
    let small : length npdu + 4 < 65536 = omega (arith, short, length-frame npdu) in
    let carried = carried_again (asking path) (request_apdu id r) (asking_valid path ways) refl small in
    let read = message_again (Confirmed false 1476 id (service_of r) (parameters_of r)) (refl, inr (inr (inr (inr (inr refl))))) in
    rw (le-ltb _ _ short, carried, read) refl

-- one from this network fits a datagram
fits_datagram : (path : Path) (id : ℕ) (r : Request) → AreWays path → path.source ≡ None → (IsTooLong r → ⊥) → length (request_octets path id r) ≤ 1501
unfolding request_octets
fits_datagram path id r ways here fits =
    let header : List ℕ = header_octets (asking path) in
    let heads : length (unicast_head 0 ++ header) ≤ 25 = rw here (heads_fit path.dest (hops_to path.dest) ways.0) in
    omega (arith, heads, length-frame (header ++ request_apdu id r), length-append (unicast_head 0) header, length-append header (request_apdu id r), same_size id r, fits)

-- so its invoke ID is found there
pub question_found : (path : Path) (r : Request) (id : ℕ) → AreWays path → path.source ≡ None → (IsTooLong r → ⊥)
    → question_in (request_octets path id r) ≡ Some (id_at (length (request_octets path id r) - length (request_apdu id r) + 2) id)
question_found path r id ways here fits = asked_at path id r ways (fits_datagram path id r ways here fits)

-- it is sent as the same request with another ID
pub question_moved : (path : Path) (r : Request) (id shift : ℕ) → AreWays path → path.source ≡ None → (IsTooLong r → ⊥)
    → sent_by shift (request_octets path id r) ≡ request_octets path ((id + shift) % 256) r
unfolding request_octets request_apdu frame_octets
question_moved path r id shift ways here fits =
    let header : List ℕ = header_octets (asking path) in
    let new : ℕ = (id + shift) % 256 in
    let head : List ℕ = unicast_head (length (header ++ request_apdu id r) + 4) ++ header in
    let size : length (header ++ request_apdu id r) ≡ length (header ++ request_apdu new r) =
    omega (arith, length-append header (request_apdu id r), length-append header (request_apdu new r), same_size id r, same_size new r) in
    let moved : set (request_octets path id r) (length (request_octets path id r) - length (request_apdu id r) + 2) new ≡ head ++ request_apdu new r = set_in head (request_apdu id r) (request_octets path id r) 2 new refl in
    rw (question_found path r id ways here fits) (moved ∙ ap (λ (n : ℕ). unicast_head (n + 4) ++ (header ++ request_apdu new r)) size)
