-- What is handed on by a router is the question of a place near by, and what is handed back is its reply.
use Rattle.std.proofs.Common.{◌≡◌, refl, ap, sym, subst, ◌∙◌, arith, inl, inr, ℕ, ◌+◌, ◌<◌, ◌≤◌, ◌/◌, ◌%◌, eqb, ◌==◌, if◌then◌else◌, nat_lt, Bool, true, false, not, List, [], ◌∷◌, ◌++◌, length, Option, None, Some, length-append}
use Rattle.std.specs.Str.{bytes_eq}
use Rattle.std.proofs.lemmas.Bool.{and_parts, eqb-true, eq-eqb}
use Rattle.std.proofs.lemmas.Bool.Decides.{nat_tests}
use Rattle.std.proofs.lemmas.Option.{none-some, same_Some}
use Rattle.std.proofs.lemmas.Slice.Eq.{bytes_eq-Decides}
use Rattle.bac_wire.specs.Number.{bit}
use Rattle.bac_wire.specs.Primitive.{Id}
use Rattle.bac_apdu.specs.Apdu.{Apdu, Confirmed, Unconfirmed, Simple, Complex, SegmentAck, Error, Reject, Abort, apdu_at, apdu_behind, complex_at, confirmed_at, error_at, number_at, pair_at, segment_ack_at, segment_at, size_of, unconfirmed_at}
use Rattle.bac_apdu.specs.Frame.{frame_at, frame_octets}
use Rattle.bac_apdu.specs.Npdu.{Header, IsHeader, Place, control_of, header_at, header_octets, hops_at, hops_octets, is_there, maybe_place_at, place_octets}
use Rattle.bac_apdu.specs.Octets.{octet_at}
use Rattle.bac_apdu.specs.Route.{IsRoute}
use Rattle.bac_apdu.specs.declared.service.extent.Extent.{Extent}
use Rattle.bac_apdu.proofs.Grammar.{bind_some, chosen_some}
use Rattle.bac_apdu.proofs.Heads.{frame_again, header_again}
use Rattle.bac_apdu.proofs.Shorts.{length-frame, length-place, length-no_place, place_valid}
use Rattle.bac_link.specs.Datagrams.{carried_in, message_in, unicast_in}
use Rattle.bac_link.specs.Links.{IsQuestion, question}
use Rattle.bac_link.specs.Path.{Path, back, path_of, same_place, towards}
use Rattle.bac_link.specs.Requests.{asking, request_apdu, request_octets}
use Rattle.bac_link.proofs.Datagrams.{asking_valid, length-asking, message_of}
use Rattle.bac_link.proofs.Verdicts.{question_short}
use Rattle.bac_memory_link.specs.Routing.{handed, handed_on, is_for, whole}

-- ---- tests

none_there : (place : Option Place) → not (is_there place) ≡ true → place ≡ None
none_there None e = refl
none_there (Some place) e = absurd cc

same_is : (place : Option Place) (far : Place) → same_place place (Some far) ≡ true → place ≡ Some far
same_is None far e = absurd cc
same_is (Some place) far e =
    let parts = and_parts (place.net == far.net) (bytes_eq place.address far.address) e in
    let net : place.net ≡ far.net = eqb-true place.net far.net parts.0 in
    let address : place.address ≡ far.address = (bytes_eq-Decides place.address far.address).0 parts.1 in
    ap (λ n. (let p : Place = record { net = n; address = place.address } in Some p)) net ∙ ap (λ a. (let p : Place = record { net = far.net; address = a } in Some p)) address

same_self : (far : Place) → same_place (Some far) (Some far) ≡ true
same_self far = rw (eq-eqb far.net far.net refl, (bytes_eq-Decides far.address far.address).1 refl) refl

-- what is whole is the same
whole_is : (octets datagram : List ℕ) → whole octets ≡ Some datagram → (datagram ≡ octets) × (length octets ≤ 1501)
whole_is octets datagram e = elim (chosen_some (nat_lt 1501 (length octets)) None (Some octets) datagram e) [
  | inl long ↦ absurd (none-some datagram long.1)
  | inr short ↦ (sym (same_Some octets datagram short.1), within short.0)
]
  where
    within : nat_lt 1501 (length octets) ≡ false → length octets ≤ 1501
    within short = grind (arith, nat_tests)

is_whole : (octets : List ℕ) → length octets ≤ 1501 → whole octets ≡ Some octets
is_whole octets le = rw (short (length octets) le) refl
  where
    short : (n : ℕ) → n ≤ 1501 → nat_lt 1501 n ≡ false
    short n le = grind (arith, nat_tests)

-- ---- a question on its way

request_handed : (far near : Place) (path : Path) (id : Id) (extent : Extent) (invoke : ℕ) (octets : List ℕ) → IsQuestion id extent path invoke octets →
    handed_on far near octets ≡ (if is_for far (asking path) then whole (request_octets (back (towards (Some near))) invoke (question id extent)) else None)
unfolding handed_on request_octets
request_handed far near path id extent invoke octets asks =
    let apdu : List ℕ = request_apdu invoke (question id extent) in
    let small : length (header_octets (asking path) ++ apdu) + 4 < 65536 =
    omega (arith, length-append (header_octets (asking path)) apdu, length-asking path asks.3, question_short id extent invoke) in
    rw (asks.0, frame_again (header_octets (asking path) ++ apdu) small, header_again (asking path) apdu (asking_valid path asks.3)) refl

-- what is asked of the inner link is the question as one from the near place; and it was for the far one
pub question_handed : (far near : Place) (path : Path) (id : Id) (extent : Extent) (invoke : ℕ) (octets inner : List ℕ) → IsRoute near → IsQuestion id extent path invoke octets →
    handed_on far near octets ≡ Some inner → IsQuestion id extent (back (towards (Some near))) invoke inner × (path ≡ towards (Some far))
question_handed far near path id extent invoke octets inner near_is asks e =
    let own : List ℕ = request_octets (back (towards (Some near))) invoke (question id extent) in
    elim (chosen_some (is_for far (asking path)) (whole own) None inner (sym (request_handed far near path id extent invoke octets asks) ∙ e)) [
      | inl on ↦
          let tests = and_parts (same_place path.dest (Some far)) (not (is_there path.source)) on.0 in
          let dest : path.dest ≡ Some far = same_is path.dest far tests.0 in
          let source : path.source ≡ None = none_there path.source tests.1 in
          let is : inner ≡ own = (whole_is own inner on.1).0 in (
            (is, asks.1, asks.2, (tt, near_is)),
            ap (λ d. (let p : Path = record { dest = d; source = path.source } in p)) dest ∙ ap (λ s. (let p : Path = record { dest = Some far; source = s } in p)) source,
          )
      | inr off ↦ absurd (none-some inner off.1)
    ]

-- ---- a reply on its way back

priority_small : (bytes : List ℕ) (x : Header × List ℕ) → header_at bytes ≡ Some x → x.0.priority < 4
unfolding header_at
priority_small bytes x e =
    let v = bind_some (octet_at bytes) _ x e in
    elim (chosen_some (v.0.0 == 1) _ None x v.2) [
      | inl one ↦
          let c = bind_some (octet_at v.0.1) _ x one.1 in
          let d = bind_some (maybe_place_at (bit c.0.0 5) c.0.1) _ x c.2 in
          let s = bind_some (maybe_place_at (bit c.0.0 3) d.0.1) _ x d.2 in
          let h = bind_some (hops_at (bit c.0.0 5) s.0.1) _ x s.2 in
          let is : x.0.priority ≡ c.0.0 % 4 = ap (λ (y : Header × List ℕ). y.0.priority) (sym (same_Some _ x h.2)) in
          omega (arith, is)
      | inr other ↦ absurd (none-some x other.1)
    ]

-- how it is handed back
pub record IsBack (far near : Place) (reply : List ℕ) (m : Apdu) : Type 0 where
  header : Header
  apdu : List ℕ
  is : apdu_at apdu ≡ Some m
  priority : header.priority < 4
  plain : header.network ≡ false
  on : handed_on near far reply ≡ whole (frame_octets (header_octets (handed far header) ++ apdu))

handed_is : (near far : Place) (reply npdu : List ℕ) (h : Header) (rest : List ℕ) → unicast_in (frame_at reply) ≡ Some npdu → header_at npdu ≡ Some (h, rest) → is_for near h ≡ true →
    handed_on near far reply ≡ whole (frame_octets (header_octets (handed far h) ++ rest))
unfolding handed_on
handed_is near far reply npdu h rest e f t = rw (e, f, t) refl

carried_back : (far near : Place) (reply : List ℕ) (m : Apdu) (x : Path × List ℕ) → carried_in reply ≡ Some x → apdu_at x.1 ≡ Some m → x.0 ≡ towards (Some near) → IsBack far near reply m
unfolding carried_in
carried_back far near reply m x e is path =
    let n = bind_some (unicast_in (frame_at reply)) _ x e in
    let h = bind_some (header_at n.0) _ x n.2 in
    elim (chosen_some h.0.0.network None (Some (path_of h.0.0, h.0.1)) x h.2) [
      | inl message ↦ absurd (none-some x message.1)
      | inr apdu ↦
          let here : path_of h.0.0 ≡ towards (Some near) = ap (λ (y : Path × List ℕ). y.0) (same_Some _ x apdu.1) ∙ path in
          let behind : h.0.1 ≡ x.1 = ap (λ (y : Path × List ℕ). y.1) (same_Some _ x apdu.1) in
          let dest : h.0.0.dest ≡ Some near = ap (λ (p : Path). p.dest) here in
          let source : h.0.0.source ≡ None = ap (λ (p : Path). p.source) here in
          let test : is_for near h.0.0 ≡ true = rw (dest, source) (rw (same_self near) refl) in
          record {
            header = h.0.0;
            apdu = h.0.1;
            is = ap apdu_at behind ∙ is;
            priority = priority_small n.0 h.0 h.1;
            plain = apdu.0;
            on = handed_is near far reply n.0 h.0.0 h.0.1 n.1 h.1 test;
          }
    ]

pub is_back : (far near : Place) (reply : List ℕ) (m : Apdu) → message_in reply ≡ Some (towards (Some near), m) → IsBack far near reply m
unfolding message_in
is_back far near reply m e =
    let a = bind_some (carried_in reply) _ (towards (Some near), m) e in
    let b = bind_some (apdu_at a.0.1) _ (towards (Some near), m) a.2 in
    let same = same_Some (a.0.0, b.0) (towards (Some near), m) b.2 in
    carried_back far near reply m a.0 a.1 (b.1 ∙ ap (λ (y : Path × Apdu). Some y.1) same) (ap (λ (y : Path × Apdu). y.0) same)

handed_valid : (far : Place) (h : Header) → IsRoute far → h.priority < 4 → IsHeader (handed far h)
handed_valid far h far_is small = (small, tt, place_valid (Some far) far_is, refl)

length-handed : (far : Place) (h : Header) → IsRoute far → length (header_octets (handed far h)) ≤ 20
length-handed far h far_is =
    let k : Header = handed far h in
    omega (
      arith,
      length-place (Some far) far_is,
      length-no_place,
      length-append (1 ∷ control_of k ∷ []) (place_octets None ++ (place_octets (Some far) ++ hops_octets None 0)),
      length-append (place_octets None) (place_octets (Some far) ++ hops_octets None 0),
      length-append (place_octets (Some far)) (hops_octets None 0),
    )

-- what comes back has the same APDU, and is from the far place
pub reply_back : (far near : Place) (reply datagram : List ℕ) (m : Apdu) → IsRoute far → message_in reply ≡ Some (towards (Some near), m) → handed_on near far reply ≡ Some datagram →
    message_in datagram ≡ Some (back (towards (Some far)), m)
reply_back far near reply datagram m far_is e on =
    let b = is_back far near reply m e in
    let text : List ℕ = header_octets (handed far b.header) ++ b.apdu in
    let is = whole_is (frame_octets text) datagram (sym b.on ∙ on) in
    rw is.0 (message_of (handed far b.header) b.apdu m (handed_valid far b.header far_is b.priority) b.plain b.is (omega (arith, is.1, length-frame text)))

-- ---- an unsegmented ComplexACK is as long as its parameters, and three octets

abbrev IsLong : Apdu → ℕ → Type 0
IsLong (Complex segmented invoke service parameters) n = segmented ≡ false → n ≡ 3 + length parameters
IsLong other n = Unit {0}

confirmed_long : (segmented : Bool) (bytes : List ℕ) (m : Apdu) (n : ℕ) → confirmed_at segmented bytes ≡ Some m → IsLong m n
unfolding confirmed_at
confirmed_long segmented bytes m n e =
    let a = bind_some (octet_at bytes) _ m e in
    let b = bind_some (octet_at a.0.1) _ m a.2 in
    let c = bind_some (segment_at segmented b.0.1) _ m b.2 in
    let d = bind_some (octet_at c.0.1) _ m c.2 in
    subst (λ (y : Apdu). IsLong y n) (same_Some (Confirmed segmented (size_of (a.0.0 % 16)) b.0.0 d.0.0 d.0.1) m d.2) tt

unconfirmed_long : (bytes : List ℕ) (m : Apdu) (n : ℕ) → unconfirmed_at bytes ≡ Some m → IsLong m n
unfolding unconfirmed_at
unconfirmed_long bytes m n e =
    let a = bind_some (octet_at bytes) _ m e in
    subst (λ (y : Apdu). IsLong y n) (same_Some (Unconfirmed a.0.0 a.0.1) m a.2) tt

pair_long : (f : ℕ → ℕ → Apdu) (bytes : List ℕ) (m : Apdu) (n : ℕ) → ((a b : ℕ) → IsLong (f a b) n) → pair_at f bytes ≡ Some m → IsLong m n
unfolding pair_at
pair_long f bytes m n is e =
    let a = bind_some (octet_at bytes) _ m e in
    let b = bind_some (octet_at a.0.1) _ m a.2 in
    subst (λ (y : Apdu). IsLong y n) (same_Some (f a.0.0 b.0.0) m b.2) (is a.0.0 b.0.0)

segment_ack_long : (bytes : List ℕ) (m : Apdu) (n : ℕ) → segment_ack_at bytes ≡ Some m → IsLong m n
unfolding segment_ack_at
segment_ack_long bytes m n e =
    let a = bind_some (octet_at bytes) _ m e in
    let b = bind_some (octet_at a.0.1) _ m a.2 in
    let c = bind_some (octet_at b.0.1) _ m b.2 in
    subst (λ (y : Apdu). IsLong y n) (same_Some (SegmentAck a.0.0) m c.2) tt

error_long : (bytes : List ℕ) (m : Apdu) (n : ℕ) → error_at bytes ≡ Some m → IsLong m n
unfolding error_at
error_long bytes m n e =
    let a = bind_some (octet_at bytes) _ m e in
    let b = bind_some (octet_at a.0.1) _ m a.2 in
    let c = bind_some (number_at b.0.1) _ m b.2 in
    let d = bind_some (number_at c.0.1) _ m c.2 in
    subst (λ (y : Apdu). IsLong y n) (same_Some (Error a.0.0 b.0.0 c.0.0 d.0.0) m d.2) tt

complex_long : (segmented : Bool) (bytes : List ℕ) (m : Apdu) → complex_at segmented bytes ≡ Some m → IsLong m (1 + length bytes)
unfolding complex_at segment_at
complex_long true bytes m e =
    let a = bind_some (octet_at bytes) _ m e in
    let b = bind_some (segment_at true a.0.1) _ m a.2 in
    let c = bind_some (octet_at b.0.1) _ m b.2 in
    subst (λ (y : Apdu). IsLong y (1 + length bytes)) (same_Some (Complex true a.0.0 c.0.0 c.0.1) m c.2) (λ f. absurd cc)
complex_long false [] m e = absurd (none-some m e)
complex_long false (invoke ∷ []) m e = absurd (none-some m e)
complex_long false (invoke ∷ service ∷ parameters) m e =
    subst (λ (y : Apdu). IsLong y (1 + length (invoke ∷ service ∷ parameters))) (same_Some (Complex false invoke service parameters) m e) (λ f. omega arith)

behind_long : (first : ℕ) (bytes : List ℕ) (m : Apdu) → apdu_behind first bytes ≡ Some m → IsLong m (1 + length bytes)
unfolding apdu_behind
behind_long first bytes m e =
    let n : ℕ = 1 + length bytes in
    elim (chosen_some (eqb (first / 16) 0) _ _ m e) [
      | inl a ↦ confirmed_long (bit first 3) bytes m n a.1
      | inr a ↦ elim (chosen_some (eqb (first / 16) 1) _ _ m a.1) [
        | inl b ↦ unconfirmed_long bytes m n b.1
        | inr b ↦ elim (chosen_some (eqb (first / 16) 2) _ _ m b.1) [
          | inl c ↦ pair_long (λ invoke service. Simple invoke service) bytes m n (λ a b. tt) c.1
          | inr c ↦ elim (chosen_some (eqb (first / 16) 3) _ _ m c.1) [
            | inl d ↦ complex_long (bit first 3) bytes m d.1
            | inr d ↦ elim (chosen_some (eqb (first / 16) 4) _ _ m d.1) [
              | inl f ↦ segment_ack_long bytes m n f.1
              | inr f ↦ elim (chosen_some (eqb (first / 16) 5) _ _ m f.1) [
                | inl g ↦ error_long bytes m n g.1
                | inr g ↦ elim (chosen_some (eqb (first / 16) 6) _ _ m g.1) [
                  | inl h ↦ pair_long (λ invoke reason. Reject invoke reason) bytes m n (λ a b. tt) h.1
                  | inr h ↦ elim (chosen_some (eqb (first / 16) 7) _ _ m h.1) [
                    | inl k ↦ pair_long (λ invoke reason. Abort (bit first 0) invoke reason) bytes m n (λ a b. tt) k.1
                    | inr k ↦ absurd (none-some m k.1)
                  ]
                ]
              ]
            ]
          ]
        ]
      ]
    ]

apdu_long : (octets : List ℕ) (invoke service : ℕ) (parameters : List ℕ) → apdu_at octets ≡ Some (Complex false invoke service parameters) → length octets ≡ 3 + length parameters
unfolding apdu_at
apdu_long [] invoke service parameters e = absurd (none-some (Complex false invoke service parameters) e)
apdu_long (first ∷ bytes) invoke service parameters e = omega (arith, behind_long first bytes (Complex false invoke service parameters) e refl)

-- ---- so a reply within a link's size comes back

-- one that fits does come back
pub fits_back : (far near : Place) (reply : List ℕ) (invoke service : ℕ) (parameters : List ℕ) → IsRoute far → message_in reply ≡ Some (towards (Some near), Complex false invoke service parameters) →
    3 + length parameters ≤ 1476 → handed_on near far reply ≡ None → ⊥
fits_back far near reply invoke service parameters far_is e small off =
    let b = is_back far near reply (Complex false invoke service parameters) e in
    let text : List ℕ = header_octets (handed far b.header) ++ b.apdu in
    let fits : length (frame_octets text) ≤ 1501 =
    omega (arith, length-frame text, length-append (header_octets (handed far b.header)) b.apdu, length-handed far b.header far_is, apdu_long b.apdu invoke service parameters b.is, small) in
    none-some (frame_octets text) (sym off ∙ (b.on ∙ is_whole (frame_octets text) fits))
