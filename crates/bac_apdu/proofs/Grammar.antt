-- Frames, headers and APDUs are read if and only if the octets are their encodings.
use Rattle.std.proofs.Common.{◌≡◌, ℕ, zero, suc, ◌+◌, ◌*◌, ◌/◌, ◌%◌, ◌^◌, ◌<◌, ltb, eqb, Bool, true, false, ◌&&◌, cond, List, [], ◌∷◌, ◌++◌, length, take, drop, Option, Some, None, refl, sym, ap, subst, ◌∙◌, append_assoc, arith, ◌⊎◌, inl, inr}
use Rattle.std.specs.Int.{w16, to_be_bytes, from_bool}
use Rattle.std.proofs.lemmas.Bool.{ltb-false, eq-eqb, ne_eqb, eqb-true, eqb-false, and_parts}
use Rattle.std.proofs.lemmas.Option.{none-some, same_Some}
use Rattle.std.proofs.lemmas.List.{take-append-drop, length-take-le}
use Rattle.bac_wire.specs.Number.{bit}
use Rattle.bac_wire.specs.OptionChain.{◌>>=◌}
use Rattle.bac_wire.proofs.Numbers.{IsBytes, IsBytes-drop}
use Rattle.bac_wire.proofs.Canonical.{flag_is, flag_small}
use Rattle.bac_apdu.specs.Octets.{octet_at, word_at, octets_at}
use Rattle.bac_apdu.specs.Frame.{Frame, Unicast, Broadcast, Forwarded, Function, body_at, frame_at, framed, function_of, body_of, frame_encoding, IsKind, IsFrame}
use Rattle.bac_apdu.specs.Npdu.{Place, Header, place_at, maybe_place_at, hops_at, header_at, is_there, place_octets, hops_octets, control_of, IsPlace, HasHops, IsHeader, IsControl, header_encoding}
use Rattle.bac_apdu.proofs.Heads.{word_again, octets_again, maybe_again, hops_again}

-- ---- steps of which nothing says why they fail

pub bind_some : {A B : Type 0} (o : Option A) (f : A → Option B) (y : B) → (o >>= f) ≡ Some y → (x : A) × (o ≡ Some x) × (f x ≡ Some y)
bind_some None f y e = absurd (none-some y e)
bind_some (Some x) f y e = (x, refl, e)

want_some : {A : Type 0} (b : Bool) (o : Option A) (y : A) → cond b o None ≡ Some y → (b ≡ true) × (o ≡ Some y)
want_some true o y e = (refl, e)
want_some false o y e = absurd (none-some y e)

pub chosen_some : {A : Type 0} (b : Bool) (o p : Option A) (y : A) → cond b o p ≡ Some y → ((b ≡ true) × (o ≡ Some y)) ⊎ ((b ≡ false) × (p ≡ Some y))
chosen_some true o p y e = inl (refl, e)
chosen_some false o p y e = inr (refl, e)

-- ---- frames

two_same : (a b c d : ℕ) (rest : List ℕ) → a ≡ c → b ≡ d → a ∷ b ∷ rest ≡ c ∷ d ∷ rest
two_same a b c d rest e f = rw (e, f) refl

pub word_is : (high low : ℕ) (rest : List ℕ) → high < 256 → low < 256 → high ∷ low ∷ rest ≡ to_be_bytes w16 (high * 256 + low) ++ rest
word_is high low rest small less = two_same high low _ _ rest (omega arith) (omega arith)

-- the head of a frame, and what its function makes of the rest
framed_takes : (kind function high low : ℕ) (rest : List ℕ) (f : Frame) → high < 256 → low < 256 → frame_at (kind ∷ function ∷ high ∷ low ∷ rest) ≡ Some f
    → (kind ∷ function ∷ high ∷ low ∷ rest ≡ framed function rest) × (length rest + 4 < 65536) × (body_at function rest ≡ Some f)
unfolding frame_at word_at
framed_takes kind function high low rest f small less e =
    let whole = kind ∷ function ∷ high ∷ low ∷ rest in
    let t = want_some (eqb kind 0x81 && eqb (high * 256 + low) (length whole)) (body_at function rest) f e in
    let parts = and_parts (eqb kind 0x81) (eqb (high * 256 + low) (length whole)) t.0 in
    let is : kind ≡ 0x81 = eqb-true _ _ parts.0 in
    let size : high * 256 + low ≡ length rest + 4 = omega (arith, eqb-true _ _ parts.1) in
    (rw (is, ← size) (ap (λ (l : List ℕ). 0x81 ∷ function ∷ l) (word_is high low rest small less)), omega (arith, size, small, less), t.1)

forwarded_takes : (rest : List ℕ) (f : Frame) → (octets_at 6 rest >>= λ address. Some (Forwarded address.0 address.1)) ≡ Some f → IsKind f × (4 ≡ function_of f) × (rest ≡ body_of f)
unfolding octets_at
forwarded_takes rest f e =
    let t = bind_some (octets_at 6 rest) (λ address. Some (Forwarded address.0 address.1)) f e in
    let s = chosen_some (ltb (length rest) 6) None (Some (take 6 rest, drop 6 rest)) t.0 t.1 in
    elim s [
      | inl a ↦ absurd (none-some t.0 a.1)
      | inr a ↦
          let parts = same_Some (take 6 rest, drop 6 rest) t.0 a.1 in
          let P : Frame → Type 0 = λ g. IsKind g × (4 ≡ function_of g) × (rest ≡ body_of g) in
          let six : length (take 6 rest) ≡ 6 = length-take-le 6 rest (ltb-false _ _ a.0) in
          let both : P (Forwarded (take 6 rest) (drop 6 rest)) = (six, refl, sym (take-append-drop 6 rest)) in
          subst P (ap (λ (x : List ℕ × List ℕ). Forwarded x.0 x.1) parts ∙ same_Some (Forwarded t.0.0 t.0.1) f t.2) both
    ]

body_takes : (function : ℕ) (rest : List ℕ) (f : Frame) → body_at function rest ≡ Some f → IsKind f × (function ≡ function_of f) × (rest ≡ body_of f)
unfolding body_at
body_takes function rest f e =
    let P : Frame → Type 0 = λ g. IsKind g × (function ≡ function_of g) × (rest ≡ body_of g) in
    elim (chosen_some (eqb function 0x0A) _ _ f e) [
      | inl a ↦ subst P (same_Some (Unicast rest) f a.1) (tt, eqb-true _ _ a.0, refl)
      | inr a ↦ elim (chosen_some (eqb function 0x0B) _ _ f a.1) [
        | inl b ↦ subst P (same_Some (Broadcast rest) f b.1) (tt, eqb-true _ _ b.0, refl)
        | inr b ↦ elim (chosen_some (eqb function 0x04) _ _ f b.1) [
          | inl c ↦ let t = forwarded_takes rest f c.1 in (t.0, eqb-true _ _ c.0 ∙ t.1, t.2)
          | inr c ↦ subst P (same_Some (Function function rest) f c.1) ((eqb-false _ _ a.0, eqb-false _ _ b.0, eqb-false _ _ c.0), refl, refl)
        ]
      ]
    ]

pub frame_takes : (bytes : List ℕ) (f : Frame) → IsBytes bytes → frame_at bytes ≡ Some f → IsFrame f × (bytes ≡ frame_encoding f)
unfolding frame_at word_at
frame_takes [] f o e = absurd (none-some f e)
frame_takes (kind ∷ []) f o e = absurd (none-some f e)
frame_takes (kind ∷ function ∷ []) f o e = absurd (none-some f e)
frame_takes (kind ∷ function ∷ high ∷ []) f o e = absurd (none-some f e)
frame_takes (kind ∷ function ∷ high ∷ low ∷ rest) f o e =
    let t = framed_takes kind function high low rest f (o 2) (o 3) e in
    let b = body_takes function rest f t.2 in
    ((b.0, subst (λ (l : List ℕ). length l + 4 < 65536) b.2 t.1), t.0 ∙ (ap (λ (n : ℕ). framed n rest) b.1 ∙ ap (λ (l : List ℕ). framed (function_of f) l) b.2))

body_again : (f : Frame) → IsKind f → body_at (function_of f) (body_of f) ≡ Some f
unfolding body_at
body_again (Unicast npdu) valid = refl
body_again (Broadcast npdu) valid = refl
body_again (Forwarded address npdu) valid = let again : octets_at 6 (address ++ npdu) ≡ Some (address, npdu) = subst (λ (n : ℕ). octets_at n (address ++ npdu) ≡ Some (address, npdu)) valid (octets_again address npdu) in rw again refl
body_again (Function function body) valid = rw (ne_eqb function 0x0A valid.0, ne_eqb function 0x0B valid.1, ne_eqb function 0x04 valid.2) refl

pub frame_again : (f : Frame) → IsFrame f → frame_at (frame_encoding f) ≡ Some f
unfolding frame_at
frame_again f valid =
    let is : eqb (length (body_of f) + 4) (length (frame_encoding f)) ≡ true = eq-eqb _ _ (omega arith) in
    rw (word_again (length (body_of f) + 4) (body_of f) valid.1, is) (body_again f valid.0)

-- ---- headers

-- octets that a place takes off the front, and those after them
word_takes : (bytes : List ℕ) (x : ℕ × List ℕ) → IsBytes bytes → word_at bytes ≡ Some x → (x.0 < 65536) × (bytes ≡ to_be_bytes w16 x.0 ++ x.1) × IsBytes x.1
unfolding word_at
word_takes [] x o e = absurd (none-some x e)
word_takes (high ∷ []) x o e = absurd (none-some x e)
word_takes (high ∷ low ∷ rest) x o e =
    let small : high < 256 = o 0 in
    let less : low < 256 = o 1 in
    let P : ℕ × List ℕ → Type 0 = λ y. (y.0 < 65536) × (high ∷ low ∷ rest ≡ to_be_bytes w16 y.0 ++ y.1) × IsBytes y.1 in
    let both : P (high * 256 + low, rest) = (omega arith, word_is high low rest small less, λ i. o (suc (suc i))) in
    subst P (same_Some (high * 256 + low, rest) x e) both

octets_take : (n : ℕ) (bytes : List ℕ) (x : List ℕ × List ℕ) → IsBytes bytes → octets_at n bytes ≡ Some x → (length x.0 ≡ n) × (bytes ≡ x.0 ++ x.1) × IsBytes x.1
unfolding octets_at
octets_take n bytes x o e = elim (chosen_some (ltb (length bytes) n) None (Some (take n bytes, drop n bytes)) x e) [
  | inl a ↦ absurd (none-some x a.1)
  | inr a ↦
      let P : List ℕ × List ℕ → Type 0 = λ y. (length y.0 ≡ n) × (bytes ≡ y.0 ++ y.1) × IsBytes y.1 in
      let both : P (take n bytes, drop n bytes) = (length-take-le n bytes (ltb-false _ _ a.0), sym (take-append-drop n bytes), IsBytes-drop n bytes o) in
      subst P (same_Some (take n bytes, drop n bytes) x a.1) both
]

place_joined : (net len : ℕ) (bytes address rest : List ℕ) → length address ≡ len → bytes ≡ address ++ rest → to_be_bytes w16 net ++ len ∷ bytes ≡ (to_be_bytes w16 net ++ length address ∷ address) ++ rest
place_joined net len bytes address rest size parts = rw (size, parts) refl

address_takes : (net : ℕ) (bytes : List ℕ) (x : Place × List ℕ) → net < 65536 → IsBytes bytes
    → (octet_at bytes >>= λ len. octets_at len.0 len.1 >>= λ address. Some (record { net = net; address = address.0 }, address.1)) ≡ Some x
    → IsPlace (Some x.0) × (to_be_bytes w16 net ++ bytes ≡ place_octets (Some x.0) ++ x.1) × IsBytes x.1
unfolding place_octets
address_takes net [] x small o e = absurd (none-some x e)
address_takes net (len ∷ bytes) x small o e =
    let t = bind_some (octets_at len bytes) (λ address. Some (record { net = net; address = address.0 }, address.1)) x e in
    let a = octets_take len bytes t.0 (λ i. o (suc i)) t.1 in
    let few : length t.0.0 < 256 = omega (arith, a.0, o 0) in
    let P : Place × List ℕ → Type 0 = λ y. IsPlace (Some y.0) × (to_be_bytes w16 net ++ len ∷ bytes ≡ place_octets (Some y.0) ++ y.1) × IsBytes y.1 in
    let is : to_be_bytes w16 net ++ len ∷ bytes ≡ (to_be_bytes w16 net ++ length t.0.0 ∷ t.0.0) ++ t.0.1 = place_joined net len bytes t.0.0 t.0.1 a.0 a.1 in
    let both : P (record { net = net; address = t.0.0 }, t.0.1) = ((small, few), is, a.2) in
    subst P (same_Some (record { net = net; address = t.0.0 }, t.0.1) x t.2) both

place_takes : (there : Bool) (bytes : List ℕ) (x : Option Place × List ℕ) → IsBytes bytes → maybe_place_at there bytes ≡ Some x → IsPlace x.0 × (is_there x.0 ≡ there) × (bytes ≡ place_octets x.0 ++ x.1) × IsBytes x.1
unfolding maybe_place_at place_at place_octets
place_takes true bytes x o e =
    let p = bind_some _ (λ place. Some (Some place.0, place.1)) x e in
    let w = bind_some (word_at bytes) _ p.0 p.1 in
    let net = word_takes bytes w.0 o w.1 in
    let a = address_takes w.0.0 w.0.1 p.0 net.0 net.2 w.2 in
    let P : Option Place × List ℕ → Type 0 = λ y. IsPlace y.0 × (is_there y.0 ≡ true) × (bytes ≡ place_octets y.0 ++ y.1) × IsBytes y.1 in
    let both : P (Some p.0.0, p.0.1) = (a.0, refl, net.1 ∙ a.1, a.2) in
    subst P (same_Some (Some p.0.0, p.0.1) x p.2) both
place_takes false bytes x o e =
    let P : Option Place × List ℕ → Type 0 = λ y. IsPlace y.0 × (is_there y.0 ≡ false) × (bytes ≡ place_octets y.0 ++ y.1) × IsBytes y.1 in
    let both : P (None, bytes) = (tt, refl, refl, o) in
    subst P (same_Some (None, bytes) x e) both

hops_take : (place : Option Place) (bytes : List ℕ) (x : ℕ × List ℕ) → hops_at (is_there place) bytes ≡ Some x → HasHops place x.0 × (bytes ≡ hops_octets place x.0 ++ x.1)
unfolding hops_at
hops_take None bytes x e =
    let P : ℕ × List ℕ → Type 0 = λ y. HasHops None y.0 × (bytes ≡ hops_octets None y.0 ++ y.1) in
    let both : P (0, bytes) = (refl, refl) in
    subst P (same_Some (0, bytes) x e) both
hops_take (Some place) [] x e = absurd (none-some x e)
hops_take (Some place) (octet ∷ bytes) x e =
    let P : ℕ × List ℕ → Type 0 = λ y. HasHops (Some place) y.0 × (octet ∷ bytes ≡ hops_octets (Some place) y.0 ++ y.1) in
    let both : P (octet, bytes) = (tt, refl) in
    subst P (same_Some (octet, bytes) x e) both

-- a bit as a number
bit_is : (x : ℕ) → x < 2 → from_bool (eqb x 1) ≡ x
bit_is zero lt = refl
bit_is (suc zero) lt = refl
bit_is (suc (suc x)) lt = absurd (omega arith)

-- the control octet is the sum of its bits
control_is : (c : ℕ) (d s : Bool) → c < 256 → d ≡ bit c 5 → s ≡ bit c 3
    → c ≡ 128 * from_bool (bit c 7) + 32 * from_bool d + 8 * from_bool s + 4 * from_bool (bit c 2) + c % 4 + 64 * from_bool (bit c 6) + 16 * from_bool (bit c 4)
control_is c d s lt dest source =
    let b7 = bit_is ((c / 2 ^ 7) % 2) (omega arith) in
    let b6 = bit_is ((c / 2 ^ 6) % 2) (omega arith) in
    let b5 = bit_is ((c / 2 ^ 5) % 2) (omega arith) in
    let b4 = bit_is ((c / 2 ^ 4) % 2) (omega arith) in
    let b3 = bit_is ((c / 2 ^ 3) % 2) (omega arith) in
    let b2 = bit_is ((c / 2 ^ 2) % 2) (omega arith) in
    rw (dest, source) (omega (arith, b7, b6, b5, b4, b3, b2))

abbrev header_with : ℕ → Option Place → Option Place → ℕ → Header
header_with c dest source hops = record { network = bit c 7; reply = bit c 2; priority = c % 4; dest = dest; source = source; hops = hops }

-- what a header that was read is
pub record IsRead (bytes : List ℕ) (h : Header) (rest : List ℕ) : Type 0 where
  pub control : ℕ
  pub valid : IsHeader h
  pub said : IsControl h control
  pub parts : bytes ≡ header_encoding control h ++ rest

header_read : (control : ℕ) (bytes : List ℕ) (x : Header × List ℕ) → control < 256 → IsBytes bytes
    → (maybe_place_at (bit control 5) bytes >>= λ dest. maybe_place_at (bit control 3) dest.1 >>= λ source. hops_at (bit control 5) source.1 >>= λ hops. Some (header_with control dest.0 source.0 hops.0, hops.1)) ≡ Some x
    → IsRead (1 ∷ control ∷ bytes) x.0 x.1
header_read control bytes x small o e =
    let d = bind_some (maybe_place_at (bit control 5) bytes) _ x e in
    let dest = place_takes (bit control 5) bytes d.0 o d.1 in
    let s = bind_some (maybe_place_at (bit control 3) d.0.1) _ x d.2 in
    let source = place_takes (bit control 3) d.0.1 s.0 dest.3 s.1 in
    let h = bind_some (hops_at (bit control 5) s.0.1) _ x s.2 in
    let hops = hops_take d.0.0 s.0.1 h.0 (subst (λ (b : Bool). hops_at b s.0.1 ≡ Some h.0) (sym dest.1) h.1) in
    let P : Header × List ℕ → Type 0 = λ y. IsRead (1 ∷ control ∷ bytes) y.0 y.1 in
    let joined : bytes ≡ (place_octets d.0.0 ++ (place_octets s.0.0 ++ hops_octets d.0.0 h.0.0)) ++ h.0.1 =
    dest.2 ∙ (ap (λ l. place_octets d.0.0 ++ l) (source.2 ∙ (ap (λ l. place_octets s.0.0 ++ l) hops.1 ∙ sym (append_assoc (place_octets s.0.0) (hops_octets d.0.0 h.0.0) h.0.1))) ∙ sym (append_assoc (place_octets d.0.0) (place_octets s.0.0 ++ hops_octets d.0.0 h.0.0) h.0.1)) in
    let read : P (header_with control d.0.0 s.0.0 h.0.0, h.0.1) = record {
      control = control;
      valid = (omega arith, dest.0, source.0, hops.0);
      said = (bit control 6, bit control 4, control_is control (is_there d.0.0) (is_there s.0.0) small dest.1 source.1);
      parts = ap (λ l. 1 ∷ control ∷ l) joined;
    } in
    subst P (same_Some (header_with control d.0.0 s.0.0 h.0.0, h.0.1) x h.2) read

version_is : (version : ℕ) (bytes : List ℕ) (x : Header × List ℕ) → version ≡ 1 → IsRead (1 ∷ bytes) x.0 x.1 → IsRead (version ∷ bytes) x.0 x.1
version_is version bytes x e r = rw e r

pub header_takes : (bytes : List ℕ) (x : Header × List ℕ) → IsBytes bytes → header_at bytes ≡ Some x → IsRead bytes x.0 x.1
unfolding header_at
header_takes [] x o e = absurd (none-some x e)
header_takes (version ∷ []) x o e = absurd (none-some x (want_some (eqb version 1) None x e).1)
header_takes (version ∷ control ∷ bytes) x o e =
    let t = want_some (eqb version 1) _ x e in
    version_is version (control ∷ bytes) x (eqb-true _ _ t.0) (header_read control bytes x (o 1) (λ i. o (suc (suc i))) t.1)

control_says : (n d s r x y : Bool) (p c : ℕ) → p < 4 → c ≡ 128 * from_bool n + 32 * from_bool d + 8 * from_bool s + 4 * from_bool r + p + 64 * from_bool x + 16 * from_bool y
    → (bit c 7 ≡ n) × (bit c 5 ≡ d) × (bit c 3 ≡ s) × (bit c 2 ≡ r) × (c % 4 ≡ p)
control_says n d s r x y p c lt e =
    let ln = flag_small n in let ld = flag_small d in let ls = flag_small s in let lr = flag_small r in let lx = flag_small x in let ly = flag_small y in
    (flag_is ((c / 2 ^ 7) % 2) n (omega arith), flag_is ((c / 2 ^ 5) % 2) d (omega arith), flag_is ((c / 2 ^ 3) % 2) s (omega arith), flag_is ((c / 2 ^ 2) % 2) r (omega arith), omega arith)

pub header_again : (h : Header) (control : ℕ) (rest : List ℕ) → IsHeader h → IsControl h control → header_at (header_encoding control h ++ rest) ≡ Some (h, rest)
unfolding header_at
header_again h control rest valid said =
    let c = control_says h.network (is_there h.dest) (is_there h.source) h.reply said.0 said.1 h.priority control valid.0 said.2 in
    let hops = hops_again h.dest h.hops rest valid.3 in
    let source : maybe_place_at (is_there h.source) ((place_octets h.source ++ hops_octets h.dest h.hops) ++ rest) ≡ Some (h.source, hops_octets h.dest h.hops ++ rest) = rw (append_assoc (place_octets h.source) (hops_octets h.dest h.hops) rest) (maybe_again h.source (hops_octets h.dest h.hops ++ rest) valid.2) in
    let dest : maybe_place_at (is_there h.dest) ((place_octets h.dest ++ (place_octets h.source ++ hops_octets h.dest h.hops)) ++ rest) ≡ Some (h.dest, (place_octets h.source ++ hops_octets h.dest h.hops) ++ rest) =
    rw (append_assoc (place_octets h.dest) (place_octets h.source ++ hops_octets h.dest h.hops) rest) (maybe_again h.dest ((place_octets h.source ++ hops_octets h.dest h.hops) ++ rest) valid.1) in
    rw (c.0, c.1, c.2, c.3, c.4, dest, source, hops) refl

-- what is written has the reserved bits clear
pub control_written : (h : Header) → IsControl h (control_of h)
control_written h = (false, false, omega arith)
