-- An APDU of at most 1495 octets fits a datagram.
use Rattle.std.proofs.Common.{◌≡◌, ℕ, ◌+◌, ◌<◌, ◌≤◌, List, [], ◌++◌, length, refl, ap, ◌∙◌, length-append, arith}
use Rattle.bac_apdu.specs.Apdu.{apdu_of, apdu_octets}
use Rattle.bac_apdu.specs.Frame.{frame_octets}
use Rattle.bac_apdu.specs.Npdu.{Header, header_octets}
use Rattle.bac_encoding_tests.specs.Passage.{header_with}
use Rattle.bac_encoding_tests.proofs.passage.sent.Goals as goal

too_long : (h : Header) (apdu octets old : List ℕ) → ((body : List ℕ) → length (frame_octets body) ≡ 4 + length body) → length (header_octets h) ≡ 2 → octets ≡ apdu → length apdu ≤ 1495 → old ≡ [] → 1501 < length old + length (frame_octets (header_octets h ++ octets)) → ⊥
too_long h apdu octets old size two same short empty long =
    let body = size (header_octets h ++ octets) in
    let parts = length-append (header_octets h) octets in
    let octets_same = ap (λ (l : List ℕ). length l) same in
    let nothing = ap (λ (l : List ℕ). length l) empty in
    omega (arith, body, parts, two, octets_same, nothing, short, long)

pub unreachable-requires-in-Err-write_datagram : goal.unreachable-requires-in-Err-write_datagram
unreachable-requires-in-Err-write_datagram c =
    let h = header_with c.args.reply in
    let written = c.in-Ok.ensures {u = tt} in
    let full = c.in-Err-write_datagram.ensures {u = tt} in
    let same = c.octets.ensures.value ∙ (written.0 ∙ ap (λ (l : List ℕ). l ++ apdu_octets (apdu_of c.args.apdu.now)) c.new-octets.ensures) in
    too_long h (apdu_octets (apdu_of c.args.apdu.now)) c.octets.result.now c.new-datagram.result c.frames_have_a_size.ensures.frame (c.frames_have_a_size.ensures.header h refl refl) same c.requires.short c.new-datagram.ensures full.1
