use Rattle.std.proofs.Common.{◌∙◌, ℕ, List, length, ap, refl, arith, rules}
use Rattle.std.proofs.lemmas.List.{length-append}
use Rattle.std.proofs.lemmas.Bool.{false≢true}
use Rattle.bac_apdu.specs.Npdu.{maybe_place_of}
use Rattle.bac_link.specs.Requests.{request_apdu}
use Rattle.bac_link.proofs.Datagrams.{begun_short, heads_fit, same_size}
use Rattle.bac_link.proofs.request.write_request.Goals as goal

pub unreachable-requires : goal.unreachable-requires
unreachable-requires c = let e = c.in-Err.ensures {u = tt} in
    omega (arith, e.1, ap (λ (l : List ℕ). length l) c.cut.ensures, heads_fit (maybe_place_of c.args.dest) c.hops_to.result c.requires.way)

pub returns-in_err-add_apdu-clause-full : goal.returns-in_err-add_apdu-clause-full
returns-in_err-add_apdu-clause-full c =
    let short = begun_short (maybe_place_of c.args.dest) c.hops_to.result c.cut.new.self c.begin_datagram.new.out c.requires.way c.cut.ensures (c.in-Ok.ensures {u = tt}).0 in
    let none = (c.in_err-add_apdu.ensures {u = tt}).1 in
    (λ e. omega (arith, short, none, same_size c.args.invoke c.args.request.now), λ large. search rules)

pub returns-then-octets-heads-gt-MAX_APDU-clause-full : goal.returns-then-octets-heads-gt-MAX_APDU-clause-full
returns-then-octets-heads-gt-MAX_APDU-clause-full c =
    let apdu : List ℕ = request_apdu c.args.invoke c.args.request.now in
    let sum = ap (λ (l : List ℕ). length l) (c.octets.ensures.value ∙ (c.in_ok-add_apdu.ensures {u = tt})) ∙ length-append c.begin_datagram.new.out apdu in
    let heads = ap (λ (l : List ℕ). length l) c.octets-heads.ensures.value in
    (λ e. omega (arith, sum, heads, c.if-octets-heads-gt-MAX_APDU.true, same_size c.args.invoke c.args.request.now), λ large. refl)

pub returns-clause-full : goal.returns-clause-full
returns-clause-full c =
    let apdu : List ℕ = request_apdu c.args.invoke c.args.request.now in
    let sum = ap (λ (l : List ℕ). length l) (c.octets.ensures.value ∙ (c.in_ok-add_apdu.ensures {u = tt})) ∙ length-append c.begin_datagram.new.out apdu in
    let heads = ap (λ (l : List ℕ). length l) c.octets-heads.ensures.value in
    (λ e. absurd (false≢true e), λ large. absurd (omega (arith, sum, heads, c.if-octets-heads-gt-MAX_APDU.false, same_size c.args.invoke c.args.request.now, large)))
