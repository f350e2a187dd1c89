use Rattle.std.proofs.Common.{◌<◌, ◌≡◌, ◌%◌, ℕ, List, length, drop, get_or}
use Rattle.std.proofs.lemmas.List.{take_rest}
use Rattle.bac_wire.proofs.Looks.{datum_passed}
use Rattle.bac_wire.proofs.level.datum_len.Goals as goal

pub returns-else-rest-len-ne31 : goal.returns-else-rest-len-ne31
returns-else-rest-len-ne31 c =
    let l : List ℕ = c.args.bytes.now in
    let len : ℕ = get_or l 1 0 % 8 in
    let within : len < length (drop 2 l) = rw (take_rest l 2) at c.if-len-rest.false in
    let closes : get_or (drop 2 l) len 0 ≡ 31 = rw (take_rest l 2) at c.if-rest-len-ne31.false in
    datum_passed l c.in-len2-up.len_at_least c.if-open-ne30.false c.if-head-eq0.false c.if-head-ge240.false c.if-len-gt4.false within closes
