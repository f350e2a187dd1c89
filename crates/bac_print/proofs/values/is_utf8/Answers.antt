use Rattle.std.proofs.Common.{◌≡◌, Bool, true, false, refl, sym}
use Rattle.std.specs.Str.{IsUtf8, is_utf8}
use Rattle.std.proofs.lemmas.Str.{IsUtf8-from_is_utf8, is_utf8-from_IsUtf8}
use Rattle.bac_print.proofs.values.is_utf8.Goals as goal

never : (b : Bool) (P : Type 0) → (b ≡ true → P) → (P → ⊥) → false ≡ b
never true P found not = absurd (not (found refl))
never false P found not = refl

pub returns-in-Ok : goal.returns-in-Ok
returns-in-Ok c = sym (is_utf8-from_IsUtf8 c.args.octets.now c.in-Ok.ensures.cases.1)

pub returns-in-Err : goal.returns-in-Err
returns-in-Err c = never (is_utf8 c.args.octets.now) (IsUtf8 c.args.octets.now) (IsUtf8-from_is_utf8 c.args.octets.now) c.in-Err.ensures.cases.0
