use Rattle.std.proofs.Common.{◌≡◌, ◌∙◌, Bool, true, false, List, ℕ, if◌then◌else◌, refl, sym, ap}
use Rattle.std.specs.Str.{IsUtf8, is_utf8}
use Rattle.std.proofs.lemmas.Str.{IsUtf8-from_is_utf8, is_utf8-from_IsUtf8}
use Rattle.sqlite_value.specs.declared.value.Value.{Value}
use Rattle.sqlite_value.specs.declared.value.Value.TheVariants.{Null, Text}
use Rattle.bac_device_poller.specs.Rows.{text_value}
use Rattle.bac_device_poller.proofs.texts.text_in.Goals as goal

-- octets that are UTF-8, and others
text : (octets : List ℕ) → IsUtf8 octets → Text octets ≡ text_value octets
text octets is = sym (ap (λ (b : Bool). if b then Text octets else Null) (is_utf8-from_IsUtf8 octets is))

none_of : (octets : List ℕ) (b : Bool) → (b ≡ true → IsUtf8 octets) → (IsUtf8 octets → ⊥) → Null ≡ (if b then Text octets else Null)
none_of octets true found not = absurd (not (found refl))
none_of octets false found not = refl

pub returns-in_ok-from_str-in-Ok : goal.returns-in_ok-from_str-in-Ok
returns-in_ok-from_str-in-Ok c =
    ap (λ (octets : List ℕ). Text octets) (c.in_ok-from_str-in-Ok.ensures.ok ∙ c.in-Ok.ensures.cases.0)
    ∙ text c.args.octets.now c.in-Ok.ensures.cases.1

pub returns-in-Err : goal.returns-in-Err
returns-in-Err c =
    none_of c.args.octets.now (is_utf8 c.args.octets.now) (IsUtf8-from_is_utf8 c.args.octets.now) c.in-Err.ensures.cases.0
