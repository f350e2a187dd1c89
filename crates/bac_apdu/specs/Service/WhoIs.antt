-- Who-Is (clauses 16.10 and 21): its parameters, and what a request shows of its fields.
use Rattle.std.specs.Prelude.{ℕ, ◌≤◌, Bool, false, nat_le, List, [], ◌∷◌, Option, Some, None}
use Rattle.bac_wire.specs.Primitive.{Primitive, Unsigned}
use Rattle.bac_apdu.specs.declared.service.who_is.WhoIs.{WhoIs}
use Rattle.bac_apdu.specs.Form.{Form, end, row, nothing_or, context, unsigned, Parameter, Value}
use Rattle.std.specs.Option.{option_map}
use Rattle.std.specs.Result.{result_ok}
use Rattle.bac_apdu.specs.FormReading.{form_at}
use Rattle.bac_apdu.specs.Fields.{parameter_at, number_in}

-- an instance number: at most 4194303
abbrev pub is_instance : Primitive → Bool
is_instance (Unsigned n) = nat_le n 4194303
is_instance value = false

-- no parameter at all, or both
abbrev pub who_is : Form
who_is = nothing_or
    (row (context 0 unsigned is_instance)  -- device instance range, low limit
    (row (context 1 unsigned is_instance)  -- and high limit
    end))

-- low and high limit as parameters, or none
abbrev pub limit_parameters : Option (ℕ × ℕ) → List Parameter
limit_parameters None = []
limit_parameters (Some limits) = Value (Unsigned limits.0) ∷ Value (Unsigned limits.1) ∷ []

-- a request as parameters
abbrev pub who_is_parameters : WhoIs → List Parameter
who_is_parameters w = limit_parameters w.limits

-- both are instance numbers
abbrev pub AreLimits : Option (ℕ × ℕ) → Type 0
AreLimits None = Unit {0}
AreLimits (Some limits) = (limits.0 ≤ 4194303) × (limits.1 ≤ 4194303)

-- ---- with named fields

-- the two limits, if both are there
abbrev pub both : Option ℕ → Option ℕ → Option (ℕ × ℕ)
both (Some low) (Some high) = Some (low, high)
both low high = None

-- the request that these parameters are
abbrev pub who_is_in : List Parameter → WhoIs
who_is_in parameters =
    record { limits = both (number_in (parameter_at 0 parameters)) (number_in (parameter_at 1 parameters)) }

-- the request that parameters are the encoding of
unfoldable pub who_is_at : List ℕ → Option WhoIs
who_is_at bytes = option_map who_is_in (result_ok (form_at who_is bytes))
