-- What is asked for of a property.
use Rattle.std.proofs.Common.{arith}
use Rattle.bac_apdu.specs.declared.service.read_property.ReadProperty.{ReadProperty}
use Rattle.bac_apdu.proofs.Shorts.{property_short}
use Rattle.bac_link.specs.Requests.{IsTooLong, parameters_of, request_apdu}
use Rattle.bac_link.specs.declared.request.Request.TheVariants as request

-- a property is asked for in one request
pub property_fits : (p : ReadProperty) → IsTooLong (request.ReadProperty p) → ⊥
unfolding request_apdu parameters_of
property_fits p long = omega (arith, long, property_short p)
