-- What a device is between two calls.
use Rattle.std.specs.Prelude.{ℕ, ◌==◌, ◌&&◌, Bool, List}
use Rattle.bac_wire.specs.Primitive.{Id}
use Rattle.bac_wire.specs.Stamp.{CivilTime}
use Rattle.bac_objects.specs.declared.object.Object.{Object}

-- a device: what its own object says of it, its clock, and its other objects
pub record State : Type 0 where
  -- the number of its identifier, its name in octets, and the number of its vendor
  pub instance : ℕ
  pub name : List ℕ
  pub vendor : ℕ
  -- the greatest number of octets of an APDU that it takes and sends
  pub reply_size : ℕ
  -- where its clock began, and what it shows
  pub origin : CivilTime
  pub clock : CivilTime
  -- its objects, in the order of their lines and without itself
  pub objects : List (Id × Object)

-- the same identifier, as a key is compared
abbrev pub is_id : Id → Id → Bool
is_id a b = (a.kind == b.kind) && (a.instance == b.instance)
