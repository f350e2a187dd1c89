-- What is noticed of a device beside its answers changes nothing else of it.
use Rattle.std.proofs.Common.{◌≡◌, ◌+◌, ℕ, Bool, true, false, length, List, [], ◌∷◌, All, map, refl, arith}
use Rattle.std.proofs.lemmas.List.{length-map}
use Rattle.std.proofs.lemmas.List.Elements.{All-map, All-weaker}
use Rattle.std.proofs.lemmas.List.Sums.{sum_by-cons}
use Rattle.std.specs.List.{sum_by}
use Rattle.bac_site_poller.specs.Seat.{noticed}
use Rattle.bac_site_poller.specs.Site.{heeded}
use Rattle.bac_site_poller.specs.declared.seat.Seat.{Seat}

pub all_heeded : (P : Seat → Type 0) (from datagram : List ℕ) → ((s : Seat) → P s → P (noticed from datagram s)) → (known : Bool) (seats : List Seat) → All P seats → All P (heeded known from datagram seats)
all_heeded P from datagram one true seats all = all
all_heeded P from datagram one false seats all =
    All-map P (noticed from datagram) seats (All-weaker P (λ s. P (noticed from datagram s)) one seats all)

mapped_sum : (f : Seat → ℕ) (g : Seat → Seat) → ((s : Seat) → f (g s) ≡ f s) → (seats : List Seat) → sum_by f (map g seats) ≡ sum_by f seats
mapped_sum f g same [] = refl
mapped_sum f g same (s ∷ seats) = omega (arith, same s, mapped_sum f g same seats, sum_by-cons f s seats, sum_by-cons f (g s) (map g seats))

pub sum_heeded : (f : Seat → ℕ) (from datagram : List ℕ) → ((s : Seat) → f (noticed from datagram s) ≡ f s) → (known : Bool) (seats : List Seat) → sum_by f (heeded known from datagram seats) ≡ sum_by f seats
sum_heeded f from datagram same true seats = refl
sum_heeded f from datagram same false seats = mapped_sum f (noticed from datagram) same seats

pub length_heeded : (from datagram : List ℕ) (known : Bool) (seats : List Seat) → length (heeded known from datagram seats) ≡ length seats
length_heeded from datagram true seats = refl
length_heeded from datagram false seats = length-map seats (noticed from datagram)
