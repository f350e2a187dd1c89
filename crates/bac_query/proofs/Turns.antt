-- One address more, and one receive more.
use Rattle.std.proofs.Common.{◌≡◌, ◌≤◌, ◌<◌, ◌+◌, ◌-◌, ℕ, suc, inl, inr, List, length, drop, get_or, refl, arith}
use Rattle.std.proofs.lemmas.List.{drop_more}
use Rattle.bac_query.specs.Finding.{GoesOn, Settles, Turns, asked}
use Rattle.bac_query.specs.Hearing.{Hears, IsHeard, Left, PortRules, Standing, Stays, searching}
use Rattle.bac_ports.specs.Port.{Receiving, Sending}
use Rattle.std.proofs.Common.{Ok}

pub asks_once : {P : Type 0} (rules : PortRules P) (octets : List ℕ) (addresses : List (List ℕ)) (index : ℕ) (default : List ℕ)
    (limit : ℕ) (port mid next after : P) (sent : Sending) (old then new : Standing) (settled result : Left) → index < length addresses →
    rules.sends port octets (get_or addresses index default) sent mid →
    Settles rules limit (searching mid (asked (get_or addresses index default) sent old)) settled (searching next then) →
    GoesOn settled (searching next then) result (searching after new) (λ left. Turns rules octets (drop (index + 1) addresses) left (searching next then) result (searching after new)) →
    Turns rules octets (drop index addresses) limit (searching port old) result (searching after new)
unfolding Turns
asks_once rules octets addresses index default limit port mid next after sent old then new settled result below asks settles rest =
    rw (drop_more addresses index default below) (sent, mid, asks, (settled, next, then, settles, rest))

pub hears_once : {P : Type 0} (receive : P → Receiving → P → Type 0) (least limit received : ℕ) (port mid after : P)
    (old new : Standing) (heard : Receiving) (result : Left) → received < limit → least ≤ length old.pending → receive port heard mid →
    IsHeard (limit - received) heard (searching mid old) result (searching after new) (λ now. Hears receive least (limit - (received + 1)) (searching mid now) result (searching after new)) →
    Hears receive least (limit - received) (searching port old) result (searching after new)
unfolding Hears
hears_once receive least limit received port mid after old new heard result below pending came rest =
    let e : limit - received ≡ suc (limit - (received + 1)) = omega arith in
    rw e (inr (pending, (heard, mid, came, rw (← e) rest)))

pub hears_no_more : {P : Type 0} (receive : P → Receiving → P → Type 0) (least limit received : ℕ) (port after : P)
    (old new : Standing) (result : Left) → received < limit → length old.pending < least →
    Stays (Ok (limit - received)) (searching port old) result (searching after new) →
    Hears receive least (limit - received) (searching port old) result (searching after new)
unfolding Hears
hears_no_more receive least limit received port after old new result below few stays =
    let e : limit - received ≡ suc (limit - (received + 1)) = omega arith in
    rw e (inl (few, rw (← e) stays))

pub hears_all : {P : Type 0} (receive : P → Receiving → P → Type 0) (least left : ℕ) (port : P) (old : Standing) → left ≡ 0 →
    Hears receive least left (searching port old) (Ok 0) (searching port old)
unfolding Hears
hears_all receive least left port old e = rw e (refl, refl, refl)
