-- Where no send of a search was refused, each of its turns was taken.
use Rattle.std.proofs.Common.{◌≡◌, ◌&&◌, inl, inr, ℕ, zero, suc, Bool, true, false, List, [], ◌∷◌, Option, None, Some, Ok, Err, refl, sym, ap, ◌∙◌}
use Rattle.std.proofs.Math.Bool.{and-true}
use Rattle.std.proofs.lemmas.Bool.{and_parts}
use Rattle.bac_ports.specs.Port.{Receiving, Sending}
use Rattle.bac_ports.specs.declared.port.SocketFault.TheVariants.{Timeout, Failed}
use Rattle.bac_query.proofs.Told.{seeks_told}
use Rattle.bac_query.specs.Finding.{Seeks, Settles, Turns, asked}
use Rattle.bac_query.specs.Hearing.{Hears, Left, PortRules, ReceivesBy, Standing, port_rules, refused_by, searching}
use Rattle.bac_query.specs.Turns.{Along, ComesTo, Received, Sent, Turn}

-- each request went out
abbrev pub AllTaken : List Turn → Type 0
AllTaken [] = Unit {0}
AllTaken (Sent address (Ok done) ∷ turns) = AllTaken turns
AllTaken (Sent address (Err fault) ∷ turns) = ⊥
AllTaken (Received wait heard ∷ turns) = AllTaken turns

abbrev is_taken : Sending → Bool
is_taken (Ok done) = true
is_taken (Err fault) = false

unrefused : (before : Option (List ℕ)) (sent : Sending) (address : List ℕ) → refused_by before sent address ≡ None → (before ≡ None) × (is_taken sent ≡ true)
unrefused (Some first) sent address is = absurd (let e : Some first ≡ None = is in cc)
unrefused None (Ok done) address is = (refl, refl)
unrefused None (Err fault) address is = absurd (let e : Some address ≡ None = is in cc)

still : (b : Bool) (sent : Sending) → is_taken sent ≡ true → (b && is_taken sent) ≡ b
still b sent is = ap (λ c. b && c) is ∙ and-true b

module _ {P : Type 0} (rules : PortRules P) where
  -- a port, and beside it whether each send was taken
  abbrev marked : PortRules (P × Bool)
  marked = port_rules
      (λ old octets to sent new. rules.sends old.0 octets to sent new.0 × (new.1 ≡ (old.1 && is_taken sent)))
      (λ old heard new. rules.receives old.0 heard new.0 × (new.1 ≡ old.1))
      (λ old wait heard new. rules.receives_within old.0 wait heard new.0 × (new.1 ≡ old.1))

  receives_so : (wait : Option ℕ) (b : Bool) (port : P) (heard : Receiving) (new : P) → ReceivesBy rules wait port heard new
      → ReceivesBy marked wait (port, b) heard (new, b)
  receives_so None b port heard new is = (is, refl)
  receives_so (Some ms) b port heard new is = (is, refl)

  hears_so : (wait : Option ℕ) (least limit : ℕ) (port after : P) (b : Bool) (old new : Standing) (result : Left)
      → Hears (ReceivesBy rules wait) least limit (searching port old) result (searching after new)
      → Hears (ReceivesBy marked wait) least limit (searching (port, b) old) result (searching (after, b) new) × (new.refused ≡ old.refused)
  unfolding Hears
  hears_so wait least zero port after b old new result (e, same, kept) =
      ((e, ap (λ (p : P). (p, b)) same, kept), ap (λ (s : Standing). s.refused) kept)
  hears_so wait least (suc limit) port after b old new result (inl (few, (e, same, kept))) =
      (inl (few, (e, ap (λ (p : P). (p, b)) same, kept)), ap (λ (s : Standing). s.refused) kept)
  hears_so wait least (suc limit) port after b old new result (inr (many, (Err Timeout, mid, got, (e, same, kept)))) =
      (inr (many, (Err Timeout, (mid, b), receives_so wait b port (Err Timeout) mid got, (e, ap (λ (p : P). (p, b)) same, kept))), ap (λ (s : Standing). s.refused) kept)
  hears_so wait least (suc limit) port after b old new result (inr (many, (Err Failed, mid, got, (e, same, kept)))) =
      (inr (many, (Err Failed, (mid, b), receives_so wait b port (Err Failed) mid got, (e, ap (λ (p : P). (p, b)) same, kept))), ap (λ (s : Standing). s.refused) kept)
  hears_so wait least (suc limit) port after b old new result (inr (many, (Ok heard, mid, got, (Err fault, then, (shows, pend, taken, ref), (e, same, kept))))) = (
    inr (many, (Ok heard, (mid, b), receives_so wait b port (Ok heard) mid got, (Err fault, then, (shows, pend, taken, ref), (e, ap (λ (p : P). (p, b)) same, kept)))),
    ap (λ (s : Standing). s.refused) kept ∙ ref,
  )
  hears_so wait least (suc limit) port after b old new result (inr (many, (Ok heard, mid, got, (Ok shown, then, (shows, pend, taken, ref), more)))) =
      let rest = hears_so wait least limit mid after b then new result more in (
        inr (many, (Ok heard, (mid, b), receives_so wait b port (Ok heard) mid got, (Ok shown, then, (shows, pend, taken, ref), rest.0))),
        rest.1 ∙ ref,
      )

  settles_so : (limit : ℕ) (port after : P) (b : Bool) (old new : Standing) (result : Left) → Settles rules limit (searching port old) result (searching after new)
      → Settles marked limit (searching (port, b) old) result (searching (after, b) new) × (new.refused ≡ old.refused)
  settles_so limit port after b old new result (Err fault, mid, then, hears, (e, same, kept)) =
      let it = hears_so (Some 0) 0 limit port mid b old then (Err fault) hears in
      ((Err fault, (mid, b), then, it.0, (e, ap (λ (p : P). (p, b)) same, kept)), ap (λ (s : Standing). s.refused) kept ∙ it.1)
  settles_so limit port after b old new result (Ok left, mid, then, hears, (Err fault, late, last, waits, (e, same, kept))) =
      let it = hears_so (Some 0) 0 limit port mid b old then (Ok left) hears in
      let more = hears_so (Some 100) 100 left mid late b then last (Err fault) waits in (
        (Ok left, (mid, b), then, it.0, (Err fault, (late, b), last, more.0, (e, ap (λ (p : P). (p, b)) same, kept))),
        ap (λ (s : Standing). s.refused) kept ∙ more.1 ∙ it.1,
      )
  settles_so limit port after b old new result (Ok left, mid, then, hears, (Ok rest, late, last, waits, (e, same, kept))) =
      let it = hears_so (Some 0) 0 limit port mid b old then (Ok left) hears in
      let more = hears_so (Some 100) 100 left mid late b then last (Ok rest) waits in (
        (Ok left, (mid, b), then, it.0, (Ok rest, (late, b), last, more.0, (e, ap (λ (p : P). (p, b)) same, kept))),
        ap (λ (s : Standing). s.refused) kept ∙ more.1 ∙ it.1,
      )

  turns_so : (octets : List ℕ) (addresses : List (List ℕ)) (limit : ℕ) (port after : P) (b : Bool) (old new : Standing) (result : Left)
      → Turns rules octets addresses limit (searching port old) result (searching after new)
      → (c : Bool) × Turns marked octets addresses limit (searching (port, b) old) result (searching (after, c) new)
      × (new.refused ≡ None → (old.refused ≡ None) × (c ≡ b))
  unfolding Turns
  turns_so octets [] limit port after b old new result (e, same, kept) = (
    b,
    (e, ap (λ (p : P). (p, b)) same, kept),
    λ none. (sym (ap (λ (s : Standing). s.refused) kept) ∙ none, refl),
  )
  turns_so octets (address ∷ addresses) limit port after b old new result (sent, mid, did, (Err fault, next, then, settles, (e, same, kept))) =
      let c = b && is_taken sent in
      let it = settles_so limit mid next c (asked address sent old) then (Err fault) settles in (
        c,
        (sent, (mid, c), (did, refl), (Err fault, (next, c), then, it.0, (e, ap (λ (p : P). (p, c)) same, kept))),
        λ none. let was = unrefused old.refused sent address (sym it.1 ∙ sym (ap (λ (s : Standing). s.refused) kept) ∙ none) in
            (was.0, still b sent was.1),
      )
  turns_so octets (address ∷ addresses) limit port after b old new result (sent, mid, did, (Ok left, next, then, settles, more)) =
      let c = b && is_taken sent in
      let it = settles_so limit mid next c (asked address sent old) then (Ok left) settles in
      let (d, turns, says) = turns_so octets addresses left next after c then new result more in (
        d,
        (sent, (mid, c), (did, refl), (Ok left, (next, c), then, it.0, turns)),
        λ none. let rest = says none in
            let was = unrefused old.refused sent address (sym it.1 ∙ rest.0) in
            (was.0, rest.1 ∙ still b sent was.1),
      )

  seeks_so : (octets : List ℕ) (addresses : List (List ℕ)) (limit : ℕ) (port after : P) (old new : Standing) (result : Left)
      → Seeks rules octets addresses limit (searching port old) result (searching after new)
      → (c : Bool) × Seeks marked octets addresses limit (searching (port, true) old) result (searching (after, c) new) × (new.refused ≡ None → c ≡ true)
  seeks_so octets addresses limit port after old new result (Err fault, mid, then, turns, (e, same, kept)) =
      let (c, it, says) = turns_so octets addresses limit port mid true old then (Err fault) turns in (
        c,
        (Err fault, (mid, c), then, it, (e, ap (λ (p : P). (p, c)) same, kept)),
        λ none. (says (sym (ap (λ (s : Standing). s.refused) kept) ∙ none)).1,
      )
  seeks_so octets addresses limit port after old new result (Ok left, mid, then, turns, hears) =
      let (c, it, says) = turns_so octets addresses limit port mid true old then (Ok left) turns in
      let more = hears_so None 0 left mid after c then new result hears in (
        c,
        (Ok left, (mid, c), then, it, more.0),
        λ none. (says (sym more.1 ∙ none)).1,
      )

  plain : (octets : List ℕ) (turns : List Turn) (x y : P × Bool) → Along marked octets turns x y → Along rules octets turns x.0 y.0
  plain octets [] x y same = ap (λ (z : P × Bool). z.0) same
  plain octets (Sent address sent ∷ turns) x y (mid, did, rest) = (mid.0, did.0, plain octets turns mid y rest)
  plain octets (Received None heard ∷ turns) x y (mid, did, rest) = (mid.0, did.0, plain octets turns mid y rest)
  plain octets (Received (Some ms) heard ∷ turns) x y (mid, did, rest) = (mid.0, did.0, plain octets turns mid y rest)

  all_taken : (octets : List ℕ) (turns : List Turn) (x y : P × Bool) → Along marked octets turns x y → y.1 ≡ true → (x.1 ≡ true) × AllTaken turns
  all_taken octets [] x y same last = (sym (ap (λ (z : P × Bool). z.1) same) ∙ last, tt)
  all_taken octets (Sent address (Ok done) ∷ turns) x y (mid, did, rest) last =
      let it = all_taken octets turns mid y rest last in ((and_parts x.1 true (sym did.1 ∙ it.0)).0, it.1)
  all_taken octets (Sent address (Err fault) ∷ turns) x y (mid, did, rest) last =
      let it = all_taken octets turns mid y rest last in
      absurd (let e : false ≡ true = (and_parts x.1 false (sym did.1 ∙ it.0)).1 in cc)
  all_taken octets (Received None heard ∷ turns) x y (mid, did, rest) last =
      let it = all_taken octets turns mid y rest last in (sym did.1 ∙ it.0, it.1)
  all_taken octets (Received (Some ms) heard ∷ turns) x y (mid, did, rest) last =
      let it = all_taken octets turns mid y rest last in (sym did.1 ∙ it.0, it.1)

  -- the turns of a search, what they come to, and that each was taken if no send was refused
  pub seeks_taken : (octets : List ℕ) (addresses : List (List ℕ)) (limit : ℕ) (port after : P) (old new : Standing) (result : Left)
      → Seeks rules octets addresses limit (searching port old) result (searching after new)
      → (turns : List Turn) × Along rules octets turns port after × ComesTo limit addresses turns old result new
      × (new.refused ≡ None → AllTaken turns)
  seeks_taken octets addresses limit port after old new result seeks =
      let (c, so, says) = seeks_so octets addresses limit port after old new result seeks in
      let (turns, along, comes) = seeks_told marked octets addresses limit (port, true) (after, c) old new result so in (
        turns,
        plain octets turns (port, true) (after, c) along,
        comes,
        λ none. (all_taken octets turns (port, true) (after, c) along (says none)).1,
      )
