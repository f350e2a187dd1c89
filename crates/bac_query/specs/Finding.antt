-- How devices are found, over any port and any writer. Read from the end. What was stands before the answer, and what
-- is afterwards stands behind it.
use Rattle.std.specs.Prelude.{◌≡◌, ℕ, Bool, true, false, List, [], ◌∷◌, Option}
use Rattle.std.specs.Prelude.{Some, None, Ok, Err}
use Rattle.bac_query.specs.Hearing.{Found, Held, Hears, Left, PortRules, ReceivesBy, Searching, Standing, Stays}
use Rattle.bac_query.specs.Hearing.{given_up, pending_with, refused_by, searching}
use Rattle.bac_query.specs.Requests.{who_is_octets}
use Rattle.bac_query.specs.Turns.{Tells}
use Rattle.bac_query.specs.declared.search.Search.{Search}
use Rattle.bac_query.specs.declared.find_fault.FindFault.TheVariants.{Refused, NoAnswer}
use Rattle.bac_ports.specs.Port.{Sending}

-- ---- behind a request

-- a fault is the end; else it goes on with what may come still
abbrev pub GoesOn : {P : Type 0} → Left → Searching P → Left → Searching P → (ℕ → Type 0) → Type 0
GoesOn (Err fault) old result new more = Stays (Err fault) old result new
GoesOn (Ok left) old result new more = more left

-- What already waits is taken. Then, where 100 addresses are pending, 100 milliseconds are waited at most for each
-- datagram until one of the addresses has answered; where none has, all count as silent.
abbrev pub Settles : {P : Type 0} → PortRules P → ℕ → Searching P → Left → Searching P → Type 0
Settles {P = P} rules limit old result new =
    (taken : Left) × (mid : P) × (then : Standing)
    × Hears (ReceivesBy rules (Some 0)) 0 limit old taken (searching mid then)
    × GoesOn taken (searching mid then) result new
    (λ left. (waited : Left) × (late : P) × (last : Standing)
    × Hears (ReceivesBy rules (Some 100)) 100 left (searching mid then) waited (searching late last)
    × GoesOn waited (searching late last) result new
    (λ rest. Stays (Ok rest) (searching late (record last { pending = given_up last.pending })) result new))

-- ---- the turns

-- the search once a request was sent to this address
abbrev pub asked : List ℕ → Sending → Standing → Standing
asked address sent old =
    record old { pending = pending_with old.pending address; refused = refused_by old.refused sent address }

-- A turn for each address in order: the octets go to it, and what is behind a request follows. A refused send leaves
-- the others.
unfoldable pub Turns : {P : Type 0} → PortRules P → List ℕ → List (List ℕ) → ℕ → Searching P → Left → Searching P
    → Type 0
Turns rules octets [] limit old result new = Stays (Ok limit) old result new
Turns {P = P} rules octets (address ∷ addresses) limit old result new =
    (sent : Sending) × (mid : P) × rules.sends old.port octets address sent mid
    × ((settled : Left) × (next : P) × (then : Standing)
    × Settles rules limit (searching mid (asked address sent old.standing)) settled (searching next then)
    × GoesOn settled (searching next then) result new
    (λ left. Turns rules octets addresses left (searching next then) result new))

-- all turns, and then the wait for what is still to come, up to a whole one in which nothing comes
abbrev pub Seeks : {P : Type 0} → PortRules P → List ℕ → List (List ℕ) → ℕ → Searching P → Left → Searching P → Type 0
Seeks {P = P} rules octets addresses limit old result new =
    (turned : Left) × (mid : P) × (then : Standing)
    × Turns rules octets addresses limit old turned (searching mid then)
    × GoesOn turned (searching mid then) result new
    (λ left. Hears (ReceivesBy rules None) 0 left (searching mid then) result new)

-- ---- the whole

-- what is told in the end: an address to which a send was refused, if nothing else failed
abbrev pub told_of : Left → Option (List ℕ) → Bool → Found
told_of (Err fault) refused taken = Err fault
told_of (Ok left) (Some address) taken = Err (Refused address)
told_of (Ok left) None true = Ok tt
told_of (Ok left) None false = Err NoAnswer

-- a port, and what a writer holds
pub record Console (P : Type 0) : Type 0 where
  pub port : P
  pub held : Held

-- the two together
abbrev pub console : {P : Type 0} → P → Held → Console P
console port held = record { port = port; held = held }

-- nothing was asked yet
abbrev pub unasked : Held → Standing
unasked held = record { held = held; pending = []; taken = false; refused = None }

-- The request goes to each address by turns, and so many datagrams are received at most. Beside what is done in which
-- order it says what that comes to.
abbrev pub Finds : {P : Type 0} → PortRules P → ℕ → Search → List (List ℕ) → Console P → Found → Console P → Type 0
Finds rules limit search addresses old result new =
    (sought : Left) × (then : Standing)
    × Seeks rules (who_is_octets search) addresses limit
    (searching old.port (unasked old.held)) sought (searching new.port then)
    × Tells rules (who_is_octets search) addresses limit
    (searching old.port (unasked old.held)) sought (searching new.port then)
    × (new.held ≡ then.held) × (result ≡ told_of sought then.refused then.taken)
