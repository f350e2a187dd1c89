-- A link over a socket: what it heard stands in each ledger, and what happened is told.
use Rattle.std.proofs.Common.{◌≡◌, ◌++◌, ◌&&◌, ℕ, zero, suc, Bool, true, false, List, [], Option, None, Some, Result, Ok, Err, refl, sym, subst, ap, ◌∙◌, if◌then◌else◌}
use Rattle.std.specs.Str.{bytes_eq}
use Rattle.std.proofs.lemmas.Slice.Eq.{bytes_eq-Decides}
use Rattle.bac_link.specs.Requests.{request_octets}
use Rattle.bac_laws.proofs.Asked.{Leads}
use Rattle.bac_laws.proofs.Came.{Any, Hears}
use Rattle.bac_laws.proofs.Captured.{asks_once, goes_on}
use Rattle.bac_laws.proofs.Exchange.{Runs}
use Rattle.bac_laws.specs.Printed.{Ledger}
use Rattle.bac_link.specs.Datagrams.{answers_to}
use Rattle.bac_link.specs.declared.link.Lost.{Lost}
use Rattle.bac_socket_notes.specs.Ports.{Event}
use Rattle.bac_ports.specs.Asking.{Asks, Awaits, IsSent, IsTaken, fitting, fitting_of, to_peer}
use Rattle.bac_ports.specs.Port.{Sending}
use Rattle.bac_ports.specs.Sockets.{SocketRules, socket_asks}
use Rattle.bac_ports.specs.declared.port.Heard.{Heard}

-- ---- what fits is from the peer

fits : (own answers : Bool) (came datagram : List ℕ) → (if own && answers then Some came else None) ≡ Some datagram
    → (own ≡ true) × (came ≡ datagram)
fits true true came datagram is = (refl, (let e : Some came ≡ Some datagram = is in cc))
fits true false came datagram is = absurd (let e : None ≡ Some datagram = is in cc)
fits false answers came datagram is = absurd (let e : None ≡ Some datagram = is in cc)

came_fits : (peer request : List ℕ) (heard : Heard) (found : Option (List ℕ)) (datagram : List ℕ) → heard.datagram ≡ found
    → fitting_of peer request heard.from found ≡ Some datagram → (heard.from ≡ peer) × (heard.datagram ≡ Some datagram)
came_fits peer request heard None datagram at is = absurd (let e : None ≡ Some datagram = is in cc)
came_fits peer request heard (Some came) datagram at is =
    let it = fits (bytes_eq heard.from peer) (answers_to request came) came datagram is in
    ((bytes_eq-Decides heard.from peer).0 it.0, at ∙ ap Some it.1)

-- ---- a ledger of a link

module _ {S P : Type 0} {rules : SocketRules S P} {changes : S → S → Type 0} (ledger : Ledger rules changes) where
  abbrev pub Keep : P → P → Type 0
  Keep old new = (from datagram : List ℕ) → ledger.port old from datagram ≡ true → ledger.port new from datagram ≡ true

  pub keep_same : (old new : P) → new ≡ old → Keep old new
  keep_same old new is = λ from datagram has. subst (λ (p : P). ledger.port p from datagram ≡ true) (sym is) has

  pub keep_taken : (found : Option (List ℕ)) (port : P) (result : Result (List ℕ) Lost) (new : P) (more : Type 0)
      → IsTaken found port result new more → (more → Keep port new) → Keep port new
  keep_taken None port result new more is rest = rest is
  keep_taken (Some datagram) port result new more is rest = keep_same port new is.1

  pub keep_awaits : (peer request : List ℕ) (n : ℕ) (old : P) (result : Result (List ℕ) Lost) (new : P)
      → Awaits rules.receives peer request n old result new → Keep old new
  unfolding Awaits
  keep_awaits peer request zero old result new is = keep_same old new is.1
  keep_awaits peer request (suc n) old result new (Err why, mid, receives, (lost, is)) =
      λ from datagram has. keep_same mid new is from datagram (ledger.receives old mid (Err why) from datagram has receives)
  keep_awaits peer request (suc n) old result new (Ok heard, mid, receives, is) =
      λ from datagram has. keep_taken (fitting peer request heard) mid result new (Awaits rules.receives peer request n mid result new) is
      (λ more. keep_awaits peer request n mid result new more) from datagram (ledger.receives old mid (Ok heard) from datagram has receives)

  pub keep_sent : (peer request : List ℕ) (limit : ℕ) (answer : Sending) (port : P) (result : Result (List ℕ) Lost) (new : P)
      → IsSent rules.receives (to_peer peer request) limit answer port result new → Keep port new
  keep_sent peer request limit (Err why) port result new is = keep_same port new is.1
  keep_sent peer request limit (Ok done) port result new is = keep_awaits peer request limit port result new is

  pub keep_asked : (peer octets : List ℕ) (old : P) (answer : Result (List ℕ) Lost) (new : P)
      → Asks rules.sends rules.receives (to_peer peer octets) 16 old answer new → Keep old new
  keep_asked peer octets old answer new (said, mid, sends, is) =
      λ from datagram has. keep_sent peer octets 16 said mid answer new is from datagram (ledger.sends old mid octets peer said from datagram has sends)

  -- what is taken was heard
  pub heard_taken : (peer request : List ℕ) (heard : Heard) (found : Option (List ℕ)) (old mid new : P) (datagram : List ℕ)
      (more : Type 0) → fitting peer request heard ≡ found → rules.receives old (Ok heard) mid
      → IsTaken found mid (Ok datagram) new more → (more → ledger.port new peer datagram ≡ true) → ledger.port new peer datagram ≡ true
  heard_taken peer request heard None old mid new datagram more fit receives is rest = rest is
  heard_taken peer request heard (Some came) old mid new datagram more fit receives (same, is) rest =
      let of = came_fits peer request heard heard.datagram came refl fit in
      let one : datagram ≡ came = (let e : Ok datagram ≡ Ok came = same in cc) in
      let has : ledger.port mid heard.from came ≡ true = ledger.hears old mid heard came of.1 receives in
      subst (λ (p : P). ledger.port p peer datagram ≡ true) (sym is)
      (subst (λ (d : List ℕ). ledger.port mid peer d ≡ true) (sym one)
      (subst (λ (from : List ℕ). ledger.port mid from came ≡ true) of.0 has))

  pub heard_awaits : (peer request : List ℕ) (n : ℕ) (old : P) (datagram : List ℕ) (new : P)
      → Awaits rules.receives peer request n old (Ok datagram) new → ledger.port new peer datagram ≡ true
  unfolding Awaits
  heard_awaits peer request zero old datagram new is = absurd is.0
  heard_awaits peer request (suc n) old datagram new (Err why, mid, receives, (lost, is)) = absurd lost
  heard_awaits peer request (suc n) old datagram new (Ok heard, mid, receives, is) =
      heard_taken peer request heard (fitting peer request heard) old mid new datagram (Awaits rules.receives peer request n mid (Ok datagram) new) refl receives is
      (λ more. heard_awaits peer request n mid datagram new more)

  pub heard_asked : (peer octets : List ℕ) (old : P) (datagram : List ℕ) (new : P)
      → Asks rules.sends rules.receives (to_peer peer octets) 16 old (Ok datagram) new → ledger.port new peer datagram ≡ true
  heard_asked peer octets old datagram new (Err why, mid, sends, (lost, is)) = absurd lost
  heard_asked peer octets old datagram new (Ok done, mid, sends, is) = heard_awaits peer octets 16 mid datagram new is

module _ {S P : Type 0} (rules : SocketRules S P) (changes : S → S → Type 0) where
  -- this happened over a port
  abbrev Ports : List Event → P → P → Type 0
  Ports es old new = Runs rules es old new

  abbrev pub link_keeps : Leads (socket_asks rules) Any
  link_keeps = record {
    to = λ a b. (b.peer ≡ a.peer) × ((ledger : Ledger rules changes) → Keep ledger a.port b.port)
        × (es : List Event) × Ports es a.port b.port;
    same = λ a. (refl, (λ ledger from datagram has. has), [], refl);
    on = λ a b c first after. (
      after.0 ∙ first.0,
      (λ ledger from datagram has. after.1 ledger from datagram (first.1 ledger from datagram has)),
      first.2 ++ after.2,
      goes_on rules.sends rules.receives rules.receives_within first.2 after.2 a.port b.port c.port first.3 after.3,
    );
    ask = λ a b path invoke r answer of is.
        let it = asks_once rules.sends rules.receives rules.receives_within a.peer (request_octets path invoke r) a.port b.port answer is.0 in
        (is.1, (λ ledger. keep_asked ledger a.peer (request_octets path invoke r) a.port answer b.port is.0), it.0, it.1);
  }

  abbrev pub link_hears : Hears link_keeps
  link_hears = record {
    had = λ a datagram. (ledger : Ledger rules changes) → ledger.port a.port a.peer datagram ≡ true;
    keeps = λ a b datagram to has. λ ledger. subst (λ (p : List ℕ). ledger.port b.port p datagram ≡ true) (sym to.0) (to.1 ledger a.peer datagram (has ledger));
    hears = λ a b octets datagram is. λ ledger. subst (λ (p : List ℕ). ledger.port b.port p datagram ≡ true) (sym is.1)
        (heard_asked ledger a.peer octets a.port datagram b.port is.0);
  }
