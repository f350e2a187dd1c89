-- A seal stays whole over a socket that is asked over for what may be sent.
use Rattle.std.proofs.Common.{◌≡◌, ℕ, zero, suc, true, List, Option, None, Some, Result, Ok, Err, refl, sym, subst, ◌∙◌}
use Rattle.bac_laws.proofs.Asked.{Leads}
use Rattle.bac_laws.specs.Sends.{Requests, Seal}
use Rattle.bac_link.specs.Requests.{request_octets}
use Rattle.bac_link.specs.declared.link.Lost.{Lost}
use Rattle.bac_link.specs.declared.request.Request.{Request}
use Rattle.bac_ports.specs.Asking.{Asks, Awaits, IsSent, IsTaken, fitting, to_peer}
use Rattle.bac_ports.specs.Port.{Sending}
use Rattle.bac_ports.specs.Sockets.{SocketRules, UsesSocket, link_over, socket_asks}
use Rattle.bac_ports.specs.declared.udp_link.UdpLink.{UdpLink}

module _ {S P : Type 0} {rules : SocketRules S P} {changes : S → S → Type 0} {may : List ℕ → List ℕ → Type 0}
    (seal : Seal rules changes may) where
  -- the port stays whole
  abbrev pub StaysWhole : P → P → Type 0
  StaysWhole old new = seal.port old ≡ true → seal.port new ≡ true

  pub still : (old new : P) → new ≡ old → StaysWhole old new
  still old new is whole = subst (λ (p : P). seal.port p ≡ true) (sym is) whole

  taken : (found : Option (List ℕ)) (port : P) (result : Result (List ℕ) Lost) (new : P) (more : Type 0)
      → IsTaken found port result new more → (more → StaysWhole port new) → StaysWhole port new
  taken None port result new more is rest = rest is
  taken (Some datagram) port result new more is rest = still port new is.1

  awaits : (peer request : List ℕ) (n : ℕ) (old : P) (result : Result (List ℕ) Lost) (new : P)
      → Awaits rules.receives peer request n old result new → StaysWhole old new
  unfolding Awaits
  awaits peer request zero old result new is = still old new is.1
  awaits peer request (suc n) old result new (Err fault, mid, receives, (lost, is)) =
      λ whole. still mid new is (seal.receives old mid (Err fault) whole receives)
  awaits peer request (suc n) old result new (Ok heard, mid, receives, is) =
      λ whole. taken (fitting peer request heard) mid result new (Awaits rules.receives peer request n mid result new) is
      (λ more. awaits peer request n mid result new more) (seal.receives old mid (Ok heard) whole receives)

  sent : (peer request : List ℕ) (limit : ℕ) (answer : Sending) (port : P) (result : Result (List ℕ) Lost) (new : P)
      → IsSent rules.receives (to_peer peer request) limit answer port result new → StaysWhole port new
  sent peer request limit (Err fault) port result new is = still port new is.1
  sent peer request limit (Ok done) port result new is = awaits peer request limit port result new is

  pub asked : (peer octets : List ℕ) (limit : ℕ) (old : P) (answer : Result (List ℕ) Lost) (new : P) → may octets peer
      → Asks rules.sends rules.receives (to_peer peer octets) limit old answer new → StaysWhole old new
  asked peer octets limit old answer new ok (said, mid, sends, is) =
      λ whole. sent peer octets limit said mid answer new is (seal.sends old mid octets peer said ok whole sends)

  -- ---- a link to one peer

  -- a link that was to this peer still is, and its port stays whole
  abbrev pub StaysSo : List ℕ → UdpLink P → UdpLink P → Type 0
  StaysSo peer old new = old.peer ≡ peer → (new.peer ≡ peer) × StaysWhole old.port new.port

  abbrev pub over_link : (peer : List ℕ) (reads : Request → Type 0) → ((octets : List ℕ) → Requests reads octets → may octets peer)
      → Leads (socket_asks rules) reads
  over_link peer reads ok = record {
    to = StaysSo peer;
    same = λ a is. (is, λ whole. whole);
    on = λ a b c first after is. let x = first is in let y = after x.0 in (y.0, λ whole. y.1 (x.1 whole));
    ask = λ a b path invoke r answer of done is. (
      done.1 ∙ is,
      asked a.peer (request_octets path invoke r) 16 a.port answer b.port
          (subst (λ (to : List ℕ). may (request_octets path invoke r) to) (sym is)
          (ok (request_octets path invoke r) (path, invoke, r, of, refl))) done.0,
    );
  }

  -- from a link that was just made to a port's last state
  pub linked : (peer : List ℕ) (port last : P) (left : UdpLink P) → StaysSo peer (link_over peer port) left
      → last ≡ left.port → StaysWhole port last
  linked peer port last left so is whole = still left.port last is ((so refl).1 whole)

  -- ---- a socket

  pub used : (address : List ℕ) (wait : ℕ) (old : S) (does : P → P → Type 0) (new : S)
      → ((port last : P) → does port last → StaysWhole port last)
      → UsesSocket rules address wait old does new → seal.sockets old ≡ true → seal.sockets new ≡ true
  used address wait old does new each (port, between, last, opens, did, closes) whole =
      let opened = seal.opens old between address wait (Ok port) whole opens in
      seal.closes between new last opened.0 (each port last did opened.1) closes
