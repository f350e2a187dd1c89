-- What an exchange over any link leaves so, if each ask of its request does.
use Rattle.std.proofs.Common.{◌≡◌, ℕ, zero, suc, ◌+◌, List, Result, Ok, Err, sym, subst}
use Rattle.bac_link.specs.Exchanges.{Answers, Ask, Exchanges, Unanswered, Way}
use Rattle.bac_link.specs.Path.{Path}
use Rattle.bac_link.specs.Requests.{request_octets}
use Rattle.bac_link.specs.declared.exchanges.ExchangeFault.{ExchangeFault}
use Rattle.bac_link.specs.declared.exchanges.ExchangeFault.TheVariants as fault
use Rattle.bac_link.specs.declared.exchanges.Verdict.{Verdict}
use Rattle.bac_link.specs.declared.exchanges.Verdict.TheVariants.{Ack, Refused, BadReply}
use Rattle.bac_link.specs.declared.link.Lost.{Lost}
use Rattle.bac_link.specs.declared.request.Request.{Request}

-- what holds between a link before and after it was asked for something
pub record Leads {S : Type 0} (asks : Ask S) (reads : Request → Type 0) : Type 1 where
  pub to : S → S → Type 0
  pub same : (a : S) → to a a
  pub on : (a b c : S) → to a b → to b c → to a c
  pub ask : (a b : S) (path : Path) (invoke : ℕ) (r : Request) (answer : Result (List ℕ) Lost) → reads r
      → asks a (request_octets path invoke r) answer b → to a b

module _ {S : Type 0} {asks : Ask S} {reads : Request → Type 0} (leads : Leads asks reads) where
  pub alike : (a b : S) → b ≡ a → leads.to a b
  alike a b is = subst (λ (x : S). leads.to a x) (sym is) (leads.same a)

  pub tried : (path : Path) (invoke : ℕ) (r : Request) → reads r → (n : ℕ) (a b : S)
      → Unanswered asks (request_octets path invoke r) n a b → leads.to a b
  tried path invoke r ok zero a b is = alike a b is
  tried path invoke r ok (suc n) a b (mid, answer, front, last, none) =
      leads.on a mid b (tried path invoke r ok n a mid front) (leads.ask mid b path invoke r answer ok last)

  answered : (way : Way) (r : Request) (verdict : Verdict) (a b : S) (datagram : List ℕ) → reads r
      → Answers asks way r verdict a datagram b → leads.to a b
  answered way r verdict a b datagram ok (tries, mid, few, front, last, is) =
      leads.on a mid b (tried way.path way.invoke r ok tries a mid front) (leads.ask mid b way.path way.invoke r (Ok datagram) ok last)

  pub exchanged : (way : Way) (r : Request) (a : S) (result : Result (List ℕ) ExchangeFault) (b : S) → reads r
      → Exchanges asks way r a result b → leads.to a b
  exchanged way r a (Ok datagram) b ok is = answered way r Ack a b datagram ok is
  exchanged way r a (Err (fault.Refused refusal)) b ok (datagram, is) = answered way r (Refused refusal) a b datagram ok is
  exchanged way r a (Err fault.BadReply) b ok (datagram, is) = answered way r BadReply a b datagram ok is
  exchanged way r a (Err fault.Lost) b ok is = tried way.path way.invoke r ok (way.retries + 1) a b is
  exchanged way r a (Err fault.TooLong) b ok is = alike a b is
