use Rattle.std.proofs.Common.{◌≡◌, ℕ, true, Option, None, List, ap, subst, ◌∙◌, arith}
use Rattle.bac_apdu.specs.Npdu.{Place}
use Rattle.bac_link.specs.Client.{AnswersTellApart}
use Rattle.bac_link.specs.Datagrams.{answers_to}
use Rattle.bac_link.specs.Path.{towards}
use Rattle.bac_link.specs.Requests.{next_invoke, request_octets, IsTooLong}
use Rattle.bac_link.specs.Transactions.{begun_with, closed}
use Rattle.bac_link.specs.declared.request.Request.{Request}
use Rattle.bac_link.specs.declared.transactions.Transactions.{Transactions}
use Rattle.bac_client_tests.proofs.link_callers.no_answer_is_taken_twice.Goals as goal

not_twice : AnswersTellApart → (t u : Transactions) (r q : Request) (early late : List ℕ) → t.route ≡ None → t.invoke ≡ 0 → u ≡ closed (begun_with r t) →
    (IsTooLong r → ⊥) → (IsTooLong q → ⊥) → answers_to (request_octets (towards t.route) (next_invoke t.invoke) r) early ≡ true →
    answers_to (request_octets (towards u.route) (next_invoke u.invoke) q) late ≡ true → early ≡ late → ⊥
not_twice law t u r q early late near none left first_fits second_fits first second same =
    let P : Request → List ℕ → Option Place → ℕ → Type 0 = λ x d y n. answers_to (request_octets (towards y) (next_invoke n) x) d ≡ true in
    let A : Option Place → Type 0 = λ y. P r early y 0 in
    let B : List ℕ → Type 0 = λ d. P r d None 0 in
    let C : Option Place → Type 0 = λ y. P q late y 1 in
    let one : u.invoke ≡ 1 = ap (λ (v : Transactions). v.invoke) left ∙ ap next_invoke none in
    let way : u.route ≡ None = ap (λ (v : Transactions). v.route) left ∙ near in
    let a : P r late None 0 = subst B same (subst A near (subst (P r early t.route) none first)) in
    let b : P q late None 1 = subst C way (subst (P q late u.route) one second) in
    let e : 1 ≡ 2 = law (towards None) (towards None) r q 1 2 late (tt, tt) (tt, tt) first_fits second_fits (omega arith) (omega arith) a b in
    omega (arith, e)

pub returns : goal.returns
returns g c =
    let x = c.in-Ok.ensures {u = tt} in
    let y = c.in-Ok-exchange.ensures {u = tt} in
    not_twice c.answers_tell_requests_apart.ensures c.new-transactions.result c.exchange.new.transactions c.args.first.now c.args.second.now c.in-Ok.early c.in-Ok-exchange.late
    (ap (λ (t : Transactions). t.route) c.new-transactions.ensures) (ap (λ (t : Transactions). t.invoke) c.new-transactions.ensures) x.leaves
    (λ long. absurd (let e = x.too_long.1 long in cc)) (λ long. absurd (let e = y.too_long.1 long in cc)) x.answers.0 y.answers.0
