-- What a ReadRange is answered.
use Rattle.std.proofs.Common.{◌≡◌, refl, ap, sym, ◌∙◌, arith, ℕ, ◌+◌, ◌<◌, ◌≤◌, Bool, true, false, not, ◌&&◌, cond, List, [], ◌∷◌, length}
use Rattle.std.specs.Prelude.{◌≢◌, Err, Ok, Result}
use Rattle.std.proofs.lemmas.Bool.{lt-ltb}
use Rattle.bac_wire.specs.Primitive.{Id}
use Rattle.bac_apdu.specs.Apdu.{Apdu, apdu_octets}
use Rattle.bac_apdu.specs.declared.service.extent.Extent.{Extent}
use Rattle.bac_log.specs.Ack.{ack_apdu}
use Rattle.bac_log.specs.Select.{IsTooSmall, HeldEntry, answer_octets, packed, selected}
use Rattle.bac_log.specs.TrendLog.{Log}
use Rattle.bac_log.specs.declared.answer.Selected.{Selected}
use Rattle.bac_log.specs.declared.ack.AnswerFault.{AnswerFault}
use Rattle.bac_log.specs.declared.ack.AnswerFault.TheVariants as fault
use Rattle.bac_device.specs.Answer.{is_empty, records_ack, records_said}
use Rattle.bac_device.specs.Reply.{abort, datagram_octets, limited}

-- ---- the answer of a log

fits_test : (all rs : List HeldEntry) → ((all ≢ []) × (rs ≡ []) → ⊥) → (not (is_empty all) && is_empty rs) ≡ false
fits_test [] rs h = refl
fits_test (a ∷ all) [] h = absurd (h (λ e. (cc), refl))
fits_test (a ∷ all) (r ∷ rs) h = refl

small_test : (all rs : List HeldEntry) → (all ≢ []) → rs ≡ [] → (not (is_empty all) && is_empty rs) ≡ true
small_test [] rs some none = absurd (some refl)
small_test (a ∷ all) rs some none = rw none refl

pub ack_text : (invoke : ℕ) (object : Id) (log : Log) (extent : Extent) (limit : ℕ) → answer_octets invoke object log extent limit ≡ apdu_octets (records_ack limit invoke object extent log)
unfolding ack_apdu
ack_text invoke object log extent limit = refl

-- an answer is no fault, and a fault is one alone
pub not_err : (s : Selected) (why : AnswerFault) → (let r : Result Selected AnswerFault = Ok s in r) ≡ Err why → ⊥
not_err s why e = cc

pub err_is : (a b : AnswerFault) → a ≡ b → (let r : Result Selected AnswerFault = Err a in r) ≡ Err b
err_is a b e = ap (λ (x : AnswerFault). (let r : Result Selected AnswerFault = Err x in r)) e

pub said_ack : (limit invoke : ℕ) (object : Id) (extent : Extent) (log : Log) → (IsTooSmall log extent limit → ⊥)
    → datagram_octets (limited limit invoke (records_ack limit invoke object extent log)) ≡ datagram_octets (records_said limit invoke object extent log)
said_ack limit invoke object extent log fits =
    ap (λ (b : Bool). datagram_octets (cond b (abort invoke) (limited limit invoke (records_ack limit invoke object extent log)))) (sym (fits_test (selected log extent) (packed extent limit (selected log extent)) fits))

pub said_small : (limit invoke : ℕ) (object : Id) (extent : Extent) (log : Log) → (selected log extent ≢ []) → packed extent limit (selected log extent) ≡ [] → datagram_octets (abort invoke) ≡ datagram_octets (records_said limit invoke object extent log)
said_small limit invoke object extent log some none =
    ap (λ (b : Bool). datagram_octets (cond b (abort invoke) (limited limit invoke (records_ack limit invoke object extent log)))) (sym (small_test (selected log extent) (packed extent limit (selected log extent)) some none))

pub said_refused : (limit invoke : ℕ) (object : Id) (extent : Extent) (log : Log) (old : List ℕ) (why : AnswerFault) → limit ≤ 1476 → length old ≡ 6
    → (why ≡ fault.TooSmall → IsTooSmall log extent limit)
    → (why ≡ fault.Full → (IsTooSmall log extent limit → ⊥) × (1501 < length old + length (answer_octets invoke object log extent limit)))
    → datagram_octets (abort invoke) ≡ datagram_octets (records_said limit invoke object extent log)
said_refused limit invoke object extent log old fault.TooSmall le six small full = let s = small refl in said_small limit invoke object extent log s.0 s.1
said_refused limit invoke object extent log old fault.Full le six small full =
    let f = full refl in
    let m : Apdu = records_ack limit invoke object extent log in
    let size : limit < length (apdu_octets m) = omega (arith, le, f.1, six, ap (λ (l : List ℕ). length l) (ack_text invoke object log extent limit)) in
    ap (λ (b : Bool). datagram_octets (cond b (abort invoke) m)) (sym (lt-ltb limit (length (apdu_octets m)) size)) ∙ said_ack limit invoke object extent log f.0
