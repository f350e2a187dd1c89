-- A walk's question is in range.
use Rattle.std.proofs.Common.{◌≡◌, ℕ, pos, ◌^◌, ◌+◌, ◌<◌, ◌≤◌, Bool, true, false, nat_lt, None, Err, refl, sym, ap, ◌∙◌, arith}
use Rattle.std.proofs.lemmas.Bool.{and_parts, lt-ltb, ltb-true}
use Rattle.bac_apdu.specs.Service.Extent.{IsExtent, is_count}
use Rattle.bac_walk.specs.Place.{WalkPlace}
use Rattle.bac_log.specs.TrendLog.{sequence_number}
use Rattle.bac_link.specs.Delivery.{Moment}
use Rattle.bac_walk.specs.Near.{IsNear}
use Rattle.bac_link.specs.Honest.{IsAskedIn}
use Rattle.bac_link.specs.Standard.{IsCount, FromNumber, FromOldest as FromTheOldest, extent_asked}
use Rattle.bac_walk.specs.Replies.{FromOrdinal, FromOldest, asked_at, count_wanted, extent_of}
use Rattle.bac_walk.specs.Walks.{asks_oldest_now, asked_by, question_of, wanted_at}
use Rattle.bac_walk.proofs.Turns.{or_left}
use Rattle.bac_walk.proofs.Bridge.{IsNearTo}
use Rattle.std.specs.Prelude.{if◌then◌else◌}
use Rattle.bac_wire.specs.Primitive.{Id, Signed}
use Rattle.bac_apdu.specs.declared.service.extent.Extent.{Extent}
use Rattle.bac_log.specs.Ack.{log_buffer}
use Rattle.bac_link.specs.Exchanges.{IsExchangedOfNone, IsNotLost}
use Rattle.bac_link.specs.Links.{question}
use Rattle.bac_link.specs.declared.exchanges.ExchangeFault.{ExchangeFault}
use Rattle.bac_link.specs.declared.exchanges.ExchangeFault.TheVariants as fault
use Rattle.bac_link.specs.declared.exchanges.Refusal.{Refusal}
use Rattle.bac_link.specs.declared.exchanges.Refusal.TheVariants as refusal
use Rattle.bac_link.specs.declared.request.Request.TheVariants as request

-- a question may ask for so many (clause 15.8)
pub in_range : (count : ℕ) → IsCount count → is_count (Signed (pos count)) ≡ true
in_range count asks = rw (lt-ltb 0 count asks.some, lt-ltb count (2 ^ 31) (omega (arith, asks.most))) refl

pub ranged_of : (w : WalkPlace) → w.next < 2 ^ 32 → IsCount w.count → IsExtent (question_of w)
ranged_of w lt asks = at (asks_oldest_now w)
  where
    at : (b : Bool) → IsExtent (extent_asked (if b then FromTheOldest w.count else FromNumber w.next w.count))
    at true = (refl, refl, in_range w.count asks)
    at false = (lt, in_range w.count asks)

pub question_is : (w : WalkPlace) (object : Id) (extent : Extent) → object ≡ w.log → extent ≡ question_of w →
    request.ReadRange (record { object = object; property = log_buffer; index = None; extent = extent }) ≡ question w.log (question_of w)
question_is w object extent log asks =
    ap (λ (o : Id). request.ReadRange (record { object = o; property = log_buffer; index = None; extent = extent })) log
    ∙ ap (λ (x : Extent). request.ReadRange (record { object = w.log; property = log_buffer; index = None; extent = x })) asks

-- so many are less than half of the count
small_in : (count : ℕ) → is_count (Signed (pos count)) ≡ true → count < 2147483648
small_in count is = ltb-true count 2147483648 (and_parts (nat_lt 0 count) (nat_lt count 2147483648) is).1

some_in : (count : ℕ) → is_count (Signed (pos count)) ≡ true → 0 < count
some_in count is = ltb-true 0 count (and_parts (nat_lt 0 count) (nat_lt count 2147483648) is).0

pub some_of : (w : WalkPlace) → IsExtent (question_of w) → 0 < w.count
some_of w is = at (asks_oldest_now w) is
  where
    at : (b : Bool) → IsExtent (extent_asked (if b then FromTheOldest w.count else FromNumber w.next w.count)) → 0 < w.count
    at true ranged = some_in w.count ranged.2
    at false ranged = some_in w.count ranged.1

pub small_of : (w : WalkPlace) (s : ℕ) → IsExtent (question_of w) → count_wanted (wanted_at w s) < 2147483648
small_of w s is = at (asks_oldest_now w) is
  where
    at : (b : Bool) → IsExtent (extent_asked (if b then FromTheOldest w.count else FromNumber w.next w.count)) → count_wanted (if b then FromOldest w.count else FromOrdinal s w.count) < 2147483648
    at true ranged = small_in w.count ranged.2
    at false ranged = small_in w.count ranged.1

-- what is asked for when the walk is at ordinal s
pub asked_same : (w : WalkPlace) (s : ℕ) → w.next ≡ sequence_number s → asked_by w ≡ asked_at (wanted_at w s)
asked_same w s next = at (asks_oldest_now w)
  where
    at : (b : Bool) → (if b then FromTheOldest w.count else FromNumber w.next w.count) ≡ asked_at (if b then FromOldest w.count else FromOrdinal s w.count)
    at true = refl
    at false = ap (λ n. FromNumber n w.count) next

pub asks_at : (w : WalkPlace) (s : ℕ) → w.next ≡ sequence_number s → question_of w ≡ extent_of (wanted_at w s)
asks_at w s next = ap extent_asked (asked_same w s next)

-- a number that it asks for is that of an ordinal in the window, if the walk's is
pub asked_in : (w : WalkPlace) (low s : ℕ) → w.next ≡ sequence_number s → (w.fresh ≡ false → (low ≤ s) × (s < low + 2147483648)) → IsAskedIn low w.count (asked_by w)
asked_in w low s next at = by (asks_oldest_now w) refl
  where
    by : (b : Bool) → asks_oldest_now w ≡ b → IsAskedIn low w.count (if b then FromTheOldest w.count else FromNumber w.next w.count)
    by true is = refl
    by false is = let here = at (or_left w.fresh w.asks_oldest is) in (refl, (s, next, here.0, here.1))

pub near_to : (w : WalkPlace) (s : ℕ) (m : Moment) → (w.fresh ≡ false → IsNear s m) → IsNearTo (wanted_at w s) m
near_to w s m near = at (asks_oldest_now w) refl
  where
    at : (b : Bool) → asks_oldest_now w ≡ b → IsNearTo (if b then FromOldest w.count else FromOrdinal s w.count) m
    at true is = tt
    at false is = near (or_left w.fresh w.asks_oldest is)

-- how a link that lacks the log ends an exchange
pub lost_is : (f : ExchangeFault) → f ≡ fault.Lost → IsNotLost (Err f) → ⊥
lost_is fault.Lost is found = found
lost_is (fault.Refused said) is found = absurd (cc)
lost_is fault.BadReply is found = absurd (cc)
lost_is fault.TooLong is found = absurd (cc)

pub refused_is : (retries old new : ℕ) (f : ExchangeFault) (said : Refusal) → f ≡ fault.Refused said → IsExchangedOfNone retries old new (Err f) →
    said ≡ refusal.Error 1 31
refused_is retries old new fault.Lost said is none = absurd (cc)
refused_is retries old new (fault.Refused (refusal.Error class code)) said is none =
    let same : refusal.Error class code ≡ said = cc in
    sym same ∙ ap (λ (c : ℕ). refusal.Error c code) none.0 ∙ ap (λ (c : ℕ). refusal.Error 1 c) none.1
refused_is retries old new (fault.Refused (refusal.Reject reason)) said is none = absurd none
refused_is retries old new (fault.Refused (refusal.Abort reason)) said is none = absurd none
refused_is retries old new fault.BadReply said is none = absurd none
refused_is retries old new fault.TooLong said is none = absurd none

pub bad_reply_is : (retries old new : ℕ) (f : ExchangeFault) → f ≡ fault.BadReply → IsExchangedOfNone retries old new (Err f) → ⊥
bad_reply_is retries old new fault.Lost is none = absurd (cc)
bad_reply_is retries old new (fault.Refused said) is none = absurd (cc)
bad_reply_is retries old new fault.BadReply is none = none
bad_reply_is retries old new fault.TooLong is none = none
