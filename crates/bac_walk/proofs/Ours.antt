-- A link of ours answers by the standard.
use Rattle.std.proofs.Common.{ℕ, ◌+◌, ◌<◌, ◌≤◌, Option, Result, Ok, Err, List, refl, sym, subst, ◌∙◌, arith}
use Rattle.bac_wire.specs.Canon.{IsValid}
use Rattle.bac_wire.specs.Primitive.{Id, Object}
use Rattle.bac_apdu.specs.Npdu.{Place}
use Rattle.bac_apdu.specs.Service.Extent.{IsExtent}
use Rattle.bac_link.specs.declared.link.Lost.{Lost as Loss}
use Rattle.bac_link.specs.Delivery.{History, Moment, now}
use Rattle.bac_link.specs.Links.{IsAsked, IsQuestion, IsReply, TellsOurs, our_question}
use Rattle.bac_link.specs.Moments.{AreServed, log_at}
use Rattle.bac_link.specs.Path.{towards}
use Rattle.bac_link.proofs.Verdicts.{our_answers}
use Rattle.bac_link.specs.Moments.{IsInWindow}
use Rattle.bac_walk.specs.Near.{IsNear}
use Rattle.bac_walk.specs.Replies.{FromOrdinal, FromOldest as FromTheOldest}
use Rattle.bac_walk.specs.Honest.{OursAreHonest}
use Rattle.bac_link.specs.Honest.{IsAskedIn, IsSaidOrLost, asked_octets}
use Rattle.bac_link.specs.Standard.{IsCount, Asked, FromNumber, FromOldest, extent_asked, IsSaidAt}
use Rattle.bac_walk.proofs.Asking.{in_range}
use Rattle.bac_walk.proofs.Came.{Asking, window_now}
use Rattle.bac_walk.proofs.Held.{Sound, Sound-now}
use Rattle.bac_walk.proofs.Own.{own_said}

in_window : (H : History) (m : Moment) (low s : ℕ) → Sound H m → IsInWindow low m → (low ≤ s) × (s < low + 2147483648) → IsNear s m
in_window H m low s sound window at = record {
  above = omega (arith, sound.close, window.newest, at.0);
  below = omega (arith, window.oldest, at.1);
}

-- our reply to a question is one by the standard
said_by : (r : ℕ) (M : List Moment) (H : History) (log : Id) (place : Option Place) (low count : ℕ) (asked : Asked) (invoke : ℕ) (datagram : List ℕ) →
    AreServed r M H → IsValid (Object log) → IsInWindow low (now M) → IsCount count → IsAskedIn low count asked →
    IsReply (our_question r M H log (extent_asked asked) (towards place)) invoke datagram → IsSaidAt (now M) H log asked datagram
said_by r M H log place low count (FromOldest asked) invoke datagram served valid window many same reply =
    own_said r M H log (FromTheOldest asked) (towards place) invoke datagram served valid (subst IsCount (sym same) many) tt reply
said_by r M H log place low count (FromNumber n asked) invoke datagram served valid window many (same, (s, number, above, below)) reply =
    let P : ℕ → Type 0 = λ k. IsReply (our_question r M H log (extent_asked (FromNumber k asked)) (towards place)) invoke datagram in
    let Q : ℕ → Type 0 = λ k. IsSaidAt (now M) H log (FromNumber k asked) datagram in
    let near = in_window H (now M) low s (Sound-now r M H served) window (above, below) in
    subst Q (sym number) (own_said r M H log (FromOrdinal s asked) (towards place) invoke datagram served valid (subst IsCount (sym same) many) near (subst P number reply))

-- what it asks for is in range
ranged : (low count : ℕ) (asked : Asked) → IsCount count → IsAskedIn low count asked → IsExtent (extent_asked asked)
ranged low count (FromOldest asked) many same = (refl, refl, in_range asked (subst IsCount (sym same) many))
ranged low count (FromNumber n asked) many (same, (s, number, above, below)) = (omega (arith, number), in_range asked (subst IsCount (sym same) many))

pub ours_are_honest : {S : Type 0} (asks : Asking S) (ours : S → Id → ℕ → List Moment → History → Type 0) →
    ((link : S) (id : Id) (r : ℕ) (M : List Moment) (H : History) → ours link id r M H → AreServed r M H) → TellsOurs asks ours → OursAreHonest asks ours
ours_are_honest {S = S} asks ours serves tells = λ place log count r H low way valid many old new M asked invoke answer stands some window in_it ask.
    let octets : List ℕ = asked_octets (towards place) invoke log asked in
    let is : IsQuestion log (extent_asked asked) (towards place) invoke octets = (refl, ranged low count asked many in_it, valid, (way, tt)) in
    answered place log count r H low old new M asked invoke answer octets (serves old log r M H stands) valid (window_now low M some window) many in_it is
    (tells old new octets answer log r M H (extent_asked asked) (towards place) invoke stands is ask)
  where
    answered : (place : Option Place) (log : Id) (count r : ℕ) (H : History) (low : ℕ) (old new : S) (M : List Moment) (asked : Asked) (invoke : ℕ) (answer : Result (List ℕ) Loss) (octets : List ℕ) →
        AreServed r M H → IsValid (Object log) → IsInWindow low (now M) → IsCount count → IsAskedIn low count asked → IsQuestion log (extent_asked asked) (towards place) invoke octets →
        IsAsked (λ N. ours new log r N H) (our_question r M H log (extent_asked asked) (towards place)) invoke answer → IsSaidOrLost (λ N. ours new log r N H) M H log asked octets answer
    answered place log count r H low old new M asked invoke (Ok datagram) octets served valid window many in_it is told = (
      λ yes. (said_by r M H log place low count asked invoke datagram served valid window many in_it told.0, told.1),
      λ other. absurd (let e = sym (our_answers r (log_at (now M) H) log (extent_asked asked) place invoke octets datagram is told.0.1) ∙ other in cc),
    )
    answered place log count r H low old new M asked invoke (Err lost) octets served valid window many in_it is told = told
