-- What gaps cover isn't held.
use Rattle.std.proofs.Common.{ℕ, ◌≤◌, [], ◌∷◌, refl, arith}
use Rattle.bac_link.specs.Delivery.{History, Moment}
use Rattle.bac_poll_laws.specs.Gaps.{GapsAreGone, IsGoneBefore, SaysHeld}
use Rattle.bac_poll_laws.specs.Laws.{Answer, Counted, Goes, IsAt, IsStanding, Replied, Restarted, Revised, after_answer}
use Rattle.bac_poll_laws.specs.Logged.{IsLogged}
use Rattle.bac_poll.specs.State.{PollState}
use Rattle.bac_poll_steps.specs.declared.stage.Stage.{Stage}
use Rattle.bac_poll_steps.specs.declared.stage.Stage.TheVariants.{Joins, Prior, Ahead, Again, Each, Oldest, ByNumber}
use Rattle.bac_poll_steps.specs.declared.stage.Stage.TheVariants.{Counts}
use Rattle.bac_poll_steps.specs.declared.stage.Stage.TheVariants.{UpTo, Back, Revision, Restart}
use Rattle.bac_poll_laws.proofs.Once.{answers}
use Rattle.bac_poll_laws.proofs.Saids.{reply_shows}

-- what is gone at a moment is gone later
later_gone : (m later : Moment) (n : ℕ) → m.oldest ≤ later.oldest → IsGoneBefore m n → IsGoneBefore later n
later_gone m later n low gone = (gone.0, gone.1, omega (arith, gone.2, low))

later_at : (H : History) (m later : Moment) (p : PollState) (stage : Stage) → m.oldest ≤ later.oldest → IsAt (IsLogged H) (IsGoneBefore m) p stage →
    IsAt (IsLogged H) (IsGoneBefore later) p stage
later_at H m later p Joins low at = tt
later_at H m later p Prior low at = tt
later_at H m later p Ahead low at = tt
later_at H m later p Again low at = at
later_at H m later p Each low at = at
later_at H m later p ByNumber low at = at
later_at H m later p (Oldest aim) low at = at
later_at H m later p (Counts aim) low at = at
later_at H m later p (UpTo aim) low at = at
later_at H m later p (Back aim) low at = at
later_at H m later p Revision low at = (at.0, later_gone m later _ low at.1)
later_at H m later p Restart low at = (at.0, later_gone m later _ low at.1)

one_gone : (m : Moment) → 1 ≤ m.oldest → IsGoneBefore m 1
one_gone m some = (1, refl, some)

goes_held : (H : History) (m : Moment) (p : PollState) (answer : Answer) → 1 ≤ m.oldest → IsStanding (IsLogged H) (IsGoneBefore m) p →
    SaysHeld m H p answer → Goes (IsLogged H) (IsGoneBefore m) p.next (after_answer p answer)
goes_held H m p (Replied datagram) some is says =
    (answers (IsLogged H) (IsGoneBefore m) (one_gone m some) p is).0 datagram (reply_shows H m p datagram says.0) says.1
goes_held H m p (Counted count) some is says = (answers (IsLogged H) (IsGoneBefore m) (one_gone m some) p is).1 count
goes_held H m p (Revised revision) some is says = (answers (IsLogged H) (IsGoneBefore m) (one_gone m some) p is).2 says revision
goes_held H m p (Restarted restart moment) some is says =
    (answers (IsLogged H) (IsGoneBefore m) (one_gone m some) p is).3 says restart moment

pub gaps_gone : GapsAreGone
gaps_gone H m p [] some is says = tt
gaps_gone H m p (given ∷ others) some is says =
    let more : 1 ≤ given.moment.oldest = omega (arith, some, says.0) in
    let goes = goes_held H given.moment p given.answer more (is.0, later_at H m given.moment p p.stage says.0 is.1) says.1 in
    (goes.0, λ goes_on. gaps_gone H given.moment (after_answer p given.answer).poll others more (goes.1 goes_on) (says.2 goes_on))
