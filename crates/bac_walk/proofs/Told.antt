-- What a walk was told last.
use Rattle.std.proofs.Common.{◌≡◌, ℕ, Bool, true, false, ◌||◌, ◌&&◌, ◌==◌, if◌then◌else◌, inr, Option, Some, None, Result, Ok, Err, List, [], ◌∷◌, length, refl, sym, ap, subst}
use Rattle.bac_link.specs.declared.exchanges.ExchangeFault.{ExchangeFault}
use Rattle.bac_link.specs.declared.link.Lost.{Lost as Loss}
use Rattle.bac_link.specs.declared.request.Request.{Request}
use Rattle.bac_link.specs.Exchanges.{Exchanges, way_by}
use Rattle.bac_link.specs.Links.{question}
use Rattle.bac_link.specs.Path.{Path}
use Rattle.bac_log.specs.declared.entry.Entry.{Entry}
use Rattle.bac_walk.specs.declared.batch.Gap.{Gap as GapOf}
use Rattle.bac_walk.specs.declared.batch.Numbered.{Numbered}
use Rattle.bac_walk.specs.declared.outcome.BadReply.{BadReply as NotTaken}
use Rattle.bac_walk.specs.declared.outcome.Ended.{Ended}
use Rattle.bac_walk.specs.declared.outcome.Ended.TheVariants.{CaughtUp, StepLimit, Stopped, Fault}
use Rattle.bac_walk.specs.declared.outcome.Progress.{Progress}
use Rattle.bac_walk.specs.declared.outcome.Progress.TheVariants.{Batch as BatchOf, AskOldest, CaughtUp as IsUp}
use Rattle.bac_walk.specs.declared.outcome.Step.{Step}
use Rattle.bac_walk.specs.declared.outcome.Step.TheVariants.{Batch as StepOf, CaughtUp as NoStep}
use Rattle.bac_walk.specs.declared.outcome.WalkFault.{WalkFault}
use Rattle.bac_walk.specs.declared.outcome.WalkFault.TheVariants.{BadReply}
use Rattle.bac_walk.specs.declared.outcome.Why.{Why}
use Rattle.bac_walk.specs.declared.outcome.Why.TheVariants.{CaughtUp as WasUp, StepLimit as WasLimit, Fault as WasFault, Memory}
use Rattle.bac_walk.specs.declared.reply.Turned.{Turned}
use Rattle.bac_walk.specs.declared.reply.Turned.TheVariants as turned
use Rattle.bac_walk.specs.Collects.{asks_next, finished, step_ended}
use Rattle.bac_walk.specs.Handing.{HandedOn, ended_after}
use Rattle.bac_link.specs.Heard.{AckParameters}
use Rattle.bac_walk.specs.Outcomes.{why_of}
use Rattle.bac_walk.specs.Place.{WalkPlace}
use Rattle.bac_link.specs.Heard.{heard_in}
use Rattle.bac_walk.specs.Replied.{progress_of}
use Rattle.bac_walk.specs.Told.{HasAsked, ToldFault, ToldUp, ToldTurn, Told, ended_of}
use Rattle.bac_walk.specs.Walks.{asks_oldest_now, is_past, fits, question_of, verdict, NextAct, Refuse, Ask, End, Bring, IsTaken, IsTakenFrom}

abbrev pub Asking : Type 0 → Type 1
Asking S = S → List ℕ → Result (List ℕ) Loss → S → Type 0

-- ---- where a walk is after an answer

stays_by : (w : WalkPlace) (es : List Entry) (v : NextAct) (after : WalkPlace) → IsTaken w es v (Ok IsUp) after → after ≡ w
stays_by w es Refuse after taken = absurd taken
stays_by w es Ask after taken = absurd taken
stays_by w es End after taken = taken
stays_by w es (Bring f) after taken = absurd taken

pub up_here : (w : WalkPlace) (heard : Option AckParameters) (after : WalkPlace) → IsTakenFrom w heard (Ok IsUp) after → after ≡ w
up_here w None after taken = absurd taken
up_here w (Some h) after taken = stays_by w h.entries (verdict w h.first h.count h.entries) after taken

refused_by : (w : WalkPlace) (es : List Entry) (v : NextAct) (bad : NotTaken) (after : WalkPlace) → IsTaken w es v (Err bad) after → after ≡ w
refused_by w es Refuse bad after taken = taken
refused_by w es Ask bad after taken = absurd taken
refused_by w es End bad after taken = absurd taken
refused_by w es (Bring f) bad after taken = absurd taken

pub refused_here : (w : WalkPlace) (heard : Option AckParameters) (bad : NotTaken) (after : WalkPlace) → IsTakenFrom w heard (Err bad) after → after ≡ w
refused_here w None bad after taken = taken
refused_here w (Some h) bad after taken = refused_by w h.entries (verdict w h.first h.count h.entries) bad after taken

asks_by : (w : WalkPlace) (first : Option ℕ) (count : ℕ) (es : List Entry) (after : WalkPlace) → IsTaken w es (verdict w first count es) (Ok AskOldest) after →
    (asks_oldest_now w ≡ false) × (after.asks_oldest ≡ true)
asks_by w first count [] after taken = none (asks_oldest_now w) refl taken
  where
    none : (b : Bool) → asks_oldest_now w ≡ b → IsTaken w [] (if b then End else Ask) (Ok AskOldest) after → (asks_oldest_now w ≡ false) × (after.asks_oldest ≡ true)
    none true is h = absurd h
    none false is h = (is, ap (λ (p : WalkPlace). p.asks_oldest) h)
asks_by w None count (e ∷ es) after taken = absurd taken
asks_by w (Some f) count (e ∷ es) after taken = some (is_past w f) ((count == length (e ∷ es)) && fits w f (length (e ∷ es))) taken
  where
    some : (a b : Bool) → IsTaken w (e ∷ es) (if a then End else (if b then Bring f else Refuse)) (Ok AskOldest) after → (asks_oldest_now w ≡ false) × (after.asks_oldest ≡ true)
    some true b h = absurd h
    some false true h = absurd h
    some false false h = absurd h

pub asks_here : (w : WalkPlace) (heard : Option AckParameters) (after : WalkPlace) → IsTakenFrom w heard (Ok AskOldest) after → (asks_oldest_now w ≡ false) × (after.asks_oldest ≡ true)
asks_here w None after taken = absurd taken
asks_here w (Some h) after taken = asks_by w h.first h.count h.entries after taken

-- ---- a turn

pub has_asked : {S : Type 0} (asks : Asking S) (path : Path) (retries : ℕ) (w : WalkPlace) (invoke : ℕ) (r : Request) (link : S) (result : Result (List ℕ) ExchangeFault) (new : S) →
    r ≡ question w.log (question_of w) → Exchanges asks (way_by path invoke retries) r link result new → HasAsked asks path retries w result new
has_asked asks path retries w invoke r link result new is exchanged =
    let P : Request → Type 0 = λ x. Exchanges asks (way_by path invoke retries) x link result new in (link, invoke, subst P is exchanged)

pub told_turned : {S : Type 0} (asks : Asking S) (path : Path) (retries : ℕ) (w : WalkPlace) (datagram : List ℕ) (t : Turned) (after : WalkPlace) (new : S) →
    HasAsked asks path retries w (Ok datagram) new → IsTakenFrom w (heard_in w.log datagram) (progress_of (Ok t)) after →
    ToldTurn asks path retries w (progress_of (Ok t)) after new
told_turned asks path retries w datagram (turned.Reply b) after new asked taken = tt
told_turned asks path retries w datagram turned.AskOldest after new asked taken = asks_here w (heard_in w.log datagram) after taken
told_turned asks path retries w datagram turned.CaughtUp after new asked taken =
    let same = up_here w (heard_in w.log datagram) after taken in
    let P : WalkPlace → Type 0 = λ p. IsTakenFrom w (heard_in w.log datagram) (Ok IsUp) p in
    let Q : WalkPlace → Type 0 = λ p. ToldUp asks path retries p new in
    subst Q (sym same) (datagram, asked, subst P same taken)

pub told_bad : {S : Type 0} (asks : Asking S) (path : Path) (retries : ℕ) (w : WalkPlace) (datagram : List ℕ) (bad : NotTaken) (after : WalkPlace) (new : S) →
    HasAsked asks path retries w (Ok datagram) new → IsTakenFrom w (heard_in w.log datagram) (Err bad) after →
    ToldFault asks path retries BadReply after new
told_bad asks path retries w datagram bad after new asked taken =
    let same = refused_here w (heard_in w.log datagram) bad after taken in
    let P : WalkPlace → Type 0 = λ p. IsTakenFrom w (heard_in w.log datagram) (Err bad) p in
    let Q : WalkPlace → Type 0 = λ p. ToldFault asks path retries BadReply p new in
    subst Q (sym same) (Ok datagram, asked, inr (datagram, bad, refl, subst P same taken))

-- ---- a step

last_turn : {S : Type 0} (asks : Asking S) (path : Path) (retries : ℕ) (before : WalkPlace) (p : Result Progress WalkFault) (after : WalkPlace) (new : S) →
    (p ≡ Ok AskOldest → ⊥) → ToldTurn asks path retries before p after new → Told asks path retries (step_ended (finished p)) after new
last_turn asks path retries before (Ok (BatchOf b)) after new other told = tt
last_turn asks path retries before (Ok AskOldest) after new other told = absurd (other refl)
last_turn asks path retries before (Ok IsUp) after new other told = told
last_turn asks path retries before (Err e) after new other told = told

told_step : {S : Type 0} (asks : Asking S) (path : Path) (retries : ℕ) (before : WalkPlace) (p : Result Progress WalkFault) (z : Result Step WalkFault) (after : WalkPlace) (new : S) →
    z ≡ finished p → (p ≡ Ok AskOldest → ⊥) → ToldTurn asks path retries before p after new → Told asks path retries (step_ended z) after new
told_step asks path retries before p z after new is other told =
    let P : Result Step WalkFault → Type 0 = λ x. Told asks path retries (step_ended x) after new in
    subst P (sym is) (last_turn asks path retries before p after new other told)

-- the only turn of a step, which asks nothing more
pub told_first : {S : Type 0} (asks : Asking S) (path : Path) (retries : ℕ) (before : WalkPlace) (p : Result Progress WalkFault) (z : Result Step WalkFault) (after : WalkPlace) (new : S) →
    z ≡ finished p → asks_next p ≡ false → ToldTurn asks path retries before p after new → Told asks path retries (step_ended z) after new
told_first asks path retries before p z after new is over told =
    told_step asks path retries before p z after new is (λ asked. absurd (never p asked over)) told
  where
    never : (q : Result Progress WalkFault) → q ≡ Ok AskOldest → asks_next q ≡ false → ⊥
    never (Ok (BatchOf b)) asked over = absurd (cc)
    never (Ok AskOldest) asked over = absurd (cc)
    never (Ok IsUp) asked over = absurd (cc)
    never (Err e) asked over = absurd (cc)

-- the second, which asks for the oldest records, after the first
pub told_second : {S : Type 0} (asks : Asking S) (path : Path) (retries : ℕ) (before : WalkPlace) (q : Result Progress WalkFault) (mid : WalkPlace) (half : S) (p : Result Progress WalkFault) (z : Result Step WalkFault) (after : WalkPlace) (new : S) →
    z ≡ finished p → asks_next q ≡ true → ToldTurn asks path retries before q mid half → ToldTurn asks path retries mid p after new →
    Told asks path retries (step_ended z) after new
told_second asks path retries before q mid half p z after new is more first told =
    told_step asks path retries mid p z after new is (λ asked. oldest q more first p asked told) told
  where
    either : (a b : Bool) → (a || b) ≡ false → b ≡ true → ⊥
    either true b neither asks_oldest = absurd (cc)
    either false b neither asks_oldest = absurd (cc)

    oldest : (q : Result Progress WalkFault) → asks_next q ≡ true → ToldTurn asks path retries before q mid half →
        (p : Result Progress WalkFault) → p ≡ Ok AskOldest → ToldTurn asks path retries mid p after new → ⊥
    oldest (Ok (BatchOf b)) more first p asked told = absurd (cc)
    oldest (Ok IsUp) more first p asked told = absurd (cc)
    oldest (Err e) more first p asked told = absurd (cc)
    oldest (Ok AskOldest) more first (Ok (BatchOf b)) asked told = absurd (cc)
    oldest (Ok AskOldest) more first (Ok IsUp) asked told = absurd (cc)
    oldest (Ok AskOldest) more first (Err e) asked told = absurd (cc)
    oldest (Ok AskOldest) more first (Ok AskOldest) asked told = either mid.fresh mid.asks_oldest told.0 first.1

pub told_handed : {S T : Type 0} (asks : Asking S) (path : Path) (retries : ℕ) (new : S) (puts : T → Option GapOf → Numbered → Bool → T → Type 0) (sink : T) (mid : WalkPlace)
    (z : Result Step WalkFault) (ended : Ended) (after : WalkPlace) (left : T) → HandedOn puts sink mid z ended after left →
    Told asks path retries (step_ended z) mid new → Told asks path retries ended after new
told_handed asks path retries new puts sink mid (Err e) ended after left put told =
    let P : Ended → Type 0 = λ x. Told asks path retries x after new in
    let Q : WalkPlace → Type 0 = λ p. ToldFault asks path retries e p new in
    subst P (sym put.2) (subst Q (sym put.1) told)
told_handed asks path retries new puts sink mid (Ok NoStep) ended after left put told =
    let P : Ended → Type 0 = λ x. Told asks path retries x after new in
    let Q : WalkPlace → Type 0 = λ p. ToldUp asks path retries p new in
    subst P (sym put.2) (subst Q (sym put.1) told)
told_handed asks path retries new puts sink mid (Ok (StepOf b)) ended after left put told =
    let P : Ended → Type 0 = λ x. Told asks path retries x after new in subst P (sym put.3) (nothing put.0)
  where
    nothing : (refused : Option ℕ) → Told asks path retries (ended_after refused) after new
    nothing None = tt
    nothing (Some n) = tt

-- ---- a run

pub told_why : {S : Type 0} (asks : Asking S) (path : Path) (retries : ℕ) (ended : Ended) (why : Why) (w : WalkPlace) (new : S) → why_of ended ≡ Some why →
    Told asks path retries ended w new → Told asks path retries (ended_of why) w new
told_why asks path retries CaughtUp WasUp w new is told = told
told_why asks path retries CaughtUp WasLimit w new is told = tt
told_why asks path retries CaughtUp (WasFault e) w new is told = absurd (cc)
told_why asks path retries CaughtUp Memory w new is told = tt
told_why asks path retries StepLimit why w new is told = absurd (cc)
told_why asks path retries Stopped WasUp w new is told = absurd (cc)
told_why asks path retries Stopped WasLimit w new is told = tt
told_why asks path retries Stopped (WasFault e) w new is told = absurd (cc)
told_why asks path retries Stopped Memory w new is told = tt
told_why asks path retries (Fault d) WasUp w new is told = absurd (cc)
told_why asks path retries (Fault d) WasLimit w new is told = tt
told_why asks path retries (Fault d) (WasFault e) w new is told =
    let outer : WasFault d ≡ WasFault e = cc in
    let same : d ≡ e = cc in
    let P : WalkFault → Type 0 = λ x. ToldFault asks path retries x w new in
    subst P same told
told_why asks path retries (Fault d) Memory w new is told = tt

-- the same with as many retries and by the same networks
pub told_same : {S : Type 0} (asks : Asking S) (path way : Path) (retries tries : ℕ) (ended : Ended) (w : WalkPlace) (new : S) → way ≡ path → tries ≡ retries →
    Told asks way tries ended w new → Told asks path retries ended w new
told_same asks path way retries tries ended w new same_path same_retries told =
    let P : Path → Type 0 = λ p. Told asks p tries ended w new in
    let Q : ℕ → Type 0 = λ n. Told asks path n ended w new in
    subst Q same_retries (subst P same_path told)

pub turn_same : {S : Type 0} (asks : Asking S) (path way : Path) (retries tries : ℕ) (before : WalkPlace) (p : Result Progress WalkFault) (w : WalkPlace) (new : S) → way ≡ path → tries ≡ retries →
    ToldTurn asks way tries before p w new → ToldTurn asks path retries before p w new
turn_same asks path way retries tries before p w new same_path same_retries told =
    let P : Path → Type 0 = λ q. ToldTurn asks q tries before p w new in
    let Q : ℕ → Type 0 = λ n. ToldTurn asks path n before p w new in
    subst Q same_retries (subst P same_path told)
