-- What is told of a bad reply.
use Rattle.std.proofs.Common.{◌≡◌, ℕ, List, Option, Some, Ok, Err, IfOk, refl, sym, ap, subst, ◌∙◌, inl, inr}
use Rattle.bac_wire.specs.Primitive.{Id}
use Rattle.bac_link.specs.Path.{Path}
use Rattle.bac_link.specs.declared.item.Item.{Item}
use Rattle.bac_walk.specs.Outcomes.{why_of}
use Rattle.bac_walk.specs.Place.{WalkPlace}
use Rattle.bac_walk.specs.Flaws.{ToldFlaw, flaw_in}
use Rattle.bac_walk.specs.Told.{Told}
use Rattle.bac_walk.specs.declared.flaw.ReplyFlaw.{ReplyFlaw}
use Rattle.bac_walk.specs.declared.outcome.Ended.{Ended}
use Rattle.bac_walk.specs.declared.outcome.Ended.TheVariants as ended
use Rattle.bac_walk.specs.declared.outcome.WalkFault.TheVariants.{Lost as WasLost, Refused, BadReply}
use Rattle.bac_walk.specs.declared.outcome.Why.{Why}
use Rattle.bac_walk.specs.declared.outcome.Why.TheVariants as why
use Rattle.bac_walk.proofs.Flaws.{have_flaws}
use Rattle.bac_walk.proofs.Told.{Asking}
use Rattle.bac_query.specs.Ahead.{PrintsLast, closing}
use Rattle.bac_form.specs.declared.form.Form.{Form}
use Rattle.bac_query.specs.Fetching.{Fetching, PrintsEnd}
use Rattle.bac_query.specs.Flaws.{IsBadlyFetched, IsFlawed, TellsFlaw, TellsFlawOf, flaw_if_bad, last_flaw, log_place, with_flaw}
use Rattle.bac_query.specs.Reading.{Held}
use Rattle.bac_query.specs.declared.fetching.Fetched.{Fetched}
use Rattle.bac_query.proofs.Maps.{Maps, answers_maps}

-- a step that ended with a bad reply, over a link that keeps the last answer
pub flaw_kept : {S T : Type 0} (f : S → T) (last : S → Option (List ℕ)) (asks : Asking S) (other : Asking T) → Maps f asks other →
    ((a b : S) (octets datagram : List ℕ) → asks a octets (Ok datagram) b → last b ≡ Some datagram) →
    (path : Path) (retries : ℕ) (end : Ended) (w : WalkPlace) (new : S) (flaw : Option ReplyFlaw) →
    flaw ≡ last_flaw end w (last new) → end ≡ ended.Fault BadReply → Told asks path retries end w new → IsFlawed other path retries w flaw (f new)
flaw_kept {S = S} f last asks other maps keeps path retries end w new flaw is bad told =
    let P : Ended → Type 0 = λ e. Told asks path retries e w new in
    let (wrong, (link, invoke, datagram, said, answers, flawed)) = have_flaws asks path retries w new (subst P bad told) in
    let here : flaw ≡ flaw_in w datagram = is ∙ ap (λ e. last_flaw e w (last new)) bad ∙ ap (λ d. last_flaw (ended.Fault BadReply) w d) (keeps _ new _ datagram answers.4) in
    (wrong, here ∙ flawed, (f link, invoke, datagram, said, answers_maps f asks other maps path invoke _ retries said link datagram new answers, flawed))

-- behind another end than a bad reply, nothing is told of one
pub no_flaw : (layout : Form) (cause : Why) (next : ℕ) (result : Fetching) (old new : Held) (P : Fetched → Type 0) → (cause ≡ why.Fault BadReply → ⊥) → PrintsEnd layout cause next result old new →
    IfOk result (λ fetched. fetched.why ≡ why.Fault BadReply → P fetched)
no_flaw layout cause next (Ok fetched) old new P other prints = λ bad. absurd (other (sym prints.0 ∙ bad))
no_flaw layout cause next (Err fault) old new P other prints = tt

-- the same behind the lines that were left
pub no_last_flaw : (layout : Form) (left : List Item) (cause : Why) (next told : ℕ) (result : Fetching) (old new : Held) (P : Fetched → Type 0) → (cause ≡ why.Fault BadReply → ⊥) →
    PrintsLast layout (closing left cause next told) result old new → IfOk result (λ fetched. fetched.why ≡ why.Fault BadReply → P fetched)
no_last_flaw layout left cause next told result old new P other (inl (mid, lines, prints)) = no_flaw layout cause next result mid new P other prints
no_last_flaw layout left cause next told result old new P other (inr (inl (mid, some, kept, prints))) = no_flaw layout why.Memory told result mid new P (λ e. cc) prints
no_last_flaw layout left cause next told (Ok fetched) old new P other (inr (inr (is, part))) = absurd cc
no_last_flaw layout left cause next told (Err fault) old new P other (inr (inr (is, part))) = tt

-- the end of a walk is told behind the lines that were left, or there was no memory for them
pub last_is : (layout : Form) (left : List Item) (cause : Why) (next told : ℕ) (result : Fetching) (old new : Held) (P : ℕ → Type 0) → (cause ≡ why.Fault BadReply → P next) →
    PrintsLast layout (closing left cause next told) result old new → IfOk result (λ fetched. fetched.why ≡ why.Fault BadReply → P fetched.next)
last_is layout left cause next told (Ok fetched) old new P holds (inl (mid, lines, prints)) =
    λ bad. subst P (sym prints.1) (holds (sym prints.0 ∙ bad))
last_is layout left cause next told (Ok fetched) old new P holds (inr (inl (mid, some, kept, prints))) = λ bad. absurd (let e = sym prints.0 ∙ bad in cc)
last_is layout left cause next told (Ok fetched) old new P holds (inr (inr (is, part))) = absurd cc
last_is layout left cause next told (Err fault) old new P holds prints = tt

-- of a walk of the log that was asked for
pub badly : {S : Type 0} (asks : Asking S) (path way : Path) (retries tries : ℕ) (w : WalkPlace) (log : Id) (next : ℕ) (flaw was : Option ReplyFlaw) (new old : S) →
    way ≡ path → tries ≡ retries → w.log ≡ log → next ≡ w.next → flaw ≡ was → new ≡ old → IsFlawed asks way tries w was old → IsBadlyFetched asks path retries (log_place log next) flaw new
badly {S = S} asks path way retries tries w log next flaw was new old by as_often own here same link (told, is, wrong) =
    let P : Path → Type 0 = λ q. ToldFlaw asks q tries w told old in
    let Q : ℕ → Type 0 = λ k. ToldFlaw asks path k w told old in
    let R : S → Type 0 = λ l. ToldFlaw asks path retries w told l in
    (w, own, sym here, (told, same ∙ is, subst R (sym link) (subst Q as_often (subst P by wrong))))

-- a run that ended for a bad reply had a step that ended so
pub why_bad : (end : Ended) → why_of end ≡ Some (why.Fault BadReply) → end ≡ ended.Fault BadReply
why_bad ended.CaughtUp is = absurd cc
why_bad ended.StepLimit is = absurd cc
why_bad ended.Stopped is = absurd cc
why_bad (ended.Fault fault) is = cc

-- a flaw is told of a bad reply alone
tells_of : {S : Type 0} (asks : Asking S) (path : Path) (retries : ℕ) (log : Id) (next : ℕ) (flaw : Option ReplyFlaw) (new : S) (cause : Why) →
    (cause ≡ why.Fault BadReply → IsBadlyFetched asks path retries (log_place log next) flaw new) → TellsFlawOf asks path retries (log_place log next) (flaw_if_bad cause flaw) new cause
tells_of asks path retries log next flaw new why.CaughtUp bad = refl
tells_of asks path retries log next flaw new why.StepLimit bad = refl
tells_of asks path retries log next flaw new (why.Fault WasLost) bad = refl
tells_of asks path retries log next flaw new (why.Fault (Refused refusal)) bad = refl
tells_of asks path retries log next flaw new (why.Fault BadReply) bad = bad refl
tells_of asks path retries log next flaw new why.Memory bad = refl

pub tells_flaw : {S : Type 0} (asks : Asking S) (path : Path) (retries : ℕ) (log : Id) (fetched : Fetched) (flaw : Option ReplyFlaw) (new : S) →
    (fetched.why ≡ why.Fault BadReply → IsBadlyFetched asks path retries (log_place log fetched.next) flaw new) → TellsFlaw asks path retries log (Ok (with_flaw fetched flaw)) new
tells_flaw asks path retries log fetched flaw new bad = tells_of asks path retries log fetched.next flaw new fetched.why bad
