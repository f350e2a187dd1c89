-- What `run` says of `bac log` with status 4: a bad reply came, and what is told is wrong with it.
use Rattle.std.proofs.Common.{Bool, ◌≡◌, ◌∙◌, inl, inr, ℕ, List, Option, Ok, Err, refl, sym, ap, subst, arith}
use Rattle.bac_socket_notes.specs.Notes.{nothing as never_asked}
use Rattle.bac_socket_notes.specs.declared.notes.Passed.{Passed}
use Rattle.bac_link.specs.Path.{Path, towards}
use Rattle.bac_print.specs.Output.{AppendsPart, Held}
use Rattle.bac_query.specs.Flaws.{TellsFlawOf, log_place}
use Rattle.bac_query.specs.declared.fault.QueryFault.TheVariants as query
use Rattle.bac_tools.specs.LogEnds.{of_why}
use Rattle.bac_tools.specs.Run.{IsNoWalk, IsToldAfter, Runs, walk_from}
use Rattle.bac_tools_tests.proofs.Plain.{in_lines, plain}
use Rattle.bac_ports.specs.Sockets.{link_over, SocketRules, UsesSocket, own_address, socket_asks}
use Rattle.bac_tools.specs.Status.{exit_status}
use Rattle.bac_tools.specs.Streams.{Streams}
use Rattle.bac_tools.specs.Texts.{fault_text, told_after, told_text}
use Rattle.bac_tools.specs.declared.fault.Fault.{Fault}
use Rattle.bac_tools.specs.declared.fault.Fault.TheVariants.{BadValue, Declined, Flawed, Memory, Silent, Unopened, Write}
use Rattle.bac_tools_tests.proofs.Settled.{end_of, told_is, unflawed, without_flaw}
use Rattle.bac_tools_tests.specs.Logging.{IsExplained}
use Rattle.bac_walk.specs.Flaws.{ToldFlaw}
use Rattle.bac_walk.specs.Place.{WalkPlace}
use Rattle.bac_walk.specs.declared.flaw.ReplyFlaw.{ReplyFlaw}
use Rattle.bac_walk.specs.declared.outcome.WalkFault.TheVariants as walk
use Rattle.bac_walk.specs.declared.outcome.Why.{Why}
use Rattle.bac_walk.specs.declared.outcome.Why.TheVariants as why
use Rattle.bac_walk.proofs.Told.{Asking}
use Rattle.bac_wire.specs.Primitive.{Id}
use Rattle.bac_wire.specs.Stamp.{CivilTime}
use Rattle.bac_command_line.specs.declared.job.Asked.{Asked}
use Rattle.bac_command_line.specs.declared.job.Job.TheVariants.{Log}

-- ---- what has another status

five_isnt : (n : ℕ) → n ≡ 5 → n ≡ 4 → ⊥
five_isnt n is four = omega (arith, is, four)

-- a fault of another status isn't told with this one
other_told : (passed : Passed) (fault : Fault) (old new : Held) (status : ℕ) → (exit_status fault ≡ 4 → ⊥) → IsToldAfter passed fault old new status → status ≡ 4 → ⊥
other_told passed fault old new status other (inl (is, part)) four = other (sym is ∙ four)
other_told passed fault old new status other (inr (is, part)) four = five_isnt status is four

-- the same by its name
named_told : (passed : Passed) (fault named : Fault) (n : ℕ) (old new : Held) (status : ℕ) → fault ≡ named → exit_status named ≡ n → (n ≡ 4 → ⊥) →
    IsToldAfter passed fault old new status → status ≡ 4 → ⊥
named_told passed fault named n old new status is has other = other_told passed fault old new status (λ e. other (sym has ∙ sym (ap exit_status is) ∙ e))

no_walk : (passed : Passed) (instance : ℕ) (from : Option ℕ) (count : ℕ) (fault said : Fault) (old new : Held) (status : ℕ) → IsNoWalk instance from count said → fault ≡ said →
    IsToldAfter passed fault old new status → status ≡ 4 → ⊥
no_walk passed instance from count fault said old new status (inl (outside, is)) same =
    named_told passed fault (BadValue _) 1 old new status (same ∙ is) refl (λ e. omega (arith, e))
no_walk passed instance from count fault said old new status (inr (inl (none, is))) same =
    named_told passed fault (BadValue _) 1 old new status (same ∙ is) refl (λ e. omega (arith, e))
no_walk passed instance from count fault said old new status (inr (inr (zero, is))) same =
    named_told passed fault (BadValue _) 1 old new status (same ∙ is) refl (λ e. omega (arith, e))

-- ---- the end of a walk

-- with status 4 and no fault told: a walk that ended so told its flaw
bad_end : {S : Type 0} (asks : Asking S) (path : Path) (retries : ℕ) (log : Id) (next : ℕ) (address : List ℕ) (flaw : Option ReplyFlaw) (left : S)
    (cause : Why) (done : ℕ) → TellsFlawOf asks path retries (log_place log next) flaw left cause → Ok done ≡ of_why address cause flaw → done ≡ 4 → ⊥
bad_end asks path retries log next address flaw left why.CaughtUp done tells is = λ four. omega (arith, end_of address done why.CaughtUp flaw is, four)
bad_end asks path retries log next address flaw left why.StepLimit done tells is = λ four. omega (arith, end_of address done why.StepLimit flaw is, four)
bad_end asks path retries log next address flaw left (why.Fault walk.Lost) done tells is =
    λ four. omega (arith, end_of address done (why.Fault walk.Lost) flaw is, four)
bad_end asks path retries log next address flaw left (why.Fault (walk.Refused refusal)) done tells is =
    λ four. omega (arith, end_of address done (why.Fault (walk.Refused refusal)) flaw is, four)
bad_end asks path retries log next address flaw left (why.Fault walk.BadReply) done (w, own, here, (told, some, wrong)) is =
    λ four. unflawed address done (why.Fault walk.BadReply) flaw told some is
bad_end asks path retries log next address flaw left why.Memory done tells is = λ four. omega (arith, end_of address done why.Memory flaw is, four)

-- what is wrong with the reply that ended a walk of this log
abbrev Explains : {S : Type 0} → Asking S → Path → ℕ → Id → Fault → S → Type 0
Explains asks path retries log fault left =
    (w : WalkPlace) × (told : ReplyFlaw) × (w.log ≡ log) × ToldFlaw asks path retries w told left × (fault ≡ Flawed told)

flaw_end : {S : Type 0} (passed : Passed) (asks : Asking S) (path : Path) (retries : ℕ) (log : Id) (next : ℕ) (address : List ℕ) (flaw : Option ReplyFlaw) (left : S)
    (cause : Why) (fault : Fault) (old new : Held) (status : ℕ) → TellsFlawOf asks path retries (log_place log next) flaw left cause →
    Err fault ≡ of_why address cause flaw → IsToldAfter passed fault old new status → status ≡ 4 → Explains asks path retries log fault left
flaw_end passed asks path retries log next address flaw left why.CaughtUp fault old new status tells is ends four =
    absurd (let e = without_flaw address fault why.CaughtUp flaw tells is in cc)
flaw_end passed asks path retries log next address flaw left why.StepLimit fault old new status tells is ends four =
    absurd (let e = without_flaw address fault why.StepLimit flaw tells is in cc)
flaw_end passed asks path retries log next address flaw left (why.Fault walk.Lost) fault old new status tells is ends four =
    let e = without_flaw address fault (why.Fault walk.Lost) flaw tells is in
    absurd (named_told passed fault (Silent address) 2 old new status (cc) refl (λ e. omega (arith, e)) ends four)
flaw_end passed asks path retries log next address flaw left (why.Fault (walk.Refused refusal)) fault old new status tells is ends four =
    let e = without_flaw address fault (why.Fault (walk.Refused refusal)) flaw tells is in
    absurd (named_told passed fault (Declined refusal) 3 old new status (cc) refl (λ e. omega (arith, e)) ends four)
flaw_end passed asks path retries log next address flaw left (why.Fault walk.BadReply) fault old new status (w, own, here, (told, some, wrong)) is ends four =
    (w, told, own, wrong, told_is address fault (why.Fault walk.BadReply) flaw told some is)
flaw_end passed asks path retries log next address flaw left why.Memory fault old new status tells is ends four =
    absurd (let e = without_flaw address fault why.Memory flaw tells is in cc)

-- it is told
told_flaw : (passed : Passed) (old new : Held) (status : ℕ) (fault : Fault) (told : ReplyFlaw) → fault ≡ Flawed told → IsToldAfter passed fault old new status → status ≡ 4 →
    AppendsPart old new (told_text (Flawed told))
unfolding fault_text
told_flaw passed old new status fault told is (inl (same, part)) four =
    let Q : Fault → Type 0 = λ f. AppendsPart old new (told_after passed f) in
    subst Q is part
told_flaw passed old new status fault told is (inr (same, part)) four = absurd (five_isnt status same four)

-- ---- over a socket

pub explained : {S P C : Type 0} (rules : SocketRules S P) (passes : S → Passed) (tells : C → Option CivilTime → C → Type 0) (asked : Asked)
    (instance steps count : ℕ) (from : Option ℕ) (trace : Bool) (old new : Streams S C) (status : ℕ) →
    Runs rules passes tells (Log (plain asked instance from steps count trace)) old status new → status ≡ 4 →
    UsesSocket rules (own_address asked.local) asked.timeout old.sockets
    (λ port last. IsExplained rules asked (walk_from instance from count) last old.errors new.errors) new.sockets
explained rules passes tells asked instance steps count from trace old new status (inl told) four =
    absurd (other_told never_asked Memory old.errors new.errors status (λ e. omega (arith, e)) told.0 four)
explained rules passes tells asked instance steps count from trace old new status (inr (Err fault, said, (inl unasked, quiet, unread), ends)) four =
    absurd (no_walk (passes new.sockets) instance from count fault unasked.0 said new.errors status unasked.1.0 (let e = unasked.1.1 in cc) ends four)
explained rules passes tells asked instance steps count from trace old new status (inr (Ok done, said, (inl unasked, quiet, unread), ends)) four =
    absurd (let e = unasked.1.1 in cc)
explained rules passes tells asked instance steps count from trace old new status (inr (Err fault, said, (inr (inl (shut, opens, is_shut, closed)), quiet, unread), ends)) four =
    absurd (named_told (passes new.sockets) fault (Unopened shut) 2 said new.errors status (let e = is_shut in cc) refl (λ e. omega (arith, e)) ends four)
explained rules passes tells asked instance steps count from trace old new status (inr (Ok done, said, (inr (inl (shut, opens, is_shut, closed)), quiet, unread), ends)) four =
    absurd (let e = is_shut in cc)
explained rules passes tells asked instance steps count from trace old new status (inr (Err fault, said, (inr (inr (port, between, last, opens, (Ok fetched, left, over, is_last, is), closes)), quiet, unread), ends)) four =
    let (w, told, own, wrong, same) = flaw_end (passes new.sockets) (socket_asks rules) (towards asked.route) asked.retries (walk_from instance from count).log fetched.next asked.address fetched.flaw left fetched.why fault said new.errors status (in_lines rules asked (walk_from instance from count) steps (link_over asked.address port) (Ok fetched) left old.output new.output over.0).2 is ends four in
    let Q : Held → Type 0 = λ h. AppendsPart h new.errors (told_text (Flawed told)) in (
      port,
      between,
      last,
      opens,
      (left, w, told, is_last, own, wrong, subst Q quiet.0 (told_flaw (passes new.sockets) said new.errors status fault told same ends four)),
      closes,
    )
explained rules passes tells asked instance steps count from trace old new status (inr (Err fault, said, (inr (inr (port, between, last, opens, (Err (query.Exchange bad), left, over, is_last, is), closes)), quiet, unread), ends)) four =
    let (came, items, n, ended, after, half, mid, brought, printed, headline, contradicts) = (in_lines rules asked (walk_from instance from count) steps (link_over asked.address port) (Err (query.Exchange bad)) left old.output new.output over.0).0.1 in
    absurd printed
explained rules passes tells asked instance steps count from trace old new status (inr (Err fault, said, (inr (inr (port, between, last, opens, (Err query.Write, left, over, is_last, is), closes)), quiet, unread), ends)) four =
    absurd (named_told (passes new.sockets) fault Write 2 said new.errors status (cc) refl (λ e. omega (arith, e)) ends four)
explained rules passes tells asked instance steps count from trace old new status (inr (Err fault, said, (inr (inr (port, between, last, opens, (Err query.Memory, left, over, is_last, is), closes)), quiet, unread), ends)) four =
    absurd (named_told (passes new.sockets) fault Memory 5 said new.errors status (cc) refl (λ e. omega (arith, e)) ends four)
explained rules passes tells asked instance steps count from trace old new status (inr (Ok done, said, (inr (inr (port, between, last, opens, (Err bad, left, over, is_last, is), closes)), quiet, unread), ends)) four =
    absurd (cc)
explained rules passes tells asked instance steps count from trace old new status (inr (Ok done, said, (inr (inr (port, between, last, opens, (Ok fetched, left, over, is_last, is), closes)), quiet, unread), ends)) four =
    absurd (bad_end (socket_asks rules) (towards asked.route) asked.retries (walk_from instance from count).log fetched.next asked.address fetched.flaw left fetched.why done (in_lines rules asked (walk_from instance from count) steps (link_over asked.address port) (Ok fetched) left old.output new.output over.0).2 is (sym ends.0 ∙ four))
