-- What `bac log` writes of a run, and the status of its end.
use Rattle.std.proofs.Common.{◌≡◌, ◌⊎◌, ◌++◌, ℕ, List, [], Option, None, Some, Ok, Err, inl, inr, refl, sym, subst, ap, append-nil, append_assoc, ◌∙◌}
use Rattle.std.specs.Io.KnownBytes.{Appends}
use Rattle.bac_query.specs.declared.fetching.Fetched.{Fetched}
use Rattle.bac_tools.specs.LogEnds.{of_why}
use Rattle.bac_tools.specs.Status.{walk_status}
use Rattle.bac_laws.proofs.Statuses.{Ended as HasStatus, ended}
use Rattle.bac_laws.specs.Printed.{IsWritten}
use Rattle.bac_link.specs.Exchanges.{Ask}
use Rattle.bac_link.specs.Path.{Path}
use Rattle.bac_link.specs.declared.item.Item.{Item}
use Rattle.bac_link.specs.declared.exchanges.ExchangeFault.{ExchangeFault}
use Rattle.bac_socket_notes.specs.declared.notes.Passed.{Passed}
use Rattle.bac_print.specs.Output.{AppendsPart, Held}
use Rattle.bac_query.specs.Ends.{end_line}
use Rattle.bac_query.specs.Fetching.{Course, Fetching, TellsRun}
use Rattle.bac_query.specs.Flaws.{LogPlace, TellsFlaw, TellsFlawOf, log_place}
use Rattle.bac_query.specs.Items.{items_text}
use Rattle.bac_query.specs.declared.fault.QueryFault.TheVariants.{Exchange, Write, Memory}
use Rattle.bac_form.specs.declared.form.Form.TheVariants.{Lines}
use Rattle.bac_tools.specs.Asking.{of_fetching}
use Rattle.bac_tools.specs.Ending.{Ending}
use Rattle.bac_tools.specs.Run.{Ends}
use Rattle.bac_tools.specs.declared.fault.Fault.TheVariants as fault
use Rattle.bac_walk.specs.Outcomes.{IsRunOf}
use Rattle.bac_walk.specs.Transacted.{asked}
use Rattle.bac_walk.specs.declared.flaw.ReplyFlaw.{ReplyFlaw}
use Rattle.bac_walk.specs.declared.outcome.WalkFault.TheVariants as walk
use Rattle.bac_walk.specs.declared.outcome.Why.{Why}
use Rattle.bac_walk.specs.declared.outcome.Why.TheVariants as why
use Rattle.bac_wire.specs.Primitive.{Id}

-- ---- the text

-- the text of a run's items and its end, or a front part
part_of : (items : List Item) (why : Why) (next : ℕ) (old new : Held) → Appends old new (items_text items ++ end_line why next)
    → AppendsPart old new (items_text items ++ end_line why next)
part_of items why next old new is = (items_text items ++ end_line why next, [], sym (append-nil _), is)

pub longer : (old new : Held) (text more : List ℕ) → AppendsPart old new text → AppendsPart old new (text ++ more)
longer old new text more (written, rest, is, appends) =
    (written, rest ++ more, ap (λ (l : List ℕ). l ++ more) is ∙ append_assoc written rest more, appends)

-- what was printed of a run in lines: a front part, and all of it where something was told; and how the run ended, but
-- where that isn't printed
pub tells_text : (left : Why → Type 0) (steps : ℕ) (run : Course) (fetching : Fetching) (old new : Held)
    → TellsRun Lines left steps run fetching old new
    → (cause : Why) × (next : ℕ) × AppendsPart old new (items_text run.items ++ end_line cause next)
    × ((done : Fetched) → fetching ≡ Ok done → Appends old new (items_text run.items ++ end_line cause next) × (done.why ≡ cause))
    × (next ≡ run.place.next) × ((cause ≡ why.Memory) ⊎ (IsRunOf cause steps run.steps run.ended × left cause))
tells_text left steps run (Ok fetched) old new (end, is, text) = (
  fetched.why,
  fetched.next,
  part_of run.items fetched.why fetched.next old new text,
  (λ done same. (text, (let e : Ok fetched ≡ Ok done = same in let f : fetched ≡ done = cc in sym (ap (λ (x : Fetched). x.why) f)))),
  end.1,
  inr (end.0, is),
)
tells_text left steps run (Err Write) old new (inl (few, is, text)) = (
  why.Memory,
  run.place.next,
  longer old new (items_text run.items) _ text,
  (λ done same. absurd (let e : Err Write ≡ Ok done = same in cc)),
  refl,
  inl refl,
)
tells_text left steps run (Err Write) old new (inr (cause, next, end, is, text)) =
    (cause, next, text, (λ done same. absurd (let e : Err Write ≡ Ok done = same in cc)), end.1, inr (end.0, is))
tells_text left steps run (Err Memory) old new (cause, next, end, is, text) = (
  cause,
  next,
  longer old new (items_text run.items) _ (items_text run.items, [], sym (append-nil _), text),
  (λ done same. absurd (let e : Err Memory ≡ Ok done = same in cc)),
  end.1,
  inr (end.0, is),
)
tells_text left steps run (Err (Exchange fault)) old new is = absurd is

-- nothing else is told
pub tells_none : (left : Why → Type 0) (steps : ℕ) (run : Course) (fetching : Fetching) (old new : Held)
    → TellsRun Lines left steps run fetching old new → (f : ExchangeFault) → fetching ≡ Err (Exchange f) → ⊥
tells_none left steps run (Ok fetched) old new told f is = absurd (let e : Ok fetched ≡ Err (Exchange f) = is in cc)
tells_none left steps run (Err Write) old new told f is =
    absurd (let e : Err Write ≡ Err (Exchange f) = is in let g : Write ≡ Exchange f = cc in cc)
tells_none left steps run (Err Memory) old new told f is =
    absurd (let e : Err Memory ≡ Err (Exchange f) = is in let g : Memory ≡ Exchange f = cc in cc)
tells_none left steps run (Err (Exchange fault)) old new told f is = absurd told

-- ---- the status

ok_so : (passed : Passed) (result : Ending) (ending : ℕ) (errors now : Held) (status : ℕ) → result ≡ Ok ending → Ends passed result errors now status
    → status ≡ ending
ok_so passed (Ok done) ending errors now status is (same, keeps) =
    same ∙ (let e : Ok done ≡ Ok ending = is in let f : done ≡ ending = cc in f)
ok_so passed (Err why) ending errors now status is told = absurd (let e : Err why ≡ Ok ending = is in cc)

-- all is written of a text; or a part of it, and memory is wanting, or the output refused it
whole_or : (before after : Held) (text : List ℕ) (ending status : ℕ) → Appends before after text → AppendsPart before after text
    → HasStatus ending status → IsWritten before after text ending status
whole_or before after text ending status whole part (inl is) = inl (whole, is)
whole_or before after text ending status whole part (inr (more, five)) = inr (part, inr five)

part_two : (before after : Held) (text : List ℕ) (ending status : ℕ) → AppendsPart before after text → HasStatus 2 status
    → IsWritten before after text ending status
part_two before after text ending status part (inl two) = inr (part, inl two)
part_two before after text ending status part (inr (more, five)) = inr (part, inr five)

part_five : (before after : Held) (text : List ℕ) (ending status : ℕ) → AppendsPart before after text → HasStatus 5 status
    → IsWritten before after text ending status
part_five before after text ending status part (inl five) = inr (part, inr five)
part_five before after text ending status part (inr (more, five)) = inr (part, inr five)

-- a flaw is told of a bad reply alone
flaw_four : {L : Type 0} (asks : Ask L) (path : Path) (retries : ℕ) (place : LogPlace) (flaw : ReplyFlaw) (new : L) (cause : Why)
    → TellsFlawOf asks path retries place (Some flaw) new cause → walk_status cause ≡ 4
flaw_four asks path retries place flaw new why.CaughtUp is = absurd (let e : Some flaw ≡ None = is in cc)
flaw_four asks path retries place flaw new why.StepLimit is = absurd (let e : Some flaw ≡ None = is in cc)
flaw_four asks path retries place flaw new (why.Fault walk.Lost) is = absurd (let e : Some flaw ≡ None = is in cc)
flaw_four asks path retries place flaw new (why.Fault (walk.Refused refusal)) is = absurd (let e : Some flaw ≡ None = is in cc)
flaw_four asks path retries place flaw new (why.Fault walk.BadReply) is = refl
flaw_four asks path retries place flaw new why.Memory is = absurd (let e : Some flaw ≡ None = is in cc)

-- the status of an end that was told
end_status : {L : Type 0} (asks : Ask L) (path : Path) (retries : ℕ) (place : LogPlace) (new : L) (address : List ℕ) (passed : Passed)
    (result : Ending) (errors now : Held) (status : ℕ) (cause : Why) (flaw : Option ReplyFlaw) → TellsFlawOf asks path retries place flaw new cause
    → result ≡ of_why address cause flaw → Ends passed result errors now status → HasStatus (walk_status cause) status
end_status asks path retries place new address passed result errors now status cause (Some flaw) told is ends =
    subst (λ (n : ℕ). HasStatus n status) (sym (flaw_four asks path retries place flaw new cause told))
    (ended passed result (fault.Flawed flaw) errors now status is ends)
end_status asks path retries place new address passed result errors now status why.CaughtUp None told is ends =
    inl (ok_so passed result 0 errors now status is ends)
end_status asks path retries place new address passed result errors now status why.StepLimit None told is ends =
    inl (ok_so passed result 0 errors now status is ends)
end_status asks path retries place new address passed result errors now status (why.Fault walk.Lost) None told is ends =
    ended passed result (fault.Silent address) errors now status is ends
end_status asks path retries place new address passed result errors now status (why.Fault (walk.Refused refusal)) None told is ends =
    ended passed result (fault.Declined refusal) errors now status is ends
end_status asks path retries place new address passed result errors now status (why.Fault walk.BadReply) None told is ends =
    inl (ok_so passed result 4 errors now status is ends)
end_status asks path retries place new address passed result errors now status why.Memory None told is ends =
    inl (ok_so passed result 5 errors now status is ends)

-- what is written of a run, by what was fetched
pub written : {L : Type 0} (asks : Ask L) (path : Path) (retries : ℕ) (log : Id) (new : L) (address : List ℕ) (passed : Passed)
    (fetching : Fetching) (result : Ending) (errors now : Held) (status : ℕ) (before after : Held) (text : List ℕ) (cause : Why)
    → TellsFlaw asks path retries log fetching new → AppendsPart before after text
    → ((done : Fetched) → fetching ≡ Ok done → Appends before after text × (done.why ≡ cause))
    → result ≡ of_fetching Lines address fetching → Ends passed result errors now status
    → ((f : ExchangeFault) → fetching ≡ Err (Exchange f) → ⊥) → IsWritten before after text (walk_status cause) status
written asks path retries log new address passed (Ok done) result errors now status before after text cause told part whole is ends asked =
    let it = whole done refl in
    whole_or before after text (walk_status cause) status it.0 part
    (subst (λ (c : Why). HasStatus (walk_status c) status) it.1
    (end_status asks path retries (log_place log done.next) new address passed result errors now status done.why done.flaw told is ends))
written asks path retries log new address passed (Err Write) result errors now status before after text cause told part whole is ends asked =
    part_two before after text (walk_status cause) status part (ended passed result fault.Write errors now status is ends)
written asks path retries log new address passed (Err Memory) result errors now status before after text cause told part whole is ends asked =
    part_five before after text (walk_status cause) status part (ended passed result fault.Memory errors now status is ends)
written asks path retries log new address passed (Err (Exchange f)) result errors now status before after text cause told part whole is ends asked =
    absurd (asked f refl)
