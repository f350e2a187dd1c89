-- The status of a run.
use Rattle.std.proofs.Common.{◌≡◌, ◌≢◌, ◌⊎◌, ℕ, suc, Ok, Err, None, Some, [], inl, inr, refl, sym, ap, ◌∙◌, append-nil}
use Rattle.std.specs.Io.KnownBytes.{Appends, Keeps}
use Rattle.bac_socket_notes.specs.declared.notes.Passed.{Passed}
use Rattle.bac_laws.specs.Asked.{IsUnasked}
use Rattle.bac_link.specs.declared.exchanges.ExchangeFault.TheVariants as exchange
use Rattle.bac_print.specs.Output.{AppendsPart, Held}
use Rattle.bac_script.specs.declared.replay.fault.ReplayFault.{ReplayFault}
use Rattle.bac_script.specs.declared.replay.fault.ReplayFault.TheVariants as replay
use Rattle.bac_tools.specs.Ending.{Ending}
use Rattle.bac_tools.specs.Run.{Ends, IsTold}
use Rattle.bac_tools.specs.Status.{exit_status, script_status}
use Rattle.bac_tools.specs.declared.fault.Fault.{Fault}
use Rattle.bac_tools.specs.declared.fault.Fault.TheVariants as fault
use Rattle.bac_command_line.specs.declared.listing.ListFault.TheVariants as list

-- a number from 1 on
pub some : (n : ℕ) → suc n ≢ 0
some n is = absurd (let e : suc n ≡ 0 = is in cc)

no_script : (why : ReplayFault) → script_status why ≢ 0
no_script (replay.BadLine number) is = some 0 is
no_script (replay.Build f) is = some 0 is
no_script replay.TooLong is = some 0 is
no_script replay.Read is = some 1 is
no_script replay.Write is = some 1 is
no_script replay.Memory is = some 4 is

-- no fault ends with 0
pub no_zero : (why : Fault) → exit_status why ≢ 0
no_zero fault.NotText is = some 0 is
no_zero (fault.BadValue word) is = some 0 is
no_zero (fault.LongNumber word) is = some 0 is
no_zero fault.OtherTool is = some 0 is
no_zero fault.NoDevice is = some 0 is
no_zero (fault.Script refused) is = no_script refused.fault is
no_zero (fault.Unopened why) is = some 1 is
no_zero fault.Socket is = some 1 is
no_zero (fault.Refused address) is = some 1 is
no_zero (fault.NoAnswer asked) is = some 1 is
no_zero (fault.List (list.BadLine number)) is = some 0 is
no_zero (fault.List (list.TooMany number)) is = some 0 is
no_zero (fault.List list.Empty) is = some 0 is
no_zero (fault.List list.TooLong) is = some 0 is
no_zero (fault.List list.Read) is = some 1 is
no_zero (fault.List list.Memory) is = some 4 is
no_zero (fault.Exchange address exchange.TooLong) is = some 0 is
no_zero (fault.Exchange address exchange.Lost) is = some 1 is
no_zero (fault.Exchange address (exchange.Refused refusal)) is = some 2 is
no_zero (fault.Exchange address exchange.BadReply) is = some 3 is
no_zero (fault.Flawed flaw) is = some 3 is
no_zero (fault.Silent address) is = some 1 is
no_zero (fault.Declined refusal) is = some 2 is
no_zero fault.Clock is = some 1 is
no_zero fault.Write is = some 1 is
no_zero fault.Memory is = some 4 is

-- that of a fault, or that of no memory to tell it
abbrev pub Ended : ℕ → ℕ → Type 0
Ended ending status = (status ≡ ending) ⊎ ((ending ≢ 0) × (status ≡ 5))

pub ended : (passed : Passed) (result : Ending) (why : Fault) (said now : Held) (status : ℕ) → result ≡ Err why
    → Ends passed result said now status → Ended (exit_status why) status
ended passed (Ok done) why said now status is told = absurd (let e : Ok done ≡ Err why = is in cc)
ended passed (Err other) why said now status is (inl (same, text)) =
    inl (same ∙ ap exit_status (let e : Err other ≡ Err why = is in let f : other ≡ why = cc in f))
ended passed (Err other) why said now status is (inr (same, text)) = inr (no_zero why, same)

not_zero : (ending status : ℕ) → ending ≢ 0 → Ended ending status → status ≢ 0
not_zero ending status more (inl is) none = more (sym is ∙ none)
not_zero ending status more (inr (again, is)) none = some 4 (sym is ∙ none)

-- a run with a fault doesn't end with 0
pub failed : (passed : Passed) (result : Ending) (why : Fault) (said now : Held) (status : ℕ) → result ≡ Err why
    → Ends passed result said now status → status ≢ 0
failed passed result why said now status is ends = not_zero (exit_status why) status (no_zero why) (ended passed result why said now status is ends)

pub told_fails : (why : Fault) (old new : Held) (status : ℕ) → IsTold why old new status → status ≢ 0
told_fails why old new status (inl (is, text)) none = no_zero why (sym is ∙ none)
told_fails why old new status (inr (is, text)) none = some 4 (sym is ∙ none)

pub done_so : (passed : Passed) (result : Ending) (said now : Held) (status : ℕ) → result ≡ Ok 0 → Ends passed result said now status → status ≡ 0
done_so passed (Ok done) said now status is (same, keeps) = same ∙ (let e : Ok done ≡ Ok 0 = is in let f : done ≡ 0 = cc in f)
done_so passed (Err why) said now status is told = absurd (let e : Err why ≡ Ok 0 = is in cc)

-- ---- nothing asked

pub unasked_one : (status : ℕ) → Ended 1 status → IsUnasked status
unasked_one status (inl is) = inl is
unasked_one status (inr (more, five)) = inr (inr five)

pub unasked_two : (status : ℕ) → Ended 2 status → IsUnasked status
unasked_two status (inl is) = inr (inl is)
unasked_two status (inr (more, five)) = inr (inr five)

pub unasked_memory : (old new : Held) (status : ℕ) → IsTold fault.Memory old new status → IsUnasked status
unasked_memory old new status (inl (five, text)) = inr (inr five)
unasked_memory old new status (inr (five, text)) = inr (inr five)

-- ---- nothing printed

pub kept_none : (old new : Held) → Keeps old new → Appends old new []
kept_none None new keeps = tt
kept_none (Some held) None keeps = absurd keeps
kept_none (Some held) (Some now) keeps = keeps ∙ sym (append-nil held)

pub same_keeps : (old new : Held) → new ≡ old → Keeps old new
same_keeps None new is = tt
same_keeps (Some held) None is = absurd (let e : None ≡ Some held = is in cc)
same_keeps (Some held) (Some now) is = let e : Some now ≡ Some held = is in let f : now ≡ held = cc in f

pub kept_part : (old new : Held) → Keeps old new → AppendsPart old new []
kept_part old new keeps = ([], [], refl, kept_none old new keeps)

pub told_memory : (old new : Held) (status : ℕ) → IsTold fault.Memory old new status → status ≡ 5
told_memory old new status (inl (five, text)) = five
told_memory old new status (inr (five, text)) = five
