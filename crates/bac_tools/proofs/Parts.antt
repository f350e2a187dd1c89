-- A text of which a front part was written, and a server that isn't up.
use Rattle.std.proofs.Common.{◌≡◌, ℕ, List, [], ◌++◌, ◌⊎◌, inl, inr, Option, None, Some, Result, Ok, Err, OnOk, OnErr, IfSome, if◌then◌else◌, subst, sym, ap, append-nil, append_assoc, ◌∙◌}
use Rattle.std.specs.Result.{is_ok}
use Rattle.std.specs.Io.KnownBytes.{Appends}
use Rattle.std.specs.Str.Lines.{lines}
use Rattle.bac_print.specs.Output.{AppendsPart, Held}
use Rattle.bac_objects.specs.State.{State}
use Rattle.bac_objects.specs.declared.lines.DeviceLine.{DeviceLine}
use Rattle.bac_objects.specs.declared.lines.ObjectLine.{ObjectLine}
use Rattle.bac_ports.specs.Sockets.{SocketRules}
use Rattle.bac_ports.specs.declared.port.OpenFault.{OpenFault}
use Rattle.bac_tools.specs.Ending.{Ending}
use Rattle.bac_script.specs.Reason.{AreNumbers}
use Rattle.bac_tools.specs.Serving.{IsServed, IsUnbuilt, service}
use Rattle.bac_tools.specs.Streams.{Streams}
use Rattle.bac_tools.specs.declared.fault.Fault.{Fault}
use Rattle.bac_tools.specs.declared.fault.Fault.TheVariants.{Memory, Unopened}
use Rattle.bac_wire.specs.Stamp.{CivilTime}

-- the whole of it is a front part too
pub part : {E : Type 0} (r : Result (Unit {0}) E) (old new : Option (List ℕ)) (text : List ℕ) → OnOk r (Appends old new text)
    → OnErr r (AppendsPart old new text) → AppendsPart old new text
part (Ok done) old new text whole some = (text, [], sym (append-nil text), whole)
part (Err fault) old new text whole some = some

-- a text that is appended in two parts
pub two : {E : Type 0} (r : Result (Unit {0}) E) (old x y z a new : List ℕ) → a ≡ old ++ x → z ≡ y → OnOk r (new ≡ a ++ z)
    → OnOk r (new ≡ old ++ (x ++ y))
two (Ok done) old x y z a new p q last = last ∙ ap (λ l. l ++ z) p ∙ append_assoc old x z ∙ ap (λ l. old ++ (x ++ l)) q
two (Err fault) old x y z a new p q last = last

-- what an append leaves if there was memory for it
pub grown : {E : Type 0} (r : Result (Unit {0}) E) (old text new : List ℕ) → new ≡ (if is_ok r then old ++ text else old)
    → OnOk r (new ≡ old ++ text)
grown (Ok done) old text new e = e
grown (Err fault) old text new e = tt

-- a server without a socket, or without memory for its line
pub unserved : {S P C : Type 0} (rules : SocketRules S P) (tells : C → Option CivilTime → C → Type 0) (address : List ℕ)
    (wait count : ℕ) (device : State) (old new : Streams S C) (result : Ending) (fault : Fault) → result ≡ Err fault
    → new.errors ≡ old.errors → new.clock ≡ old.clock
    → ((fault ≡ Memory) × (new.sockets ≡ old.sockets))
    ⊎ ((why : OpenFault) × (fault ≡ Unopened why) × rules.opens old.sockets address wait (Err why) new.sockets)
    → IsServed rules tells (service device address wait count) old result new
unserved rules tells address wait count device old new result fault said errors clock (inl (p, sockets)) =
    inl (said ∙ ap Err p, ((errors, clock), sockets))
unserved rules tells address wait count device old new result fault said errors clock (inr (why, p, opens)) =
    inr (inl (why, opens, said ∙ ap Err p, (errors, clock)))

-- lines that make no device are told by their numbers in the input, if its text was kept
pub placed : (input : Held) (text : List ℕ) (device : DeviceLine) (objects : List ObjectLine) (fault : Fault) → IfSome input (λ script. text ≡ script)
    → IsUnbuilt (Some text) device objects fault → IsUnbuilt input device objects fault
placed input text device objects fault kept (inl memory) = inl memory
placed None text device objects fault kept (inr (unfit, first, same, there, told)) = inr (unfit, first, same, tt, told)
placed (Some script) text device objects fault kept (inr (unfit, first, same, there, told)) =
    inr (unfit, first, same, subst (λ (t : List ℕ). AreNumbers (lines t) unfit) kept there, told)
