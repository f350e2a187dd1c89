-- Part by part.
use Rattle.std.proofs.Common.{◌∷◌, ◌++◌, sym, ◌∙◌}
use Rattle.bac_print.specs.Moments.{part_text}
use Rattle.bac_known.proofs.ReadBack.{same_time, time_is}
use Rattle.bac_known.proofs.stamps.read_time.Goals as goal

pub returns-in_err-hour : goal.returns-in_err-hour
returns-in_err-hour c t all is =
    let hour = rw c.in_err-hour.was at (c.part_before.ensures t.hour (part_text t.minute ++ (58 ∷ (part_text t.second ++ (46 ∷ part_text t.hundredth)))) all.0 (is ∙ time_is t)) in
    absurd hour

pub returns-in_err-minute : goal.returns-in_err-minute
returns-in_err-minute c t all is =
    let hour = rw c.in_ok-hour.was at (c.part_before.ensures t.hour (part_text t.minute ++ (58 ∷ (part_text t.second ++ (46 ∷ part_text t.hundredth)))) all.0 (is ∙ time_is t)) in
    let minute = rw c.in_err-minute.was at (c.part_before-2.ensures t.minute (part_text t.second ++ (46 ∷ part_text t.hundredth)) all.1 hour.1) in
    absurd minute

pub returns-in_err-second : goal.returns-in_err-second
returns-in_err-second c t all is =
    let hour = rw c.in_ok-hour.was at (c.part_before.ensures t.hour (part_text t.minute ++ (58 ∷ (part_text t.second ++ (46 ∷ part_text t.hundredth)))) all.0 (is ∙ time_is t)) in
    let minute = rw c.in_ok-minute.was at (c.part_before-2.ensures t.minute (part_text t.second ++ (46 ∷ part_text t.hundredth)) all.1 hour.1) in
    let second = rw c.in_err-second.was at (c.part_before-3.ensures t.second (part_text t.hundredth) all.2 minute.1) in
    absurd second

pub returns-in_err-read_part : goal.returns-in_err-read_part
returns-in_err-read_part c t all is =
    let hour = rw c.in_ok-hour.was at (c.part_before.ensures t.hour (part_text t.minute ++ (58 ∷ (part_text t.second ++ (46 ∷ part_text t.hundredth)))) all.0 (is ∙ time_is t)) in
    let minute = rw c.in_ok-minute.was at (c.part_before-2.ensures t.minute (part_text t.second ++ (46 ∷ part_text t.hundredth)) all.1 hour.1) in
    let second = rw c.in_ok-second.was at (c.part_before-3.ensures t.second (part_text t.hundredth) all.2 minute.1) in
    let hundredth = c.read_part.ensures t.hundredth all.3 second.1 in
    let none = sym c.in_err-read_part.was ∙ hundredth in absurd cc

pub returns : goal.returns
returns c t all is =
    let hour = rw c.in_ok-hour.was at (c.part_before.ensures t.hour (part_text t.minute ++ (58 ∷ (part_text t.second ++ (46 ∷ part_text t.hundredth)))) all.0 (is ∙ time_is t)) in
    let minute = rw c.in_ok-minute.was at (c.part_before-2.ensures t.minute (part_text t.second ++ (46 ∷ part_text t.hundredth)) all.1 hour.1) in
    let second = rw c.in_ok-second.was at (c.part_before-3.ensures t.second (part_text t.hundredth) all.2 minute.1) in
    let hundredth = c.read_part.ensures t.hundredth all.3 second.1 in
    let some = sym c.in_ok-read_part.was ∙ hundredth in
    same_time c.in_ok-hour.hour c.in_ok-minute.minute c.in_ok-second.second c.in_ok-read_part.field-0 t hour.0 minute.0 second.0 some
