-- A date, and a time behind the T.
use Rattle.std.proofs.Common.{sym, ◌∙◌}
use Rattle.bac_wire.specs.Stamp.{time_octets}
use Rattle.bac_print.specs.Moments.{time_text}
use Rattle.bac_known.proofs.ReadBack.{date_split}
use Rattle.bac_known.proofs.date_time.DateTime.read.Goals as goal

pub returns-in_err-date : goal.returns-in_err-date
returns-in_err-date c d t date time is =
    let cut = rw c.in_err-date.was at (date_split d c.args.text.now (time_text (time_octets t)) c.split_once.result c.split_once.ensures.cases date is) in
    absurd cut

pub returns-in_err-read_date : goal.returns-in_err-read_date
returns-in_err-read_date c d t date time is =
    let cut = rw c.in_ok-date.was at (date_split d c.args.text.now (time_text (time_octets t)) c.split_once.result c.split_once.ensures.cases date is) in
    let read = c.read_date.ensures d date cut.0 in
    let none = sym c.in_err-read_date.was ∙ read in absurd cc

pub returns-in_err-read_time : goal.returns-in_err-read_time
returns-in_err-read_time c d t date time is =
    let cut = rw c.in_ok-date.was at (date_split d c.args.text.now (time_text (time_octets t)) c.split_once.result c.split_once.ensures.cases date is) in
    let read = c.read_time.ensures t time cut.1 in
    let none = sym c.in_err-read_time.was ∙ read in absurd cc

pub returns : goal.returns
returns c d t date time is =
    let cut = rw c.in_ok-date.was at (date_split d c.args.text.now (time_text (time_octets t)) c.split_once.result c.split_once.ensures.cases date is) in
    let shown = sym c.in_ok-read_date.was ∙ c.read_date.ensures d date cut.0 in
    let at = sym c.in_ok-read_time.was ∙ c.read_time.ensures t time cut.1 in
    cc
