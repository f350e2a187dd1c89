use Rattle.std.proofs.lemmas.Result.{IfOk-weaker}
use Rattle.std.proofs.Common.{◌∙◌}
use Rattle.bac_script.specs.Script.Words.{words_of}
use Rattle.bac_script.specs.declared.script.flaw.LineKind.TheVariants as line
use Rattle.bac_script.proofs.Reading.{read_alone, read_none, read_of}
use Rattle.bac_script.proofs.script.line.Line.read.Goals as goal

pub returns-in_default : goal.returns-in_default
returns-in_default c = read_alone _ (rw c.in_default.is at c.split_word.ensures.last)

pub returns-in_default-line_kind : goal.returns-in_default-line_kind
returns-in_default-line_kind c =
    read_none c.args.text.now c.in-Some.word.now (words_of c.in-Some.words.now) c.line_kind.result c.in-Some.ensures.words c.line_kind.ensures c.in_default-line_kind.is

pub returns-in-Device : goal.returns-in-Device
returns-in-Device c =
    let by = read_of c.args.text.now c.in-Some.word.now (words_of c.in-Some.words.now) c.line_kind.result c.in-Some-line_kind.kind line.Device
    c.in-Some.ensures.words c.line_kind.ensures c.in-Some-line_kind.is c.in-Device.is in
    IfOk-weaker c.device_line.result _ _ (λ said e. by ∙ e) c.device_line.ensures

pub returns-in-Binary : goal.returns-in-Binary
returns-in-Binary c =
    let by = read_of c.args.text.now c.in-Some.word.now (words_of c.in-Some.words.now) c.line_kind.result c.in-Some-line_kind.kind line.Binary
    c.in-Some.ensures.words c.line_kind.ensures c.in-Some-line_kind.is c.in-Binary.is in
    IfOk-weaker c.binary_line.result _ _ (λ said e. by ∙ e) c.binary_line.ensures

pub returns-in-Multistate : goal.returns-in-Multistate
returns-in-Multistate c =
    let by = read_of c.args.text.now c.in-Some.word.now (words_of c.in-Some.words.now) c.line_kind.result c.in-Some-line_kind.kind line.Multistate
    c.in-Some.ensures.words c.line_kind.ensures c.in-Some-line_kind.is c.in-Multistate.is in
    IfOk-weaker c.multistate_line.result _ _ (λ said e. by ∙ e) c.multistate_line.ensures

pub returns-in-Integer : goal.returns-in-Integer
returns-in-Integer c =
    let by = read_of c.args.text.now c.in-Some.word.now (words_of c.in-Some.words.now) c.line_kind.result c.in-Some-line_kind.kind line.Integer
    c.in-Some.ensures.words c.line_kind.ensures c.in-Some-line_kind.is c.in-Integer.is in
    IfOk-weaker c.integer_line.result _ _ (λ said e. by ∙ e) c.integer_line.ensures

pub returns-in-Log : goal.returns-in-Log
returns-in-Log c =
    let by = read_of c.args.text.now c.in-Some.word.now (words_of c.in-Some.words.now) c.line_kind.result c.in-Some-line_kind.kind line.Log
    c.in-Some.ensures.words c.line_kind.ensures c.in-Some-line_kind.is c.in-Log.is in
    IfOk-weaker c.log_line.result _ _ (λ said e. by ∙ e) c.log_line.ensures

pub returns-in-Rx : goal.returns-in-Rx
returns-in-Rx c =
    read_of c.args.text.now c.in-Some.word.now (words_of c.in-Some.words.now) c.line_kind.result c.in-Some-line_kind.kind line.Rx
    c.in-Some.ensures.words c.line_kind.ensures c.in-Some-line_kind.is c.in-Rx.is ∙ c.rx_line.ensures

pub returns-in-Clock : goal.returns-in-Clock
returns-in-Clock c =
    read_of c.args.text.now c.in-Some.word.now (words_of c.in-Some.words.now) c.line_kind.result c.in-Some-line_kind.kind line.Clock
    c.in-Some.ensures.words c.line_kind.ensures c.in-Some-line_kind.is c.in-Clock.is ∙ c.clock_line.ensures

pub returns-in-Sample : goal.returns-in-Sample
returns-in-Sample c =
    read_of c.args.text.now c.in-Some.word.now (words_of c.in-Some.words.now) c.line_kind.result c.in-Some-line_kind.kind line.Sample
    c.in-Some.ensures.words c.line_kind.ensures c.in-Some-line_kind.is c.in-Sample.is ∙ c.sample_line.ensures

pub returns-in-Walk : goal.returns-in-Walk
returns-in-Walk c =
    read_of c.args.text.now c.in-Some.word.now (words_of c.in-Some.words.now) c.line_kind.result c.in-Some-line_kind.kind line.Walk
    c.in-Some.ensures.words c.line_kind.ensures c.in-Some-line_kind.is c.in-Walk.is ∙ c.walk_line.ensures
