use Rattle.std.proofs.Common.{map}
use Rattle.std.specs.String.{string_bytes}
use Rattle.bac_ports.specs.Sockets.{socket_rules}
use Rattle.bac_tools.specs.Streams.{streams}
use Rattle.bac_tools.proofs.Told.{done_of, wrong_of, explained_of}
use Rattle.bac_tools.proofs.program.run.Goals as goal

pub returns-clause-done : goal.returns-clause-done
returns-clause-done g c =
    let rules = socket_rules g.S.Sockets.opens g.S.Sockets.closes g.S.Socket.Port.sends g.S.Socket.Port.receives g.S.Socket.Port.receives_within in
    let old = streams (g.I.Read.remaining c.args.input.now) (g.O.Write.contents c.args.output.now) (g.E.Write.contents c.args.errors.now) c.args.sockets.now c.args.clock.now in
    let new = streams (g.I.Read.remaining c.run_read.new.input) (g.O.Write.contents c.run_read.new.output) (g.E.Write.contents c.run_read.new.errors) c.run_read.new.sockets c.run_read.new.clock in
    done_of rules g.S.Heeds.passes g.C.Clock.tells (map string_bytes c.args.words.now) c.read_words-read.result old c.run_read.result new
    c.read_words-read.ensures.ok c.read_words-read.ensures.err c.run_read.ensures

pub returns-clause-bad_value : goal.returns-clause-bad_value
returns-clause-bad_value g c =
    let rules = socket_rules g.S.Sockets.opens g.S.Sockets.closes g.S.Socket.Port.sends g.S.Socket.Port.receives g.S.Socket.Port.receives_within in
    let old = streams (g.I.Read.remaining c.args.input.now) (g.O.Write.contents c.args.output.now) (g.E.Write.contents c.args.errors.now) c.args.sockets.now c.args.clock.now in
    let new = streams (g.I.Read.remaining c.run_read.new.input) (g.O.Write.contents c.run_read.new.output) (g.E.Write.contents c.run_read.new.errors) c.run_read.new.sockets c.run_read.new.clock in
    wrong_of rules g.S.Heeds.passes g.C.Clock.tells (map string_bytes c.args.words.now) c.read_words-read.result old c.run_read.result new
    c.read_words-read.ensures.ok c.read_words-read.ensures.err c.run_read.ensures

pub returns-clause-explained : goal.returns-clause-explained
returns-clause-explained g c =
    let rules = socket_rules g.S.Sockets.opens g.S.Sockets.closes g.S.Socket.Port.sends g.S.Socket.Port.receives g.S.Socket.Port.receives_within in
    let old = streams (g.I.Read.remaining c.args.input.now) (g.O.Write.contents c.args.output.now) (g.E.Write.contents c.args.errors.now) c.args.sockets.now c.args.clock.now in
    let new = streams (g.I.Read.remaining c.run_read.new.input) (g.O.Write.contents c.run_read.new.output) (g.E.Write.contents c.run_read.new.errors) c.run_read.new.sockets c.run_read.new.clock in
    explained_of rules g.S.Heeds.passes g.C.Clock.tells (map string_bytes c.args.words.now) c.read_words-read.result old c.run_read.result new
    c.read_words-read.ensures.ok c.read_words-read.ensures.err c.run_read.ensures
