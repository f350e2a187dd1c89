use Rattle.std.proofs.Common.{Ok, Err, sym}
use Rattle.bac_memory_link.proofs.Asks.{asked, lacked, lost, never_lost, nothing_changes}
use Rattle.bac_memory_link.proofs.direct_link.DirectLinkLogLink.ask.Goals as goal

pub returns-in-Some-clause-ours : goal.returns-in-Some-clause-ours
returns-in-Some-clause-ours c = λ id r M H extent path invoke ahead asks.
    asked c.args.self.now.device.now c.tell.new.self.device.now c.args.self.now.events.now c.tell.new.self.events.now id r M H extent path invoke c.args.request.now
    (Ok c.in-Some.datagram) c.tell.ensures.sound ahead asks c.in-Some.ensures.reply c.tell.ensures.device c.tell.ensures.events

pub returns-in-None-clause-ours : goal.returns-in-None-clause-ours
returns-in-None-clause-ours c = λ id r M H extent path invoke ahead asks.
    asked c.args.self.now.device.now c.tell.new.self.device.now c.args.self.now.events.now c.tell.new.self.events.now id r M H extent path invoke c.args.request.now
    (Err lost) c.tell.ensures.sound ahead asks c.in-None.ensures.reply c.tell.ensures.device c.tell.ensures.events

pub returns-in-Some-clause-lacking : goal.returns-in-Some-clause-lacking
returns-in-Some-clause-lacking c = λ id extent path invoke none asks.
    lacked c.args.self.now.device.now c.tell.new.self.device.now c.args.self.now.events.now id extent path invoke c.args.request.now
    (Ok c.in-Some.datagram) c.tell.ensures.sound none asks c.in-Some.ensures.reply c.tell.ensures.device

pub returns-in-None-clause-lacking : goal.returns-in-None-clause-lacking
returns-in-None-clause-lacking c = λ id extent path invoke none asks.
    lacked c.args.self.now.device.now c.tell.new.self.device.now c.args.self.now.events.now id extent path invoke c.args.request.now
    (Err lost) c.tell.ensures.sound none asks c.in-None.ensures.reply c.tell.ensures.device

pub returns-in-Some-clause-kept : goal.returns-in-Some-clause-kept
returns-in-Some-clause-kept c = λ id extent path invoke none asks. (
  nothing_changes c.args.self.now.device.now c.tell.new.self.device.now c.args.self.now.events.now id extent path invoke c.args.request.now none.0 none.1 asks c.tell.ensures.device,
  sym c.tell.ensures.same_reference,
)

pub returns-in-None-clause-kept : goal.returns-in-None-clause-kept
returns-in-None-clause-kept c = λ id extent path invoke none asks. (
  nothing_changes c.args.self.now.device.now c.tell.new.self.device.now c.args.self.now.events.now id extent path invoke c.args.request.now none.0 none.1 asks c.tell.ensures.device,
  sym c.tell.ensures.same_reference,
)

pub returns-in-None-clause-answered : goal.returns-in-None-clause-answered
returns-in-None-clause-answered c = λ id extent path invoke none asks.
    never_lost c.args.self.now.device.now c.args.self.now.events.now id extent path invoke c.args.request.now (Err lost) none.0 none.1 asks c.in-None.ensures.reply

pub returns-in-Some-clause-asked : goal.returns-in-Some-clause-asked
returns-in-Some-clause-asked c = (
  (c.in-Some.ensures.reply, c.tell.ensures.device, c.tell.ensures.events, c.tell.ensures.sound),
  λ id r M H extent path invoke ahead asks.
      asked c.args.self.now.device.now c.tell.new.self.device.now c.args.self.now.events.now c.tell.new.self.events.now id r M H extent path invoke c.args.request.now
      (Ok c.in-Some.datagram) c.tell.ensures.sound ahead asks c.in-Some.ensures.reply c.tell.ensures.device c.tell.ensures.events,
)

pub returns-in-None-clause-asked : goal.returns-in-None-clause-asked
returns-in-None-clause-asked c = (
  (c.in-None.ensures.reply, c.tell.ensures.device, c.tell.ensures.events, c.tell.ensures.sound),
  λ id r M H extent path invoke ahead asks.
      asked c.args.self.now.device.now c.tell.new.self.device.now c.args.self.now.events.now c.tell.new.self.events.now id r M H extent path invoke c.args.request.now
      (Err lost) c.tell.ensures.sound ahead asks c.in-None.ensures.reply c.tell.ensures.device c.tell.ensures.events,
)
