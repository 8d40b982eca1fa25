use Rattle.qscript.proofs.Common.{HasPrinted, take}
use Rattle.qscript.proofs.printing.text_of.Given as goal

abbrev pub invariant-events : goal.invariant-events
invariant-events l = HasPrinted (record { first = l.run.first; events = take l.k l.run.events }) l.printer
