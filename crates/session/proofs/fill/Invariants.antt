-- `session::fill` meets its contract: the words of the packets are stored one after the other, then counted. Assumes nothing.
use Rattle.packets.specs.Words.{cut_words}
use Rattle.session.proofs.Paste.{Pasted}
use Rattle.session.proofs.fill.Given as goal

abbrev pub invariant-loop-i : goal.invariant-loop-i
invariant-loop-i l = Pasted l.initial.block 8 (cut_words l.bytes) l.block l.i
