-- `bridge::message` meets its contract: refused before the payload is read, or what it asks is done and answered. Assumes nothing.
use mathlib.Core.Path.{◌≡◌, refl, sym}
use native.Mathlib.Omega.{arith}
use lib.ListN.{length}
use Rattle.checks.specs.Refusals.{number}
use Rattle.checks.proofs.Refusals.{number_positive}
use Rattle.network_message.proofs.Decoding.{decoded_good}
use Rattle.unit.specs.Model.{model_of}
use Rattle.refusals.proofs.Checks.{message_goes}
use Rattle.bridge.proofs.MessageLaws.{message_refused, message_done}
use Rattle.bridge.proofs.message.Goals as goal

pub returns-in-Err : goal.returns-in-Err
returns-in-Err c = let args = c.args in
    rw (← c.ports_of-ports.ensures.count, c.refused.ensures)
    (message_refused c.ports_of-ports.result args.words.now args.reply.now args.port args.requester args.payload.now c.in-Err.ensures (λ z. omega (arith, number_positive c.in-Err.refusal)))

pub decode-command-requires : goal.decode-command-requires
decode-command-requires c = let G = message_goes c.ports_of-ports.result (length c.args.words.now) (length c.args.reply.now) (model_of c.ports_of-ports.result c.args.words.now).rest c.args.port c.args.requester (length c.args.payload.now) (sym c.in_default.ensures) in
    (c.ports_of-ports.ensures.most, G.2)

pub perform-requires : goal.perform-requires
perform-requires c = let G = message_goes c.ports_of-ports.result (length c.args.words.now) (length c.args.reply.now) (model_of c.ports_of-ports.result c.args.words.now).rest c.args.port c.args.requester (length c.args.payload.now) (sym c.in_default.ensures) in
    (c.ports_of-ports.ensures.most, G.0, G.1, G.3, G.2, rw c.decode-command.ensures (decoded_good c.ports_of-ports.result c.args.port c.args.payload.now G.2), omega (arith, c.ports_of-ports.ensures.least))

pub returns : goal.returns
returns c = let args = c.args in
    rw (← c.ports_of-ports.ensures.count)
    (message_done c.ports_of-ports.result args.words.now args.reply.now args.port args.requester args.payload.now c.in_default.ensures refl c.decode-command.ensures (omega arith) c.perform.ensures)
