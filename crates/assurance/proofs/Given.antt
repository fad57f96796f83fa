-- What was made is what the functions' contracts ensure: by computing. Assumes nothing.
use Rattle.made.proofs.Made.{powering, framing, taking, messaging, starting, quieting, reading, counting}
use Rattle.assurance.specs.Given.{Given}

pub given : Given
given = record {
  powered = λ κs w w' name preferred count r m _. powering m;
  arrived = λ κs w w' b b' port id r m _. framing m;
  took = λ κs w w' port r m _. taking m;
  handed = λ κs w w' p p' b b' port requester r m _. messaging m;
  started = λ κs w w' r m _. starting m;
  quieted = λ κs w w' r m _. quieting m;
  told = λ κs w w' r m _. reading m;
  counted = λ κs w w' port r m _. counting m;
}
