-- Each function's contract, read off by the toolchain, is the one that Made.antt speaks of, and requires nothing. Assumes nothing.
use Rattle.checks.specs.Refusals.{number_in}
use Rattle.message_answers.specs.Answers.{message_told}
use Rattle.bridge.specs.Told.{frame_told, take_told, start_told, unit_told, counts_told}
use Rattle.made.specs.Made.{powered, arrived, took, handed, started, quieted, told, counted}
use Rattle.made.specs.Cited.{Cited}

pub cited : Cited
cited = record {
  powered = λ κs w w' name preferred count r c. powered w.now w'.now name preferred count (number_in r) (c tt);
  arrived = λ κs w w' b b' port id r c. arrived w.now w'.now b.now port id (frame_told r) (c tt);
  took = λ κs w w' port r c. took w.now w'.now port (take_told r) (c tt);
  handed = λ κs w w' p p' b b' port requester r c. handed w.now w'.now p.now b.now b'.now port requester (message_told r) (c tt);
  started = λ κs w w' r c. started w.now w'.now (start_told r) (c tt);
  quieted = λ κs w w' r c. quieted w.now w'.now (number_in r) (c tt);
  told = λ κs w w' r c. told w.now (unit_told r) (c tt);
  counted = λ κs w w' port r c. counted w.now port (counts_told r) (c tt);
}
