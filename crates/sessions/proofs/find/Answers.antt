-- `sessions::find` meets its contract: the first that passes is found. Assumes nothing.
use Rattle.std.proofs.Common.{rules, tests}
use Rattle.std.proofs.lemmas.Iterator.{YieldsList-from_slice}
use Rattle.std.proofs.lemmas.Iterator.Search.{position_from_yields_List}
use Rattle.session.specs.Session.{session_of}
use Rattle.sessions.specs.Sessions.{talk_of, is_with}
use Rattle.sessions.proofs.Search.{place_by, place_if}
use Rattle.sessions.proofs.find.Goals as goal

pub returns-clause-place : goal.returns-clause-place
returns-clause-place c =
    place_by (is_with c.args.way c.args.peer) c.open_blocks.result.now c.open_blocks.ensures.value
    (position_from_yields_List (λ b. is_with c.args.way c.args.peer (session_of b)) _ _ c.position.result c.position.ensures.ran
    (YieldsList-from_slice c.open_blocks.result.now c.iter.ensures.rest) (λ x b q k. search (rules, tests)))

pub returns-clause-inside : goal.returns-clause-inside
returns-clause-inside c = rw (returns-clause-place c) (place_if (is_with c.args.way c.args.peer) (talk_of c.args.port.now))
