-- `sessions::drop_with` meets its contract: the one that is found goes out. Assumes nothing.
use Rattle.std.proofs.Common.{◌∙◌}
use Rattle.session.specs.Way.{word}
use Rattle.sessions.specs.Sessions.{talk_of, is_with}
use Rattle.sessions.proofs.Search.{place_removed}
use Rattle.sessions.proofs.drop_with.Goals as goal

pub returns : goal.returns
returns c = c.drop_at.ensures ∙ rw (c.find-place.ensures.place, c.word.ensures) (place_removed (is_with (word c.args.way) c.args.peer) (talk_of c.args.port.now))
