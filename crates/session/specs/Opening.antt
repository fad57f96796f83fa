-- The session that is opened, without packets.
-- Assumes nothing.
use Rattle.session.specs.declared.opening.Opening.{Opening}
use Rattle.session.specs.Session.{Session, opened}
use Rattle.session.specs.Way.{word_in}

abbrev pub opened_by : Opening → Session
opened_by o = opened (word_in o.way) o.peer o.size o.through o.limit o.timer o.since
