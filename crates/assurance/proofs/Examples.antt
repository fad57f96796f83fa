-- The table of examples, each by computing. Assumes nothing.
use mathlib.Core.Path.{refl}
use Rattle.filter.specs.Filter.{asked, is_permanent, reason_of, reported_mode, is_cleared}
use Rattle.entries.specs.Entries.{listed, entries_of, every, leading, first_wrong, reported}
use Rattle.pgn_list.specs.PgnList.{add_one, add_all}
use Rattle.sorted_list.specs.SortedList.{halving_in, halved, put_one, put_all}
use Rattle.queue.specs.Queue.{counted_in, counted_out}
use Rattle.filter_commands.specs.Changes.{would_pass, may_create, mode_for, created}
use Rattle.network_message.specs.Decoding.{is_known, is_general, holds_parameter, may_be_all, is_pair, names_ports, may_name, is_filling, entries_end, holds_entries, has_good_body, wrong_in, wrong_entry, has_wrong_mode, refusal_of, judged, command_of, decoded}
use Rattle.checks.specs.Ports.{is_port}
use Rattle.replies.specs.Replies.{control_of, acknowledgment, filled, list_body, list_reply}
use Rattle.storage.specs.Bytes.{packed, bytes_of}
use Rattle.unit.specs.Count.{pair_count}
use Rattle.unit.specs.Ports.{each, in_turn, mask, total, digits}
use Rattle.unit.specs.Own.{consumes, is_own}
use Rattle.addresses.specs.Table.{name_in, name_at}
use Rattle.name_entries.specs.NameEntries.{any_match, place_in}
use Rattle.forwarding.specs.Forwarding.{verdict}
use Rattle.bridge.specs.Calls.{offered}
use Rattle.list_commands.specs.Commands.{names, any_below, any_named, change_named, list_refusal, list_checks, commanded}
use Rattle.filter_commands.specs.Pairs.{holds_of, change_of}
use Rattle.refusals.specs.Refusals.{frame_refusal, take_refusal, message_refusal}
use Rattle.message_answers.specs.Messages.{absent_told, performed_by}
use Rattle.bridge.specs.Calls.{messaged, refusal, rest_after, losses_after, asks, sends, performed, next, frame_passed, frame_answer, take_answer}
use Rattle.claims.specs.Claims.{is_claim, is_request, is_request_to_unit, frame_acted}
use Rattle.identifier.specs.Identifier.{pgn_of, destination_of, is_pgn, sent_without_address, wrong_source}
use Rattle.demand_3.specs.Demand3.{answer}
use Rattle.assurance.specs.Examples.{Examples}

pub examples : Examples
unfolding pair_count counted_in counted_out frame_answer frame_refusal take_answer take_refusal is_port answer next refusal performed rest_after losses_after in_turn asks sends frame_acted is_claim is_request is_request_to_unit sent_without_address pgn_of destination_of wrong_source frame_passed mask total digits offered consumes is_own verdict asked any_match place_in name_at name_in is_permanent reason_of listed halved halving_in put_one put_all messaged message_refusal decoded judged refusal_of is_known is_general holds_parameter names_ports is_pair may_be_all may_name has_good_body holds_entries entries_end is_filling wrong_in wrong_entry first_wrong leading entries_of every packed is_pgn has_wrong_mode command_of performed_by absent_told list_refusal list_checks any_named any_below names holds_of is_cleared would_pass add_all add_one commanded change_named each change_of created may_create mode_for acknowledgment control_of list_reply filled list_body reported_mode reported bytes_of
examples = record {
  p1 = (refl, refl);
  p2 = (refl, refl);
  p3 = refl;
  p4 = refl;
  p5 = (refl, refl, refl);
  p6 = (refl, refl);
  p7 = (refl, refl);
  p8 = refl;
  p9 = (refl, refl);
  p10 = (refl, refl, refl, refl);
  p11 = refl;
}
