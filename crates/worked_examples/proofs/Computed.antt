-- The examples are computed.
use mathlib.Core.Path.{refl}
use Rattle.std.specs.Option.{option_or}
use lib.Count.{ones_in, ones}
use Rattle.lists.specs.Bytes as lists-Bytes
use Rattle.lists.specs.Lists as lists-Lists
use Rattle.lists.specs.Search as lists-Search
use Rattle.wire.specs.Numbers as wire-Numbers
use Rattle.wire.specs.HashText as wire-HashText
use Rattle.short_rows.specs.Mark as short-rows-Mark
use Rattle.short_rows.specs.Reading as short-rows-Reading
use Rattle.layout.specs.Layout as layout-Layout
use Rattle.journal_record.specs.Reading as journal-record-Reading
use Rattle.journal_writer.specs.Writing as journal-writer-Writing
use Rattle.store_rules.specs.Frames as rules-Frames
use Rattle.store_rules.specs.Poll as rules-Poll
use Rattle.store_rules.specs.Rules as rules-Rules
use Rattle.store_rules.specs.Lookup as rules-Lookup
use Rattle.store_rules.specs.Store as rules-Store
use Rattle.store_rules.specs.Answers as rules-Answers
use Rattle.store_rules.specs.Sweeps as rules-Sweeps
use Rattle.gap_quarantine_journal.specs.Pending as gap-quarantine-journal-Pending
use Rattle.gap_quarantine_journal.specs.Fold as gap-quarantine-journal-Fold
use Rattle.gap_quarantine_journal.specs.Restore as gap-quarantine-journal-Restore
use Rattle.worked_examples.specs.Setting.{address, frame_hash, h, frame, frame_f, degraded_f, ask, after, answer, held, row, polled, polled_with, repark, mined_at100, enter_at100, fold, pending_in, counts_in, capital_text, capital_hash, park_with, resolve_bytes, legacy_bytes}
use Rattle.worked_examples.specs.ShortRows.{short_answer, short_row, ShortRows}
use Rattle.worked_examples.specs.Starred.{Starred}
use Rattle.worked_examples.specs.Sweeps.{other_address, frame_g, swept, swept_both, Sweeps}
use Rattle.worked_examples.specs.Tempting.{Tempting}

-- the definitions that the examples compute with
computing : Unit {0}
unfolding lists-Bytes.eq_bytes lists-Bytes.le_bytes lists-Lists.keep lists-Lists.is_empty lists-Lists.collect lists-Lists.is_in lists-Lists.numbers_from lists-Lists.sum lists-Lists.chunks wire-Numbers.num wire-Numbers.digits wire-HashText.hex_value wire-HashText.hex_digit wire-HashText.hex_text wire-HashText.canonical wire-HashText.unprefixed wire-HashText.all_hex wire-HashText.from_hex wire-HashText.parses wire-HashText.parse_hash layout-Layout.within layout-Layout.sound_tagged layout-Layout.sound_text layout-Layout.sound_tentative layout-Layout.sound layout-Layout.size layout-Layout.fits layout-Layout.offset layout-Layout.width layout-Layout.field_at layout-Layout.cut layout-Layout.join journal-record-Reading.lead journal-record-Reading.is_set journal-record-Reading.tag_value journal-record-Reading.tag_number journal-record-Reading.text_value journal-record-Reading.fidelity_value journal-record-Reading.consumed_value journal-record-Reading.tentative_value journal-record-Reading.resolution_value journal-record-Reading.park_of journal-record-Reading.tentative_entry_of journal-record-Reading.resolve_of journal-record-Reading.legacy_of journal-record-Reading.other_of journal-record-Reading.form_of journal-record-Reading.layout_of journal-record-Reading.size_of journal-record-Reading.is_park journal-record-Reading.version_of journal-record-Reading.accepted journal-writer-Writing.flag_byte journal-writer-Writing.tag_bytes journal-writer-Writing.text_bytes journal-writer-Writing.fidelity_byte journal-writer-Writing.kind_byte journal-writer-Writing.consumed_bytes journal-writer-Writing.tentative_bytes journal-writer-Writing.end_fields journal-writer-Writing.park_fields journal-writer-Writing.fields_of journal-writer-Writing.bytes_of rules-Frames.degraded rules-Poll.gap rules-Poll.predecessors rules-Poll.unknown rules-Poll.first_is rules-Poll.contents_hold rules-Poll.content_matches rules-Poll.boundary_holds rules-Poll.guard_matches rules-Poll.stay rules-Poll.leave rules-Poll.row rules-Poll.held_at rules-Poll.poll_degraded rules-Poll.poll_full rules-Poll.poll_in rules-Poll.poll_given rules-Poll.poll_rule rules-Rules.only_of rules-Rules.evict_rule rules-Rules.differs rules-Rules.reorg_in rules-Rules.reorg_rule rules-Rules.final_in rules-Rules.final_rule rules-Store.empty rules-Store.guard_of rules-Store.drop_guard rules-Store.put_guard rules-Store.after rules-Store.walk rules-Store.walked rules-Store.fresh rules-Store.insert rules-Frames.is_tracked lists-Search.first_at rules-Lookup.entries_of rules-Lookup.enters rules-Lookup.found_behind rules-Lookup.first_of rules-Lookup.lookup rules-Lookup.is_found rules-Lookup.enter_with rules-Lookup.enter_head rules-Lookup.enter_first rules-Store.effect rules-Store.when rules-Store.wide_gap rules-Store.bad_content rules-Store.bad_contents rules-Store.no_room_for rules-Store.input_refusal rules-Store.listed rules-Store.rows_of rules-Store.room_refusal rules-Store.row_width rules-Store.refusal rules-Store.unless rules-Store.step rules-Store.run rules-Store.calls rules-Answers.decision_number rules-Answers.row_numbers rules-Answers.numbers_of rules-Sweeps.polls_from rules-Sweeps.in_turn rules-Sweeps.polls_in rules-Sweeps.rows_listed rules-Sweeps.bad_lists rules-Sweeps.bad_sum rules-Sweeps.big_count rules-Sweeps.sweep_input_refusal rules-Sweeps.listed_entries rules-Sweeps.sweep_room_refusal rules-Sweeps.sweep_refusal rules-Sweeps.sweep_effect rules-Sweeps.sweep_step short-rows-Mark.bit short-rows-Mark.bits_from short-rows-Mark.mark_of short-rows-Mark.set_from short-rows-Mark.marked_nonces short-rows-Reading.nonces_read ones_in ones gap-quarantine-journal-Pending.put_park gap-quarantine-journal-Pending.remove_park gap-quarantine-journal-Pending.with_tentative gap-quarantine-journal-Pending.enter_park gap-quarantine-journal-Pending.all_zero gap-quarantine-journal-Pending.is_non_zero gap-quarantine-journal-Pending.is_full gap-quarantine-journal-Pending.full_or gap-quarantine-journal-Pending.settled_fidelity gap-quarantine-journal-Pending.settled gap-quarantine-journal-Pending.or_default gap-quarantine-journal-Pending.legacy_hash gap-quarantine-journal-Pending.legacy_claimed gap-quarantine-journal-Pending.legacy_full gap-quarantine-journal-Pending.migrated gap-quarantine-journal-Fold.plus gap-quarantine-journal-Fold.begin gap-quarantine-journal-Fold.keep64 gap-quarantine-journal-Fold.apply_park gap-quarantine-journal-Fold.apply_tentative gap-quarantine-journal-Fold.apply_resolve gap-quarantine-journal-Fold.apply_legacy_as gap-quarantine-journal-Fold.apply_legacy gap-quarantine-journal-Fold.apply_other gap-quarantine-journal-Fold.apply gap-quarantine-journal-Fold.step_whole gap-quarantine-journal-Fold.step_form gap-quarantine-journal-Fold.step_of gap-quarantine-journal-Fold.after gap-quarantine-journal-Fold.fold_from gap-quarantine-journal-Fold.room_for gap-quarantine-journal-Fold.fold_journal gap-quarantine-journal-Fold.fold_into gap-quarantine-journal-Fold.output gap-quarantine-journal-Restore.frame_of gap-quarantine-journal-Restore.restore_degraded gap-quarantine-journal-Restore.restore_full gap-quarantine-journal-Restore.restore_as gap-quarantine-journal-Restore.restore_hash gap-quarantine-journal-Restore.restore_park gap-quarantine-journal-Restore.restore address frame_hash h frame frame_f degraded_f ask after answer held row polled polled_with repark mined_at100 enter_at100 fold pending_in counts_in capital_text capital_hash park_with resolve_bytes legacy_bytes short_answer short_row other_address frame_g swept swept_both
computing = tt

pub starred : Starred
unfolding computing
starred = record {
  all_known = refl;
  one_unknown = refl;
  head_at_claim = refl;
  head_past_claim = (refl, refl);
  guard_holds = refl;
  no_content = refl;
  any_one_pair = λ nonce hash e. rw (answer, rules-Store.step, rules-Store.refusal, rules-Store.input_refusal, rules-Store.bad_content, e);
  degraded_holds = (refl, refl, refl);
  empty_gap = refl;
  finality = (refl, refl, refl, refl);
  reorganisation = (refl, refl);
  capital_key = refl;
  bare_legacy = (refl, refl, refl);
}

pub tempting : Tempting
unfolding computing
tempting = record {
  consume_at_claim = refl;
  count_degraded_park = refl;
  parse_key = refl;
  search_all_pairs = refl;
  sender_for_from = refl;
}

pub short-rows : ShortRows
unfolding computing
short-rows = record {
  one_unknown = refl;
  all_known = refl;
  head_within = refl;
  head_past_claim = refl;
  four_numbers = refl;
  nonces = refl;
  first = refl;
  no_first = refl;
  past_last = refl;
}

pub sweeps : Sweeps
unfolding computing
sweeps = record {
  answered = refl;
  held = refl;
  one_number_short = refl;
  big_count = refl;
  wrong_sum = refl;
  two_counts = refl;
}
