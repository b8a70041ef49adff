-- The examples are computed.
use mathlib.Core.Path.{refl}
use Rattle.std.specs.Option.{option_or}
use Rattle.lists.specs.Bytes as bytes
use Rattle.lists.specs.Lists as lists
use Rattle.lists.specs.Search as search
use Rattle.wire.specs.Numbers as numbers
use Rattle.store_rules.specs.Frames as frames
use Rattle.store_rules.specs.Poll as polls
use Rattle.store_rules.specs.Rules as rules
use Rattle.store_rules.specs.Lookup as lookup
use Rattle.store_rules.specs.Store as store
use Rattle.store_rules.specs.Sweeps as sweeps
use Rattle.store_rules.specs.Totals as totals
use Rattle.trace_format.specs.Reading as reading
use Rattle.trace_format.specs.Traces as traces
use Rattle.trace_laws.specs.Examples.{eight, frame_f, push_claiming, poll_f, enter_f, guard_f, reorg_f, final_f, evict_f, Examples}

-- the definitions that the examples compute with
unfoldable pub computing : Unit {0}
unfolding bytes.eq_bytes bytes.le_bytes lists.keep lists.is_empty lists.chunks lists.numbers_from lists.sum search.first_at numbers.num frames.is_tracked frames.degraded polls.gap polls.predecessors polls.unknown polls.guard_matches polls.leave polls.row polls.poll_full polls.poll_in polls.poll_given polls.poll_rule rules.only_of rules.evict_rule rules.differs rules.reorg_in rules.reorg_rule rules.final_in rules.final_rule lookup.entries_of lookup.enters lookup.enter_with lookup.enter_head lookup.enter_first store.empty store.guard_of store.drop_guard store.row_width store.after store.walk store.walked store.fresh store.insert store.effect store.when store.wide_gap store.bad_content store.input_refusal store.listed store.rows_of store.room_refusal store.refusal store.unless store.step store.run sweeps.step_item sweeps.run_items totals.accepted_in totals.is_rescue totals.rescued_in totals.dead_in totals.evicted_in totals.answers totals.totals reading.part reading.byte reading.number reading.list reading.numbers reading.hashes reading.by_flag reading.optional reading.read_push reading.read_poll reading.guard_inputs reading.guard_by reading.read_guard reading.block_inputs reading.enter_by reading.read_enter reading.read_reorg reading.read_final reading.read_evict reading.by_mark reading.read_call traces.starting_with traces.read_calls traces.read_trace traces.lent traces.end_store traces.refusal_in traces.refusals traces.lines_from traces.lines traces.trace_totals eight frame_f push_claiming poll_f enter_f guard_f reorg_f final_f evict_f
computing = tt

pub examples : Examples
unfolding computing
examples = record {
  rescued = refl;
  rescued_lines = refl;
  rescued_store = refl;
  cut = refl;
  guarded = refl;
  taken_only = refl;
  kind_four = refl;
  flag_two = refl;
  unknown_mark = refl;
  nothing = refl;
  rescued_totals = refl;
  nothing_totals = refl;
  twice_totals = refl;
  again_totals = refl;
  reorganised_totals = refl;
  dead_totals = refl;
  refused_totals = refl;
}
