use mathlib.Core.Path.{refl}
use mathlib.Core.List.{[]}
use Rattle.lists.specs.Lists.{every}
use Rattle.journal_writer.specs.Writing.{other_value}
use Rattle.journal_writer.specs.View.{answer_seen}
use Rattle.journal_exports.specs.Writers.{exported_other}
use Rattle.journal_exports.proofs.Arguments.{answer-short, written_as}
use Rattle.journal_exports.proofs.writers.gap_quarantine_write_other.Goals as goal

pub code_of_answer-requires : goal.code_of_answer-requires
code_of_answer-requires c =
    let w = c.write_other in
    answer-short (other_value (record { ticket = c.args.ticket })) c.args.out.now (record { answer = answer_seen w.result; out = w.new.out }) w.ensures

pub returns : goal.returns
unfolding exported_other every
returns c =
    let w = c.write_other in
    let code = c.code_of_answer in
    written_as [] (other_value (record { ticket = c.args.ticket })) c.args.out.now code.result (record { answer = answer_seen w.result; out = w.new.out }) code.ensures w.ensures refl
