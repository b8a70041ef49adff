use Prim.Native.Nat.{ℕ, ◌*◌, ◌≤◌}
use mathlib.Core.List.{List}
use native.Mathlib.Omega.{arith}
use mathlib.Core.Path.{◌≡◌, refl, sym, ap, ◌∙◌}
use lib.ListN.{length}
use Rattle.std.proofs.lemmas.List.{take_all}
use Rattle.lists.specs.Lists.{written_at}
use Rattle.lists.proofs.Writing.{start, wrote-more, wrote-all}
use Rattle.journal_writer.specs.Writing.{park_bytes}
use Rattle.journal_record.specs.View.{park_seen}
use Rattle.gap_quarantine_journal.specs.Fold.{output}
use Rattle.journal_exports.proofs.Exporting.{paste-at}
use borrow.Author.Rules.{rules}
use Rattle.journal_exports.proofs.output.write_parks.Goals as goal

pub loop-i-init : goal.loop-i-init
loop-i-init c = start park_seen park_bytes 240 _ _ _

pub loop-i-preserved : goal.loop-i-preserved
loop-i-preserved c =
    let a = c.args in
    let h = c.loop-i in
    let b = c.park_bytes in
    let w : length b.result ≡ 240 = search rules in
    wrote-more park_seen park_bytes 240 a.parks.now (length a.parks.now) a.out.now h.out h.i _ _ h.invariant c.loop-i-test.true (omega arith) c.requires (sym (ap length b.ensures) ∙ w)
    (c.put_bytes.ensures ∙ paste-at h.out (240 * h.i) b.result (length b.result) refl ∙ ap (λ (l : List ℕ). written_at (240 * h.i) l h.out) b.ensures)

pub returns : goal.returns
unfolding output
returns c =
    let a = c.args in
    let all : length a.parks.now ≤ length a.parks.now = omega arith in
    rw (take_all (length a.parks.now) a.parks.now all) at (wrote-all park_seen park_bytes 240 a.parks.now (length a.parks.now) a.out.now c.loop-i.out c.loop-i.i c.loop-i.invariant c.loop-i-test.false)
