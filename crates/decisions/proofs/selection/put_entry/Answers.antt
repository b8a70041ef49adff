use Prim.Native.Nat.{◌+◌, ◌-◌, ◌*◌, ◌≤◌}
use native.Mathlib.Omega.{arith}
use mathlib.Core.Path.{◌≡◌}
use mathlib.Core.List.{[], ◌∷◌, ◌++◌}
use lib.ListN.{length, take, drop}
use Rattle.lists.specs.Lists.{written_at}
use Rattle.guards.proofs.Parts.{part-put}
use Rattle.store_rules.specs.View.{entry_of}
use Rattle.decisions.proofs.Selecting.{not-final, room_for, ticket-listed, dead-listed, never-final}
use Rattle.decisions.proofs.selection.put_entry.Goals as goal

pub returns-in_default : goal.returns-in_default
returns-in_default c =
    let a = c.args in
    let k = not-final a.s c.in_default.not-Finalized in
    let d = ticket-listed a.s k (entry_of a.e.now) _ _ _ (room_for a.s k _ _ c.requires.numbers_fit) in
    record { numbers = d.0; bytes = d.1; sized = d.2 }

pub returns : goal.returns
returns c =
    let a = c.args in
    let f = c.in-Finalized.is in
    let n : 3 * a.n + 3 ≤ length a.numbers.now = rw f at c.requires.numbers_fit in
    let b : 64 * a.n + 64 ≤ length a.bytes.now = rw f at c.requires.bytes_fit in
    let put : take (3 * a.n) a.numbers.now ++ (c.copy_from_slice.new.self ++ drop (3 * a.n + 3 - 3 * a.n) (drop (3 * a.n) a.numbers.now)) ≡ written_at (3 * a.n) (a.e.now.frame.ticket ∷ c.block_of.result ∷ c.kind_number.result ∷ []) a.numbers.now =
    rw c.copy_from_slice.ensures.after (part-put (3 * a.n) (3 * a.n + 3 - 3 * a.n) (a.e.now.frame.ticket ∷ c.block_of.result ∷ c.kind_number.result ∷ []) a.numbers.now (omega arith)) in
    let d = dead-listed a.e.now _ c.in-Tentative.is c.in-Finalized.field-0 a.n a.numbers.now a.bytes.now _ _ _ c.block_of.result c.kind_number.result n b c.block_of.ensures (c.kind_number.ensures _ _) (c.taker_of.ensures _) c.put_array.ensures c.put_array-2.ensures in
    rw (f, put) (record { numbers = d.0; bytes = d.1; sized = d.2 })

pub returns-in_default-state : goal.returns-in_default-state
returns-in_default-state c = absurd (never-final c.args.e.now c.in_default-state.is (c.requires.tentative (rw c.in-Finalized.is)))
