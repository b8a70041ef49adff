-- What a call that is its step gives at a store that is known.
use Prim.Native.Nat.{ℕ}
use mathlib.Core.Path.{◌≡◌, ◌∙◌, ap}
use mathlib.Core.List.{List}
use lib.ListN.{length}
use Rattle.store_rules.specs.Store.{Store, Call, RowForm, long}
use Rattle.store_rules.specs.Answers.{Said}
use Rattle.answers.specs.Promises.{Steps}
use Rattle.store_bench.specs.Loads.{counted, told_in, Goes}

module _ {S : Type 0} {view : S → Store} {q q' : S} (call : Call) {numbers bytes numbers' bytes' : List ℕ} {a : Said} where
  -- how many its answer tells of
  pub tells : {form : RowForm} → Steps view form q call numbers bytes a q' numbers' bytes' → counted a ≡ told_in form (view q) call (length numbers) (length bytes)
  tells p = ap counted p.answer

  module _ (p : Steps view long q call numbers bytes a q' numbers' bytes') {s t : Store} {n : ℕ} (at : view q ≡ s) (goes : Goes s call (length numbers) (length bytes) t n) where
    pub leads : view q' ≡ t
    leads = p.store ∙ rw (at, goes.store)

    pub seen : counted a ≡ n
    seen = tells p ∙ rw (at, goes.seen)
