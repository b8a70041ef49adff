-- A loop that counts the held entries that pass a test.
use Prim.Native.Nat.{ℕ, suc, ◌+◌, ◌≤◌, ◌<◌}
use mathlib.Core.Path.{◌≡◌}
use mathlib.Core.Bool.{Bool, true, false}
use mathlib.Core.List.{List, map}
use lib.ListN.{length, take, drop, get_or}
use Rattle.lists.specs.Lists.{keep}
use Rattle.lists.proofs.Compacting.{rest-on, rest-none}
use Rattle.lists.proofs.Keeping.{keep-yes, keep-no}
use Rattle.store_rules.specs.Frames.{Entry}
use Rattle.store_rules.specs.View.{entry_of}
use Rattle.store_rules.specs.declared.Entry as coded

-- how many of the entries that are left pass
abbrev pub count_left : (Entry → Bool) → List coded.Entry → ℕ → ℕ → ℕ
count_left p es n i = length (keep p (map entry_of (drop i (take n es))))

module _ (p : Entry → Bool) (es : List coded.Entry) (n i : ℕ) where
  module _ (d : coded.Entry) (h : i < n) (b : n ≤ length es) where
    pub count-hit : p (entry_of (get_or es i d)) ≡ true → count_left p es n i ≡ suc (count_left p es n (i + 1))
    count-hit t = rw (rest-on entry_of es n i d h b, keep-yes p (entry_of (get_or es i d)) (map entry_of (drop (i + 1) (take n es))) t)

    pub count-miss : p (entry_of (get_or es i d)) ≡ false → count_left p es n i ≡ count_left p es n (i + 1)
    count-miss t = rw (rest-on entry_of es n i d h b, keep-no p (entry_of (get_or es i d)) (map entry_of (drop (i + 1) (take n es))) t)

  pub count_none : n ≤ i → count_left p es n i ≡ 0
  unfolding keep
  count_none h = rw (rest-none entry_of es n i h)
