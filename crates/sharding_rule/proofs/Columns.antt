-- The totals that a run tells are those that its shards tell, added column by column (`shard-totals`).
use Prim.Native.Nat.{ℕ, zero, suc, ◌+◌, ◌≤◌}
use native.Mathlib.Omega.{arith}
use mathlib.Core.Path.{◌≡◌, refl, sym, ap, ap₂, ◌∙◌}
use mathlib.Core.Bool.{Bool, true, false, cond}
use mathlib.Core.List.{List, [], ◌∷◌}
use Rattle.std.specs.Prelude.{Option}
use lib.Dec.{eqb}
use lib.ListN.{length}
use Rattle.lists.specs.Bytes.{Bytes}
use Rattle.lists.specs.Lists.{keep, sum}
use Rattle.store_rules.specs.Frames.{Frame, Dead}
use Rattle.store_rules.specs.Rules.{reorg_rule, final_rule}
use Rattle.store_rules.specs.Store.{Store, Call, push, poll, guard, enter_tentative, evict_sender, check_reorg, check_finalized, Answer, frames, dead, rows_of, listed, input_refusal}
use Rattle.store_rules.specs.Totals.{accepted_in, rescued_in, dead_in, is_eviction, Totals}
use Rattle.order_rule.specs.Orders.{Key, sender, key_by, concerns, shown}
use Rattle.order_rule.proofs.Ideal.{Ideal, trail, trailed, effectᵢ, unlessᵢ, stepᵢ, transcriptᵢ}
use Rattle.order_rule.proofs.Shard.{ours, our_list, our_answer, our_lines}
use Rattle.sharding_rule.specs.Merging.{gather}
use Rattle.sharding_rule.specs.Totals.{added, totals_told, add_totals}
use Rattle.sharding_rule.proofs.Merging.{gather-same}
use Rattle.sharding_rule.proofs.Sums.{gather-plus, gather-zero, gather-one, length-parts}

module _ (owner : Bytes → Key) (shard_of : Key → ℕ) (last : ℕ) (bound : (k : Key) → shard_of k ≤ last) where
  abbrev Of : ℕ → Key → Bool
  Of n k = eqb (shard_of k) n

  abbrev OwnDead : ℕ → List Dead → List Dead
  OwnDead n l = keep (λ d. Of n (sender d.frame.from)) l

  -- ---- one column, to which a reorganisation adds nothing, and a finality what its parts add

  module _ (count : Call × Answer → ℕ) (of-reorg : (b : ℕ) (canonical : Option Bytes) (l : List Frame) → count (check_reorg b canonical, frames l) ≡ 0)
      (of-final : (m : ℕ) (l : List Dead) → count (check_finalized m, dead l) ≡ gather ◌+◌ last (λ n. count (check_finalized m, dead (OwnDead n l)))) where
    -- what a shard adds for one call
    abbrev Adds : Call → Answer → ℕ → ℕ
    Adds c a n = cond (concerns (Of n) (key_by owner c)) (count (c, our_answer owner (Of n) (key_by owner c) a)) 0

    line-adds : (t : Ideal) (c : Call) → count (c, shown (stepᵢ t c).1) ≡ gather ◌+◌ last (Adds c (shown (stepᵢ t c).1))
    unfolding concerns key_by our_answer our_list ours stepᵢ unlessᵢ input_refusal effectᵢ trailed shown
    line-adds t (push f) = sym (gather-one last (shard_of (sender f.from)) _ (bound (sender f.from)))
    line-adds t (poll a head known content) = sym (gather-one last (shard_of (sender a)) _ (bound (sender a)))
    line-adds t (guard g) = sym (gather-one last (shard_of (owner g.hash)) _ (bound (owner g.hash)))
    line-adds t (enter_tentative x c) = sym (gather-one last (shard_of (owner x)) _ (bound (owner x)))
    line-adds t (evict_sender a) = sym (gather-one last (shard_of (sender a)) _ (bound (sender a)))
    line-adds t (check_reorg b canonical) =
        let l = (trail (reorg_rule b canonical) t.entries t.guards).listed in
        of-reorg b canonical l ∙ sym (gather-same ◌+◌ last _ (λ n. 0) (λ n k. of-reorg b canonical _) ∙ gather-zero last)
    line-adds t (check_finalized m) = of-final m (trail (final_rule m) t.entries t.guards).listed

    added-parts : (t : Ideal) (cs : List Call) → added count (transcriptᵢ t cs) ≡ gather ◌+◌ last (λ n. added count (our_lines owner (Of n) (transcriptᵢ t cs)))
    unfolding transcriptᵢ our_lines added sum
    added-parts t [] = sym (gather-zero last)
    added-parts t (c ∷ cs) =
        ap₂ ◌+◌ (line-adds t c) (added-parts (stepᵢ t c).0 cs)
        ∙ sym (gather-plus last (Adds c (shown (stepᵢ t c).1)) later)
        ∙ gather-same ◌+◌ last (λ n. Adds c (shown (stepᵢ t c).1) n + later n) _
        (λ n l. go (concerns (Of n) (key_by owner c)) (c, our_answer owner (Of n) (key_by owner c) (shown (stepᵢ t c).1)) (later_lines n))
      where
        later_lines : ℕ → List (Call × Answer)
        later_lines n = our_lines owner (Of n) (transcriptᵢ (stepᵢ t c).0 cs)

        later : ℕ → ℕ
        later n = added count (later_lines n)

        go : (b : Bool) (line : Call × Answer) (lines : List (Call × Answer)) → cond b (count line) 0 + added count lines ≡ added count (cond b (line ∷ lines) lines)
        go true line lines = refl
        go false line lines = omega arith

  -- ---- the columns together

  gather-totals : (n : ℕ) (f : ℕ → Totals) → gather add_totals n f
      ≡ record {
        accepted = gather ◌+◌ n (λ i. (f i).accepted);
        held = gather ◌+◌ n (λ i. (f i).held);
        rescued = gather ◌+◌ n (λ i. (f i).rescued);
        dead = gather ◌+◌ n (λ i. (f i).dead);
        evicted = gather ◌+◌ n (λ i. (f i).evicted);
      }
  unfolding gather add_totals
  gather-totals zero f = refl
  gather-totals (suc n) f = ap (λ (t : Totals). add_totals t (f (suc n))) (gather-totals n f)

  dead-parts : (l : List Dead) → length l ≡ gather ◌+◌ last (λ n. length (OwnDead n l))
  dead-parts = length-parts last (λ (d : Dead). shard_of (sender d.frame.from)) (λ d. bound (sender d.frame.from))

  all-zero : 0 ≡ gather ◌+◌ last (λ n. 0)
  all-zero = sym (gather-zero last)

  pub shard-totals : (t : Ideal) (cs : List Call) (one : Store) (stores : ℕ → Store) → length one.entries ≡ gather ◌+◌ last (λ n. length (stores n).entries) →
      totals_told one (transcriptᵢ t cs) ≡ gather add_totals last (λ n. totals_told (stores n) (our_lines owner (Of n) (transcriptᵢ t cs)))
  unfolding totals_told accepted_in rescued_in dead_in rows_of keep listed
  shard-totals t cs one stores held =
      rw (
        added-parts (λ x. accepted_in x.1) (λ b canonical l. refl) (λ m l. all-zero) t cs,
        held,
        added-parts (λ x. rescued_in x.1) (λ b canonical l. refl) (λ m l. all-zero) t cs,
        added-parts (λ x. dead_in x.1) (λ b canonical l. refl) (λ m l. dead-parts l) t cs,
        added-parts (λ x. cond (is_eviction x.0) (listed x.1) 0) (λ b canonical l. refl) (λ m l. all-zero) t cs,
      )
      (sym (gather-totals last (λ n. totals_told (stores n) (our_lines owner (Of n) (transcriptᵢ t cs)))))
