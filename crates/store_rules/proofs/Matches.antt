-- Whether a guard matches, pair by pair.
use Prim.Native.Nat.{ℕ, suc, ◌+◌, ◌*◌, ◌<◌, min}
use native.Mathlib.Omega.{arith}
use mathlib.Core.Path.{◌≡◌, refl, sym, ap, ◌∙◌}
use mathlib.Core.Bool.{true, false, ◌&&◌, not, cond}
use mathlib.Core.Logic.{inl, inr}
use Rattle.std.proofs.lemmas.List.{nil_from_length, take_min, drop_min}
use mathlib.Core.List.{List, [], ◌∷◌, ◌++◌}
use denote.Ref.{Bor}
use lib.Dec.{eqb}
use lib.Pointwise.{pointwise}
use lib.ListN.{length, take, drop, length-append}
use lib.Seq.{take-append_seam, drop-append_seam}
use borrow.Author.Tests.{eq-eqb, ne_eqb}
use Rattle.std.specs.Prelude.{Option, None, Some}
use Rattle.std.specs.declared.iter.Zip.{Zip}
use Rattle.std.specs.declared.slice.Iter.{Iter}
use Rattle.std.specs.declared.slice.Chunks.{Chunks}
use Rattle.std.specs.declared.slice.ChunksExact.{ChunksExact}
use Rattle.std.specs.Iterator.Adapters.{zip_first, zip_second, zip_steps}
use Rattle.std.specs.Slice.Iter.{iter_rest, chunks_exact_rest, chunks_exact_size, chunks_exact_steps, chunks_rest, chunks_size, chunks_steps, iter_steps}
use Rattle.lists.specs.Bytes.{Bytes, eq_bytes}
use Rattle.lists.specs.Lists.{is_empty}
use Rattle.store_rules.proofs.Seen.{equal-is}
use Rattle.store_rules.specs.Frames.{Guard}
use Rattle.store_rules.specs.Poll.{Content, first_is, contents_hold, content_matches, boundary_holds, guard_matches}

take-front : (a b : Bytes) → length a ≡ 32 → take 32 (a ++ b) ≡ a
take-front a b e = rw (← e) (take-append_seam a b)

drop-front : (a b : Bytes) → length a ≡ 32 → drop 32 (a ++ b) ≡ b
drop-front a b e = rw (← e) (drop-append_seam a b)

-- what is left of nonces and of the hashes beside them still has to be searched
pub record Walks (n : ℕ) (hash : Bytes) (nonces : List ℕ) (hashes : Bytes) (s : Zip (Iter ℕ) (ChunksExact ℕ)) : Type 0 where
  pub so_far : first_is n hash nonces hashes ≡ first_is n hash (iter_rest (zip_first s)) (chunks_exact_rest (zip_second s))
  pub size : chunks_exact_size (zip_second s) ≡ 32
  pub paired : length (chunks_exact_rest (zip_second s)) ≡ 32 * length (iter_rest (zip_first s))

module _ (n : ℕ) (hash : Bytes) (nonces : List ℕ) (hashes : Bytes) (s t : Zip (Iter ℕ) (ChunksExact ℕ)) (w : Walks n hash nonces hashes s) where
  module _ (m : Bor ℕ) (own : Bor Bytes) (step : zip_steps iter_steps chunks_exact_steps s (Some (m, own)) t) where
    turned : first_is n hash nonces hashes ≡ cond (eqb m.now n) (eq_bytes own.now hash) (first_is n hash (iter_rest (zip_first t)) (chunks_exact_rest (zip_second t)))
    unfolding first_is
    turned =
        let width : length own.now ≡ 32 = step.1.1.1 ∙ w.size in
        w.so_far ∙ rw (step.0, step.1.1.0, take-front own.now (chunks_exact_rest (zip_second t)) width, drop-front own.now (chunks_exact_rest (zip_second t)) width)

    pub this-pair : m.now ≡ n → eq_bytes own.now hash ≡ first_is n hash nonces hashes
    this-pair e = sym (turned ∙ rw (eq-eqb _ _ e))

    pub next-pair : (m.now ≡ n → ⊥) → Walks n hash nonces hashes t
    next-pair e = record {
      so_far = turned ∙ rw (ne_eqb _ _ e);
      size = step.1.0 ∙ w.size;
      paired =
          let all : length (iter_rest (zip_first s)) ≡ suc (length (iter_rest (zip_first t))) = ap length step.0 in
          let bytes : length (chunks_exact_rest (zip_second s)) ≡ length own.now + length (chunks_exact_rest (zip_second t)) = ap length step.1.1.0 ∙ length-append own.now _ in
          omega (arith, w.paired, all, bytes, w.size, step.1.1.1);
    }

  pub no-pair : zip_steps iter_steps chunks_exact_steps s None t → false ≡ first_is n hash nonces hashes
  unfolding first_is
  no-pair step = sym (w.so_far ∙ rw (nil_from_length (iter_rest (zip_first s)) (none step)))
    where
      none : zip_steps iter_steps chunks_exact_steps s None t → length (iter_rest (zip_first s)) ≡ 0
      none (inl a) = a.1.0
      none (inr b) = omega (arith, b.1.1.0, w.paired, w.size)

-- ---- the guard's hashes

-- the first chunk of what is left, of 32 bytes or of all that is left
module _ (rest x y : Bytes) (e : rest ≡ x ++ y) (width : length x ≡ min 32 (length rest)) where
  chunk-front : take 32 rest ≡ x
  chunk-front = sym (take_min 32 rest) ∙ rw (← width, e) (take-append_seam x y)

  chunk-rest : drop 32 rest ≡ y
  chunk-rest = sym (drop_min 32 rest) ∙ rw (← width, e) (drop-append_seam x y)

-- one pair, of the predecessors and of the hashes that are left
unheld : (n : ℕ) (ns : List ℕ) (rest : Bytes) (c : Content) → 0 < length rest →
    contents_hold (n ∷ ns) rest c ≡ (first_is n (take 32 rest) c.nonces c.hashes && contents_hold ns (drop 32 rest) c)
unfolding contents_hold
unheld n ns [] c h = absurd (omega arith)
unheld n ns (b ∷ bs) c h = refl

no-preds : (guarded : Bytes) (c : Content) → contents_hold [] guarded c ≡ true
unfolding contents_hold
no-preds guarded c = refl

no-hashes : (ns : List ℕ) (c : Content) → contents_hold ns [] c ≡ true
unfolding contents_hold
no-hashes [] c = refl
no-hashes (n ∷ ns) c = refl

-- what is left of the predecessors and of the hashes beside them still has to be found
pub record Holds (preds : List ℕ) (guarded : Bytes) (c : Content) (s : Zip (Iter ℕ) (Chunks ℕ)) : Type 0 where
  pub so_far : contents_hold preds guarded c ≡ contents_hold (iter_rest (zip_first s)) (chunks_rest (zip_second s)) c
  pub size : chunks_size (zip_second s) ≡ 32

module _ (preds : List ℕ) (guarded : Bytes) (c : Content) (s t : Zip (Iter ℕ) (Chunks ℕ)) (w : Holds preds guarded c s) where
  module _ (n : Bor ℕ) (hash : Bor Bytes) (step : zip_steps iter_steps chunks_steps s (Some (n, hash)) t) where
    held-on : contents_hold preds guarded c ≡ (first_is n.now hash.now c.nonces c.hashes && contents_hold (iter_rest (zip_first t)) (chunks_rest (zip_second t)) c)
    held-on =
        let width : length hash.now ≡ min 32 (length (chunks_rest (zip_second s))) = step.1.1.1 ∙ ap (λ (k : ℕ). min k (length (chunks_rest (zip_second s)))) w.size in
        w.so_far ∙ rw step.0 (unheld n.now (iter_rest (zip_first t)) (chunks_rest (zip_second s)) c step.1.1.2
        ∙ rw (chunk-front _ hash.now _ step.1.1.0 width, chunk-rest _ hash.now _ step.1.1.0 width))

    pub not-held : first_is n.now hash.now c.nonces c.hashes ≡ false → false ≡ contents_hold preds guarded c
    not-held f = sym (held-on ∙ rw f)

    pub next-held : first_is n.now hash.now c.nonces c.hashes ≡ true → Holds preds guarded c t
    next-held f = record { so_far = held-on ∙ rw f; size = step.1.0 ∙ w.size }

  pub all-held : zip_steps iter_steps chunks_steps s None t → true ≡ contents_hold preds guarded c
  all-held (inl a) = sym (w.so_far ∙ ap (λ (l : List ℕ). contents_hold l (chunks_rest (zip_second s)) c) (nil_from_length (iter_rest (zip_first s)) a.1.0) ∙ no-preds _ c)
  all-held (inr b) = sym (w.so_far ∙ ap (λ (l : Bytes). contents_hold (iter_rest (zip_first s)) l c) (nil_from_length (chunks_rest (zip_second s)) b.1.1.0) ∙ no-hashes (iter_rest (zip_first s)) c)

-- ---- the tests of a match

empty-is : {A : Type 0} (l : List A) → is_empty l ≡ eqb (length l) 0
unfolding is_empty
empty-is [] = refl
empty-is (x ∷ xs) = sym (ne_eqb (suc (length xs)) 0 (λ e. omega arith))

pub content-is : (guarded : Bytes) (preds : List ℕ) (c : Content) →
    content_matches guarded preds (Some c) ≡ (not (eqb (length guarded) 0) && not (eqb (length c.nonces) 0) && contents_hold preds guarded c)
unfolding content_matches
content-is guarded preds c = rw (empty-is guarded, empty-is c.nonces)

pub guard-is : (g : Guard) (preds : List ℕ) (expected : ℕ) (content : Option Content) →
    guard_matches (Some g) preds expected content ≡ (pointwise eqb g.predecessors preds && boundary_holds g.kind expected && content_matches g.contents preds content)
unfolding guard_matches
guard-is g preds expected content = rw (equal-is g.predecessors preds)
