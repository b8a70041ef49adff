-- The bodies as they lie in their numbers and bytes: what the code reads of one, and what its writes make of them.
use Prim.Native.Nat.{ℕ, ◌+◌, ◌*◌, ◌/◌, ◌%◌, ◌≤◌, ◌<◌, min}
use native.Mathlib.Nat.{div-add-mod'}
use native.Mathlib.Omega.{arith}
use mathlib.Core.Path.{◌≡◌, refl, sym, ap, ◌∙◌}
use mathlib.Core.Bool.{Bool, true, false, ◌||◌, not, cond, true≢false}
use mathlib.Core.List.{List, ◌++◌, append_assoc}
use lib.Dec.{eqb, ltb}
use lib.ListN.{length, take, drop, get_or, length-take, length-drop, length-append, get_or-append}
use lib.Seq.{take-take, take_at, drop_at, get_or-take, get_or-drop}
use borrow.Author.Tests.{eqb-true, ltb-false}
use Rattle.lists.specs.Bytes.{Bytes}
use Rattle.lists.specs.Lists.{written, written_at}
use Rattle.lists.proofs.Chunks.{part_length, front-here, front-elsewhere, written-whole}
use Rattle.lists.proofs.Compacting.{clamp}
use Rattle.lists.proofs.Parts.{part-drop}
use Rattle.lists.proofs.Writing.{at-behind}
use Rattle.store_rules.specs.Frames.{GuardKind, reparked, unhydratable}
use Rattle.store_rules.specs.Store.{bad_contents}
use Rattle.store_rules.specs.View.{body_of, bodies_of}
use Rattle.guards.specs.Moving.{IsHead, BodyPut}

-- ---- what is read

-- the front of a part, by a count that is clamped to what the part has
front_read : (w n : ℕ) (l : List ℕ) → w ≤ length l → take (min n w) l ≡ take n (take w l)
front_read w n l h =
    sym (take-take (min n w) w l (omega arith)) ∙ clamp n w (take w l) (simp length-take (omega arith))

module _ (numbers : List ℕ) (contents : Bytes) (k : ℕ) (numbered : length numbers ≡ 1280) (sized : length contents ≡ 32768) (h : k < 64) where
  abbrev nth : ℕ → ℕ
  nth i = get_or (take 20 (drop (20 * k) numbers)) i 0

  number_read : (i : ℕ) → i < 20 → get_or numbers (20 * k + i) 0 ≡ nth i
  number_read i m = sym (get_or-take 20 (drop (20 * k) numbers) i 0 m ∙ get_or-drop (20 * k) numbers i 0)

  kind-read : cond (eqb (get_or numbers (20 * k) 0) 1) (reparked (get_or numbers (20 * k + 1) 0)) unhydratable ≡ cond (eqb (nth 0) 1) (reparked (nth 1)) unhydratable
  kind-read =
      let z : 20 * k ≡ 20 * k + 0 = omega arith in
      λ t. cond (eqb ((ap (λ i. get_or numbers i 0) z ∙ number_read 0 (omega arith)) t) 1) (reparked (number_read 1 (omega arith) t)) unhydratable

  preds-read : (n : ℕ) → n ≡ min (get_or numbers (20 * k + 2) 0) 16 → take n (drop (20 * k + 4) numbers) ≡ take (nth 2) (drop 4 (take 20 (drop (20 * k) numbers)))
  preds-read n e =
      rw (e, number_read 2 (omega arith), part-drop numbers (20 * k) 20 4)
      (front_read 16 (nth 2) (drop (20 * k + 4) numbers) (rw (length-drop (20 * k + 4) numbers) (omega arith)))

  contents-read : (n : ℕ) → n ≡ 32 * min (get_or numbers (20 * k + 3) 0) 16 → take n (drop (512 * k) contents) ≡ take (32 * nth 3) (take 512 (drop (512 * k) contents))
  contents-read n e =
      let m : n ≡ min (32 * nth 3) 512 = omega (arith, number_read 3 (omega arith)) in
      rw m (front_read 512 (32 * nth 3) (drop (512 * k) contents) (rw (length-drop (512 * k) contents) (omega arith)))

  -- the kind, and how many numbers and bytes
  pub body-read : (kind : GuardKind) (n m : ℕ) → kind ≡ cond (eqb (get_or numbers (20 * k) 0) 1) (reparked (get_or numbers (20 * k + 1) 0)) unhydratable →
      n ≡ min (get_or numbers (20 * k + 2) 0) 16 → m ≡ 32 * min (get_or numbers (20 * k + 3) 0) 16 →
      record { kind = kind; predecessors = take n (drop (20 * k + 4) numbers); contents = take m (drop (512 * k) contents) } ≡ bodies_of numbers contents k
  body-read kind n m p q r = λ t. record { kind = (p ∙ kind-read) t; predecessors = preds-read n q t; contents = contents-read m r t }

-- ---- what is written

-- content that is not bad is whole hashes, and at most 16 of them
pub good-contents : (l : Bytes) → bad_contents l ≡ false → (length l ≤ 512) × (32 * (length l / 32) ≡ length l)
unfolding bad_contents
good-contents l h = go (eqb (length l % 32) 0) refl (ltb 512 (length l)) refl h
  where
    go : (s : Bool) → eqb (length l % 32) 0 ≡ s → (t : Bool) → ltb 512 (length l) ≡ t → (not s || t) ≡ false → (length l ≤ 512) × (32 * (length l / 32) ≡ length l)
    go false p t q e = absurd (true≢false e)
    go true p true q e = absurd (true≢false e)
    go true p false q e = (ltb-false 512 (length l) q, omega (arith, div-add-mod' (length l) 32, eqb-true (length l % 32) 0 p))

module _ (numbers : List ℕ) (contents : Bytes) (k : ℕ) (numbered : length numbers ≡ 1280) (sized : length contents ≡ 32768) (h : k < 64) where
  -- so many numbers and bytes at the front of a place
  body-written : (v : List ℕ) (u : Bytes) → length v ≤ 20 → length u ≤ 512 →
      BodyPut k (body_of (written v (take 20 (drop (20 * k) numbers))) (written u (take 512 (drop (512 * k) contents)))) (bodies_of numbers contents)
      (bodies_of (written_at (20 * k) v numbers) (written_at (512 * k) u contents))
  body-written v u p q =
      record {
        here = λ t. body_of (front-here 20 k v numbers p (omega arith) t) (front-here 512 k u contents q (omega arith) t);
        elsewhere = λ j n t. body_of (front-elsewhere 20 k v numbers p (omega arith) j n t) (front-elsewhere 512 k u contents q (omega arith) j n t);
      }

  -- the body in another place
  pub body-moved : (i : ℕ) → i < 64 →
      BodyPut k (bodies_of numbers contents i) (bodies_of numbers contents)
      (bodies_of (written_at (20 * k) (take 20 (drop (20 * i) numbers)) numbers) (written_at (512 * k) (take 512 (drop (512 * i) contents)) contents))
  body-moved i m =
      let v : List ℕ = take 20 (drop (20 * i) numbers) in
      let u : Bytes = take 512 (drop (512 * i) contents) in
      let p : length (take 20 (drop (20 * i) numbers)) ≡ 20 = part_length 20 i numbers (omega arith) in
      let q : length (take 512 (drop (512 * i) contents)) ≡ 512 = part_length 512 i contents (omega arith) in
      let w = body-written v u (omega arith) (omega arith) in
      record {
        here = w.here
            ∙ λ t. body_of (written-whole v (take 20 (drop (20 * k) numbers)) (omega (arith, p, part_length 20 k numbers (omega arith))) t) (written-whole u (take 512 (drop (512 * k) contents)) (omega (arith, q, part_length 512 k contents (omega arith))) t);
        elsewhere = w.elsewhere;
      }

  -- a new body
  pub body-put : (kind : GuardKind) (head preds : List ℕ) (content : Bytes) → IsHead kind (length preds) (length content / 32) head → length preds ≤ 16 → bad_contents content ≡ false →
      BodyPut k (record { kind = kind; predecessors = preds; contents = content }) (bodies_of numbers contents)
      (bodies_of (written_at (20 * k + 4) preds (written_at (20 * k) head numbers)) (written_at (512 * k) content contents))
  body-put kind head preds content is few good =
      let d : List ℕ = drop (length (head ++ preds)) (take 20 (drop (20 * k) numbers)) in
      let l : List ℕ = (head ++ preds) ++ drop (length (head ++ preds)) (take 20 (drop (20 * k) numbers)) in
      let e : Bytes = drop (length content) (take 512 (drop (512 * k) contents)) in
      let n : length (head ++ preds) ≡ length head + length preds = length-append head preds in
      let at : 20 * k + 4 ≡ 20 * k + length head = omega (arith, is.sized) in
      let one : written_at (20 * k + 4) preds (written_at (20 * k) head numbers) ≡ written_at (20 * k) (head ++ preds) numbers =
      rw at (at-behind (20 * k) head preds numbers (omega (arith, is.sized))) in
      let r : (i : ℕ) → i < 4 → get_or ((head ++ preds) ++ drop (length (head ++ preds)) (take 20 (drop (20 * k) numbers))) i 0 ≡ get_or head i 0 =
      λ i b. rw (append_assoc head preds d) (get_or-append head (preds ++ d) 0 i (omega (arith, is.sized))) in
      let p : take (get_or l 2 0) (drop 4 l) ≡ preds =
      rw (r 2 (omega arith), is.preds-is, append_assoc head preds d, drop_at head (preds ++ d) 4 is.sized) (take_at preds d (length preds) refl) in
      let q : take (32 * get_or l 3 0) (content ++ e) ≡ content =
      rw (r 3 (omega arith), is.hashes-is) (take_at content e (32 * (length content / 32)) (sym (good-contents content good).1)) in
      let w = body-written (head ++ preds) content (omega (arith, is.sized)) (good-contents content good).0 in
      rw one
      (record {
        here = w.here
            ∙ λ t. record { kind = ((λ s. cond (eqb (r 0 (omega arith) s) 1) (reparked (r 1 (omega arith) s)) unhydratable) ∙ is.kind-is) t; predecessors = p t; contents = q t };
        elsewhere = w.elsewhere;
      })
