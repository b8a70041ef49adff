-- The labels as they lie in their bytes: what the code reads of one, and what its writes make of them.
use Prim.Native.Nat.{ℕ, ◌+◌, ◌*◌, ◌≤◌, ◌<◌}
use native.Mathlib.Omega.{arith}
use mathlib.Core.Path.{◌≡◌, sym, ap, ◌∙◌}
use mathlib.Core.Bool.{true, false}
use mathlib.Core.List.{[], ◌∷◌, ◌++◌}
use lib.Dec.{eqb}
use lib.ListN.{length, take, drop, get_or, set, length-map, length-append, get_or-map}
use lib.Seq.{take-take, get_or-take, get_or-drop, take-set-le, get_or-set_same, take_at, get_or_at}
use Rattle.lists.specs.Bytes.{Bytes}
use Rattle.lists.specs.Lists.{written_at, chunks}
use Rattle.lists.proofs.Chunks.{chunks-length, chunks-at, part_length, chunks-set, front-set, written-whole}
use Rattle.lists.proofs.Shifting.{map-set}
use Rattle.lists.proofs.Writing.{length_at, one_at, at-behind}
use Rattle.store_rules.specs.View.{GuardLabel, label_of, labels_of}

-- what stands past the labels
abbrev pub no_label : GuardLabel
no_label = label_of []

pub labels_length : (b : Bytes) → length (labels_of b) ≡ 64
labels_length b = length-map (chunks 33 64 b) label_of ∙ chunks-length 33 64 b

pub label-here : (b : Bytes) (k : ℕ) → k < 64 → get_or (labels_of b) k no_label ≡ label_of (take 33 (drop (33 * k) b))
label-here b k h = get_or-map label_of (chunks 33 64 b) k [] ∙ ap label_of (chunks-at 33 64 b k [] h)

module _ (b : Bytes) (k : ℕ) (h : k < 64) where
  hash_at : take 32 (take 33 (drop (33 * k) b)) ≡ take 32 (drop (33 * k) b)
  hash_at = take-take 32 33 (drop (33 * k) b) (omega arith)

  -- as the code reads it
  pub label-seen : get_or (labels_of b) k no_label ≡ record { hash = take 32 (drop (33 * k) b); live = eqb (get_or b (33 * k + 32) 0) 1 }
  label-seen =
      let e : get_or (take 33 (drop (33 * k) b)) 32 0 ≡ get_or b (33 * k + 32) 0 = get_or-take 33 (drop (33 * k) b) 32 0 (omega arith) ∙ get_or-drop (33 * k) b 32 0 in
      label-here b k h ∙ λ t. record { hash = hash_at t; live = eqb (e t) 1 }

  module _ (sized : length b ≡ 2112) where
    room : 33 * k + 33 ≤ length b
    room = omega arith

    -- its byte is set to 0
    pub label-cleared : labels_of (set b (33 * k + 32) 0) ≡ set (labels_of b) k (record { hash = take 32 (drop (33 * k) b); live = false })
    label-cleared =
        let p : Bytes = take 33 (drop (33 * k) b) in
        let n : length (take 33 (drop (33 * k) b)) ≡ 33 = part_length 33 k b room in
        let e : label_of (written_at 32 (0 ∷ []) (take 33 (drop (33 * k) b))) ≡ record { hash = take 32 (drop (33 * k) b); live = false } =
        rw (← one_at p 32 0 (omega arith), take-set-le 32 p 32 0 (omega arith), get_or-set_same p 32 0 0 (omega arith), hash_at) in
        rw (one_at b (33 * k + 32) 0 (omega arith), chunks-set 33 k 32 (0 ∷ []) b (omega arith) room 64 h, map-set label_of (chunks 33 64 b) k, e)

    -- its bytes are written over
    label-written : (v : Bytes) → length v ≡ 33 → labels_of (written_at (33 * k) v b) ≡ set (labels_of b) k (label_of v)
    label-written v e =
        rw
        (front-set 33 k v b (omega arith) room 64 h, map-set label_of (chunks 33 64 b) k, written-whole v (take 33 (drop (33 * k) b)) (omega (arith, part_length 33 k b room)))

    -- by a hash and 1
    pub label-put : (hash : Bytes) → length hash ≡ 32 → labels_of (set (written_at (33 * k) hash b) (33 * k + 32) 1) ≡ set (labels_of b) k (record { hash = hash; live = true })
    label-put hash e =
        let at : 33 * k + 32 ≡ 33 * k + length hash = omega arith in
        let one : set (written_at (33 * k) hash b) (33 * k + 32) 1 ≡ written_at (33 * k) (hash ++ (1 ∷ [])) b =
        one_at (written_at (33 * k) hash b) (33 * k + 32) 1 (omega (arith, length_at (33 * k) hash b (omega arith)))
        ∙ rw at (at-behind (33 * k) hash (1 ∷ []) b (omega arith)) in
        rw
        (one, label-written (hash ++ (1 ∷ [])) (length-append hash (1 ∷ []) ∙ omega arith), take_at hash (1 ∷ []) 32 e, get_or_at hash 1 [] 0 32 e)

    -- by the label in another place
    pub label-moved : (i : ℕ) → i < 64 → labels_of (written_at (33 * k) (take 33 (drop (33 * i) b)) b) ≡ set (labels_of b) k (get_or (labels_of b) i no_label)
    label-moved i m = label-written (take 33 (drop (33 * i) b)) (part_length 33 i b (omega arith)) ∙ ap (set (labels_of b) k) (sym (label-here b i m))
