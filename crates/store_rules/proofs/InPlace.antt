-- A pass over the held part that is changed in place, and that lists to two slices: the state of its loop, and each turn.
use Prim.Native.Nat.{ℕ, ◌+◌, ◌*◌, ◌≤◌, ◌<◌}
use native.Mathlib.Nat.{mul-suc, mul-le-mul_left}
use native.Mathlib.Numerals.{add-one}
use native.Mathlib.Omega.{arith}
use mathlib.Core.Path.{◌≡◌, refl}
use mathlib.Core.Bool.{Bool, false, cond}
use Rattle.std.specs.Prelude.{Option, None, Some}
use mathlib.Core.List.{List, [], ◌∷◌, ◌++◌, append-nil, map}
use lib.ListN.{length, take, get_or, set, length-append}
use Rattle.lists.specs.Bytes.{Bytes}
use Rattle.lists.specs.Lists.{written_at}
use Rattle.lists.proofs.Listing.{Listing, nothing_yet, one_more}
use Rattle.store_rules.specs.Frames.{Standing, Entry, Guard, Visit}
use Rattle.store_rules.specs.Poll.{stay}
use Rattle.store_rules.specs.Store.{guard_of, drop_guard, walk}
use Rattle.store_rules.specs.View.{frame_of, entry_of, labels_of, live_of, Bodies}
use Rattle.store_rules.proofs.Walking.{Walking, Ends, begins, ends, one_of, stays, leaves}
use Rattle.store_rules.specs.declared.Entry as coded

-- The pass follows `rule`, for every choice of bodies that is `given`. Each listed thing takes `size` numbers and `width` bytes.
-- There are at most `many` of them, and the slices have room for so many.
module _ {A : Type 0} (rule : Option Guard → Entry → Visit A) (f g : A → List ℕ) (size width : ℕ) (given : Bodies → Type 0) (len guards : ℕ) (entries₀ : List coded.Entry) (labels₀ : Bytes)
    (many : ℕ) (numbers₀ bytes₀ : List ℕ) where
  abbrev live : Bytes → Bodies → List Guard
  live labels bodies = live_of (take guards (labels_of labels)) bodies

  -- what holds of the pass from its start on
  pub record Setting : Type 0 where
    pub bodies : Bodies
    pub lent : given bodies
    pub fits : len ≤ 64
    pub bound : (b : Bodies) → given b → length (walk rule (map entry_of (take len entries₀)) (live labels₀ b)).listed ≤ many
    pub numbers : size * many ≤ length numbers₀
    pub bytes : width * many ≤ length bytes₀

  -- after `i` entries, of which `w` stayed, and `n` things are listed
  pub record Going (entries : List coded.Entry) (labels : Bytes) (numbers bytes : List ℕ) (n w i : ℕ) : Type 0 where
    pub told : List A
    pub setting : Setting
    pub counted : n ≡ length told
    pub walking : (b : Bodies) → given b →
        Walking rule len (walk rule (map entry_of (take len entries₀)) (live labels₀ b)) entries (live labels b) told w i
    pub numbers-listed : Listing f size told numbers₀ numbers
    pub bytes-listed : Listing g width told bytes₀ bytes
    pub within : i ≤ len
    pub behind : w ≤ i
    pub few : n ≤ i
    pub whole : length entries ≡ 64

  pub start : Setting → length entries₀ ≡ 64 → Going entries₀ labels₀ numbers₀ bytes₀ 0 0 0
  start s a =
      record {
        told = [];
        setting = s;
        counted = refl;
        walking = λ b l. begins rule len entries₀ (live labels₀ b) a;
        numbers-listed = nothing_yet f size numbers₀;
        bytes-listed = nothing_yet g width bytes₀;
        within = omega arith;
        behind = omega arith;
        few = omega arith;
        whole = a;
      }

  module _ (entries : List coded.Entry) (labels : Bytes) (numbers bytes : List ℕ) (n w i : ℕ) (s : Going entries labels numbers bytes n w i) where
    pub done : len ≤ i → (b : Bodies) → given b → Ends (walk rule (map entry_of (take len entries₀)) (live labels₀ b)) entries (live labels b) s.told w
    done h b l = ends rule len _ entries (live labels b) s.told w i (s.walking b l) h

    module _ (d : coded.Entry) (more : i < len) where
      abbrev e : coded.Entry
      e = get_or entries i d

      -- the visit of the entry, whatever the bodies are
      abbrev Visits : (Visit A) → Type 0
      Visits v = (b : Bodies) → given b → rule (guard_of e.frame.hash (live labels b)) (entry_of e) ≡ v

      -- nothing is listed of it, and it stays as it is
      pub silent : Visits (stay (entry_of e).standing []) → Going (set entries w e) labels numbers bytes n (w + 1) (i + 1)
      unfolding stay
      silent v =
          let t : (b : Bodies) → given b →
          Walking rule len (walk rule (map entry_of (take len entries₀)) (live labels₀ b)) (set entries w e) (live labels b) s.told (w + 1) (i + 1) =
          λ b l. rw append-nil at (stays rule len _ entries (live labels b) s.told w i (s.walking b l) d more s.setting.fits false [] (live labels b) refl (entry_of e).standing e refl (v b l)) in
          record {
            told = s.told;
            setting = s.setting;
            counted = s.counted;
            walking = t;
            numbers-listed = s.numbers-listed;
            bytes-listed = s.bytes-listed;
            within = omega arith;
            behind = omega (arith, s.behind);
            few = omega (arith, s.few);
            whole = (t s.setting.bodies s.setting.lent).whole;
          }

      module _ (o : Option Standing) (drops : Bool) (x : A) (visit : Visits (record { stays = o; drops = drops; lists = x ∷ [] })) where
        pub one_left : n < many
        one_left =
            let b = s.setting.bodies in
            let l = s.setting.lent in
            omega (arith, one_of rule len _ entries (live labels b) s.told w i (s.walking b l) d x more s.setting.fits (rw (visit b l)), s.setting.bound b l, s.counted)

        pub number-room : size * n + size ≤ length numbers
        number-room =
            let next : size * (n + 1) ≡ size * n + size = rw add-one (mul-suc size n) in
            let most : size * (n + 1) ≤ size * many = mul-le-mul_left size (omega (arith, one_left)) in
            omega (arith, s.setting.numbers, s.numbers-listed.same)

        pub byte-room : width * n + width ≤ length bytes
        byte-room =
            let next : width * (n + 1) ≡ width * n + width = rw add-one (mul-suc width n) in
            let most : width * (n + 1) ≤ width * many = mul-le-mul_left width (omega (arith, one_left)) in
            omega (arith, s.setting.bytes, s.bytes-listed.same)

        module _ (labels' : Bytes) (dropped : (b : Bodies) → given b → cond drops (drop_guard e.frame.hash (live labels b)) (live labels b) ≡ live labels' b)
            (numbers' bytes' : List ℕ) (sized : length (f x) ≡ size) (wide : length (g x) ≡ width) (p : numbers' ≡ written_at (size * n) (f x) numbers)
            (q : bytes' ≡ written_at (width * n) (g x) bytes) where
          listed : (entries' : List coded.Entry) (w' : ℕ) →
              ((b : Bodies) → given b → Walking rule len (walk rule (map entry_of (take len entries₀)) (live labels₀ b)) entries' (live labels' b) (s.told ++ (x ∷ [])) w' (i + 1)) →
              Going entries' labels' numbers' bytes' (n + 1) w' (i + 1)
          listed entries' w' t =
              let u = t s.setting.bodies s.setting.lent in
              record {
                told = s.told ++ (x ∷ []);
                setting = s.setting;
                counted = rw (length-append s.told (x ∷ [])) (omega (arith, s.counted));
                walking = t;
                numbers-listed = one_more f size s.told x n numbers₀ numbers numbers' s.numbers-listed s.counted (omega (arith, number-room, s.numbers-listed.same)) sized p;
                bytes-listed = one_more g width s.told x n bytes₀ bytes bytes' s.bytes-listed s.counted (omega (arith, byte-room, s.bytes-listed.same)) wide q;
                within = omega arith;
                behind = u.behind;
                few = omega (arith, s.few);
                whole = u.whole;
              }

          -- it is listed, and stays as `y`
          pub kept : (z : Standing) (y : coded.Entry) → o ≡ Some z → entry_of y ≡ record { frame = frame_of e.frame; standing = z } →
              Going (set entries w y) labels' numbers' bytes' (n + 1) (w + 1) (i + 1)
          kept z y is same =
              listed (set entries w y) (w + 1)
              (λ b l. stays rule len _ entries (live labels b) s.told w i (s.walking b l) d more s.setting.fits drops (x ∷ []) (live labels' b) (dropped b l) z y same (rw is at (visit b l)))

          -- it is listed, and leaves
          pub left : o ≡ None → Going entries labels' numbers' bytes' (n + 1) w (i + 1)
          left is =
              listed entries w
              (λ b l. leaves rule len _ entries (live labels b) s.told w i (s.walking b l) d more s.setting.fits drops (x ∷ []) (live labels' b) (dropped b l) (rw is at (visit b l)))
