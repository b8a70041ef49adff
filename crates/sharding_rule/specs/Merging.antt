-- How the answers of shards are put together: lists of frames in walk order, numbers as their sum.
use Rattle.std.specs.Prelude.{ℕ, zero, suc, cond, List, [], ◌∷◌}
use Rattle.lists.specs.Bytes.{Bytes, le_bytes}
use Rattle.store_rules.specs.Frames.{Frame, Dead}
use Rattle.store_rules.specs.Store.{Answer, total, rows, recorded, entered, frames, dead, refused}

module _ {A : Type 0} (at : A → Bytes) where
  -- the first of one list, and what comes of its rest, among those of another; at equal addresses it goes before them
  unfoldable pub into : A → (List A → List A) → List A → List A
  into x rest [] = x ∷ rest []
  into x rest (y ∷ ys) = cond (le_bytes (at x) (at y)) (x ∷ rest (y ∷ ys)) (y ∷ into x rest ys)

  -- two lists that ascend by address, as one
  unfoldable pub merge : List A → List A → List A
  merge [] ys = ys
  merge (x ∷ xs) ys = into x (merge xs) ys

-- what shards 0 to `last` give, joined
unfoldable pub gather : {A : Type 0} → (A → A → A) → ℕ → (ℕ → A) → A
gather join zero given = given 0
gather join (suc last) given = join (gather join last given) (given (suc last))

unfoldable pub frames_in : Answer → List Frame
frames_in (total n) = []
frames_in (rows l) = []
frames_in recorded = []
frames_in (entered w) = []
frames_in (frames l) = l
frames_in (dead l) = []
frames_in (refused n) = []

unfoldable pub dead_frames : Answer → List Dead
dead_frames (total n) = []
dead_frames (rows l) = []
dead_frames recorded = []
dead_frames (entered w) = []
dead_frames (frames l) = []
dead_frames (dead l) = l
dead_frames (refused n) = []

-- the answers of two shards to a reorganisation or a finality, merged in walk order; nothing else is asked of two
unfoldable pub join_answers : Answer → Answer → Answer
join_answers (total n) b = total n
join_answers (rows l) b = rows l
join_answers recorded b = recorded
join_answers (entered w) b = entered w
join_answers (frames l) b = frames (merge (λ f. f.from) l (frames_in b))
join_answers (dead l) b = dead (merge (λ d. d.frame.from) l (dead_frames b))
join_answers (refused n) b = refused n
