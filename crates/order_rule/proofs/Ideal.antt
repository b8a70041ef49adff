-- A store without limits of room, whose guards are a function of the hash: equal stores of document 01 are one and the same
-- ideal store. A run that meets no refusal about room is the ideal run, seen through `view` (`view-run`, `view-transcript`).
use Prim.Native.Nat.{ℕ, suc}
use mathlib.Core.Path.{◌≡◌, refl, sym, ap, ◌∙◌, subst, fun_ext}
use mathlib.Core.Bool.{Bool, true, false, not, cond}
use mathlib.Core.List.Memᴰ
use mathlib.Core.List.{List, [], ◌∷◌, ◌++◌}
use Rattle.std.specs.Prelude.{Option, None, Some}
use Rattle.std.specs.Option.{option_or}
use lib.ListN.{length}
use Rattle.lists.specs.Bytes.{Bytes, eq_bytes}
use Rattle.lists.proofs.ByteOrder.{eq_bytes-of, eq_bytes-true, eq_bytes-refl, clash}
use Rattle.store_rules.specs.Frames.{Frame, Entry, Guard, Visit}
use Rattle.store_rules.specs.Poll.{poll_rule}
use Rattle.store_rules.specs.Rules.{only_of, evict_rule, reorg_rule, final_rule}
use Rattle.lists.specs.Lists.{keep}
use Rattle.store_rules.specs.Lookup.{enters, whose_found, lookup, is_found, enter_first}
use Rattle.store_rules.specs.Store.{Store, RowForm, SameStore, guard_of, drop_guard, put_guard, Call, push, poll, guard, enter_tentative, evict_sender, check_reorg, check_finalized, Answer, total, rows, recorded, entered, frames, dead, refused, after, walk, walked, insert, fresh, effect, when, input_refusal, room_refusal, unless, Request, refusal, step, run, calls}
use Rattle.order_rule.specs.Orders.{shown, transcript, about_room, EnoughRoom}

abbrev pub Guards : Type 0
Guards = Bytes → Option Guard

pub record Ideal : Type 0 where
  pub entries : List Entry
  pub guards : Guards

unfoldable pub view : Store → Ideal
view s = record { entries = s.entries; guards = λ h. guard_of h s.guards }

-- ---- the same calls on an ideal store

unfoldable pub without : Bytes → Guards → Guards
without h G = λ x. cond (eq_bytes h x) None (G x)

unfoldable pub with' : Guard → Guards → Guards
with' g G = λ x. cond (eq_bytes g.hash x) (Some g) (G x)

unfoldable pub drop_if : Bool → Bytes → Guards → Guards
drop_if true h G = without h G
drop_if false h G = G

pub record Trail (A : Type 0) : Type 0 where
  pub entries : List Entry
  pub guards : Guards
  pub listed : List A

module _ {A : Type 0} where
  -- a visit's result, and those of the entries behind it
  unfoldable pub behind : Visit A → Frame → Trail A → Trail A
  behind v f r = record { entries = after v.stays f r.entries; guards = r.guards; listed = v.lists ++ r.listed }

  unfoldable pub trail : (Option Guard → Entry → Visit A) → List Entry → Guards → Trail A
  trail rule [] G = record { entries = []; guards = G; listed = [] }
  trail rule (e ∷ es) G =
      behind (rule (G e.frame.hash) e) e.frame (trail rule es (drop_if (rule (G e.frame.hash) e).drops e.frame.hash G))

  unfoldable pub trailed : Trail A → (List A → Answer) → Ideal × Answer
  trailed w answer = (record { entries = w.entries; guards = w.guards }, answer w.listed)

unfoldable pub effectᵢ : Ideal → Call → Ideal × Answer
effectᵢ s (push f) = (record { entries = insert (fresh f) s.entries; guards = s.guards }, total (suc (length s.entries)))
effectᵢ s (poll a head known content) = trailed (trail (only_of a (poll_rule head known content)) s.entries s.guards) rows
effectᵢ s (guard g) = (record { entries = s.entries; guards = with' g s.guards }, recorded)
effectᵢ s (enter_tentative h c) = (
  record { entries = enter_first h c s.entries; guards = drop_if (is_found (lookup (enters h) s.entries)) h s.guards },
  entered (whose_found (lookup (enters h) s.entries)),
)
effectᵢ s (evict_sender a) = trailed (trail (only_of a evict_rule) s.entries s.guards) frames
effectᵢ s (check_reorg b canonical) = trailed (trail (reorg_rule b canonical) s.entries s.guards) frames
effectᵢ s (check_finalized n) = trailed (trail (final_rule n) s.entries s.guards) dead

unfoldable pub unlessᵢ : Option ℕ → Ideal → Ideal × Answer → Ideal × Answer
unlessᵢ (Some n) s done = (s, refused n)
unlessᵢ None s done = done

unfoldable pub stepᵢ : Ideal → Call → Ideal × Answer
stepᵢ s c = unlessᵢ (input_refusal c) s (effectᵢ s c)

unfoldable pub runᵢ : Ideal → List Call → Ideal
runᵢ s [] = s
runᵢ s (c ∷ cs) = runᵢ (stepᵢ s c).0 cs

unfoldable pub transcriptᵢ : Ideal → List Call → List (Call × Answer)
transcriptᵢ s [] = []
transcriptᵢ s (c ∷ cs) = (c, shown (stepᵢ s c).1) ∷ transcriptᵢ (stepᵢ s c).0 cs

-- ---- guards by hash, in a list and as a function

pub guard_of-drop : (h : Bytes) (gs : List Guard) (x : Bytes) → guard_of x (drop_guard h gs) ≡ cond (eq_bytes h x) None (guard_of x gs)
unfolding guard_of drop_guard keep
guard_of-drop h [] x = none-either (eq_bytes h x)
  where
    none-either : (b : Bool) → ◌≡◌ {A = Option Guard} None (cond b None None)
    none-either true = refl
    none-either false = refl
guard_of-drop h (g ∷ gs) x = go (eq_bytes g.hash h) refl (eq_bytes g.hash x) refl (eq_bytes h x) refl (guard_of-drop h gs x)
  where
    go : (b : Bool) → eq_bytes g.hash h ≡ b → (c : Bool) → eq_bytes g.hash x ≡ c → (d : Bool) → eq_bytes h x ≡ d →
        guard_of x (drop_guard h gs) ≡ cond d None (guard_of x gs) →
        guard_of x (cond (not b) (g ∷ drop_guard h gs) (drop_guard h gs)) ≡ cond d None (cond c (Some g) (guard_of x gs))
    go true p c q true r ih = ih
    go true p true q false r ih = clash (subst (λ (y : Bytes). eq_bytes y x ≡ true) (eq_bytes-true g.hash h p) q) r
    go true p false q false r ih = ih
    go false p true q true r ih = clash (subst (λ (y : Bytes). eq_bytes g.hash y ≡ true) (eq_bytes-true g.hash x q ∙ sym (eq_bytes-true h x r)) (eq_bytes-refl g.hash)) p
    go false p true q false r ih = rw q
    go false p false q true r ih = rw q ih
    go false p false q false r ih = rw q ih

-- the guards of a list, as a function
unfoldable pub by_hash : List Guard → Guards
by_hash gs = λ x. guard_of x gs

drop_if-view : (b : Bool) (h : Bytes) (gs : List Guard) → drop_if b h (by_hash gs) ≡ by_hash (cond b (drop_guard h gs) gs)
unfolding drop_if without by_hash
drop_if-view true h gs = fun_ext (λ x. sym (guard_of-drop h gs x))
drop_if-view false h gs = refl

guard_of-put : (g : Guard) (gs : List Guard) (x : Bytes) → cond (eq_bytes g.hash x) (Some g) (guard_of x gs) ≡ guard_of x (put_guard g gs)
unfolding guard_of put_guard
guard_of-put g [] x = refl
guard_of-put g (y ∷ ys) x = go (eq_bytes y.hash g.hash) refl (eq_bytes g.hash x) refl (eq_bytes y.hash x) refl (guard_of-put g ys x)
  where
    go : (b : Bool) → eq_bytes y.hash g.hash ≡ b → (c : Bool) → eq_bytes g.hash x ≡ c → (d : Bool) → eq_bytes y.hash x ≡ d →
        cond (eq_bytes g.hash x) (Some g) (guard_of x ys) ≡ guard_of x (put_guard g ys) →
        cond c (Some g) (cond d (Some y) (guard_of x ys)) ≡ guard_of x (cond b (g ∷ ys) (y ∷ put_guard g ys))
    go true p true q d r ih = rw q
    go true p false q true r ih = clash (subst (λ (h : Bytes). eq_bytes h x ≡ true) (eq_bytes-true y.hash g.hash p) r) q
    go true p false q false r ih = rw q
    go false p true q true r ih = clash (eq_bytes-of y.hash g.hash (eq_bytes-true y.hash x r ∙ sym (eq_bytes-true g.hash x q))) p
    go false p true q false r ih = rw r (rw q at ih)
    go false p false q true r ih = rw r
    go false p false q false r ih = rw r (rw q at ih)

with-view : (g : Guard) (gs : List Guard) → with' g (by_hash gs) ≡ by_hash (put_guard g gs)
unfolding with' by_hash
with-view g gs = fun_ext (guard_of-put g gs)

module _ {A : Type 0} where
  walk-view : (rule : Option Guard → Entry → Visit A) (es : List Entry) (gs : List Guard) →
      trail rule es (by_hash gs) ≡ record { entries = (walk rule es gs).entries; guards = by_hash (walk rule es gs).guards; listed = (walk rule es gs).listed }
  unfolding trail walk by_hash behind
  walk-view rule [] gs = refl
  walk-view rule (e ∷ es) gs =
      ap (λ (G : Guards). behind (visit) e.frame (trail rule es G)) (drop_if-view visit.drops e.frame.hash gs)
      ∙ ap (behind visit e.frame) (walk-view rule es (cond visit.drops (drop_guard e.frame.hash gs) gs))
    where
      visit : Visit A
      visit = rule (guard_of e.frame.hash gs) e

  walked-view : (rule : Option Guard → Entry → Visit A) (es : List Entry) (gs : List Guard) (answer : List A → Answer) →
      trailed (trail rule es (by_hash gs)) answer ≡ (view (walked (walk rule es gs) answer).0, (walked (walk rule es gs) answer).1)
  unfolding trailed walked view by_hash
  walked-view rule es gs answer = ap (λ (w : Trail A). trailed w answer) (walk-view rule es gs)

-- ---- one call

-- a store and an answer, the store seen as ideal
unfoldable pub seen : Store × Answer → Ideal × Answer
seen r = (view r.0, r.1)

pub effect-view : (s : Store) (c : Call) → effectᵢ (view s) c ≡ seen (effect s c)
unfolding effectᵢ effect view seen by_hash
effect-view s (push f) = refl
effect-view s (poll a head known content) = walked-view (only_of a (poll_rule head known content)) s.entries s.guards rows
effect-view s (guard g) = ap (λ (G : Guards). (record { entries = s.entries; guards = G }, recorded)) (with-view g s.guards)
effect-view s (enter_tentative h c) =
    ap (λ (G : Guards). (record { entries = enter_first h c s.entries; guards = G }, entered (whose_found (lookup (enters h) s.entries))))
    (drop_if-view (is_found (lookup (enters h) s.entries)) h s.guards)
effect-view s (evict_sender a) = walked-view (only_of a evict_rule) s.entries s.guards frames
effect-view s (check_reorg b canonical) = walked-view (reorg_rule b canonical) s.entries s.guards frames
effect-view s (check_finalized n) = walked-view (final_rule n) s.entries s.guards dead

-- the refusals about room are 2, 5 and 8
abbrev pub RoomOnly : Option ℕ → Type 0
RoomOnly None = Unit {0}
RoomOnly (Some n) = about_room (refused n) ≡ true

when-room : (b : Bool) (n : ℕ) → about_room (refused n) ≡ true → RoomOnly (when b n)
unfolding when
when-room true n h = h
when-room false n h = tt

pub room-only : (s : Store) (c : Call) (form : RowForm) (numbers bytes : ℕ) → RoomOnly (room_refusal s c form numbers bytes)
unfolding room_refusal about_room
room-only s (push f) form numbers bytes = when-room _ 2 refl
room-only s (poll a head known content) form numbers bytes = when-room _ 5 refl
room-only s (guard g) form numbers bytes = when-room _ 8 refl
room-only s (enter_tentative h c) form numbers bytes = tt
room-only s (evict_sender a) form numbers bytes = when-room _ 5 refl
room-only s (check_reorg b canonical) form numbers bytes = when-room _ 5 refl
room-only s (check_finalized n) form numbers bytes = when-room _ 5 refl

-- a call that is not refused for want of room is the ideal call
step-view : (s : Store) (q : Request) → about_room (step s q).1 ≡ false → stepᵢ (view s) q.call ≡ seen (step s q)
unfolding stepᵢ step seen unless unlessᵢ refusal
step-view s q = go (input_refusal q.call) (room_refusal s q.call q.form q.numbers q.bytes) (room-only s q.call q.form q.numbers q.bytes)
  where
    c : Call
    c = q.call

    go : (i r : Option ℕ) → RoomOnly r → about_room (unless (option_or i r) s (effect s c)).1 ≡ false →
        unlessᵢ i (view s) (effectᵢ (view s) c) ≡ seen (unless (option_or i r) s (effect s c))
    go (Some n) r p h = refl
    go None (Some n) p h = clash p h
    go None None p h = effect-view s c

-- ---- a list of calls

-- what is told of an answer but for a push's total
pub shown-same : {A : Type 0} (f : Answer → A) → ((n : ℕ) → f (total 0) ≡ f (total n)) → (a : Answer) → f (shown a) ≡ f a
unfolding shown
shown-same f h (total n) = h n
shown-same f h (rows l) = refl
shown-same f h recorded = refl
shown-same f h (entered w) = refl
shown-same f h (frames l) = refl
shown-same f h (dead l) = refl
shown-same f h (refused n) = refl

pub room-shown : (a : Answer) → about_room (shown a) ≡ about_room a
unfolding about_room
room-shown = shown-same about_room (λ n. refl)

first-room : (s : Store) (q : Request) (qs : List Request) → EnoughRoom s (q ∷ qs) → about_room (step s q).1 ≡ false
unfolding transcript
first-room s q qs h = sym (room-shown (step s q).1) ∙ h q.call (shown (step s q).1) (Memᴰ.head refl)

later-room : (s : Store) (q : Request) (qs : List Request) → EnoughRoom s (q ∷ qs) → EnoughRoom (step s q).0 qs
unfolding transcript
later-room s q qs h c a m = h c a (Memᴰ.tail m)

pub view-run : (s : Store) (qs : List Request) → EnoughRoom s qs → runᵢ (view s) (calls qs) ≡ view (run s qs)
unfolding runᵢ run calls seen
view-run s [] h = refl
view-run s (q ∷ qs) h =
    ap (λ (r : Ideal × Answer). runᵢ r.0 (calls qs)) (step-view s q (first-room s q qs h)) ∙ view-run (step s q).0 qs (later-room s q qs h)

pub view-transcript : (s : Store) (qs : List Request) → EnoughRoom s qs → transcriptᵢ (view s) (calls qs) ≡ transcript s qs
unfolding transcriptᵢ transcript calls seen
view-transcript s [] h = refl
view-transcript s (q ∷ qs) h =
    ap (λ (r : Ideal × Answer). (q.call, shown r.1) ∷ transcriptᵢ r.0 (calls qs)) (step-view s q (first-room s q qs h))
    ∙ ap (λ (l : List (Call × Answer)). (q.call, shown (step s q).1) ∷ l) (view-transcript (step s q).0 qs (later-room s q qs h))

-- stores that are one ideal store are equal
pub same_view : (s t : Store) → view s ≡ view t → SameStore s t
unfolding view
same_view s t e = record { entries = ap (λ (i : Ideal). i.entries) e; guards = λ h. ap (λ (i : Ideal). i.guards h) e }
