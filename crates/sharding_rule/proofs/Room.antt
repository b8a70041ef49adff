-- A shard has room where the one store has: it holds no more frames and no more guards, and lists no more (`step_room`).
use Prim.Native.Nat.{ℕ, ◌*◌, ◌≤◌}
use native.Mathlib.Omega.{arith}
use mathlib.Core.Path.{◌≡◌, refl, sym, ap, ◌∙◌}
use mathlib.Core.Bool.{Bool, true, false, ◌&&◌, ◌||◌, not, cond, false≢true, true≢false}
use mathlib.Core.List.{List}
use Rattle.std.specs.Prelude.{Option, None, Some}
use Rattle.std.specs.Option.{option_or}
use Rattle.lists.proofs.Options.{some-ne-none}
use lib.Dec.{leb, ltb}
use lib.ListN.{length}
use borrow.Author.Tests.{ltb-false, le-ltb, leb-false, lt-leb}
use Rattle.lists.specs.Bytes.{Bytes, eq_bytes}
use Rattle.lists.specs.Lists.{keep, is_empty}
use Rattle.lists.proofs.ByteOrder.{eq_bytes-true, clash}
use Rattle.lists.proofs.Keeping.{keep-keep, each_map}
use Rattle.lists.proofs.Elements.{length-keep}
use Rattle.store_rules.specs.Frames.{Frame, Entry, Guard, Dead}
use Rattle.store_rules.specs.Lookup.{entries_of}
use Rattle.store_rules.specs.Store.{Store, RowForm, guard_of, is_guarded, Call, push, poll, guard, enter_tentative, evict_sender, check_reorg, check_finalized, Request, Answer, total, rows, recorded, entered, frames, dead, refused, walked, effect, when, no_room_for, input_refusal, room_refusal, refusal, unless, listed, step}
use Rattle.order_rule.specs.Orders.{Key, sender, key_by, concerns, shown, about_room}
use Rattle.order_rule.proofs.Ideal.{Ideal, view, stepᵢ, unlessᵢ, effectᵢ, seen, effect-view, RoomOnly, room-only, shown-same}
use Rattle.order_rule.proofs.Invariant.{Good}
use Rattle.order_rule.proofs.Shard.{ours, only, shard, our_list, our_answer, own-step}
use Rattle.store_laws.proofs.Reachable.{OneGuardAHash}
use Rattle.sharding_rule.proofs.GuardCounts.{GuardedIn, no_more, found, none_of}

-- ---- refusals about room

effect-room : (s : Store) (c : Call) → about_room (effect s c).1 ≡ false
unfolding effect walked about_room
effect-room s (push f) = refl
effect-room s (poll a head known content) = refl
effect-room s (guard g) = refl
effect-room s (enter_tentative h c) = refl
effect-room s (evict_sender a) = refl
effect-room s (check_reorg b canonical) = refl
effect-room s (check_finalized n) = refl

-- a refusal that comes only where another does
weaker : (b c : Bool) (n : ℕ) → (b ≡ false → c ≡ false) → when b n ≡ None → when c n ≡ None
unfolding when
weaker true c n f e = absurd (some-ne-none n e)
weaker false c n f e = rw (f refl)

neither : (b c d e : Bool) → (b ≡ false → d ≡ false) → (c ≡ false → e ≡ false) → (b || c) ≡ false → (d || e) ≡ false
neither true c d e f g h = absurd (true≢false h)
neither false c d e f g h = rw (f refl) (g h)

fewer-held : (k m n : ℕ) → m ≤ n → leb k n ≡ false → leb k m ≡ false
fewer-held k m n l e = let p = leb-false k n e in lt-leb k m (omega arith)

fewer-listed : (room m n : ℕ) → m ≤ n → ltb room n ≡ false → ltb room m ≡ false
fewer-listed room m n l e = let p = ltb-false room n e in le-ltb room m (omega arith)

listed-shown : (a : Answer) → listed (shown a) ≡ listed a
unfolding listed
listed-shown = shown-same listed (λ n. refl)

-- ---- a shard has room where the one store has

module _ (owner : Bytes → Key) (p : Key → Bool) where
  our-fewer : (k : Option Key) (a : Answer) → listed (our_answer owner p k a) ≤ listed a
  unfolding our_answer our_list listed
  our-fewer (Some k) a = omega arith
  our-fewer None (total n) = omega arith
  our-fewer None (rows l) = omega arith
  our-fewer None recorded = omega arith
  our-fewer None (entered w) = omega arith
  our-fewer None (frames l) = length-keep (λ (f : Frame). ours owner p f) l
  our-fewer None (dead l) = length-keep (λ (d : Dead). ours owner p d.frame) l
  our-fewer None (refused n) = omega arith

  module _ (s t : Store) (h : Good owner (view s)) (is : view t ≡ shard owner p (view s)) (d : OneGuardAHash t.guards) where
    -- ---- entries

    abbrev OursIn : Entry → Bool
    OursIn e = p (sender e.frame.from)

    entries-are : t.entries ≡ keep OursIn s.entries
    unfolding view shard ours
    entries-are = ap (λ (i : Ideal). i.entries) is

    fewer-entries : length t.entries ≤ length s.entries
    fewer-entries = rw entries-are (length-keep OursIn s.entries)

    pub own-entries : (a : Bytes) → p (sender a) ≡ true → entries_of a t.entries ≡ entries_of a s.entries
    unfolding entries_of
    own-entries a y =
        ap (keep (λ e. eq_bytes e.frame.from a)) entries-are
        ∙ keep-keep OursIn (λ e. eq_bytes e.frame.from a) (λ e q. ap (λ (b : Bytes). p (sender b)) (eq_bytes-true e.frame.from a q) ∙ y) s.entries

    -- ---- guards

    guard-is : (x : Bytes) → guard_of x t.guards ≡ cond (p (owner x)) (guard_of x s.guards) None
    unfolding view shard only
    guard-is x = ap (λ (i : Ideal). i.guards x) is

    fewer-guards : length t.guards ≤ length s.guards
    unfolding is_guarded
    fewer-guards = no_more t.guards s.guards d (each_map (GuardedIn t.guards) (GuardedIn s.guards) t.guards there (found t.guards))
      where
        there : (g : Guard) → GuardedIn t.guards g → GuardedIn s.guards g
        there g y = go (p (owner g.hash)) (ap is_guarded (sym (guard-is g.hash)) ∙ y)
          where
            go : (b : Bool) → is_guarded (cond b (guard_of g.hash s.guards) None) ≡ true → GuardedIn s.guards g
            go true z = z
            go false z = absurd (false≢true z)

    abbrev NoneOf : Bytes → List Guard → Bool
    NoneOf x gs = is_empty (keep (λ g. eq_bytes g.hash x) gs)

    guard-room : (x : Bytes) → p (owner x) ≡ true → no_room_for x s.guards ≡ false → no_room_for x t.guards ≡ false
    unfolding no_room_for
    guard-room x y = go (leb 64 (length s.guards)) refl
      where
        same : NoneOf x t.guards ≡ NoneOf x s.guards
        same = none_of x t.guards ∙ ap (λ (o : Option Guard). not (is_guarded o)) (guard-is x ∙ rw y) ∙ sym (none_of x s.guards)

        only_if : (b c : Bool) → c ≡ false → (b && c) ≡ false
        only_if true c q = q
        only_if false c q = refl

        go : (b : Bool) → leb 64 (length s.guards) ≡ b → (b && NoneOf x s.guards) ≡ false → (leb 64 (length t.guards) && NoneOf x t.guards) ≡ false
        go true q r = only_if (leb 64 (length t.guards)) (NoneOf x t.guards) (same ∙ r)
        go false q r = rw (fewer-held 64 (length t.guards) (length s.guards) fewer-guards q)

    -- ---- what is listed

    abbrev Many : Store → Call → ℕ
    Many i c = listed (effect i c).1

    -- a call that is never refused for its inputs lists no more
    lists-fewer : (c : Call) → input_refusal c ≡ None → concerns p (key_by owner c) ≡ true → Many t c ≤ Many s c
    unfolding stepᵢ unlessᵢ seen
    lists-fewer c e y = rw (← own, listed-shown, ideal s) at (our-fewer (key_by owner c) (shown (stepᵢ (view s) c).1))
      where
        ideal : (i : Store) → listed (stepᵢ (view i) c).1 ≡ Many i c
        ideal i =
            ap (λ (o : Option ℕ). listed (unlessᵢ o (view i) (effectᵢ (view i) c)).1) e ∙ ap (λ (r : Ideal × Answer). listed r.1) (effect-view i c)

        own : Many t c ≡ listed (our_answer owner p (key_by owner c) (shown (stepᵢ (view s) c).1))
        own =
            sym (ideal t) ∙ ap (λ (i : Ideal). listed (stepᵢ i c).1) is ∙ sym (listed-shown (stepᵢ (shard owner p (view s)) c).1)
            ∙ ap (λ (r : Ideal × Answer). listed r.1) (own-step owner p (view s) h c y)

    -- ---- one call

    has_room : (c : Call) (form : RowForm) (numbers bytes : ℕ) → concerns p (key_by owner c) ≡ true →
        room_refusal s c form numbers bytes ≡ None → room_refusal t c form numbers bytes ≡ None
    unfolding room_refusal concerns key_by input_refusal
    has_room (push f) form numbers bytes y = weaker _ _ 2 (fewer-held 64 (length t.entries) (length s.entries) fewer-entries)
    has_room (poll a head known content) form numbers bytes y = λ e. rw (own-entries a y) e
    has_room (guard g) form numbers bytes y = weaker _ _ 8 (guard-room g.hash y)
    has_room (enter_tentative x c) form numbers bytes y = λ e. refl
    has_room (evict_sender a) form numbers bytes y =
        weaker _ _ 5 (fewer-listed numbers (Many t (evict_sender a)) (Many s (evict_sender a)) (lists-fewer (evict_sender a) refl y))
    has_room (check_reorg b canonical) form numbers bytes y =
        weaker _ _ 5 (fewer-listed numbers (Many t (check_reorg b canonical)) (Many s (check_reorg b canonical)) (lists-fewer (check_reorg b canonical) refl y))
    has_room (check_finalized n) form numbers bytes y =
        let fewer : Many t (check_finalized n) ≤ Many s (check_finalized n) = lists-fewer (check_finalized n) refl y in
        weaker _ _ 5 (neither _ _ _ _ (fewer-listed numbers (3 * Many t (check_finalized n)) (3 * Many s (check_finalized n)) (omega arith))
        (fewer-listed bytes (64 * Many t (check_finalized n)) (64 * Many s (check_finalized n)) (omega arith)))

    pub step_room : (q : Request) → concerns p (key_by owner q.call) ≡ true → about_room (step s q).1 ≡ false → about_room (step t q).1 ≡ false
    unfolding step unless refusal
    step_room q y = go (input_refusal q.call) (lacks s) (room-only s q.call q.form q.numbers q.bytes) (has_room q.call q.form q.numbers q.bytes y)
      where
        lacks : Store → Option ℕ
        lacks i = room_refusal i q.call q.form q.numbers q.bytes

        go : (i r : Option ℕ) → RoomOnly r → (r ≡ None → lacks t ≡ None) → about_room (unless (option_or i r) s (effect s q.call)).1 ≡ false →
            about_room (unless (option_or i (lacks t)) t (effect t q.call)).1 ≡ false
        go (Some n) r o f e = e
        go None (Some n) o f e = clash o e
        go None None o f e = rw (f refl) (effect-room t q.call)
