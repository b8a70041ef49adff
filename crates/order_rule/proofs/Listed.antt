-- What a walk lists: of each entry that it visits, so in walk order (`trail-ascends`); and of a sender's walk, that sender's only.
use Prim.Native.Nat.{ℕ}
use mathlib.Core.Path.{◌≡◌, refl, sym, ap, ◌∙◌, subst}
use mathlib.Core.Bool.{Bool, true, false, ◌&&◌, not, cond}
use mathlib.Core.List.{List, [], ◌∷◌, ◌++◌}
use Rattle.std.specs.Prelude.{Option, Some}
use lib.Dec.{ltb, leb, eqb}
use Rattle.lists.specs.Bytes.{Bytes, eq_bytes, le_bytes}
use Rattle.lists.specs.Lists.{Each, Pairwise, is_empty}
use Rattle.lists.proofs.ByteOrder.{eq_bytes-true, le_bytes-refl}
use Rattle.lists.proofs.Keeping.{each_map}
use Rattle.lists.proofs.Elements.{each-join}
use Rattle.store_rules.specs.Frames.{Frame, State, tracked, tentative, Standing, Entry, Guard, Row, Dead, Visit, degraded, Decision, rescue, nonce_consumed, still_waiting}
use Rattle.store_rules.specs.Poll.{Content, predecessors, unknown, guard_matches, held_at, stay, leave, row, poll_rule, poll_given, poll_in, poll_full, poll_degraded}
use Rattle.store_rules.specs.Rules.{only_of, evict_rule, differs, reorg_rule, reorg_in, final_rule, final_in}
use Rattle.store_rules.specs.Store.{Sorted}
use Rattle.order_rule.proofs.Ideal.{Guards, behind, trail}

-- no address is below that of an element before it
abbrev pub Ascends : {A : Type 0} → (A → Bytes) → List A → Type 0
Ascends at = Pairwise (λ x y. le_bytes (at x) (at y) ≡ true)

-- ---- what the rules list is of the entry that they visit

module _ {A : Type 0} (of : A → Frame) where
  abbrev pub About : Frame → Visit A → Type 0
  About f v = Each (λ x. of x ≡ f) v.lists

  abbrev pub AboutRule : (Option Guard → Entry → Visit A) → Type 0
  AboutRule rule = (g : Option Guard) (e : Entry) → About e.frame (rule g e)

  about-if : (f : Frame) (b : Bool) (v w : Visit A) → About f v → About f w → About f (cond b v w)
  about-if f true v w h k = h
  about-if f false v w h k = k

  pub about-only_of : (a : Bytes) (rule : Option Guard → Entry → Visit A) → AboutRule rule → AboutRule (only_of a rule)
  unfolding only_of stay
  about-only_of a rule h g e = about-if e.frame (eq_bytes e.frame.from a) (rule g e) (stay e.standing []) (h g e) tt

  -- what a sender's rule lists is of this sender
  pub lists-own : (a : Bytes) (rule : Option Guard → Entry → Visit A) → AboutRule rule → (g : Option Guard) (e : Entry) →
      Each (λ x. (of x).from ≡ a) (only_of a rule g e).lists
  unfolding only_of stay
  lists-own a rule h g e = go (eq_bytes e.frame.from a) refl
    where
      go : (b : Bool) → eq_bytes e.frame.from a ≡ b → Each (λ x. (of x).from ≡ a) (cond b (rule g e) (stay e.standing [])).lists
      go true p = each_map (λ x. of x ≡ e.frame) (λ x. (of x).from ≡ a) (rule g e).lists (λ x q. ap (λ (f : Frame). f.from) q ∙ eq_bytes-true e.frame.from a p) (h g e)
      go false p = tt

  -- what holds of all that a rule lists holds of all that a walk lists
  pub trail-lists : (P : A → Type 0) (rule : Option Guard → Entry → Visit A) → ((g : Option Guard) (e : Entry) → Each P (rule g e).lists) →
      (es : List Entry) (G : Guards) → Each P (trail rule es G).listed
  unfolding trail behind
  trail-lists P rule h [] G = tt
  trail-lists P rule h (e ∷ es) G = each-join P (rule (G e.frame.hash) e).lists _ (h (G e.frame.hash) e) (trail-lists P rule h es _)

  -- what holds of the entries holds of what a walk lists
  trail-about : (P : Frame → Type 0) (rule : Option Guard → Entry → Visit A) → AboutRule rule → (es : List Entry) (G : Guards) →
      Each (λ e. P e.frame) es → Each (λ x. P (of x)) (trail rule es G).listed
  unfolding trail behind
  trail-about P rule h [] G t = tt
  trail-about P rule h (e ∷ es) G t =
      each-join (λ x. P (of x)) v _ (each_map (λ x. of x ≡ e.frame) (λ x. P (of x)) v (λ x q. subst P (sym q) t.0) (h (G e.frame.hash) e))
      (trail-about P rule h es _ t.1)
    where
      v : List A
      v = (rule (G e.frame.hash) e).lists

  -- a walk lists in walk order
  ascends_front : (f : Frame) (l later : List A) → Each (λ x. of x ≡ f) l → Each (λ x. le_bytes f.from (of x).from ≡ true) later →
      Ascends (λ x. (of x).from) later → Ascends (λ x. (of x).from) (l ++ later)
  ascends_front f [] later q t h = h
  ascends_front f (x ∷ l) later q t h = (
    subst (λ (b : Bytes). Each (λ y. le_bytes b (of y).from ≡ true) (l ++ later)) (sym (ap (λ (g : Frame). g.from) q.0))
        (each-join (λ y. le_bytes f.from (of y).from ≡ true) l later
        (each_map (λ y. of y ≡ f) (λ y. le_bytes f.from (of y).from ≡ true) l
        (λ y r. subst (λ (g : Frame). le_bytes f.from g.from ≡ true) (sym r) (le_bytes-refl f.from)) q.1)
        t),
    ascends_front f l later q.1 t h,
  )

  pub trail-ascends : (rule : Option Guard → Entry → Visit A) → AboutRule rule → (es : List Entry) (G : Guards) → Sorted es → Ascends (λ x. (of x).from) (trail rule es G).listed
  unfolding trail behind
  trail-ascends rule h [] G s = tt
  trail-ascends rule h (e ∷ es) G s =
      ascends_front e.frame (rule (G e.frame.hash) e).lists _ (h (G e.frame.hash) e)
      (trail-about (λ (f : Frame). le_bytes e.frame.from f.from ≡ true) rule h es _ s.0) (trail-ascends rule h es _ s.1)

abbrev pub frame_of : Frame → Frame
frame_of f = f

abbrev pub row_of : Row → Frame
row_of r = r.frame

abbrev pub dead_of : Dead → Frame
dead_of d = d.frame

pub about-poll : (head : ℕ) (known : List ℕ) (content : Option Content) → AboutRule row_of (poll_rule head known content)
unfolding poll_rule poll_given poll_in poll_full poll_degraded stay leave row
about-poll head known content g e = go e.standing.state (guard_matches g (predecessors head e.frame) e.frame.expected content)
  where
    passed : Bool
    passed = ltb e.frame.claim head

    lacking : List ℕ
    lacking = unknown head known e.frame

    says : Decision → List ℕ → Visit Row
    says d l = stay e.standing (row e.frame d l)

    full : (x y b : Bool) (r : List ℕ) →
        About row_of e.frame (cond x (says nonce_consumed []) (cond y (says still_waiting lacking) (cond b (says still_waiting r) (leave (row e.frame rescue r)))))
    full true y b r = (refl, tt)
    full false true b r = (refl, tt)
    full false false true r = (refl, tt)
    full false false false r = (refl, tt)

    held : (x y : Bool) (s : Standing) → About row_of e.frame (cond x (says nonce_consumed []) (cond y (stay e.standing []) (stay s (row e.frame still_waiting lacking))))
    held true y s = (refl, tt)
    held false true s = tt
    held false false s = (refl, tt)

    go : (s : State) (b : Bool) → About row_of e.frame (poll_in s head known b e)
    go tracked b =
        about-if row_of e.frame (degraded e.frame) (poll_degraded head known e) (poll_full head known b e)
        (held passed (held_at e.standing.held head) (record { state = e.standing.state; held = Some head }))
        (full passed (not (is_empty lacking)) b (predecessors head e.frame))
    go (tentative c) b = tt

pub about-evict : AboutRule frame_of evict_rule
unfolding evict_rule leave
about-evict g e = (refl, tt)

pub about-reorg : (block : ℕ) (canonical : Option Bytes) → AboutRule frame_of (reorg_rule block canonical)
unfolding reorg_rule reorg_in stay
about-reorg block canonical g e = go e.standing.state
  where
    go : (s : State) → About frame_of e.frame (reorg_in s block canonical e)
    go tracked = tt
    go (tentative c) = about-if frame_of e.frame (eqb c.block block && differs canonical c.block_hash) _ (stay e.standing []) (refl, tt) tt

pub about-final : (n : ℕ) → AboutRule dead_of (final_rule n)
unfolding final_rule final_in stay leave
about-final n g e = go e.standing.state
  where
    go : (s : State) → About dead_of e.frame (final_in s n e)
    go tracked = tt
    go (tentative c) = about-if dead_of e.frame (leb c.block n) (leave (record { frame = e.frame; consumed = c } ∷ [])) (stay e.standing []) (refl, tt) tt
