-- The part of an ideal store whose keys pass a test (`shard`): a call that concerns it does to it what it does to the whole, with
-- the same answer, of which a reorganisation and a finality list what is its own (`own-step`); no other call changes it
-- (`other_step`). So a shard of a run is the run of the shard's calls (`shard-run`, `shard-transcript`): the order rule and the
-- sharding rule stand on this.
use Prim.Native.Nat.{ℕ}
use mathlib.Core.Path.{◌≡◌, refl, sym, ap, ap₂, ◌∙◌, fun_ext}
use mathlib.Core.Bool.{Bool, true, false, ◌&&◌, cond, false≢true, true≢false}
use mathlib.Core.List.{List, [], ◌∷◌, ◌++◌}
use Rattle.std.specs.Prelude.{Option, None, Some}
use Rattle.lists.specs.Bytes.{Bytes, eq_bytes, le_bytes}
use Rattle.lists.specs.Lists.{keep, Each}
use Rattle.lists.proofs.ByteOrder.{eq_bytes-true, le_bytes-trans, clash}
use Rattle.lists.proofs.Keeping.{keep-yes, keep-no, keep-cong, keep-each, each_map}
use Rattle.lists.proofs.Elements.{each-kept}
use Rattle.store_rules.specs.Frames.{Frame, Consumed, Standing, Entry, Guard, Dead, Visit}
use Rattle.store_rules.specs.Poll.{stay, poll_rule}
use Rattle.store_rules.specs.Rules.{only_of, evict_rule, reorg_rule, final_rule}
use Rattle.store_rules.specs.Lookup.{enters, Found, whose_found, lookup, is_found, enter_with, enter_first}
use Rattle.store_rules.proofs.Lookups.{lookup-nil, enter-cons, enter-none, lookup-keep}
use Rattle.store_rules.specs.Store.{NotBefore, Sorted, Call, push, poll, guard, enter_tentative, evict_sender, check_reorg, check_finalized, Answer, total, rows, recorded, entered, frames, dead, refused, after, insert, fresh, input_refusal}
use Rattle.order_rule.specs.Orders.{Key, sender, key_by, concerns, shown}
use Rattle.order_rule.proofs.Ideal.{Ideal, Guards, without, with', drop_if, Trail, behind, trail, trailed, effectᵢ, unlessᵢ, stepᵢ, runᵢ, transcriptᵢ}
use Rattle.order_rule.proofs.Invariant.{OwnedFrame, Owned, OwnedCalls, Good, step-good}
use Rattle.order_rule.proofs.Listed.{About, AboutRule, about-only_of, lists-own, trail-lists, frame_of, row_of, dead_of, about-poll, about-evict, about-reorg, about-final}

-- what a call leaves, and what it answers but for a push's total
abbrev pub told : Ideal × Answer → Ideal × Answer
told r = (r.0, shown r.1)

-- ---- the shard of the keys that pass a test

module _ (owner : Bytes → Key) (p : Key → Bool) where
  unfoldable pub ours : Frame → Bool
  ours f = p (sender f.from)

  abbrev pub Held : List Entry → List Entry
  Held es = keep (λ e. ours e.frame) es

  unfoldable pub only : Guards → Guards
  only G = λ h. cond (p (owner h)) (G h) None

  unfoldable pub shard : Ideal → Ideal
  shard s = record { entries = Held s.entries; guards = only s.guards }

  -- ---- guards

  only-own : (G : Guards) (h : Bytes) → p (owner h) ≡ true → only G h ≡ G h
  unfolding only
  only-own G h e = rw e

  only-drop_if : (d : Bool) (h : Bytes) (G : Guards) → only (drop_if d h G) ≡ drop_if d h (only G)
  unfolding drop_if only without
  only-drop_if false h G = refl
  only-drop_if true h G = fun_ext (λ x. go (p (owner x)) (eq_bytes h x) (G x))
    where
      go : (b c : Bool) (v : Option Guard) → cond b (cond c None v) None ≡ cond c None (cond b v None)
      go true true v = refl
      go true false v = refl
      go false true v = refl
      go false false v = refl

  only-with : (g : Guard) (G : Guards) → p (owner g.hash) ≡ true → with' g (only G) ≡ only (with' g G)
  unfolding only with'
  only-with g G e = fun_ext (λ x. go x (eq_bytes g.hash x) refl)
    where
      go : (x : Bytes) (c : Bool) → eq_bytes g.hash x ≡ c → cond c (Some g) (only G x) ≡ cond (p (owner x)) (cond c (Some g) (G x)) None
      go x true q = rw (← eq_bytes-true g.hash x q, e)
      go x false q = refl

  other-drop_if : (d : Bool) (h : Bytes) (G : Guards) → p (owner h) ≡ false → only (drop_if d h G) ≡ only G
  unfolding drop_if only without
  other-drop_if false h G n = refl
  other-drop_if true h G n = fun_ext (λ x. go x (eq_bytes h x) refl)
    where
      go : (x : Bytes) (c : Bool) → eq_bytes h x ≡ c → cond (p (owner x)) (cond c None (G x)) None ≡ cond (p (owner x)) (G x) None
      go x true q = rw (← eq_bytes-true h x q, n)
      go x false q = refl

  other-with : (g : Guard) (G : Guards) → p (owner g.hash) ≡ false → only (with' g G) ≡ only G
  unfolding only with'
  other-with g G n = fun_ext (λ x. go x (eq_bytes g.hash x) refl)
    where
      go : (x : Bytes) (c : Bool) → eq_bytes g.hash x ≡ c → cond (p (owner x)) (cond c (Some g) (G x)) None ≡ cond (p (owner x)) (G x) None
      go x true q = rw (← eq_bytes-true g.hash x q, n)
      go x false q = refl

  -- a hash is ours as its frame is
  ours-hash : (f : Frame) (b : Bool) → OwnedFrame owner f → ours f ≡ b → p (owner f.hash) ≡ b
  unfolding ours
  ours-hash f b o q = ap p o ∙ q

  -- ---- a walk

  after-own : (o : Option Standing) (f : Frame) (es : List Entry) → ours f ≡ true → after o f (Held es) ≡ Held (after o f es)
  unfolding after
  after-own None f es h = refl
  after-own (Some s) f es h = sym (keep-yes (λ e. ours e.frame) (record { frame = f; standing = s }) es h)

  after-other : (o : Option Standing) (f : Frame) (es : List Entry) → ours f ≡ false → Held es ≡ Held (after o f es)
  unfolding after
  after-other None f es h = refl
  after-other (Some s) f es h = sym (keep-no (λ e. ours e.frame) (record { frame = f; standing = s }) es h)

  module _ {A : Type 0} (of : A → Frame) where
    abbrev pub Listed : List A → List A
    Listed l = keep (λ x. ours (of x)) l

    listed-own : (f : Frame) → ours f ≡ true → (l m : List A) → Each (λ x. of x ≡ f) l → l ++ Listed m ≡ Listed (l ++ m)
    listed-own f h [] m q = refl
    listed-own f h (x ∷ l) m q = ap (λ (r : List A). x ∷ r) (listed-own f h l m q.1) ∙ sym (keep-yes (λ y. ours (of y)) x (l ++ m) (ap ours q.0 ∙ h))

    listed-other : (f : Frame) → ours f ≡ false → (l m : List A) → Each (λ x. of x ≡ f) l → Listed m ≡ Listed (l ++ m)
    listed-other f h [] m q = refl
    listed-other f h (x ∷ l) m q = listed-other f h l m q.1 ∙ sym (keep-no (λ y. ours (of y)) x (l ++ m) (ap ours q.0 ∙ h))

    unfoldable shrink : Trail A → Trail A
    shrink w = record { entries = Held w.entries; guards = only w.guards; listed = Listed w.listed }

    behind-own : (v : Visit A) (f : Frame) (w : Trail A) → ours f ≡ true → About of f v → behind v f (shrink w) ≡ shrink (behind v f w)
    unfolding behind shrink
    behind-own v f w h q = ap₂ (λ (es : List Entry) (l : List A). record { entries = es; guards = only w.guards; listed = l })
        (after-own v.stays f w.entries h) (listed-own f h v.lists w.listed q)

    behind-other : (v : Visit A) (f : Frame) (w : Trail A) → ours f ≡ false → About of f v → shrink w ≡ shrink (behind v f w)
    unfolding behind shrink
    behind-other v f w h q = ap₂ (λ (es : List Entry) (l : List A). record { entries = es; guards = only w.guards; listed = l })
        (after-other v.stays f w.entries h) (listed-other f h v.lists w.listed q)

    -- a walk of the shard is the shard of the walk, of which it lists what is its own
    trail-shard : (rule : Option Guard → Entry → Visit A) → AboutRule of rule → (es : List Entry) (G : Guards) → Owned owner es →
        trail rule (Held es) (only G) ≡ shrink (trail rule es G)
    unfolding trail keep shrink
    trail-shard rule about [] G o = refl
    trail-shard rule about (e ∷ es) G o = go (ours e.frame) refl (λ G'. trail-shard rule about es G' o.1)
      where
        h : Bytes
        h = e.frame.hash

        v : Visit A
        v = rule (G h) e

        go : (b : Bool) → ours e.frame ≡ b → ((G' : Guards) → trail rule (Held es) (only G') ≡ shrink (trail rule es G')) →
            trail rule (cond b (e ∷ Held es) (Held es)) (only G) ≡ shrink (behind v e.frame (trail rule es (drop_if v.drops h G)))
        go true q ih =
            ap (λ (g : Option Guard). behind (rule g e) e.frame (trail rule (Held es) (drop_if (rule g e).drops h (only G)))) (only-own G h (ours-hash e.frame true o.0 q))
            ∙ ap (λ (G' : Guards). behind v e.frame (trail rule (Held es) G')) (sym (only-drop_if v.drops h G))
            ∙ ap (behind v e.frame) (ih (drop_if v.drops h G))
            ∙ behind-own v e.frame (trail rule es (drop_if v.drops h G)) q (about (G h) e)
        go false q ih =
            ap (trail rule (Held es)) (sym (other-drop_if v.drops h G (ours-hash e.frame false o.0 q)))
            ∙ ih (drop_if v.drops h G)
            ∙ behind-other v e.frame (trail rule es (drop_if v.drops h G)) q (about (G h) e)

    -- a sender's walk where it has no entry
    trail-idle : (a : Bytes) (rule : Option Guard → Entry → Visit A) (es : List Entry) (G : Guards) → Each (λ e. eq_bytes e.frame.from a ≡ false) es →
        trail (only_of a rule) es G ≡ record { entries = es; guards = G; listed = [] }
    unfolding trail only_of stay drop_if behind after
    trail-idle a rule [] G n = refl
    trail-idle a rule (e ∷ es) G n = rw (n.0, trail-idle a rule es G n.1)

  -- ---- push

  insert-front : (e : Entry) (es : List Entry) → Each (λ f. le_bytes f.frame.from e.frame.from ≡ false) es → insert e es ≡ e ∷ es
  unfolding insert
  insert-front e [] h = refl
  insert-front e (f ∷ fs) h = rw h.0

  insert-own : (e : Entry) → ours e.frame ≡ true → (es : List Entry) → Sorted es → insert e (Held es) ≡ Held (insert e es)
  unfolding insert keep
  insert-own e y [] h = rw y
  insert-own e y (f ∷ fs) h = go (ours f.frame) refl (le_bytes f.frame.from e.frame.from) refl (insert-own e y fs h.1)
    where
      above : le_bytes f.frame.from e.frame.from ≡ false → (x : Entry) → NotBefore f.frame.from x → le_bytes x.frame.from e.frame.from ≡ false
      above n x l = pick (le_bytes x.frame.from e.frame.from) refl
        where
          pick : (b : Bool) → le_bytes x.frame.from e.frame.from ≡ b → b ≡ false
          pick true q = clash (le_bytes-trans f.frame.from x.frame.from e.frame.from l q) n
          pick false q = refl

      go : (m : Bool) → ours f.frame ≡ m → (l : Bool) → le_bytes f.frame.from e.frame.from ≡ l → insert e (Held fs) ≡ Held (insert e fs) →
          insert e (cond m (f ∷ Held fs) (Held fs)) ≡ Held (cond l (f ∷ insert e fs) (e ∷ f ∷ fs))
      go true q true r ih = rw (q, r) (ap (λ (l : List Entry). f ∷ l) ih)
      go true q false r ih = rw (q, r, y)
      go false q true r ih = rw q ih
      go false q false r ih = rw (q, y)
          (insert-front e (Held fs)
          (each-kept (λ x. ours x.frame) (NotBefore f.frame.from) (λ x. le_bytes x.frame.from e.frame.from ≡ false) (λ x o. above r x) fs h.0))

  insert-other : (e : Entry) → ours e.frame ≡ false → (es : List Entry) → Held (insert e es) ≡ Held es
  unfolding insert keep
  insert-other e n [] = rw n
  insert-other e n (f ∷ fs) = go (le_bytes f.frame.from e.frame.from) (insert-other e n fs)
    where
      go : (l : Bool) → Held (insert e fs) ≡ Held fs → Held (cond l (f ∷ insert e fs) (e ∷ f ∷ fs)) ≡ Held (f ∷ fs)
      go true ih = keep-cong (λ x. ours x.frame) f (insert e fs) fs ih
      go false ih = keep-no (λ x. ours x.frame) e (f ∷ fs) n

  -- ---- enter

  enters-ours : (h : Bytes) (e : Entry) → OwnedFrame owner e.frame → enters h e ≡ true → ours e.frame ≡ p (owner h)
  unfolding enters ours
  enters-ours h e o t = go (eq_bytes e.frame.hash h) refl _ t
    where
      go : (b : Bool) → eq_bytes e.frame.hash h ≡ b → (c : Bool) → (b && c) ≡ true → p (sender e.frame.from) ≡ p (owner h)
      go true q c r = ap p (sym o ∙ ap owner (eq_bytes-true e.frame.hash h q))
      go false q c r = absurd (false≢true r)

  -- the shard has the same first entry, and it is whose it was
  lookup-own : (h : Bytes) → p (owner h) ≡ true → (es : List Entry) → Owned owner es → lookup (enters h) (Held es) ≡ lookup (enters h) es
  unfolding ours
  lookup-own h w es o = lookup-keep (enters h) (λ a. p (sender a)) es (each_map _ _ es (λ e q t. enters-ours h e q t ∙ w) o)

  enter-own : (h : Bytes) (c : Consumed) → p (owner h) ≡ true → (es : List Entry) → Owned owner es → enter_first h c (Held es) ≡ Held (enter_first h c es)
  unfolding keep enter_with
  enter-own h c w [] o = rw (enter-none h c [] (lookup-nil (enters h)))
  enter-own h c w (e ∷ es) o = rw (enter-cons h c e es) (go (ours e.frame) refl (enters h e) refl (enter-own h c w es o.1))
    where
      go : (m : Bool) → ours e.frame ≡ m → (t : Bool) → enters h e ≡ t → enter_first h c (Held es) ≡ Held (enter_first h c es) →
          enter_first h c (cond m (e ∷ Held es) (Held es)) ≡ Held (cond t (enter_with c e ∷ es) (e ∷ enter_first h c es))
      go true q true r ih = rw (enter-cons h c e (Held es), q, r)
      go true q false r ih = rw (enter-cons h c e (Held es), q, r) (ap (λ (l : List Entry). e ∷ l) ih)
      go false q true r ih = clash (enters-ours h e o.0 r ∙ w) q
      go false q false r ih = rw q ih

  enter-other : (h : Bytes) (c : Consumed) → p (owner h) ≡ false → (es : List Entry) → Owned owner es → Held (enter_first h c es) ≡ Held es
  unfolding keep enter_with
  enter-other h c n [] o = rw (enter-none h c [] (lookup-nil (enters h)))
  enter-other h c n (e ∷ es) o = rw (enter-cons h c e es) (go (enters h e) refl (enter-other h c n es o.1))
    where
      go : (t : Bool) → enters h e ≡ t → Held (enter_first h c es) ≡ Held es → Held (cond t (enter_with c e ∷ es) (e ∷ enter_first h c es)) ≡ Held (e ∷ es)
      go true q ih = rw (enters-ours h e o.0 q ∙ n)
      go false q ih = keep-cong (λ x. ours x.frame) e (enter_first h c es) es ih

  -- ---- one call

  -- what is ours of an answer that lists frames of all senders
  unfoldable pub our_list : Answer → Answer
  our_list (total n) = total n
  our_list (rows l) = rows l
  our_list recorded = recorded
  our_list (entered w) = entered w
  our_list (frames l) = frames (Listed frame_of l)
  our_list (dead l) = dead (Listed dead_of l)
  our_list (refused n) = refused n

  -- of a sender's call all, of a reorganisation and a finality what is ours
  unfoldable pub our_answer : Option Key → Answer → Answer
  our_answer None a = our_list a
  our_answer (Some k) a = a

  -- the shard's, of what a call leaves and answers
  abbrev pub told_of_us : Option Key → Ideal × Answer → Ideal × Answer
  told_of_us k r = (shard r.0, our_answer k (shown r.1))

  abbrev OwnEffect : Ideal → Call → Type 0
  OwnEffect s c = told (effectᵢ (shard s) c) ≡ told_of_us (key_by owner c) (effectᵢ s c)

  abbrev OtherEffect : Ideal → Call → Type 0
  OtherEffect s c = shard (effectᵢ s c).0 ≡ shard s

  module _ {A : Type 0} (of : A → Frame) (s : Ideal) (h : Good owner s) (a : Bytes) (rule : Option Guard → Entry → Visit A) (about : AboutRule of rule) (answer : List A → Answer) where
    done : Ideal → Ideal × Answer
    done t = trailed (trail (only_of a rule) t.entries t.guards) answer

    cut_down : trail (only_of a rule) (Held s.entries) (only s.guards) ≡ shrink of (trail (only_of a rule) s.entries s.guards)
    cut_down = trail-shard of (only_of a rule) (about-only_of of a rule about) s.entries s.guards h.owned

    trailed-own : p (sender a) ≡ true → told (done (shard s)) ≡ told_of_us (Some (sender a)) (done s)
    unfolding done shard trailed shrink ours our_answer
    trailed-own y =
        ap (λ (w : Trail A). ((trailed w answer).0, shown (trailed w answer).1)) cut_down
        ∙ ap (λ (l : List A). (shard (done s).0, shown (answer l)))
        (keep-each (λ x. ours (of x)) (trail (only_of a rule) s.entries s.guards).listed
        (trail-lists of (λ x. ours (of x) ≡ true) (only_of a rule)
        (λ g e. each_map (λ x. (of x).from ≡ a) (λ x. ours (of x) ≡ true) (only_of a rule g e).lists (λ x q. ap (λ (b : Bytes). p (sender b)) q ∙ y) (lists-own of a rule about g e))
        s.entries s.guards))

    trailed-other : p (sender a) ≡ false → shard (done s).0 ≡ shard s
    unfolding done shard trailed shrink ours
    trailed-other n =
        ap (λ (w : Trail A). (trailed w answer).0)
        (sym cut_down ∙ trail-idle of a rule (Held s.entries) (only s.guards)
        (each-kept (λ e. ours e.frame) _ (λ e. eq_bytes e.frame.from a ≡ false) (λ e y o. pick e y (eq_bytes e.frame.from a) refl) s.entries h.owned))
      where
        pick : (e : Entry) → p (sender e.frame.from) ≡ true → (b : Bool) → eq_bytes e.frame.from a ≡ b → b ≡ false
        pick e y true q = clash y (ap (λ (b : Bytes). p (sender b)) (eq_bytes-true e.frame.from a q) ∙ n)
        pick e y false q = refl

  own-effect : (s : Ideal) → Good owner s → (c : Call) → concerns p (key_by owner c) ≡ true → OwnEffect s c
  unfolding concerns key_by effectᵢ shard shown our_answer our_list done fresh trailed shrink ours
  own-effect s h (push f) y =
      ap (λ (l : List Entry). (record { entries = l; guards = only s.guards }, total 0)) (insert-own (fresh f) y s.entries h.sorted)
  own-effect s h (poll a head known content) y = trailed-own row_of s h a (poll_rule head known content) (about-poll head known content) rows y
  own-effect s h (guard g) y = ap (λ (G : Guards). (record { entries = Held s.entries; guards = G }, recorded)) (only-with g s.guards y)
  own-effect s h (enter_tentative x c) y =
      ap₂ (λ (l : List Entry) (o : Option Found). (record { entries = l; guards = drop_if (is_found o) x (only s.guards) }, entered (whose_found o)))
      (enter-own x c y s.entries h.owned) (lookup-own x y s.entries h.owned)
      ∙ ap (λ (G : Guards). (record { entries = Held (enter_first x c s.entries); guards = G }, entered (whose_found (lookup (enters x) s.entries))))
      (sym (only-drop_if (is_found (lookup (enters x) s.entries)) x s.guards))
  own-effect s h (evict_sender a) y = trailed-own frame_of s h a evict_rule about-evict frames y
  own-effect s h (check_reorg b canonical) y =
      ap (λ (w : Trail Frame). ((trailed w frames).0, frames w.listed)) (trail-shard frame_of (reorg_rule b canonical) (about-reorg b canonical) s.entries s.guards h.owned)
  own-effect s h (check_finalized n) y =
      ap (λ (w : Trail Dead). ((trailed w dead).0, dead w.listed)) (trail-shard dead_of (final_rule n) (about-final n) s.entries s.guards h.owned)

  other-effect : (s : Ideal) → Good owner s → (c : Call) → concerns p (key_by owner c) ≡ false → OtherEffect s c
  unfolding concerns key_by effectᵢ shard done fresh ours
  other-effect s h (push f) n = ap (λ (l : List Entry). record { entries = l; guards = only s.guards }) (insert-other (fresh f) n s.entries)
  other-effect s h (poll a head known content) n = trailed-other row_of s h a (poll_rule head known content) (about-poll head known content) rows n
  other-effect s h (guard g) n = ap (λ (G : Guards). record { entries = Held s.entries; guards = G }) (other-with g s.guards n)
  other-effect s h (enter_tentative x c) n =
      ap₂ (λ (l : List Entry) (G : Guards). record { entries = l; guards = G }) (enter-other x c n s.entries h.owned)
      (other-drop_if (is_found (lookup (enters x) s.entries)) x s.guards n)
  other-effect s h (evict_sender a) n = trailed-other frame_of s h a evict_rule about-evict frames n
  other-effect s h (check_reorg b canonical) n = absurd (true≢false n)
  other-effect s h (check_finalized m) n = absurd (true≢false n)

  -- a call that concerns the shard
  pub own-step : (s : Ideal) → Good owner s → (c : Call) → concerns p (key_by owner c) ≡ true →
      told (stepᵢ (shard s) c) ≡ told_of_us (key_by owner c) (stepᵢ s c)
  unfolding stepᵢ unlessᵢ our_answer our_list shown
  own-step s h c y = go (input_refusal c)
    where
      refusal-ours : (o : Option Key) (n : ℕ) → refused n ≡ our_answer o (refused n)
      refusal-ours None n = refl
      refusal-ours (Some k) n = refl

      go : (i : Option ℕ) → told (unlessᵢ i (shard s) (effectᵢ (shard s) c)) ≡ told_of_us (key_by owner c) (unlessᵢ i s (effectᵢ s c))
      go (Some n) = ap (λ (a : Answer). (shard s, a)) (refusal-ours (key_by owner c) n)
      go None = own-effect s h c y

  -- a call that does not
  pub other_step : (s : Ideal) → Good owner s → (c : Call) → concerns p (key_by owner c) ≡ false → shard (stepᵢ s c).0 ≡ shard s
  unfolding stepᵢ unlessᵢ
  other_step s h c n = go (input_refusal c)
    where
      go : (i : Option ℕ) → shard (unlessᵢ i s (effectᵢ s c)).0 ≡ shard s
      go (Some m) = refl
      go None = other-effect s h c n

  -- ---- a list of calls

  abbrev pub OurCalls : List Call → List Call
  OurCalls cs = keep (λ c. concerns p (key_by owner c)) cs

  -- what a run tells of the calls that concern the shard, of which the others' frames are left out
  unfoldable pub our_lines : List (Call × Answer) → List (Call × Answer)
  our_lines [] = []
  our_lines (t ∷ ts) = cond (concerns p (key_by owner t.0)) ((t.0, our_answer (key_by owner t.0) t.1) ∷ our_lines ts) (our_lines ts)

  pub shard-run : (s : Ideal) → Good owner s → (cs : List Call) → OwnedCalls owner cs → runᵢ (shard s) (OurCalls cs) ≡ shard (runᵢ s cs)
  unfolding runᵢ keep
  shard-run s h [] o = refl
  shard-run s h (c ∷ cs) o = go (concerns p (key_by owner c)) refl ∙ shard-run (stepᵢ s c).0 (step-good owner s c o.0 h) cs o.1
    where
      go : (b : Bool) → concerns p (key_by owner c) ≡ b → runᵢ (shard s) (cond b (c ∷ OurCalls cs) (OurCalls cs)) ≡ runᵢ (shard (stepᵢ s c).0) (OurCalls cs)
      go true y = ap (λ (r : Ideal × Answer). runᵢ r.0 (OurCalls cs)) (own-step s h c y)
      go false n = ap (λ (t : Ideal). runᵢ t (OurCalls cs)) (sym (other_step s h c n))

  pub shard-transcript : (s : Ideal) → Good owner s → (cs : List Call) → OwnedCalls owner cs → transcriptᵢ (shard s) (OurCalls cs) ≡ our_lines (transcriptᵢ s cs)
  unfolding transcriptᵢ keep our_lines
  shard-transcript s h [] o = refl
  shard-transcript s h (c ∷ cs) o =
      go (concerns p (key_by owner c)) refl
      ∙ ap (λ (l : List (Call × Answer)). cond (concerns p (key_by owner c)) (mine ∷ l) l) (shard-transcript (stepᵢ s c).0 (step-good owner s c o.0 h) cs o.1)
    where
      mine : Call × Answer
      mine = (c, our_answer (key_by owner c) (shown (stepᵢ s c).1))

      rest : List (Call × Answer)
      rest = transcriptᵢ (shard (stepᵢ s c).0) (OurCalls cs)

      go : (b : Bool) → concerns p (key_by owner c) ≡ b → transcriptᵢ (shard s) (cond b (c ∷ OurCalls cs) (OurCalls cs)) ≡ cond b (mine ∷ rest) rest
      go true y = ap (λ (r : Ideal × Answer). (c, r.1) ∷ transcriptᵢ r.0 (OurCalls cs)) (own-step s h c y)
      go false n = ap (λ (t : Ideal). transcriptᵢ t (OurCalls cs)) (sym (other_step s h c n))
