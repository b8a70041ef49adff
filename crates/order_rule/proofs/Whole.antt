-- An ideal store in walk order is settled by its keys' parts (`whole`).
use mathlib.Core.Path.{◌≡◌, refl, sym, ap, ap₂, ◌∙◌, subst, fun_ext}
use mathlib.Core.Bool.{Bool, true, false, cond, false≢true}
use mathlib.Core.List.{List, [], ◌∷◌, nil≢cons, head-eq_of_cons-eq, tail-eq_of_cons-eq}
use Rattle.std.specs.Prelude.{None}
use Rattle.lists.specs.Bytes.{Bytes, eq_bytes, le_bytes}
use Rattle.lists.proofs.ByteOrder.{eq_bytes-of, le_bytes-refl, le_bytes-antisym}
use Rattle.store_rules.specs.Frames.{Entry}
use Rattle.order_rule.specs.Orders.{Key, sender, eq_key}
use Rattle.lists.specs.Lists.{keep}
use Rattle.lists.proofs.Keeping.{keep-yes, keep-no}
use Rattle.order_rule.proofs.Ideal.{Ideal, Guards}
use Rattle.store_rules.specs.Store.{Sorted}
use Rattle.order_rule.proofs.Part.{mine, mine-is, none_kept, eq_key-refl, part}
use Rattle.order_rule.proofs.Shard.{shard, only, ours}

-- the entries of one sender
abbrev By : Bytes → List Entry → List Entry
By a es = keep (mine (sender a)) es

-- a list in walk order begins at or below the address of each entry that it holds
begins : (f : Entry) (fs : List Entry) → Sorted (f ∷ fs) → (a : Bytes) {e : Entry} {l : List Entry} → By a (f ∷ fs) ≡ e ∷ l → le_bytes f.frame.from a ≡ true
begins f fs h a {e} {l} q = go (le_bytes f.frame.from a) refl
  where
    go : (b : Bool) → le_bytes f.frame.from a ≡ b → le_bytes f.frame.from a ≡ true
    go true p = p
    go false p = absurd (nil≢cons (sym (none_kept a f.frame.from p (f ∷ fs) (le_bytes-refl f.frame.from, h.0)) ∙ q))

-- the same address at the head: the tails too agree at every sender
tails : (e f : Entry) (es fs : List Entry) → e.frame.from ≡ f.frame.from → ((a : Bytes) → By a (e ∷ es) ≡ By a (f ∷ fs)) → (a : Bytes) → By a es ≡ By a fs
tails e f es fs q agree a = go (eq_bytes e.frame.from a) refl
  where
    go : (b : Bool) → eq_bytes e.frame.from a ≡ b → By a es ≡ By a fs
    go true p =
        tail-eq_of_cons-eq (sym (keep-yes (mine (sender a)) e es (mine-is a e p)) ∙ agree a
        ∙ keep-yes (mine (sender a)) f fs (mine-is a f (subst (λ (x : Bytes). eq_bytes x a ≡ true) q p)))
    go false p =
        sym (keep-no (mine (sender a)) e es (mine-is a e p)) ∙ agree a
        ∙ keep-no (mine (sender a)) f fs (mine-is a f (subst (λ (x : Bytes). eq_bytes x a ≡ false) q p))

kept-first : (e : Entry) (es : List Entry) (a : Bytes) → e.frame.from ≡ a → By a (e ∷ es) ≡ e ∷ By a es
kept-first e es a q = keep-yes (mine (sender a)) e es (mine-is a e (eq_bytes-of e.frame.from a q))

same_head : (e f : Entry) (es fs : List Entry) → Sorted (e ∷ es) → Sorted (f ∷ fs) → ((a : Bytes) → By a (e ∷ es) ≡ By a (f ∷ fs)) → e.frame.from ≡ f.frame.from
same_head e f es fs h k agree =
    le_bytes-antisym e.frame.from f.frame.from
    (begins e es h f.frame.from (agree f.frame.from ∙ kept-first f fs f.frame.from refl))
    (begins f fs k e.frame.from (sym (agree e.frame.from) ∙ kept-first e es e.frame.from refl))

sorted_ext : (es fs : List Entry) → Sorted es → Sorted fs → ((a : Bytes) → By a es ≡ By a fs) → es ≡ fs
unfolding keep
sorted_ext [] [] h k agree = refl
sorted_ext [] (f ∷ fs) h k agree = absurd (nil≢cons (agree f.frame.from ∙ kept-first f fs f.frame.from refl))
sorted_ext (e ∷ es) [] h k agree = absurd (nil≢cons (sym (agree e.frame.from) ∙ kept-first e es e.frame.from refl))
sorted_ext (e ∷ es) (f ∷ fs) h k agree =
    let q : e.frame.from ≡ f.frame.from = same_head e f es fs h k agree in
    ap₂ ◌∷◌ (head-eq_of_cons-eq (sym (kept-first e es e.frame.from refl) ∙ agree e.frame.from ∙ kept-first f fs e.frame.from (sym q)))
    (sorted_ext es fs h.1 k.1 (tails e f es fs q agree))

module _ (owner : Bytes → Key) where
  pub whole : (s t : Ideal) → Sorted s.entries → Sorted t.entries → ((k : Key) → part owner k s ≡ part owner k t) → s ≡ t
  unfolding shard only ours mine
  whole s t h k agree = ap₂ (λ (l : List Entry) (G : Guards). record { entries = l; guards = G })
      (sorted_ext s.entries t.entries h k (λ a. ap (λ (i : Ideal). i.entries) (agree (sender a))))
      (fun_ext (λ x. go x (eq_key (owner x) (owner x)) (eq_key-refl (owner x)) (ap (λ (i : Ideal). i.guards x) (agree (owner x)))))
    where
      go : (x : Bytes) (b : Bool) → b ≡ true → cond b (s.guards x) None ≡ cond b (t.guards x) None → s.guards x ≡ t.guards x
      go x true p e = e
      go x false p e = absurd (false≢true p)
