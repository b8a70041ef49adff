-- A sweep of those senders of another that pass a test (`sweep_of`): if the whole is not refused for its inputs, neither is the part; its
-- polls are the senders' polls of the whole, and their entries are no more.
use Prim.Native.Nat.{ℕ, ◌≤◌}
use native.Mathlib.Omega.{arith}
use mathlib.Core.Path.{◌≡◌, refl, ap, ◌∙◌}
use mathlib.Core.Bool.{Bool, true, false, cond}
use mathlib.Core.List.{List, [], ◌∷◌, ◌++◌}
use Rattle.std.specs.Prelude.{None}
use lib.ListN.{length, take, drop, length-append, length-drop}
use lib.Seq.{length-take-le, take-append_seam, drop-append_seam}
use Rattle.lists.specs.Bytes.{Bytes}
use Rattle.lists.specs.Lists.{keep, sum, chunks}
use Rattle.store_rules.specs.Frames.{Entry}
use Rattle.store_rules.specs.Lookup.{entries_of}
use Rattle.store_rules.specs.Store.{Call, poll}
use Rattle.store_rules.specs.Sweeps.{Sweep, polls_from, polls_of, listed_entries}
use Rattle.store_laws.specs.Refusals.{SoundInputs}
use Rattle.sharding_rule.specs.Splitting.{with_sender, sweep_of}

take-front : (xs ys : List ℕ) (n : ℕ) → length xs ≡ n → take n (xs ++ ys) ≡ xs
take-front xs ys n e = rw (← e) (take-append_seam xs ys)

drop-front : (xs ys : List ℕ) (n : ℕ) → length xs ≡ n → drop n (xs ++ ys) ≡ ys
drop-front xs ys n e = rw (← e) (drop-append_seam xs ys)

module _ (p : Bytes → Bool) (passes : Call → Bool) (by-sender : (a : Bytes) (head : ℕ) (known : List ℕ) → passes (poll a head known None) ≡ p a)
    (ours all : List Entry) (own : (a : Bytes) → p a ≡ true → entries_of a ours ≡ entries_of a all) (numbers : ℕ) where
  abbrev Whole : Bytes → List ℕ → List ℕ → List ℕ → Sweep
  Whole senders heads counts nonces = record { senders = senders; heads = heads; counts = counts; nonces = nonces; numbers = numbers }

  pub record Part (senders : Bytes) (heads counts nonces : List ℕ) (v : Sweep) : Type 0 where
    pub polls : polls_of v ≡ keep passes (polls_from senders heads counts nonces)
    pub sound : SoundInputs v
    pub fewer : length v.heads ≤ length heads
    pub lends : v.numbers ≡ numbers
    pub lists : listed_entries v.senders (length v.heads) ours ≤ listed_entries senders (length heads) all

  no_part : (senders : Bytes) (heads counts nonces : List ℕ) → polls_from senders heads counts nonces ≡ [] →
      Part senders heads counts nonces (record { senders = []; heads = []; counts = []; nonces = []; numbers = numbers })
  unfolding polls_from keep sum listed_entries chunks
  no_part senders heads counts nonces e = record {
    polls = rw e;
    sound = record { senders = omega arith; bytes = refl; counts = refl; nonces = refl; few = tt };
    fewer = omega arith;
    lends = refl;
    lists = omega arith;
  }

  -- one sender more
  module _ (senders : Bytes) (h : ℕ) (hs : List ℕ) (c : ℕ) (cs nonces : List ℕ) (f : SoundInputs (Whole senders (h ∷ hs) (c ∷ cs) nonces)) where
    abbrev A : Bytes
    A = take 20 senders

    abbrev Known : List ℕ
    Known = take c nonces

    abbrev Rest : Sweep → Type 0
    Rest v = Part (drop 20 senders) hs cs (drop c nonces) v

    address : length A ≡ 20
    address = length-take-le 20 senders (omega (arith, f.bytes))

    known : length Known ≡ c
    unfolding sum
    known = length-take-le c nonces (omega (arith, f.nonces))

    rest-sound : SoundInputs (Whole (drop 20 senders) hs cs (drop c nonces))
    unfolding sum
    rest-sound = record {
      senders = omega (arith, f.senders);
      bytes = omega (arith, length-drop 20 senders, f.bytes);
      counts = omega (arith, f.counts);
      nonces = omega (arith, length-drop c nonces, f.nonces);
      few = f.few.1;
    }

    other : (v : Sweep) → p A ≡ false → Rest v → Part senders (h ∷ hs) (c ∷ cs) nonces v
    unfolding polls_from keep listed_entries chunks sum
    other v n r = record {
      polls = rw (by-sender A h Known ∙ n) r.polls;
      sound = r.sound;
      fewer = omega (arith, r.fewer);
      lends = r.lends;
      lists = omega (arith, r.lists);
    }

    ours-too : (v : Sweep) → p A ≡ true → Rest v → Part senders (h ∷ hs) (c ∷ cs) nonces (with_sender A h c Known v)
    unfolding polls_from keep listed_entries chunks sum with_sender
    ours-too v y r = record {
      polls = rw (
        by-sender A h Known ∙ y,
        take-front A v.senders 20 address,
        drop-front A v.senders 20 address,
        take-front Known v.nonces c known,
        drop-front Known v.nonces c known,
      ) (ap (λ (l : List Call). poll A h Known None ∷ l) r.polls);
      sound = record {
        senders = omega (arith, r.fewer, f.senders);
        bytes = omega (arith, length-append A v.senders, address, r.sound.bytes);
        counts = omega (arith, r.sound.counts);
        nonces = omega (arith, length-append Known v.nonces, known, r.sound.nonces);
        few = (f.few.0, r.sound.few);
      };
      fewer = omega (arith, r.fewer);
      lends = r.lends;
      lists = rw (take-front A v.senders 20 address, drop-front A v.senders 20 address, own A y) (omega (arith, r.lists));
    }

  pub part : (senders : Bytes) (heads counts nonces : List ℕ) → SoundInputs (Whole senders heads counts nonces) → Part senders heads counts nonces (sweep_of p senders heads counts nonces numbers)
  unfolding sweep_of polls_from
  part senders [] counts nonces f = no_part senders [] counts nonces refl
  part senders (h ∷ hs) [] nonces f = no_part senders (h ∷ hs) [] nonces refl
  part senders (h ∷ hs) (c ∷ cs) nonces f =
      go (p (take 20 senders)) refl (sweep_of p (drop 20 senders) hs cs (drop c nonces) numbers)
      (part (drop 20 senders) hs cs (drop c nonces) (rest-sound senders h hs c cs nonces f))
    where
      go : (b : Bool) → p (take 20 senders) ≡ b → (v : Sweep) → Part (drop 20 senders) hs cs (drop c nonces) v →
          Part senders (h ∷ hs) (c ∷ cs) nonces (cond b (with_sender (take 20 senders) h c (take c nonces) v) v)
      go true y v r = ours-too senders h hs c cs nonces f v y r
      go false n v r = other senders h hs c cs nonces f v n r
