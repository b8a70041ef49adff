-- What a poll makes of one entry, case by case, each with what leads to it: document 01's rules 1 to 7.
use Prim.Native.Nat.{ℕ}
use mathlib.Core.Path.{◌≡◌, refl, sym, ap}
use mathlib.Core.Bool.{Bool, true, false, not, cond}
use mathlib.Core.List.{List, []}
use Rattle.std.specs.Prelude.{Some}
use lib.Dec.{ltb}
use Rattle.lists.specs.Lists.{is_empty}
use Rattle.store_rules.specs.Frames.{State, tracked, tentative, is_tracked, Entry, degraded, rescue, nonce_consumed, still_waiting, Row, Visit}
use Rattle.store_rules.specs.Poll.{predecessors, unknown, stay, leave, row, held_at, poll_degraded, poll_full, poll_in, poll_given}

pub data PollCase (head : ℕ) (known : List ℕ) (guarded : Bool) (e : Entry) : Visit Row → Type 0 where
  -- rule 1
  silent : is_tracked e.standing.state ≡ false → PollCase head known guarded e (stay e.standing [])
  -- rules 2 and 3
  consumed : is_tracked e.standing.state ≡ true → ltb e.frame.claim head ≡ true →
      PollCase head known guarded e (stay e.standing (row e.frame nonce_consumed []))
  -- rule 2
  holds : is_tracked e.standing.state ≡ true → ltb e.frame.claim head ≡ false → degraded e.frame ≡ true → held_at e.standing.held head ≡ true →
      PollCase head known guarded e (stay e.standing [])
  hold : is_tracked e.standing.state ≡ true → ltb e.frame.claim head ≡ false → degraded e.frame ≡ true → held_at e.standing.held head ≡ false →
      PollCase head known guarded e
      (stay (record { state = e.standing.state; held = Some head }) (row e.frame still_waiting (unknown head known e.frame)))
  -- rule 5
  waits : is_tracked e.standing.state ≡ true → ltb e.frame.claim head ≡ false → degraded e.frame ≡ false → is_empty (unknown head known e.frame) ≡ false →
      PollCase head known guarded e (stay e.standing (row e.frame still_waiting (unknown head known e.frame)))
  -- rule 6
  held_back : is_tracked e.standing.state ≡ true → ltb e.frame.claim head ≡ false → degraded e.frame ≡ false → is_empty (unknown head known e.frame) ≡ true →
      guarded ≡ true → PollCase head known guarded e (stay e.standing (row e.frame still_waiting (predecessors head e.frame)))
  -- rule 7
  rescued : is_tracked e.standing.state ≡ true → ltb e.frame.claim head ≡ false → degraded e.frame ≡ false → is_empty (unknown head known e.frame) ≡ true →
      guarded ≡ false → PollCase head known guarded e (leave (row e.frame rescue (predecessors head e.frame)))

pub poll-case : (head : ℕ) (known : List ℕ) (guarded : Bool) (e : Entry) → PollCase head known guarded e (poll_given head known guarded e)
unfolding poll_given poll_in poll_degraded poll_full is_tracked
poll-case head known guarded e = in-state e.standing.state refl
  where
    in-state : (s : State) → e.standing.state ≡ s → PollCase head known guarded e (poll_in s head known guarded e)
    in-state (tentative c) t = silent (ap is_tracked t)
    in-state tracked t =
        go (degraded e.frame) refl (ltb e.frame.claim head) refl (held_at e.standing.held head) refl (is_empty (unknown head known e.frame)) refl guarded refl
      where
        go : (d : Bool) → degraded e.frame ≡ d → (p : Bool) → ltb e.frame.claim head ≡ p → (h : Bool) → held_at e.standing.held head ≡ h →
            (u : Bool) → is_empty (unknown head known e.frame) ≡ u → (g : Bool) → guarded ≡ g →
            PollCase head known guarded e
            (cond d
            (cond p (stay e.standing (row e.frame nonce_consumed []))
            (cond h (stay e.standing [])
            (stay (record { state = e.standing.state; held = Some head }) (row e.frame still_waiting (unknown head known e.frame)))))
            (cond p (stay e.standing (row e.frame nonce_consumed []))
            (cond (not u) (stay e.standing (row e.frame still_waiting (unknown head known e.frame)))
            (cond g (stay e.standing (row e.frame still_waiting (predecessors head e.frame)))
            (leave (row e.frame rescue (predecessors head e.frame)))))))
        go d x true y h z u v g w = both d
          where
            both : (d : Bool) → PollCase head known guarded e
                (cond d (stay e.standing (row e.frame nonce_consumed [])) (stay e.standing (row e.frame nonce_consumed [])))
            both true = consumed (ap is_tracked t) y
            both false = consumed (ap is_tracked t) y
        go true x false y true z u v g w = holds (ap is_tracked t) y x z
        go true x false y false z u v g w = hold (ap is_tracked t) y x z
        go false x false y h z false v g w = waits (ap is_tracked t) y x v
        go false x false y h z true v true w = held_back (ap is_tracked t) y x v w
        go false x false y h z true v false w = rescued (ap is_tracked t) y x v w

is-tracked : (s : State) → is_tracked s ≡ true → s ≡ tracked
unfolding is_tracked
is-tracked tracked h = refl
is-tracked (tentative c) h = cc

not-tracked : (s : State) → is_tracked s ≡ false → (head : ℕ) (known : List ℕ) (guarded : Bool) (e : Entry) → poll_in s head known guarded e ≡ stay e.standing []
unfolding is_tracked poll_in
not-tracked tracked h head known guarded e = cc
not-tracked (tentative c) h head known guarded e = refl

-- the visit of a case is what the poll makes of the entry
pub poll-is : (head : ℕ) (known : List ℕ) (guarded : Bool) (e : Entry) {v : Visit Row} → PollCase head known guarded e v → v ≡ poll_given head known guarded e
unfolding poll_given poll_in poll_degraded poll_full
poll-is head known guarded e (silent t) = sym (not-tracked e.standing.state t head known guarded e)
poll-is head known guarded e (consumed t y) = rw (is-tracked e.standing.state t, y) (either (degraded e.frame) _)
  where
    either : {A : Type 0} (b : Bool) (x : A) → x ≡ cond b x x
    either true x = refl
    either false x = refl
poll-is head known guarded e (holds t y x z) = rw (is-tracked e.standing.state t, x, y, z)
poll-is head known guarded e (hold t y x z) = rw (is-tracked e.standing.state t, x, y, z)
poll-is head known guarded e (waits t y x v) = rw (is-tracked e.standing.state t, x, y, v)
poll-is head known guarded e (held_back t y x v w) = rw (is-tracked e.standing.state t, x, y, v, w)
poll-is head known guarded e (rescued t y x v w) = rw (is-tracked e.standing.state t, x, y, v, w)
