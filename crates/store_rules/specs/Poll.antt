-- What a poll does to one entry: document 01's rules 1 to 7, and the guard's match.
use Rattle.std.specs.Prelude.{ℕ, ◌-◌, min, Bool, true, false, ◌&&◌, not, cond, List, [], ◌∷◌, eqb, leb, ltb, take, drop}
use Rattle.std.specs.Prelude.{Option, None, Some}
use Rattle.lists.specs.Bytes.{Bytes, eq_bytes, eq_numbers}
use Rattle.lists.specs.Lists.{keep, is_empty, is_in, numbers_from}
use Rattle.store_rules.specs.Frames.{Frame, State, tracked, tentative, Standing, Entry, degraded, GuardKind, reparked, unhydratable, Guard, Decision, rescue, nonce_consumed, still_waiting, Row, Visit}

-- ---- rule 4: the gap, the predecessors, the unknown

-- Every n with expected <= n < claim. No push lets in a gap over 16; of a wider one these are the first 16.
unfoldable pub gap : Frame → List ℕ
gap f = numbers_from f.expected (min 16 (f.claim - f.expected))

-- gap nonces >= head
unfoldable pub predecessors : ℕ → Frame → List ℕ
predecessors head f = keep (λ n. leb head n) (gap f)

-- predecessors that aren't in the known list
unfoldable pub unknown : ℕ → List ℕ → Frame → List ℕ
unknown head known f = keep (λ n. not (is_in n known)) (predecessors head f)

-- ---- the guard's match

-- the content given to a poll: pairs of a nonce and a hash, the hashes one after another
pub record Content : Type 0 where
  pub nonces : List ℕ
  pub hashes : Bytes

-- the first current pair with this nonce exists and has this hash
unfoldable pub first_is : ℕ → Bytes → List ℕ → Bytes → Bool
first_is n h [] hashes = false
first_is n h (m ∷ ms) hashes = cond (eqb m n) (eq_bytes (take 32 hashes) h) (first_is n h ms (drop 32 hashes))

-- predecessors are paired with the guard's hashes as far as both go, and each pair is found so
unfoldable pub contents_hold : List ℕ → Bytes → Content → Bool
contents_hold [] hashes c = true
contents_hold (n ∷ ns) [] c = true
contents_hold (n ∷ ns) (b ∷ bs) c = first_is n (take 32 (b ∷ bs)) c.nonces c.hashes && contents_hold ns (drop 32 (b ∷ bs)) c

-- content never matches if none came, or if either is empty
unfoldable pub content_matches : Bytes → List ℕ → Option Content → Bool
content_matches guarded preds None = false
content_matches guarded preds (Some c) = not (is_empty guarded) && not (is_empty c.nonces) && contents_hold preds guarded c

-- for Reparked only, the boundary equals expected
unfoldable pub boundary_holds : GuardKind → ℕ → Bool
boundary_holds (reparked boundary) expected = eqb boundary expected
boundary_holds unhydratable expected = true

-- the guard of the frame's hash, if there is one, matches these predecessors, this boundary and this content
unfoldable pub guard_matches : Option Guard → List ℕ → ℕ → Option Content → Bool
guard_matches None preds expected content = false
guard_matches (Some g) preds expected content =
    eq_numbers g.predecessors preds && boundary_holds g.kind expected && content_matches g.contents preds content

-- ---- the rules

module _ {A : Type 0} where
  -- the entry is kept, with this standing
  unfoldable pub stay : Standing → List A → Visit A
  stay s l = record { stays = Some s; drops = false; lists = l }

  -- the frame leaves, and its hash's guard is removed
  unfoldable pub leave : List A → Visit A
  leave l = record { stays = None; drops = true; lists = l }

unfoldable pub row : Frame → Decision → List ℕ → List Row
row f decision nonces = record { frame = f; decision = decision; nonces = nonces } ∷ []

-- the last held head is this one
unfoldable pub held_at : Option ℕ → ℕ → Bool
held_at None head = false
held_at (Some n) head = eqb n head

-- rule 2
unfoldable pub poll_degraded : ℕ → List ℕ → Entry → Visit Row
poll_degraded head known e =
    cond (ltb e.frame.claim head) (stay e.standing (row e.frame nonce_consumed []))
    (cond (held_at e.standing.held head) (stay e.standing [])
    (stay (record { state = e.standing.state; held = Some head }) (row e.frame still_waiting (unknown head known e.frame))))

-- rules 3, 5, 6 and 7; rule 6 is told whether the guard matches
unfoldable pub poll_full : ℕ → List ℕ → Bool → Entry → Visit Row
poll_full head known guarded e =
    cond (ltb e.frame.claim head) (stay e.standing (row e.frame nonce_consumed []))
    (cond (not (is_empty (unknown head known e.frame))) (stay e.standing (row e.frame still_waiting (unknown head known e.frame)))
    (cond guarded
    (stay e.standing (row e.frame still_waiting (predecessors head e.frame)))
    (leave (row e.frame rescue (predecessors head e.frame)))))

-- rule 1, or the others
unfoldable pub poll_in : State → ℕ → List ℕ → Bool → Entry → Visit Row
poll_in (tentative c) head known guarded e = stay e.standing []
poll_in tracked head known guarded e = cond (degraded e.frame) (poll_degraded head known e) (poll_full head known guarded e)

-- a poll's rules, told whether the guard of the frame's hash matches
unfoldable pub poll_given : ℕ → List ℕ → Bool → Entry → Visit Row
poll_given head known guarded e = poll_in e.standing.state head known guarded e

unfoldable pub poll_rule : ℕ → List ℕ → Option Content → Option Guard → Entry → Visit Row
poll_rule head known content guard e = poll_given head known (guard_matches guard (predecessors head e.frame) e.frame.expected content) e
