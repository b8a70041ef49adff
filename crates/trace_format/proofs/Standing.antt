-- The claims of `specs.Standing`: a reader looks at no byte behind those that it reads.
use Prim.Native.Nat.{ℕ, zero, suc, ◌+◌, ◌-◌, ◌≤◌}
use native.Mathlib.Omega.{arith}
use mathlib.Core.Path.{◌≡◌, refl, sym, ap, ◌∙◌}
use mathlib.Core.Bool.{Bool, true, false, cond}
use mathlib.Core.List.{[], ◌++◌, append_assoc}
use Rattle.std.specs.Prelude.{None, Some}
use lib.Dec.{leb}
use lib.ListN.{length, take, drop, length-append, take-append-drop}
use lib.Seq.{length-take-le, take-append-le, drop-append-le, take_at, drop_at}
use borrow.Author.Tests.{leb-true, le-leb}
use Rattle.lists.specs.Bytes.{Bytes, eq_bytes}
use Rattle.store_rules.specs.Store.{Call}
use Rattle.trace_format.specs.Reading.{Read, got, cut_short, bad, part, byte, number, list, numbers, hashes, by_flag, optional, content, read_push, read_poll, guard_inputs, guard_by, read_guard, block_inputs, enter_by, read_enter, read_reorg, read_final, read_evict, mark_p, mark_q, mark_g, mark_e, mark_r, mark_f, mark_v, by_mark, read_call}
use Rattle.trace_format.specs.Standing.{EveryCallStands, BadStaysBad}

-- ---- readers

pub never : {B : Type 0} → ◌≡◌ {A = ℕ} 0 1 → B
never e = absurd (omega arith)

module _ {A : Type 0} where
  -- x is read from bytes at the front, k or more, whatever stands behind these
  record Front (k : ℕ) (r : Bytes → Read A) (bs : Bytes) (x : A) (rest : Bytes) : Type 0 where
    front : Bytes
    is : bs ≡ front ++ rest
    long : k ≤ length front
    alone : (behind : Bytes) → r (front ++ behind) ≡ got x behind

  -- What comes of this reader, unless the bytes end first, rests on none behind those that it reads; to get anything it reads k
  -- or more.
  record Local (k : ℕ) (r : Bytes → Read A) : Type 0 where
    stands : (bs : Bytes) (x : A) (rest : Bytes) → r bs ≡ got x rest → Front k r bs x rest
    stays : (bs behind : Bytes) → r bs ≡ bad → r (bs ++ behind) ≡ bad

  got-local : (x : A) → Local 0 (got x)
  got-local x = record {
    stands = λ bs y rest e. record { front = []; is = (cc); long = omega arith; alone = λ behind. (cc) };
    stays = λ bs behind e. (cc);
  }

  bad-local : (k : ℕ) → Local k (λ bs. bad)
  bad-local k = record { stands = λ bs x rest e. never (cc); stays = λ bs behind e. refl }

  shorter : {j k : ℕ} {r : Bytes → Read A} → j ≤ k → Local k r → Local j r
  shorter h t = record {
    stands = λ bs x rest e.
        let f = t.stands bs x rest e in
        record { front = f.front; is = f.is; long = omega (arith, f.long); alone = f.alone };
    stays = t.stays;
  }

  cond-local : {k : ℕ} {r s : Bytes → Read A} (b : Bool) → Local k r → Local k s → Local k (λ bs. cond b (r bs) (s bs))
  cond-local true f g = f
  cond-local false f g = g

  -- ---- the parts of a call

  pub part-front : (n : ℕ) (bs behind : Bytes) (next : Bytes → Bytes → Read A) → length bs ≡ n → part n (bs ++ behind) next ≡ next bs behind
  unfolding part
  part-front n bs behind next h =
      rw (le-leb n (length (bs ++ behind)) (omega (arith, length-append bs behind)), take_at bs behind n h, drop_at bs behind n h)

  part_then : (n : ℕ) {k : ℕ} {next : Bytes → Bytes → Read A} → ((b : Bytes) → Local k (next b)) → Local (n + k) (λ bs. part n bs next)
  unfolding part
  part_then n {k} {next} h = record {
    stands = λ bs x rest. from bs x rest (leb n (length bs)) refl;
    stays = λ bs behind. same bs behind (leb n (length bs)) refl;
  }
    where
      from : (bs : Bytes) (x : A) (rest : Bytes) (b : Bool) → leb n (length bs) ≡ b → cond b (next (take n bs) (drop n bs)) cut_short ≡ got x rest →
          Front (n + k) (λ bs. part n bs next) bs x rest
      from bs x rest true l e =
          let t = (h (take n bs)).stands (drop n bs) x rest e in
          let w = length-take-le n bs (leb-true n (length bs) l) in
          record {
            front = take n bs ++ t.front;
            is = rw (append_assoc, ← t.is) (sym (take-append-drop n bs));
            long = omega (arith, length-append (take n bs) t.front, t.long);
            alone = λ behind. rw append_assoc (part-front n (take n bs) (t.front ++ behind) next w ∙ t.alone behind);
          }
      from bs x rest false l e = never (cc)

      same : (bs behind : Bytes) (b : Bool) → leb n (length bs) ≡ b → cond b (next (take n bs) (drop n bs)) cut_short ≡ bad → part n (bs ++ behind) next ≡ bad
      same bs behind true l e =
          let m = leb-true n (length bs) l in
          rw (le-leb n (length (bs ++ behind)) (omega (arith, length-append bs behind)), take-append-le n bs behind m, drop-append-le n bs behind m)
          ((h (take n bs)).stays (drop n bs) behind e)
      same bs behind false l e = cc

  -- a part of n bytes or more, and then a reader that is local
  record LocalPart {B : Type 0} (n : ℕ) (p : Bytes → (B → Bytes → Read A) → Read A) : Type 0 where
    then : {k : ℕ} {next : B → Bytes → Read A} → ((b : B) → Local k (next b)) → Local (n + k) (λ bs. p bs next)

  part-local : (n : ℕ) → LocalPart n (part n)
  part-local n = record { then = λ h. part_then n h }

  byte-local : LocalPart 1 byte
  unfolding byte
  byte-local = record { then = λ h. part_then 1 (λ b. h _) }

  number-local : LocalPart 8 number
  unfolding number
  number-local = record { then = λ h. part_then 8 (λ b. h _) }

  list-then : (width : ℕ) {k : ℕ} {next : ℕ → Bytes → Bytes → Read A} → ((n : ℕ) (b : Bytes) → Local k (next n b)) → Local (2 + k) (λ bs. list width bs next)
  unfolding list
  list-then width h = part_then 2 (λ b. shorter (omega arith) (part_then _ (h _)))

  numbers-local : LocalPart 2 numbers
  unfolding numbers
  numbers-local = record { then = λ h. list-then 8 (λ count b. h _) }

  hashes-local : LocalPart 2 hashes
  unfolding hashes
  hashes-local = record { then = λ h. list-then 1 (λ count. h) }

  flag-local : (flag k : ℕ) {r s : Bytes → Read A} → Local k r → Local k s → Local k (λ bs. by_flag flag (r bs) (s bs))
  unfolding by_flag
  flag-local zero k f g = f
  flag-local (suc zero) k f g = g
  flag-local (suc (suc n)) k f g = bad-local k

  optional-local : {B : Type 0} (n : ℕ) (value : Bytes → (B → Bytes → Read A) → Read A) → LocalPart n value → LocalPart 1 (optional value)
  unfolding optional
  optional-local n value v = record { then = λ {k} h. byte-local.then (λ flag. flag-local flag k (h None) (shorter (omega arith) (v.then (λ b. h (Some b))))) }

  content-local : LocalPart 4 content
  unfolding content
  content-local = record { then = λ h. shorter (omega arith) (numbers-local.then (λ nonces. hashes-local.then (λ hashes. h _))) }

-- ---- the seven calls

push-local : Local 92 read_push
unfolding read_push
push-local =
    (part-local 32).then (λ hash. (part-local 20).then (λ from.
    number-local.then (λ expected. number-local.then (λ claim. number-local.then (λ chain_id. number-local.then (λ gas. number-local.then (λ ticket.
    got-local _)))))))

poll-local : Local 31 read_poll
unfolding read_poll
poll-local =
    (part-local 20).then (λ sender. number-local.then (λ head. numbers-local.then (λ known. (optional-local 4 content content-local).then (λ c. got-local _))))

guard-inputs-local : LocalPart 36 guard_inputs
unfolding guard_inputs
guard-inputs-local = record {
  then = λ h. shorter (omega arith) ((part-local 32).then (λ hash. numbers-local.then (λ predecessors. hashes-local.then (λ contents. h _))));
}

guard-by-local : (kind : ℕ) → Local 36 (guard_by kind)
unfolding guard_by
guard-by-local zero = bad-local 36
guard-by-local (suc zero) = shorter (omega arith) (guard-inputs-local.then (λ g. number-local.then (λ boundary. got-local _)))
guard-by-local (suc (suc zero)) = guard-inputs-local.then (λ g. got-local _)
guard-by-local (suc (suc (suc n))) = bad-local 36

guard-local : Local 37 read_guard
unfolding read_guard
guard-local = byte-local.then guard-by-local

block-inputs-local : LocalPart 40 block_inputs
unfolding block_inputs
block-inputs-local = record { then = λ h. shorter (omega arith) (number-local.then (λ block. (part-local 32).then (λ block_hash. h _))) }

enter-by-local : (kind : ℕ) (hash : Bytes) → Local 40 (enter_by kind hash)
unfolding enter_by
enter-by-local zero hash = bad-local 40
enter-by-local (suc zero) hash = block-inputs-local.then (λ c. got-local _)
enter-by-local (suc (suc zero)) hash = block-inputs-local.then (λ c. got-local _)
enter-by-local (suc (suc (suc zero))) hash = shorter (omega arith) (block-inputs-local.then (λ c. (part-local 32).then (λ taker. got-local _)))
enter-by-local (suc (suc (suc (suc n)))) hash = bad-local 40

enter-local : Local 73 read_enter
unfolding read_enter
enter-local = (part-local 32).then (λ hash. byte-local.then (λ kind. enter-by-local kind hash))

reorg-local : Local 9 read_reorg
unfolding read_reorg
reorg-local = number-local.then (λ block. (optional-local 32 (part 32) (part-local 32)).then (λ hash. got-local _))

final-local : Local 8 read_final
unfolding read_final
final-local = number-local.then (λ n. got-local _)

evict-local : Local 20 read_evict
unfolding read_evict
evict-local = (part-local 20).then (λ sender. got-local _)

mark-local : (m : Bytes) → Local 8 (by_mark m)
unfolding by_mark
mark-local m =
    cond-local (eq_bytes m mark_p) (shorter (omega arith) push-local)
    (cond-local (eq_bytes m mark_q) (shorter (omega arith) poll-local)
    (cond-local (eq_bytes m mark_g) (shorter (omega arith) guard-local)
    (cond-local (eq_bytes m mark_e) (shorter (omega arith) enter-local)
    (cond-local (eq_bytes m mark_r) (shorter (omega arith) reorg-local)
    (cond-local (eq_bytes m mark_f) final-local
    (cond-local (eq_bytes m mark_v) (shorter (omega arith) evict-local) (bad-local 8)))))))

call-local : Local 10 read_call
unfolding read_call
call-local = (part-local 2).then mark-local

-- ---- the claims

pub every-call-stands : EveryCallStands
every-call-stands bs c rest e =
    let f = call-local.stands bs c rest e in
    record { front = f.front; is = f.is; long = f.long; alone = f.alone }

pub bad-stays-bad : BadStaysBad
bad-stays-bad = call-local.stays

-- where the bytes behind a call begin
pub call-place : (bs : Bytes) (c : Call) (rest : Bytes) → read_call bs ≡ got c rest → (rest ≡ drop (length bs - length rest) bs) × (length rest + 10 ≤ length bs)
call-place bs c rest e =
    let f = every-call-stands bs c rest e in
    let l : length bs ≡ length f.front + length rest = ap length f.is ∙ length-append f.front rest in
    (sym (ap (drop (length bs - length rest)) f.is ∙ drop_at f.front rest (length bs - length rest) (omega arith)), omega (arith, f.long))
