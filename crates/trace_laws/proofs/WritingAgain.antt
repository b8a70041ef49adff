-- `written-again`: what is read from a trace is written again as the same bytes.
use Prim.Native.Nat.{ℕ, zero, suc, ◌+◌, ◌*◌, ◌-◌, ◌<◌, ◌^◌}
use native.Mathlib.Omega.{arith}
use mathlib.Core.Path.{◌≡◌, refl, sym, ap, ◌∙◌, subst}
use mathlib.Core.Bool.{Bool, true, false, cond}
use mathlib.Core.List.{[], ◌∷◌, ◌++◌, append_assoc, append-nil, map}
use Rattle.std.specs.Prelude.{None, Some}
use lib.Dec.{leb, ltb}
use lib.ListN.{length, take, drop, length-map, take-append-drop, length-drop}
use lib.Seq.{length-take-le}
use borrow.Author.Tests.{leb-true}
use Rattle.lists.specs.Bytes.{Bytes, eq_bytes}
use Rattle.lists.specs.Lists.{Each, is_empty, collect, chunks}
use Rattle.lists.proofs.ByteOrder.{eq_bytes-true}
use Rattle.lists.proofs.Chunks.{chunks-length}
use Rattle.lists.proofs.Parts.{each_take, each-drop}
use Rattle.wire.specs.Numbers.{num, digits}
use Rattle.wire.proofs.NumberLaws.{IsByte, num-below, digits-num}
use Rattle.store_rules.specs.Answers.{kind_number}
use Rattle.store_rules.specs.Store.{Call}
use Rattle.trace_format.specs.Reading.{got, cut_short, bad, ReadCall, part, byte, number, list, numbers, hashes, by_flag, optional, content, read_push, read_poll, guard_inputs, guard_by, read_guard, block_inputs, enter_by, read_enter, read_reorg, read_final, read_evict, mark_p, mark_q, mark_g, mark_e, mark_r, mark_f, mark_v, by_mark, read_call}
use Rattle.trace_format.specs.Writing.{numbers_written, hashes_written, optional_written, content_written, guard_number, boundary_written, taker_written, write_call, Long, NumberFits, CountFits, NumbersFit, OptionFits, ContentFits, Fits}
use Rattle.trace_format.specs.Traces.{starting_with, read_calls, read_trace}
use Rattle.trace_format.proofs.Standing.{never, call-place}
use Rattle.trace_laws.specs.Laws.{WrittenAgain}

-- ---- readers

-- what is read behind these bytes is written as they and its own, and fits
record Again (front : Bytes) (r : Bytes → ReadCall) : Type 0 where
  again : (bs : Bytes) (c : Call) (rest : Bytes) → Each IsByte bs → r bs ≡ got c rest → (write_call c ++ rest ≡ front ++ bs) × Fits c

got-again : {front : Bytes} {c : Call} → write_call c ≡ front → Fits c → Again front (got c)
got-again {c = c} e f = record { again = λ bs d rest h is. let same : c ≡ d = cc in ((cc), subst Fits same f) }

bad-again : {front : Bytes} → Again front (λ bs. bad)
bad-again = record { again = λ bs c rest h e. never (cc) }

-- ---- the parts of a call

part-again : (front : Bytes) (n : ℕ) (next : Bytes → Bytes → ReadCall) → ((b : Bytes) → Long n b → Each IsByte b → Again (front ++ b) (next b)) → Again front (λ bs. part n bs next)
unfolding part
part-again front n next f = record { again = λ bs c rest h. go bs c rest h (leb n (length bs)) refl }
  where
    go : (bs : Bytes) (c : Call) (rest : Bytes) → Each IsByte bs → (b : Bool) → leb n (length bs) ≡ b → cond b (next (take n bs) (drop n bs)) cut_short ≡ got c rest → (write_call c ++ rest ≡ front ++ bs) × Fits c
    go bs c rest h true l e =
        let r = (f (take n bs) (length-take-le n bs (leb-true n (length bs) l)) (each_take IsByte n bs h)).again (drop n bs) c rest (each-drop IsByte n bs h) e in
        (r.0 ∙ append_assoc front (take n bs) (drop n bs) ∙ ap (λ (l : Bytes). front ++ l) (take-append-drop n bs), r.1)
    go bs c rest h false l e = never (cc)

byte-again : (front : Bytes) (next : ℕ → Bytes → ReadCall) → ((v : ℕ) → Again (front ++ (v ∷ [])) (next v)) → Again front (λ bs. byte bs next)
unfolding byte num
byte-again front next f = part-again front 1 (λ b. next (num b)) one
  where
    one : (b : Bytes) → Long 1 b → Each IsByte b → Again (front ++ b) (next (num b))
    one [] l h = absurd (omega arith)
    one (v ∷ []) l h = let e : v + 256 * 0 ≡ v = omega arith in rw e (f v)
    one (v ∷ w ∷ b) l h = absurd (omega arith)

-- a part that is read as a value is written as it
abbrev PartAgain : {B : Type 0} → (B → Type 0) → (B → Bytes) → (Bytes → (B → Bytes → ReadCall) → ReadCall) → Type 0
PartAgain {B} fits write p = (front : Bytes) (next : B → Bytes → ReadCall) → ((v : B) → fits v → Again (front ++ write v) (next v)) → Again front (λ bs. p bs next)

hash-again : (n : ℕ) → PartAgain (Long n) (λ b. b) (part n)
hash-again n front next f = part-again front n next (λ b l h. f b l)

number-again : PartAgain NumberFits (digits 8) number
unfolding number
number-again front next f =
    part-again front 8 (λ b. next (num b)) (λ b l h. subst (λ (x : Bytes). Again (front ++ x) (next (num b))) (digits-num 8 b l h) (f (num b) (rw l at (num-below b h))))

list-again : (width : ℕ) (front : Bytes) (next : ℕ → Bytes → Bytes → ReadCall) →
    ((n : ℕ) (b : Bytes) → n < 256 ^ 2 → length b ≡ width * n → Each IsByte b → Again (front ++ (digits 2 n ++ b)) (next n b)) → Again front (λ bs. list width bs next)
unfolding list
list-again width front next f =
    part-again front 2 _ (λ b l h. part-again (front ++ b) (width * num b) (next (num b)) (λ d m k.
    subst (λ (x : Bytes). Again x (next (num b) d)) (ap (λ (x : Bytes). front ++ (x ++ d)) (digits-num 2 b l h) ∙ sym (append_assoc front b d)) (f (num b) d (rw l at (num-below b h)) m k)))

chunks-again : (n : ℕ) (b : Bytes) → length b ≡ 8 * n → Each IsByte b → (collect (digits 8) (map num (chunks 8 n b)) ≡ b) × Each NumberFits (map num (chunks 8 n b))
unfolding collect chunks
chunks-again zero [] l h = (refl, tt)
chunks-again zero (x ∷ b) l h = absurd (omega arith)
chunks-again (suc n) b l h =
    let m = length-take-le 8 b (omega arith) in
    let k = each_take IsByte 8 b h in
    let r = chunks-again n (drop 8 b) (rw length-drop (omega arith)) (each-drop IsByte 8 b h) in
    (rw (digits-num 8 (take 8 b) m k, r.0) (take-append-drop 8 b), (rw m at (num-below (take 8 b) k), r.1))

numbers-again : PartAgain NumbersFit numbers_written numbers
unfolding numbers numbers_written
numbers-again front next f =
    list-again 8 front _ (λ n b s l h.
    let l' : length (map num (chunks 8 n b)) ≡ n = length-map (chunks 8 n b) num ∙ chunks-length 8 n b in
    let r = chunks-again n b l h in
    rw (l', r.0) at (f (map num (chunks 8 n b)) (rw l' s, r.1)))

hashes-again : PartAgain CountFits hashes_written hashes
unfolding hashes hashes_written
hashes-again front next f = list-again 1 front _ (λ n b s l h. let e : length b ≡ n = omega arith in rw e at (f b (rw e s)))

content-again : PartAgain ContentFits content_written content
unfolding content content_written
content-again front next f =
    numbers-again front _ (λ l p. hashes-again (front ++ numbers_written l) _ (λ b q. rw (← append_assoc front (numbers_written l) (hashes_written b)) at (f (record { nonces = l; hashes = b }) (p, q))))

optional-again : {B : Type 0} (fits : B → Type 0) (write : B → Bytes) (value : Bytes → (B → Bytes → ReadCall) → ReadCall) → PartAgain fits write value →
    PartAgain (OptionFits fits) (optional_written write) (optional value)
unfolding optional optional_written by_flag
optional-again fits write value v front next f = byte-again front _ go
  where
    go : (flag : ℕ) → Again (front ++ (flag ∷ [])) (λ bs. by_flag flag (next None bs) (value bs (λ x. next (Some x))))
    go zero = f None tt
    go (suc zero) = v (front ++ (1 ∷ [])) _ (λ x p. rw (append_assoc front (1 ∷ []) (write x)) (f (Some x) p))
    go (suc (suc n)) = bad-again

-- ---- the seven calls

push-again : Again mark_p read_push
unfolding read_push write_call
push-again =
    hash-again 32 mark_p _ (λ hash a. hash-again 20 _ _ (λ from b.
    number-again _ _ (λ expected c. number-again _ _ (λ claim d. number-again _ _ (λ chain_id e. number-again _ _ (λ gas f. number-again _ _ (λ ticket g.
    got-again (simp append_assoc) (a, b, c, d, e, f, g))))))))

poll-again : Again mark_q read_poll
unfolding read_poll write_call
poll-again =
    hash-again 20 mark_q _ (λ sender a. number-again _ _ (λ head b. numbers-again _ _ (λ known c.
    optional-again ContentFits content_written content content-again _ _ (λ content d. got-again (simp append_assoc) (a, b, c, d)))))

final-again : Again mark_f read_final
unfolding read_final write_call
final-again = number-again mark_f _ (λ n a. got-again refl a)

evict-again : Again mark_v read_evict
unfolding read_evict write_call
evict-again = hash-again 20 mark_v _ (λ sender a. got-again refl a)

reorg-again : Again mark_r read_reorg
unfolding read_reorg write_call
reorg-again =
    number-again mark_r _ (λ block a. optional-again (Long 32) (λ h. h) (part 32) (hash-again 32) _ _ (λ hash b. got-again (simp append_assoc) (a, b)))

guard-by-again : (kind : ℕ) → Again (mark_g ++ (kind ∷ [])) (guard_by kind)
unfolding guard_by guard_inputs write_call guard_number boundary_written
guard-by-again zero = bad-again
guard-by-again (suc zero) =
    hash-again 32 _ _ (λ hash a. numbers-again _ _ (λ predecessors b. hashes-again _ _ (λ contents c. number-again _ _ (λ boundary d.
    got-again (simp append_assoc) (d, a, b, c)))))
guard-by-again (suc (suc zero)) =
    hash-again 32 _ _ (λ hash a. numbers-again _ _ (λ predecessors b. hashes-again _ _ (λ contents c. got-again (simp append-nil (simp append_assoc)) (tt, a, b, c))))
guard-by-again (suc (suc (suc n))) = bad-again

guard-again : Again mark_g read_guard
unfolding read_guard
guard-again = byte-again mark_g _ guard-by-again

enter-by-again : (kind : ℕ) (hash : Bytes) → Long 32 hash → Again ((mark_e ++ hash) ++ (kind ∷ [])) (enter_by kind hash)
unfolding enter_by block_inputs write_call kind_number taker_written
enter-by-again zero hash a = bad-again
enter-by-again (suc zero) hash a = number-again _ _ (λ block b. hash-again 32 _ _ (λ block_hash c. got-again (simp append-nil (simp append_assoc)) (a, tt, b, c)))
enter-by-again (suc (suc zero)) hash a = number-again _ _ (λ block b. hash-again 32 _ _ (λ block_hash c. got-again (simp append-nil (simp append_assoc)) (a, tt, b, c)))
enter-by-again (suc (suc (suc zero))) hash a =
    number-again _ _ (λ block b. hash-again 32 _ _ (λ block_hash c. hash-again 32 _ _ (λ taker d. got-again (simp append_assoc) (a, d, b, c))))
enter-by-again (suc (suc (suc (suc n)))) hash a = bad-again

enter-again : Again mark_e read_enter
unfolding read_enter
enter-again = hash-again 32 mark_e _ (λ hash a. byte-again _ _ (λ kind. enter-by-again kind hash a))

-- ---- by the mark

if-again : {front : Bytes} {r s : Bytes → ReadCall} (b : Bool) → (b ≡ true → Again front r) → Again front s → Again front (λ bs. cond b (r bs) (s bs))
if-again true f g = f refl
if-again false f g = g

mark-again : (m : Bytes) → Again m (by_mark m)
unfolding by_mark
mark-again m =
    if-again (eq_bytes m mark_p) (λ e. rw (eq_bytes-true m mark_p e) push-again)
    (if-again (eq_bytes m mark_q) (λ e. rw (eq_bytes-true m mark_q e) poll-again)
    (if-again (eq_bytes m mark_g) (λ e. rw (eq_bytes-true m mark_g e) guard-again)
    (if-again (eq_bytes m mark_e) (λ e. rw (eq_bytes-true m mark_e e) enter-again)
    (if-again (eq_bytes m mark_r) (λ e. rw (eq_bytes-true m mark_r e) reorg-again)
    (if-again (eq_bytes m mark_f) (λ e. rw (eq_bytes-true m mark_f e) final-again)
    (if-again (eq_bytes m mark_v) (λ e. rw (eq_bytes-true m mark_v e) evict-again) bad-again))))))

call-again : Again [] read_call
unfolding read_call
call-again = part-again [] 2 by_mark (λ m l h. mark-again m)

-- ---- a trace

calls-again : (k : ℕ) (bs : Bytes) → Each IsByte bs → (read_calls k bs).whole ≡ true → (collect write_call (read_calls k bs).calls ≡ bs) × Each Fits (read_calls k bs).calls
unfolding read_calls starting_with is_empty collect
calls-again zero [] h w = (refl, tt)
calls-again zero (b ∷ bs) h w = never (cc)
calls-again (suc k) [] h w = (refl, tt)
calls-again (suc k) (b ∷ bs) h w = go (read_call (b ∷ bs)) refl w (calls-again k)
  where
    go : (r : ReadCall) → read_call (b ∷ bs) ≡ r → (starting_with r (λ rest. read_calls k rest)).whole ≡ true →
        ((rest : Bytes) → Each IsByte rest → (read_calls k rest).whole ≡ true → (collect write_call (read_calls k rest).calls ≡ rest) × Each Fits (read_calls k rest).calls) →
        (collect write_call (starting_with r (λ rest. read_calls k rest)).calls ≡ b ∷ bs) × Each Fits (starting_with r (λ rest. read_calls k rest)).calls
    go (got c rest) e w ih =
        let r = call-again.again (b ∷ bs) c rest h e in
        let p = call-place (b ∷ bs) c rest e in
        let i = ih rest (rw p.0 (each-drop IsByte (length (b ∷ bs) - length rest) (b ∷ bs) h)) w in
        (rw i.0 r.0, (r.1, i.1))
    go cut_short e w ih = never (cc)
    go bad e w ih = never (cc)

pub written-again : WrittenAgain
unfolding read_trace
written-again bs h = go (ltb 65536 (length bs))
  where
    go : (b : Bool) → (cond b (record { calls = []; whole = false }) (read_calls (length bs) bs)).whole ≡ true →
        (collect write_call (cond b (record { calls = []; whole = false }) (read_calls (length bs) bs)).calls ≡ bs)
        × Each Fits (cond b (record { calls = []; whole = false }) (read_calls (length bs) bs)).calls
    go true w = never (cc)
    go false w = calls-again (length bs) bs h w
