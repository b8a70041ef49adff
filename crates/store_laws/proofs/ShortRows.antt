-- Every short row says what it should (`every-short-row`), short rows tell what long ones do (`short-as-long`), and take less room
-- (`short-needs-less`).
use Prim.Native.Nat.{ℕ, suc, ◌+◌, ◌*◌, ◌^◌, ◌≤◌, ◌<◌}
use native.Mathlib.Omega.{arith}
use mathlib.Core.Path.{◌≡◌, refl, sym, ap, ◌∙◌}
use mathlib.Core.Bool.{Bool, true, false}
use mathlib.Core.List.{List, [], ◌∷◌, map}
use Rattle.std.specs.Prelude.{Option, None, Some}
use Rattle.std.specs.Option.{option_or}
use Rattle.lists.proofs.Options.{none-ne-some}
use lib.Dec.{ltb}
use lib.ListN.{length, replicate, drop}
use lib.Seq.{take_at, drop_at}
use borrow.Author.Tests.{lt-ltb, le-ltb, ltb-true, ltb-false}
use Rattle.lists.specs.Bytes.{Bytes}
use Rattle.lists.specs.Lists.{collect, chunks, Each}
use Rattle.lists.proofs.Keeping.{keep-each, each_map}
use Rattle.short_rows.specs.Mark.{mark_of}
use Rattle.short_rows.specs.Reading.{is_nonce, nonces_read}
use Rattle.short_rows.proofs.Bits.{mark-lt, mark-at}
use Rattle.short_rows.proofs.Marking.{none-marked}
use Rattle.short_rows.proofs.Marks.{Ascending, nonces-back, ones-length}
use Rattle.store_rules.specs.Frames.{Row}
use Rattle.store_rules.specs.Poll.{Content, poll_rule}
use Rattle.store_rules.specs.Rules.{only_of}
use Rattle.store_rules.specs.Lookup.{entries_of}
use Rattle.store_rules.specs.Store.{Store, poll, RowForm, long, short, row_width, walk, walked, listed, rows_of, effect, when, bad_content, input_refusal, room_refusal, refusal, unless, step}
use Rattle.store_rules.specs.Answers.{decision_number, row_numbers, numbers_of}
use Rattle.store_rules.proofs.GapNonces.{gap-few}
use Rattle.store_rules.proofs.PollRows.{Narrow, effect-narrow, step-narrow}
use Rattle.store_rules.proofs.RowForms.{row-length}
use Rattle.store_laws.specs.ShortRows.{Says, EveryShortRow, Told, nonces_in, decode, decoded, polls, ShortAsLong, ShortNeedsLess}

-- ---- what a short row says

-- an end that lies further on
ascending-to : (low high high' : ℕ) (l : List ℕ) → high ≤ high' → Ascending low high l → Ascending low high' l
ascending-to low high high' [] h a = tt
ascending-to low high high' (x ∷ xs) h a = (a.0, omega (arith, a.1), ascending-to (suc x) high high' xs h a.2)

-- numbers below an end, of which each is a nonce
each-nonce : (low high : ℕ) (l : List ℕ) → Ascending low high l → ((n : ℕ) → low ≤ n → n < high → is_nonce n ≡ true) → Each (λ n. is_nonce n ≡ true) l
each-nonce low high [] a h = tt
each-nonce low high (x ∷ xs) a h = (h x a.0 a.1, each-nonce (suc x) high xs a.2 (λ n b c. h n (omega (arith, a.0)) c))

module _ (r : Row) (n : Narrow r) where
  sixteen : Ascending r.frame.expected (r.frame.expected + 16) r.nonces
  sixteen = ascending-to r.frame.expected _ (r.frame.expected + 16) r.nonces (omega arith) n.ascending

  read : is_nonce r.frame.claim ≡ true → nonces_read r.frame.expected (mark_of r.frame.expected r.nonces) ≡ r.nonces
  unfolding nonces_read
  read claim =
      rw (nonces-back r.frame.expected r.nonces sixteen)
      (keep-each is_nonce r.nonces
      (each-nonce r.frame.expected _ r.nonces n.ascending (λ x b c. lt-ltb x (2 ^ 64) (omega (arith, ltb-true r.frame.claim (2 ^ 64) claim)))))

  row-says : Says r
  unfolding row_numbers
  row-says =
      let e = r.frame.expected in
      record {
        counted = ones-length e r.nonces sixteen;
        narrow = mark-lt e r.nonces;
        bits = λ i h. mark-at e r.nonces i h;
        consumed = λ q. ap (mark_of e) (n.consumed q) ∙ none-marked e;
        nonces = read;
      }

pub every-short-row : EveryShortRow
every-short-row s q = each_map Narrow Says (rows_of (step s q).1) row-says (step-narrow s q)

-- ---- short rows and long ones

-- what a row tells, before it is written
tells : Row → Told
tells r = record { ticket = r.frame.ticket; code = decision_number r.decision; nonces = r.nonces }

decode-row : (form : RowForm) (r : Row) → Narrow r → decode form (row_numbers form r) ≡ tells r
unfolding decode nonces_in row_numbers tells
decode-row long r n = rw (take_at r.nonces (drop (length r.nonces) (replicate 16 0)) (length r.nonces) refl)
decode-row short r n = rw (nonces-back r.frame.expected r.nonces (sixteen r n))

decode-rows : (form : RowForm) (l : List Row) → Each Narrow l → map (decode form) (chunks (row_width form) (length l) (collect (row_numbers form) l)) ≡ map tells l
unfolding chunks collect
decode-rows form [] n = refl
decode-rows form (r ∷ rs) n =
    let w = row-length form r (gap-few r.frame r.nonces n.0.ascending) in
    rw
    (take_at (row_numbers form r) (collect (row_numbers form) rs) (row_width form) w, drop_at (row_numbers form r) (collect (row_numbers form) rs) (row_width form) w, decode-row form r n.0, decode-rows form rs n.1)

module _ (s : Store) (sender : Bytes) (head : ℕ) (known : List ℕ) (content : Option Content) where
  made : (form : RowForm) (n : ℕ) → refusal s (polls form sender head known content n) ≡ None →
      step s (polls form sender head known content n) ≡ effect s (poll sender head known content)
  unfolding step unless
  made form n e = rw e

  told : (form : RowForm) → decoded form (effect s (poll sender head known content)).1 ≡ map tells (rows_of (effect s (poll sender head known content)).1)
  unfolding decoded effect walked listed numbers_of rows_of
  told form = decode-rows form (walk (only_of sender (poll_rule head known content)) s.entries s.guards).listed (effect-narrow s (poll sender head known content))

pub short-as-long : ShortAsLong
short-as-long s sender head known content n m p q =
    let l = made s sender head known content long n p in
    let r = made s sender head known content short m q in
    record {
      stores = rw (l, r);
      told = rw (l, r) (told s sender head known content short ∙ sym (told s sender head known content long));
    }

-- ---- room

less-room : (numbers entries : ℕ) → when (ltb numbers (19 * entries)) 5 ≡ None → when (ltb numbers (5 * entries)) 5 ≡ None
unfolding when
less-room numbers entries h = go (ltb numbers (19 * entries)) refl h
  where
    go : (b : Bool) → ltb numbers (19 * entries) ≡ b → when b 5 ≡ None → when (ltb numbers (5 * entries)) 5 ≡ None
    go true e h = absurd (none-ne-some 5 (sym h))
    go false e h = rw (le-ltb numbers (5 * entries) (omega (arith, ltb-false numbers (19 * entries) e)))

pub short-needs-less : ShortNeedsLess
unfolding refusal input_refusal room_refusal row_width
short-needs-less s sender head known content n = go (option_or (when (ltb 256 (length known)) 3) (when (bad_content content) 4))
  where
    entries : ℕ
    entries = length (entries_of sender s.entries)

    go : (i : Option ℕ) → option_or i (when (ltb n (19 * entries)) 5) ≡ None → option_or i (when (ltb n (5 * entries)) 5) ≡ None
    go (Some m) h = h
    go None h = less-room n entries h
