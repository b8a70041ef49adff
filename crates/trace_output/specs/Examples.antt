-- Request 2027-07's example, F pushed and then polled at head 8, as the bytes that are printed; the same trace cut short; and files at the
-- corners.
use Rattle.std.specs.Prelude.{◌≡◌, [], ◌∷◌, ◌++◌, ℕ}
use Rattle.lists.specs.Bytes.{Bytes}
use Rattle.lists.specs.Lists.{collect}
use Rattle.trace_laws.specs.Examples.{push_f, poll_f}
use Rattle.trace_output.specs.Lines.{trace_output}

-- the texts, one after another
unfoldable pub printed : ℕ → Bytes → Bytes
printed n first = collect (λ (t : Bytes). t) (trace_output n first)

pub record Examples : Type 0 where
  -- 0 0
  -- 1 0
  -- accepted 1 held 0 rescued 1 dead 0 evicted 0
  pub rescued : printed 127 (push_f ++ poll_f)
      ≡ 48 ∷ 32 ∷ 48 ∷ 10 ∷ 49 ∷ 32 ∷ 48 ∷ 10 ∷ 97 ∷ 99 ∷ 99 ∷ 101 ∷ 112 ∷ 116 ∷ 101 ∷ 100 ∷ 32 ∷ 49 ∷ 32 ∷ 104 ∷ 101 ∷ 108 ∷ 100 ∷ 32 ∷ 48 ∷ 32 ∷ 114 ∷ 101 ∷ 115 ∷ 99 ∷ 117 ∷ 101 ∷ 100 ∷ 32 ∷ 49 ∷ 32 ∷ 100 ∷ 101 ∷ 97 ∷ 100 ∷ 32 ∷ 48 ∷ 32 ∷ 101 ∷ 118 ∷ 105 ∷ 99 ∷ 116 ∷ 101 ∷ 100 ∷ 32 ∷ 48 ∷ 10 ∷ []
  -- a byte of the poll was not read
  -- 0 0
  -- 1 19
  pub cut : printed 126 (push_f ++ poll_f) ≡ 48 ∷ 32 ∷ 48 ∷ 10 ∷ 49 ∷ 32 ∷ 49 ∷ 57 ∷ 10 ∷ []
  -- accepted 0 held 0 rescued 0 dead 0 evicted 0
  pub nothing : (first : Bytes) → printed 0 first ≡ 97 ∷ 99 ∷ 99 ∷ 101 ∷ 112 ∷ 116 ∷ 101 ∷ 100 ∷ 32 ∷ 48 ∷ 32 ∷ 104 ∷ 101 ∷ 108 ∷ 100 ∷ 32 ∷ 48 ∷ 32 ∷ 114 ∷ 101 ∷ 115 ∷ 99 ∷ 117 ∷ 101 ∷ 100 ∷ 32 ∷ 48 ∷ 32 ∷ 100 ∷ 101 ∷ 97 ∷ 100 ∷ 32 ∷ 48 ∷ 32 ∷ 101 ∷ 118 ∷ 105 ∷ 99 ∷ 116 ∷ 101 ∷ 100 ∷ 32 ∷ 48 ∷ 10 ∷ []
  -- 0 19
  pub over : (first : Bytes) → printed 65537 first ≡ 48 ∷ 32 ∷ 49 ∷ 57 ∷ 10 ∷ []
