-- What eviction, reorganisation and finality do to one entry.
use Rattle.std.specs.Prelude.{ℕ, Bool, true, ◌&&◌, not, cond, [], ◌∷◌, eqb, leb}
use Rattle.std.specs.Prelude.{Option, None, Some}
use Rattle.lists.specs.Bytes.{Bytes, eq_bytes}
use Rattle.store_rules.specs.Frames.{Frame, State, tracked, tentative, Entry, Guard, Dead, Visit}
use Rattle.store_rules.specs.Poll.{stay, leave}

-- a rule for the entries of one sender; the others stay as they are
unfoldable pub only_of : {A : Type 0} → Bytes → (Option Guard → Entry → Visit A) → Option Guard → Entry → Visit A
only_of sender rule guard e = cond (eq_bytes e.frame.from sender) (rule guard e) (stay e.standing [])

unfoldable pub evict_rule : Option Guard → Entry → Visit Frame
evict_rule guard e = leave (e.frame ∷ [])

-- the block's hash differs, or none is given
unfoldable pub differs : Option Bytes → Bytes → Bool
differs None h = true
differs (Some canonical) h = not (eq_bytes canonical h)

-- a tentative entry of that block whose block hash differs is tracked again; its held head survives, its guard is dropped
unfoldable pub reorg_in : State → ℕ → Option Bytes → Entry → Visit Frame
reorg_in tracked block canonical e = stay e.standing []
reorg_in (tentative c) block canonical e =
    cond (eqb c.block block && differs canonical c.block_hash)
    (record { stays = Some (record { state = tracked; held = e.standing.held }); drops = true; lists = e.frame ∷ [] })
    (stay e.standing [])

unfoldable pub reorg_rule : ℕ → Option Bytes → Option Guard → Entry → Visit Frame
reorg_rule block canonical guard e = reorg_in e.standing.state block canonical e

-- a tentative entry with block <= n is removed
unfoldable pub final_in : State → ℕ → Entry → Visit Dead
final_in tracked n e = stay e.standing []
final_in (tentative c) n e = cond (leb c.block n) (leave (record { frame = e.frame; consumed = c } ∷ [])) (stay e.standing [])

unfoldable pub final_rule : ℕ → Option Guard → Entry → Visit Dead
final_rule n guard e = final_in e.standing.state n e
