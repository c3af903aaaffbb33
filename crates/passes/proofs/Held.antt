-- The array holds the table's passes: what it has at a number below 24 is the pass with that number, so that it lists the same passes in the same order.
use Prim.Native.Nat.{ℕ, ◌<◌}
use native.Mathlib.Omega.{arith}
use mathlib.Core.Path.{◌≡◌, refl, sym, ◌∙◌}
use mathlib.Core.Bool.{Bool, true, false, cond}
use mathlib.Core.List.{List}
use lib.ListN.{get_or}
use Rattle.std.specs.Prelude.{None, Some}
use Rattle.laws.specs.Lists.{count, only, any}
use Rattle.laws.proofs.Members.{count_member, flat_same, member_every}
use Rattle.laws.proofs.Sizes.{map_keep}
use Rattle.laws.proofs.Rows.{get_d_row}
use Rattle.records.specs.declared.PassRecord.{PassRecord}
use Rattle.passes.specs.Judge.{is_pass}
use Rattle.passes.specs.Expand.{pass_at, passes_in_order}
use Rattle.passes.specs.Timely.{listed, passes_at, in_order, Timely, AllTimely}
use Rattle.passes.specs.Arrays.{pass_of, passes_of}
use Rattle.passes.proofs.Sound.{Sound, order_limits}

module _ (table : List PassRecord) where
  module _ (n : ℕ) (h : n < 24) where
    -- at a number stands the pass with it, if the table has one
    pub held_at : get_or (passes_of table).by_number n None ≡ pass_of table n
    unfolding passes_of
    held_at = get_d_row (pass_of table) 24 n None h

    -- so is its list
    pub held_list : passes_at (passes_of table) n ≡ only (any (is_pass n) table) (pass_at table n)
    unfolding passes_at pass_at
    held_list = rw held_at (go (any (is_pass n) table))
      where
        go : (t : Bool) → listed n (cond t (Some (pass_at table n)) None) ≡ only t (pass_at table n)
        go true = refl
        go false = refl

  -- the passes in order are those of the table
  pub held_order : in_order (passes_of table) ≡ passes_in_order table
  unfolding in_order passes_in_order
  held_order =
      flat_same (passes_at (passes_of table)) (λ n. only (any (is_pass n) table) (pass_at table n)) (count 0 24) (λ n m. let b = (count_member 0 24 n).0 m in held_list n (omega arith))
      ∙ sym (map_keep (pass_at table) (λ n. any (is_pass n) table) (count 0 24))

  -- where 3, 4 and 5 do not hold, each has a window within its period
  pub held_timely : Sound table → AllTimely (passes_of table)
  unfolding AllTimely
  held_timely sound = rw held_order (member_every Timely (passes_in_order table) (λ p m. (order_limits table sound p m).1))
