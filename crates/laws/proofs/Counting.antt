-- A list of numbers from m up to e, as a loop that counts goes through it: the first of them, or none.
use Prim.Native.Nat.{ℕ, suc, ◌+◌, ◌-◌, ◌<◌, ◌≤◌}
use native.Mathlib.Omega.{arith}
use mathlib.Core.Path.{◌≡◌}
use mathlib.Core.List.{[], ◌∷◌}
use Rattle.laws.specs.Lists.{count}

-- below the end, the numbers from m are m and those from m + 1
pub count_more : (m e : ℕ) → m < e → count m (e - m) ≡ m ∷ count (m + 1) (e - (m + 1))
count_more m e h = let n : e - m ≡ suc (e - (m + 1)) = omega arith in rw n

-- at the end there are none
pub count_end : (m e : ℕ) → e ≤ m → count m (e - m) ≡ []
count_end m e h = let n : e - m ≡ 0 = omega arith in rw n
