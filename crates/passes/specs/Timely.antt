-- The passes that an array holds by number, and what is known of them once judged: each has a period, which its window lies within.
-- No type that keeps that fact is named here, so that such a type can cite it.
use Rattle.std.specs.Prelude.{ℕ, ◌+◌, ◌<◌, ◌≤◌, List, [], ◌∷◌, get_or, Option, None, Some}
use Rattle.std.specs.Coded.{×_prop, Unit-prop, le_prop}
use Rattle.laws.specs.Lists.{count, flat, Every}
use Rattle.records.specs.Record.{pass}
use Rattle.records.specs.declared.Pass.{Pass}
use Rattle.passes.specs.declared.Passes.{Passes}

-- what a place holds as a list: the pass under the place's own number, if there is one
abbrev pub listed : ℕ → Option Pass → List Pass
listed n None = []
listed n (Some p) = pass n p.cost p.period p.phase p.within ∷ []

-- the pass with a number, if there is one
unfoldable pub passes_at : Passes → ℕ → List Pass
passes_at passes n = listed n (get_or passes.by_number n None)

-- the period that a place holds, and 0 where it holds no pass
abbrev pub period_held : Option Pass → ℕ
period_held None = 0
period_held (Some p) = p.period

-- the period of the pass with a number, and 0 where there is none
unfoldable pub period_at : Passes → ℕ → ℕ
period_at passes n = period_held (get_or passes.by_number n None)

-- the passes by rising number
unfoldable pub in_order : Passes → List Pass
in_order passes = flat (passes_at passes) (count 0 24)

-- a pass with a period, which its window lies within
abbrev pub Timely : Pass → Type 0
Timely p = (0 < p.period) × (p.phase + p.within ≤ p.period)

-- all passes are such
unfoldable pub AllTimely : Passes → Type 0
AllTimely passes = Every Timely (in_order passes)

-- that all are such holds in one way only
every_once : (ps : List Pass) → IsProp (Every Timely ps)
every_once [] = Unit-prop
every_once (p ∷ ps) = ×_prop (×_prop le_prop le_prop) (every_once ps)

-- that all passes are timely holds in one way only
pub all_timely_once : (passes : Passes) → IsProp (AllTimely passes)
unfolding AllTimely
all_timely_once passes = every_once (in_order passes)
