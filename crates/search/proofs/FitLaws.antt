-- Laws of the test for live, as loops over the job numbers compute it: what each turn of a loop and each return shows.
-- A loop that has come to number m keeps what it has found of the numbers below m; what it is still to find speaks of the numbers from m on.
use Prim.Native.Nat.{ℕ, ◌+◌, ◌-◌, ◌≤◌, ◌<◌, max}
use native.Mathlib.Omega.{arith}
use mathlib.Core.Path.{◌≡◌, refl, sym, ap, ◌∙◌}
use mathlib.Core.Bool.{Bool, true, false, cond, not, ◌&&◌}
use mathlib.Core.List.{List, ◌∷◌, map}
use lib.Dec.{ltb, eqb}
use borrow.Author.Tests.{eq-eqb, ne_eqb, eqb-true, le-ltb, lt-ltb}
use Rattle.laws.specs.Lists.{all, largest, total}
use Rattle.laws.proofs.Members.{same_test}
use Rattle.laws.proofs.Scanning.{keep_taken, keep_left, keep_none}
use Rattle.laws.proofs.Keeping.{keep_from, keep_start}
use Rattle.std.specs.Prelude.{Option, Some, None}
use Rattle.std.proofs.lemmas.Option.{none-some, cond_some}
use Rattle.std.specs.Option.{option_eq}
use Rattle.search.specs.State.{number_or_none, at, is_placed, linked, start_at, remains_after, left, fits_after, together_after, rest_fits, ends_at, opens_at}

-- `start_after`: with what the links from the jobs below i allow in t, the links from the jobs from i on are still to be seen
module _ (row : List ℕ) (placed : List Bool) (ends : List ℕ) (limit : ℕ) where
  abbrev is_linked : ℕ → Bool
  is_linked i = ltb 0 (at row i)

  unfoldable pub start_from : ℕ → ℕ → Option ℕ
  start_from t i = start_at row placed ends t (keep_from is_linked i limit)

  pub start_start : (t : ℕ) → start_from t 0 ≡ start_at row placed ends t (linked row limit)
  unfolding start_from linked
  start_start t = ap (start_at row placed ends t) (keep_start is_linked limit)

  pub start_end : (t i : ℕ) → limit ≤ i → Some t ≡ start_from t i
  unfolding start_from start_at
  start_end t i h = rw (keep_none is_linked i limit h) (ap Some (omega arith))

  start_more : (t i : ℕ) (from : List ℕ) → is_placed placed i ≡ true → start_at row placed ends (max t (at ends i + (at row i - 1))) from ≡ start_at row placed ends t (i ∷ from)
  unfolding start_at
  start_more t i from e =
      let later = largest (map (λ i. at ends i + (at row i - 1)) from) in
      let z : max (max t (at ends i + (at row i - 1))) later ≡ max t (max (at ends i + (at row i - 1)) later) = omega arith in
      rw (e, z)

  module _ (t i latency : ℕ) (below : i < limit) (read : latency ≡ at row i) where
    pub start_skip : (t' : ℕ) → t' ≡ t → latency ≡ 0 → start_from t' (i + 1) ≡ start_from t i
    unfolding start_from
    start_skip t' kept none = rw kept (ap (start_at row placed ends t) (sym (keep_left is_linked i limit below (le-ltb 0 (at row i) (omega arith)))))

    pub start_not : (latency ≡ 0 → ⊥) → is_placed placed i ≡ false → None ≡ start_from t i
    unfolding start_from start_at
    start_not some e = rw (keep_taken is_linked i limit below (lt-ltb 0 (at row i) (omega arith)), e)

    pub start_on : (t' end : ℕ) → t' ≡ max t (end + (latency - 1)) → end ≡ at ends i → (latency ≡ 0 → ⊥) → is_placed placed i ≡ true → start_from t' (i + 1) ≡ start_from t i
    unfolding start_from
    start_on t' end raised ended some e =
        rw (raised, ended, read)
        (start_more t i (keep_from is_linked (i + 1) limit) e ∙ ap (start_at row placed ends t) (sym (keep_taken is_linked i limit below (lt-ltb 0 (at row i) (omega arith)))))

-- whether job m remains after the last job, if there is one, as the code tells
pub remains_tested : (placed : List Bool) (last_job : Option ℕ) (m : ℕ) → m < 48
    → remains_after placed (number_or_none last_job) m ≡ (not (option_eq eqb last_job (Some m)) && not (is_placed placed m))
unfolding remains_after
remains_tested placed None m below = rw (ne_eqb m 48 (λ e. omega arith)) refl
remains_tested placed (Some k) m below = ap (λ t. not t && not (is_placed placed m)) (same_test (eqb m k) (eqb k m) (turn m k, turn k m))
  where
    turn : (i j : ℕ) → eqb i j ≡ true → eqb j i ≡ true
    turn i j e = eq-eqb j i (sym (eqb-true i j e))

-- `rest_fits`: with the costs of the jobs below m that remain and their largest deadline, those from m on are still to be seen
module _ (cost release deadline : List ℕ) (limit : ℕ) (placed : List Bool) (k t : ℕ) where
  abbrev remain_from : ℕ → List ℕ
  remain_from m = keep_from (remains_after placed k) m limit

  unfoldable pub rest_from : ℕ → ℕ → ℕ → Bool
  rest_from costs last m =
      all (fits_after cost release deadline t) (remain_from m)
      && together_after t (costs + total (map (at cost) (remain_from m))) (max last (largest (map (at deadline) (remain_from m))))

  pub rest_start : rest_from 0 0 0 ≡ rest_fits cost release deadline limit placed k t
  unfolding rest_from rest_fits left
  rest_start = rw (keep_start (remains_after placed k) limit) (same _ _)
    where
      same : (costs last : ℕ) → (all (fits_after cost release deadline t) (left placed k limit) && together_after t (0 + costs) (max 0 last))
          ≡ (all (fits_after cost release deadline t) (left placed k limit) && together_after t costs last)
      same costs last = let z : 0 + costs ≡ costs = omega arith in let y : max 0 last ≡ last = omega arith in rw (z, y)

  pub rest_end : (costs last m : ℕ) → limit ≤ m → together_after t costs last ≡ rest_from costs last m
  unfolding rest_from
  rest_end costs last m h =
      let z : costs + 0 ≡ costs = omega arith in
      let y : max last 0 ≡ last = omega arith in
      rw (keep_none (remains_after placed k) m limit h, z, y)

  module _ (costs last m : ℕ) (below : m < limit) where
    pub rest_skip : (costs' last' : ℕ) → costs' ≡ costs → last' ≡ last → remains_after placed k m ≡ false → rest_from costs' last' (m + 1) ≡ rest_from costs last m
    unfolding rest_from
    rest_skip costs' last' p q e = rw (p, q, keep_left (remains_after placed k) m limit below e)

    pub rest_not : remains_after placed k m ≡ true → fits_after cost release deadline t m ≡ false → false ≡ rest_from costs last m
    unfolding rest_from
    rest_not e f = rw (keep_taken (remains_after placed k) m limit below e, f)

    pub rest_on : (costs' last' c d : ℕ) → costs' ≡ costs + c → last' ≡ max last d → c ≡ at cost m → d ≡ at deadline m
        → remains_after placed k m ≡ true → fits_after cost release deadline t m ≡ true → rest_from costs' last' (m + 1) ≡ rest_from costs last m
    unfolding rest_from
    rest_on costs' last' c d p q costing due e f =
        let others = remain_from (m + 1) in
        let z : costs + at cost m + total (map (at cost) others) ≡ costs + (at cost m + total (map (at cost) others)) = omega arith in
        let y : max (max last (at deadline m)) (largest (map (at deadline) others)) ≡ max last (max (at deadline m) (largest (map (at deadline) others))) = omega arith in
        rw (keep_taken (remains_after placed k) m limit below e, f, p, q, costing, due, z, y)

-- `opens_at`
module _ (cost release deadline row : List ℕ) (limit : ℕ) (placed : List Bool) (ends : List ℕ) (free k : ℕ) where
  -- a job that may come next ends after its cost at the earliest
  pub opens_cost : (e : ℕ) → opens_at cost release deadline row limit placed ends free k ≡ Some e → at cost k ≤ e
  unfolding opens_at ends_at
  opens_cost e h = step (is_placed placed k) (start_at row placed ends (max free (at release k)) (linked row limit)) h
    where
      step : (b : Bool) (s : Option ℕ) → cond b None (ends_at cost release deadline limit placed k s) ≡ Some e → at cost k ≤ e
      step true s g = absurd (none-some e g)
      step false None g = absurd (none-some e g)
      step false (Some t) g = let ends : t + at cost k ≡ e = (cond_some _ _ _ g).1 in omega arith

-- what `start_after` and `rest_fits` are proved by
pub ruleset start_laws = (start_start, start_end, start_skip, start_not, start_on)

pub ruleset rest_laws = (rest_start, rest_end, rest_skip, rest_not, rest_on, remains_tested)
