-- The normal form permits the same start times as its table, with the same job numbers and costs.
-- Permitted starts lie in the windows and grow by the gaps, so that they keep the normal form; and a gap that is not written follows from the windows, so that starts that keep the normal form keep every link.
use Prim.Native.Nat.{ℕ, ◌+◌, ◌-◌, ◌<◌, ◌≤◌}
use native.Mathlib.Omega.{arith}
use mathlib.Core.Path.{◌≡◌, refl, sym, ◌∙◌}
use mathlib.Core.Bool.{Bool, true, false}
use mathlib.Core.Logic.Iff
use mathlib.Core.List.{List, Memᴰ}
use borrow.Author.Tests.{ltb-true, ltb-false}
use lib.Dec.{ltb}
use Rattle.laws.proofs.Members.{not_true_false}
use Rattle.records.specs.Record.{link}
use Rattle.records.specs.declared.Link.{Link}
use Rattle.records.specs.declared.JobRecord.{JobRecord}
use Rattle.records.specs.declared.JobRecord.TheVariants.{L}
use Rattle.jobs.specs.Jobs.{numbers, cost}
use Rattle.jobs.specs.Starts.{Permitted, Ring, SameJobs, SameStarts}
use Rattle.jobs.proofs.Sound.{link_known, cost_by_number, PermittedByNumber, permitted_by_number}
use Rattle.normal.specs.Gaps.{gaps, ring_in}
use Rattle.normal.specs.Normal.{normal_form}
use Rattle.normal.proofs.Chains.{chain_positive, ring_shown, gaps_right_lem}
use Rattle.normal.proofs.WindowsEarliest.{Normalisable, gaps_right, gap, earliest, latest, chain_cost, chain_grows, gap_chain, link_gap, release_earliest, earliest_bounds, none_permitted, earliest_permitted}
use Rattle.normal.proofs.WindowsLatest.{latest_last, last_ends, latest_bounds}
use Rattle.normal.proofs.NormalRecords.{Written, normal_link_member}
use Rattle.normal.proofs.NormalSound.{normal_sound, normal_numbers, normal_values}

module _ {table : List JobRecord} (normalisable : Normalisable table) where
  -- starts that the table permits keep the links of the normal form
  kept_links : (start : ℕ → ℕ) → Permitted table start → (l : Link) → Memᴰ (L l) (normal_form table) → start l.from + cost (normal_form table) l.from + l.latency ≤ start l.to
  kept_links start h l m =
      let r = (normal_link_member table l).0 m in
      let chain = gap_chain (gaps_right normalisable) r.0 r.1 r.2.chained in
      rw (r.3, (normal_values normalisable r.0 r.2.from).0) (omega (arith, chain_cost normalisable.sound chain, chain_grows normalisable.sound start h chain))

  -- starts that the normal form permits lie in the windows
  kept_windows : (start : ℕ → ℕ) → PermittedByNumber (normal_form table) start → (n : ℕ) → Memᴰ n (numbers table) → (earliest table n ≤ start n) × (start n ≤ latest table n)
  kept_windows start h n m = omega (arith, normal_values normalisable n m, h.windows n (rw (normal_numbers normalisable) m))

  -- and grow by every gap, written or not
  kept_gaps : (start : ℕ → ℕ) → PermittedByNumber (normal_form table) start → (i j : ℕ) → Memᴰ i (numbers table) → Memᴰ j (numbers table) → 0 < gap table i j → start i + gap table i j ≤ start j
  kept_gaps start h i j m n chained = go (ltb (earliest table j) (gap table i j + latest table i)) refl
    where
      go : (t : Bool) → ltb (earliest table j) (gap table i j + latest table i) ≡ t → start i + gap table i j ≤ start j
      go true e =
          let w : Written table i j = record { from = m; to = n; chained = chained; over = ltb-true _ _ e } in
          let kept = h.links i j (gap table i j - cost table i) ((normal_link_member table (link i j (gap table i j - cost table i))).1 (i, j, w, refl)) in
          omega (arith, (normal_values normalisable i m).0, kept)
      go false e = omega (arith, ltb-false (earliest table j) (gap table i j + latest table i) e, kept_windows start h i m, kept_windows start h j n)

  -- the normal form permits the same start times
  pub normal_permits : SameStarts table (normal_form table)
  normal_permits start = (
    λ h. (permitted_by_number (normal_form table) (normal_sound normalisable) start).1 (there h),
    λ h. (permitted_by_number table normalisable.sound start).1 (back ((permitted_by_number (normal_form table) (normal_sound normalisable) start).0 h)),
  )
    where
      there : Permitted table start → PermittedByNumber (normal_form table) start
      there h = record {
        windows = λ n m.
            let known : Memᴰ n (numbers table) = rw (normal_numbers normalisable) at m in
            omega (arith, normal_values normalisable n known, earliest_bounds normalisable.sound (gaps_right normalisable) start h n known, latest_bounds normalisable start h n known);
        links = λ i j l m. kept_links start h (link i j l) m;
      }

      back : PermittedByNumber (normal_form table) start → PermittedByNumber table start
      back h = record {
        windows = λ n m. omega (arith, kept_windows start h n m, release_earliest table n, latest_last table n, last_ends normalisable n m);
        links = λ i j l m.
            let g = link_gap normalisable.sound (gaps_right normalisable) i j l m in
            let k = link_known table normalisable.sound (link i j l) m in
            omega (arith, kept_gaps start h i j k.0 k.1 g.0);
      }

  -- and has the same job numbers with the same costs
  pub normal_jobs : SameJobs table (normal_form table)
  normal_jobs n c = Iff.trans (cost_by_number table normalisable.sound n c) (Iff.trans (there, back) (Iff.symm (cost_by_number (normal_form table) (normal_sound normalisable) n c)))
    where
      there : Memᴰ n (numbers table) × (cost table n ≡ c) → Memᴰ n (numbers (normal_form table)) × (cost (normal_form table) n ≡ c)
      there h = (rw (normal_numbers normalisable) h.0, (normal_values normalisable n h.0).0 ∙ h.1)

      back : Memᴰ n (numbers (normal_form table)) × (cost (normal_form table) n ≡ c) → Memᴰ n (numbers table) × (cost table n ≡ c)
      back h = let known : Memᴰ n (numbers table) = rw (normal_numbers normalisable) at h.0 in (known, sym (normal_values normalisable n known).0 ∙ h.1)

  -- it has no ring, and some starts are permitted, so that normalising does not refuse it
  pub normal_normalisable : Normalisable (normal_form table)
  unfolding Ring
  normal_normalisable = record { sound = normal_sound normalisable; ringless = ringless; starts = not_true_false _ (λ e. none_permitted (normal_sound normalisable) (gaps_right_lem (normal_sound normalisable) ringless) e (earliest table) permitted) }
    where
      permitted : Permitted (normal_form table) (earliest table)
      permitted = (normal_permits (earliest table)).0 (earliest_permitted normalisable)

      ringless : ring_in (gaps (normal_form table)) ≡ false
      ringless = not_true_false _ (λ e. let ring = ring_shown (normal_sound normalisable) e in
          omega (arith, chain_positive (normal_form table) (normal_sound normalisable) ring.2, chain_grows (normal_sound normalisable) (earliest table) permitted ring.2))
