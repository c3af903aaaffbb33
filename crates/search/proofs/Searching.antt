-- A search through the tree of states comes to what the definition of the search says: the tree of states is the tree of open sequences, each read as the state that it leads to.
-- A search through a list of open sequences counts up to the first full one, and the budget ends it where the count would pass it: by induction on the list.
use Prim.Native.Nat.{ℕ, zero, suc, ◌+◌, ◌-◌, ◌≤◌, ◌<◌}
use native.Mathlib.Nat.{zero-add}
use native.Mathlib.Numerals.{add-one}
use native.Mathlib.Omega.{arith}
use mathlib.Core.Path.{◌≡◌, refl, sym, ap, ◌∙◌}
use mathlib.Core.Bool.{Bool, true, false, cond}
use mathlib.Core.List.{List, [], ◌∷◌, ◌++◌, map, map-append, Memᴰ}
use Rattle.std.specs.Prelude.{Option, Some, None}
use lib.Dec.{eqb, ltb}
use lib.ListN.{length}
use borrow.Author.Tests.{eqb-true, eqb-false, eq-eqb, ne_eqb, ltb-true, ltb-false, lt-ltb, le-ltb}
use Rattle.laws.specs.Lists.{any, keep, only, count, Every}
use Rattle.laws.proofs.Members.{count_member}
use Rattle.records.specs.Outcome.{Outcome, done, refused}
use Rattle.records.specs.declared.JobRecord.{JobRecord}
use Rattle.jobs.specs.Judge.{Sound, is_job}
use Rattle.jobs.specs.Jobs.{numbers}
use Rattle.jobs.specs.Arrays.{jobs_of}
use Rattle.jobs.proofs.Sound.{numbers_member}
use Rattle.search.specs.declared.State.{State}
use Rattle.search.specs.Run.{free, run}
use Rattle.search.specs.Live.{live}
use Rattle.search.specs.Tree.{opens, try_each, open_from, open_sequences, first_full, up_to_full, schedule, openings}
use Rattle.search.specs.Order.{Open}
use Rattle.search.specs.Call.{decided, searched}
use Rattle.search.specs.State.{Given, given, place_at, slots_in, links_into, Node, node, try_each_at, states_from, opened, begun, walk}
use Rattle.search.proofs.Meanings.{live_means}
use Rattle.search.proofs.Rest.{sequence_length}
use Rattle.search.proofs.Opening.{opens_means, open_next, open_start, open_from_open}
use Rattle.search.proofs.TreeLaws.{walk_spent, walk_full, walk_on}
use Rattle.search.proofs.ByNumber.{limit, limit_most, numbers_kept, numbers_most}
use Rattle.search.proofs.States.{state_of}
use Rattle.search.proofs.Candidates.{candidate, candidate_known, candidate_unknown}
use Rattle.search.proofs.StateSlots.{slots_same}

module _ (table : List JobRecord) where
  -- the table as the code holds it
  abbrev pub held : Given
  held = given (jobs_of table).cost (jobs_of table).release (jobs_of table).deadline (links_into table) (limit table) (length (numbers table))

  -- a sequence read as a state of the tree
  abbrev pub to_node : List ℕ → Node
  to_node q = node (state_of table q) (length q)

module _ (table : List JobRecord) (sound : Sound table) where
  module _ (q : List ℕ) (o : Open table q) (below : State → List Node) (from : List ℕ → List (List ℕ))
      (same : (k : ℕ) → Memᴰ k (numbers table) → opens table q k ≡ true → below (state_of table (k ∷ q)) ≡ map (to_node table) (from (k ∷ q))) where
    -- what is found of one candidate, before what is found of those after it
    abbrev chosen : ℕ → List Node → Option ℕ → List Node
    chosen k later x = elim x as (λ y. List Node) [ Some e ↦ below (place_at (state_of table q) k e (length q)) ++ later | None ↦ later ]

    -- trying each of some numbers gives the states of the sequences that trying those of the table's jobs gives
    tried_same : (ks : List ℕ) → ((k : ℕ) → Memᴰ k ks → k < 48)
        → try_each_at (held table) below (state_of table q) (length q) ks ≡ map (to_node table) (try_each table from q (keep (λ n. any (is_job n) table) ks))
    unfolding try_each_at try_each state_of
    tried_same [] small = refl
    tried_same (k ∷ ks) small = step (any (is_job k) table) refl (tried_same ks (λ i m. small i (Memᴰ.tail m)))
      where
        later : List (List ℕ)
        later = try_each table from q (keep (λ n. any (is_job n) table) ks)

        below48 : k < 48
        below48 = small k (Memᴰ.head refl)

        opening : (t : Bool) → opens table q k ≡ t → Memᴰ k (numbers table)
            → chosen k (map (to_node table) later) (cond t (Some (free (run table (k ∷ q)))) None) ≡ map (to_node table) (elim t [ true ↦ from (k ∷ q) ++ later | false ↦ later ])
        opening true e known = ap (λ (l : List Node). l ++ map (to_node table) later) (same k known e) ∙ sym (map-append (to_node table) (from (k ∷ q)) later)
        opening false e known = refl

        kept : Bool → List Node
        kept t = map (to_node table) (try_each table from q (only t k ++ keep (λ n. any (is_job n) table) ks))

        step : (t : Bool) → any (is_job k) table ≡ t → try_each_at (held table) below (state_of table q) (length q) ks ≡ map (to_node table) later
            → try_each_at (held table) below (state_of table q) (length q) (k ∷ ks) ≡ map (to_node table) (try_each table from q (keep (λ n. any (is_job n) table) (k ∷ ks)))
        step true e ih =
            let known = (numbers_member table k).1 (below48, e) in
            ap (λ (l : List Node). chosen k l (candidate table sound q o k)) ih
            ∙ ap (chosen k (map (to_node table) later)) (candidate_known table sound q o k known)
            ∙ opening (opens table q k) refl known
            ∙ sym (ap kept e)
        step false e ih =
            ap (λ (l : List Node). chosen k l (candidate table sound q o k)) ih
            ∙ ap (chosen k (map (to_node table) later)) (candidate_unknown table sound q o k below48 e)
            ∙ sym (ap kept e)

  -- the states that go on from an open sequence's are those of the sequences that go on from it
  states_same : (n : ℕ) (q : List ℕ) → Open table q → states_from (held table) n (state_of table q) (length q) ≡ map (to_node table) (open_from table n q)
  unfolding states_from open_from
  states_same zero q o = refl
  states_same (suc n) q o =
      ap (λ (l : List Node). to_node table q ∷ l)
      (tried_same q o (λ t. states_from (held table) n t (length q + 1)) (open_from table n)
      (λ k known e. let both = (opens_means table q k known).0 e in next k (states_same n (k ∷ q) (open_next table o both.0 both.1))) (count 0 (limit table))
      (λ k m. omega (arith, (count_member 0 (limit table) k).0 m, limit_most table))
      ∙ ap (λ (ns : List ℕ). map (to_node table) (try_each table (open_from table n) q ns)) (numbers_kept table))
    where
      next : (k : ℕ) → states_from (held table) n (state_of table (k ∷ q)) (length (k ∷ q)) ≡ map (to_node table) (open_from table n (k ∷ q))
          → states_from (held table) n (state_of table (k ∷ q)) (length q + 1) ≡ map (to_node table) (open_from table n (k ∷ q))
      next k e = rw (add-one (length q)) e

  -- how many jobs there are
  abbrev jobs : ℕ
  jobs = length (numbers table)

  -- the first full one of some sequences and the count up to it, by whether they begin with it
  module _ (q : List ℕ) (qs : List (List ℕ)) where
    up_full : length q ≡ jobs → up_to_full jobs (q ∷ qs) ≡ 1
    unfolding up_to_full
    up_full e = rw (up_to_full, eq-eqb (length q) jobs e)

    up_on : (length q ≡ jobs → ⊥) → up_to_full jobs (q ∷ qs) ≡ up_to_full jobs qs + 1
    unfolding up_to_full
    up_on e = rw (up_to_full, ne_eqb (length q) jobs e)

    first_full_lem : length q ≡ jobs → first_full jobs (q ∷ qs) ≡ Some q
    unfolding first_full
    first_full_lem e = rw (first_full, eq-eqb (length q) jobs e)

    first_on : (length q ≡ jobs → ⊥) → first_full jobs (q ∷ qs) ≡ first_full jobs qs
    unfolding first_full
    first_on e = rw (first_full, ne_eqb (length q) jobs e)

    up_some : 0 < up_to_full jobs (q ∷ qs)
    up_some = step (eqb (length q) jobs) refl
      where
        step : (t : Bool) → eqb (length q) jobs ≡ t → 0 < up_to_full jobs (q ∷ qs)
        step true e = omega (arith, up_full (eqb-true (length q) jobs e))
        step false e = omega (arith, up_on (eqb-false (length q) jobs e))

  module _ (budget : ℕ) where
    -- what a search through some open sequences comes to, n being opened before: the first full one and the count up to it, if the budget allows
    unfoldable comes : List (List ℕ) → ℕ → Outcome
    comes qs n = elim (ltb budget (n + up_to_full jobs qs)) [ true ↦ refused 11 budget | false ↦ decided table (first_full jobs qs) (n + up_to_full jobs qs) ]

    comes_in : (qs : List (List ℕ)) (n m : ℕ) → n + up_to_full jobs qs ≡ m → m ≤ budget → comes qs n ≡ decided table (first_full jobs qs) m
    unfolding comes
    comes_in qs n m e h = rw (comes, le-ltb budget (n + up_to_full jobs qs) (omega arith)) (ap (decided table (first_full jobs qs)) e)

    comes_out : (qs : List (List ℕ)) (n : ℕ) → budget < n + up_to_full jobs qs → comes qs n ≡ refused 11 budget
    unfolding comes
    comes_out qs n h = rw (comes, lt-ltb budget (n + up_to_full jobs qs) h)

    -- with a sequence that is not full before them, it is the same, one opening later
    comes_on : (q : List ℕ) (qs : List (List ℕ)) (n : ℕ) → (length q ≡ jobs → ⊥) → comes (q ∷ qs) n ≡ comes qs (n + 1)
    comes_on q qs n other = step (ltb budget (n + 1 + up_to_full jobs qs)) refl
      where
        step : (t : Bool) → ltb budget (n + 1 + up_to_full jobs qs) ≡ t → comes (q ∷ qs) n ≡ comes qs (n + 1)
        step true e =
            let h = ltb-true budget (n + 1 + up_to_full jobs qs) e in
            comes_out (q ∷ qs) n (omega (arith, up_on q qs other)) ∙ sym (comes_out qs (n + 1) h)
        step false e =
            let h = ltb-false budget (n + 1 + up_to_full jobs qs) e in
            comes_in (q ∷ qs) n (n + 1 + up_to_full jobs qs) (omega (arith, up_on q qs other)) h
            ∙ ap (λ (first : Option (List ℕ)). decided table first (n + 1 + up_to_full jobs qs)) (first_on q qs other)
            ∙ sym (comes_in qs (n + 1) (n + 1 + up_to_full jobs qs) refl h)

    walk_comes : (qs : List (List ℕ)) → Every (Open table) qs → (n : ℕ) → n ≤ budget → walk (held table) budget (map (to_node table) qs) n ≡ comes qs n
    unfolding walk first_full up_to_full decided
    walk_comes [] h n within = sym (comes_in [] n n (omega arith) within)
    walk_comes (q ∷ qs) h n within = step (eqb n budget) refl (eqb (length q) jobs) refl (walk_comes qs h.1 (n + 1))
      where
        short : length q ≤ 48
        short = omega (arith, sequence_length table sound q h.0.sequence, numbers_most table)

        step : (p : Bool) → eqb n budget ≡ p → (t : Bool) → eqb (length q) jobs ≡ t
            → (n + 1 ≤ budget → walk (held table) budget (map (to_node table) qs) (n + 1) ≡ comes qs (n + 1))
            → walk (held table) budget (map (to_node table) (q ∷ qs)) n ≡ comes (q ∷ qs) n
        step true e t f ih =
            walk_spent (held table) budget (to_node table q) (map (to_node table) qs) n (eqb-true n budget e)
            ∙ sym (comes_out (q ∷ qs) n (omega (arith, up_some q qs, eqb-true n budget e)))
        step false e true f ih =
            let all : length q ≡ jobs = eqb-true (length q) jobs f in
            let before : n ≡ budget → ⊥ = eqb-false n budget e in
            walk_full (held table) budget (to_node table q) (map (to_node table) qs) n before all
            ∙ ap (done (n + 1)) (ap (slots_in (jobs_of table).cost (state_of table q).order (state_of table q).ends) (sym all) ∙ slots_same table sound q h.0.sequence short)
            ∙ ap (λ (first : Option (List ℕ)). decided table first (n + 1)) (sym (first_full_lem q qs all))
            ∙ sym (comes_in (q ∷ qs) n (n + 1) (ap (λ i. n + i) (up_full q qs all)) (omega arith))
        step false e false f ih =
            let other : length q ≡ jobs → ⊥ = eqb-false (length q) jobs f in
            let before : n ≡ budget → ⊥ = eqb-false n budget e in
            walk_on (held table) budget (to_node table q) (map (to_node table) qs) n before other ∙ ih (omega arith) ∙ sym (comes_on q qs n other)

    -- the definition of the search is what a search through all open sequences comes to
    searched_comes : (qs : List (List ℕ)) → open_sequences table ≡ qs → searched table budget ≡ comes qs 0
    unfolding searched schedule openings comes
    searched_comes qs e =
        ap (λ (qs : List (List ℕ)). choice qs (up_to_full jobs qs)) e ∙ ap (choice qs) (sym (zero-add (up_to_full jobs qs)))
      where
        choice : List (List ℕ) → ℕ → Outcome
        choice qs n = elim (ltb budget n) [ true ↦ refused 11 budget | false ↦ decided table (first_full jobs qs) n ]

    -- where the empty sequence is live, so does a search through the tree of states from the beginning
    pub search_live : live table [] ≡ true → walk (held table) budget (opened (held table) (begun (jobs_of table).present) 0) 0 ≡ searched table budget
    unfolding opened state_of open_sequences
    search_live e =
        let o : Open table [] = open_start table ((live_means table []).0 e) in
        let whole : jobs - 0 ≡ jobs = omega arith in
        ap (λ n. walk (held table) budget (states_from (held table) n (state_of table []) 0) 0) whole
        ∙ ap (λ (xs : List Node). walk (held table) budget xs 0) (states_same jobs [] o)
        ∙ walk_comes (open_from table jobs []) (open_from_open table jobs [] o) 0 (omega arith)
        ∙ sym (searched_comes (open_from table jobs []) (rw (open_sequences, e)))

    -- and where it is not, the answer is 10 with no opening
    pub search_dead : live table [] ≡ false → refused 10 0 ≡ searched table budget
    unfolding open_sequences first_full up_to_full decided
    search_dead e = sym (searched_comes [] (rw (open_sequences, e)) ∙ comes_in [] 0 0 (omega arith) (omega arith))
