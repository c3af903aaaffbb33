-- `absent` meets its contract: each mark is turned round. Assumes nothing.
use Rattle.std.proofs.Common.{◌≡◌, ℕ, ◌<◌, Bool, true, false, not, List, map, length, get_or, refl, sym, ap, ◌∙◌, arith, rules}
use Rattle.std.proofs.lemmas.List.{same_lists}
use lib.ListN.{length-map, get_or-map}
use Rattle.search.proofs.absent.Goals as goal

twice : (d : Bool) → not (not d) ≡ d
twice true = refl
twice false = refl

turned : (xs ys : List Bool) (n : ℕ) → length xs ≡ n → length ys ≡ n → ((k : ℕ) (d e : Bool) → k < n → get_or ys k e ≡ not (get_or xs k d)) → ys ≡ map not xs
turned xs ys n long also h =
    same_lists ys (map not xs) (omega (arith, length-map xs not))
    (λ k d below. h k (not d) d (omega arith) ∙ sym (get_or-map not xs k (not d)) ∙ ap (get_or (map not xs) k) (twice d))

pub returns : goal.returns
returns c = turned _ _ 48 (search rules) c.map.ensures.items.long (λ k d e below. let call = c.map.ensures.items.at k d e below in search rules)
