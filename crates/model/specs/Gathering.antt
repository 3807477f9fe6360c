-- How a tree's list can be had from its last node to its first: each subtree, complete when its root's turn comes, goes into its parent's.
-- proofs/Gathering.antt shows that this gives the list of specs/Normal.antt.
use Rattle.std.specs.Prelude.{ℕ, suc, ◌-◌, Bool, true, false, ◌&&◌, eqb, length, get_or, take, drop}
use mathlib.Core.List.{List, [], ◌∷◌, ◌++◌, map, flatten}
use Rattle.model.specs.Lists.{up_from, keep}
use Rattle.model.specs.Pattern.{Pattern}
use Rattle.model.specs.Normal.{ordered, Entry, no_entry, by_subtree, by_written, is_child_of, preorder}

-- the subtree at node i, as far as children from number k on stand in it
unfoldable pub gathered : Pattern → ℕ → ℕ → List ℕ
gathered P k i = i ∷ flatten (ordered (by_written by_subtree P) (map (preorder by_subtree (length P) P) (keep (is_child_of P i) (up_from k (length P - k)))))

-- the list s goes on with a subtree as deep as r, which r does not come after
unfoldable pub opens : List Entry → List Entry → Bool
opens r s = eqb (get_or s 0 no_entry).depth (get_or r 0 no_entry).depth && by_subtree r s

-- the first place of a list from which it goes on so, or its end
unfoldable pub place_in : List Entry → List Entry → ℕ
place_in r [] = 0
place_in r (e ∷ es) = elim (opens r (e ∷ es)) [ true ↦ 0 | false ↦ suc (place_in r es) ]

-- the subtree r put into its parent's list s there
unfoldable pub joined : List Entry → List Entry → List Entry
joined r s = take (place_in r s) s ++ (r ++ drop (place_in r s) s)
