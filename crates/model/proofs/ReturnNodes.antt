-- A pattern's return nodes, in the order of their positions: how many they are, that they are nodes of the pattern, and where
-- a list of their images holds which image. Assumes nothing.
use Prim.Native.Nat.{ℕ, ◌-◌, ◌≤◌, ◌<◌}
use mathlib.Core.Path.{◌≡◌, ap, ◌∙◌, subst}
use mathlib.Core.List.Memᴰ
use mathlib.Core.List.{map, Memᴰ}
use native.Mathlib.Omega.{arith}
use lib.ListN.{length, get_or}
use Rattle.model.specs.Lists.{up_from}
use Rattle.model.specs.Pattern.{Pattern, position, arity, node_at, return_nodes}
use Rattle.model.specs.Facts.{PatternFacts}
use Rattle.model.proofs.ListLaws.{get_or_map, up_from-mem, length-map-up_from, get_or-map-up_from}

pub length-return_nodes : (P : Pattern) → length (return_nodes P) ≡ arity P
length-return_nodes P = length-map-up_from (node_at P) 1 (arity P)

-- the return nodes are nodes of the pattern
pub return-inside : {P : Pattern} → PatternFacts P → (q : ℕ) → Memᴰ q (return_nodes P) → q < length P
return-inside {P} f q m =
    let r = Memᴰ.of_map (node_at P) (up_from 1 (arity P)) m in
    let k = up_from-mem 1 (arity P) r.0 r.1 in
    subst (λ (x : ℕ). x < length P) r.2 (f.holds r.0 k.0 (omega arith))

-- at place p - 1 stands the image of the node that holds position p
pub return-at : (P : Pattern) (e : ℕ → ℕ) (p : ℕ) → 1 ≤ p → p ≤ arity P → get_or (map e (return_nodes P)) (p - 1) 0 ≡ e (node_at P p)
return-at P e p h k =
    let l : length (return_nodes P) ≡ arity P = length-return_nodes P in
    get_or_map e (return_nodes P) (p - 1) 0 0 (omega arith)
    ∙ ap e (get_or-map-up_from (node_at P) 1 (arity P) (p - 1) 0 (omega arith) ∙ ap (node_at P) (omega arith))

-- so at the position of a return node stands the node's image
pub returns-at : {P : Pattern} (e : ℕ → ℕ) (q : ℕ) → PatternFacts P → q < length P → 0 < position P q → get_or (map e (return_nodes P)) (position P q - 1) 0 ≡ e q
returns-at {P} e q f h p = return-at P e (position P q) p (f.range q h) ∙ ap e (f.once q h p)
