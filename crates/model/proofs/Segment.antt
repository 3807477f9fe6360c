-- One chain of new nodes, hung from a node and led down to the image of its pattern node: what each of its nodes is.
-- Assumes nothing.
use Prim.Native.Nat.{ℕ, suc, ◌+◌, ◌≤◌, ◌<◌}
use mathlib.Core.Path.{◌≡◌, refl, sym, ap, ◌∙◌, subst}
use mathlib.Core.Bool.{Bool, true, false}
use mathlib.Core.Logic.{◌⊎◌, inl, inr}
use mathlib.Core.List.{List, [], ◌∷◌, ◌++◌, nil≢cons}
use native.Mathlib.Omega.{arith}
use lib.Dec.{eqb}
use lib.ListN.{length, get_or}
use lib.Seq.{get_or-append_seam}
use borrow.Author.Tests.{eqb-true, eqb-false}
use Rattle.model.specs.Tree.{IsTree, Child}
use Rattle.model.specs.Summary.{Summary, as_document}
use Rattle.model.specs.Canonical.{Spot, root_spot, spot_parent, spot_at, chain, append_chain}
use Rattle.model.proofs.ListLaws.{length-snoc}
use Rattle.model.proofs.TreeLaws.{child-lt}
use Rattle.model.proofs.Chains.{Way, end, step, way-bound, chain-way}
use Rattle.model.proofs.Laid.{spot_owner, spot_filled, ChainChild}
use Rattle.model.proofs.Built.{Extends, extends-refl, extends-trans, extends-snoc}

-- a node of pattern node q's chain, under v and on x
abbrev pub chain_spot : ℕ → ℕ → ℕ → Spot
chain_spot q v x = record { parent = v; at = x; owner = q; filled = false }

-- such a node is the chain's child of v
pub chain-spot-child : {T : List Spot} {q v x : ℕ} (n : ℕ) → get_or T n root_spot ≡ chain_spot q v x → 0 < n → n < length T → ChainChild T v q x
chain-spot-child n s p h =
    record {
      node = n;
      child = record { not_root = p; inside = h; is_parent = ap (λ (k : Spot). k.parent) s };
      owner = ap (λ (k : Spot). k.owner) s;
      unfilled = ap (λ (k : Spot). k.filled) s;
      on = ap (λ (k : Spot). k.at) s;
    }

-- the nodes from number n on are the chain xs of pattern node q, hung from v
abbrev pub Segment : List Spot → ℕ → ℕ → ℕ → List ℕ → Type 0
Segment T q v n [] = Unit {0}
Segment T q v n (x ∷ xs) = (get_or T n root_spot ≡ chain_spot q v x) × Segment T q n (suc n) xs

-- appending a chain extends the table by that segment
pub record Appended (q : ℕ) (spots : List Spot) (v : ℕ) (xs : List ℕ) (T : List Spot) : Type 0 where
  pub extends : Extends spots T
  pub size : length T ≡ length spots + length xs
  pub segment : Segment T q v (length spots) xs

pub append-chain : (q : ℕ) (spots : List Spot) (v : ℕ) (xs : List ℕ) → Appended q spots v xs (append_chain q spots v xs)
unfolding append_chain
append-chain q spots v [] = record { extends = extends-refl spots; size = omega arith; segment = tt }
append-chain q spots v (x ∷ xs) =
    let s : Spot = chain_spot q v x in
    let T : List Spot = append_chain q (spots ++ s ∷ []) (length spots) xs in
    let n : length (spots ++ s ∷ []) ≡ suc (length spots) = length-snoc spots s in
    let r : Appended q (spots ++ s ∷ []) (length spots) xs T = append-chain q (spots ++ s ∷ []) (length spots) xs in
    let z : length T ≡ length (spots ++ s ∷ []) + length xs = r.size in
    record {
      extends = extends-trans (extends-snoc spots s) r.extends;
      size = omega arith;
      segment = (r.extends.same (length spots) (omega arith) ∙ get_or-append_seam spots s [] root_spot, subst (λ (k : ℕ). Segment T q (length spots) k xs) n r.segment);
    }

-- node i of a segment from n on is the first, and hangs from v, or it hangs from the one before it
abbrev pub Hangs : List Spot → ℕ → ℕ → ℕ → Type 0
Hangs T v n i = ((i ≡ n) × (spot_parent T i ≡ v)) ⊎ ((n ≤ spot_parent T i) × (suc (spot_parent T i) ≡ i))

-- node i of the segment of k nodes from n on, hung from v, in a chain down to b
pub record SegmentNode (S : Summary) (T : List Spot) (q b v n k i : ℕ) : Type 0 where
  pub owner : spot_owner T i ≡ q
  pub unfilled : spot_filled T i ≡ false
  pub hangs : Hangs T v n i
  pub edge : Child (as_document S) (spot_at T (spot_parent T i)) (spot_at T i)
  pub chained : chain S (spot_at T (spot_parent T i)) b ≡ spot_at T i ∷ chain S (spot_at T i) b
  pub next : (x : ℕ) (xs : List ℕ) → chain S (spot_at T i) b ≡ x ∷ xs → ChainChild T i q x
  pub above : spot_at T v < spot_at T i
  pub last : spot_at T i ≡ b → suc i ≡ n + k
  pub ends : suc i ≡ n + k → spot_at T i ≡ b
  pub lowest : chain S (spot_at T i) b ≡ [] → spot_at T i ≡ b

module _ (S : Summary) (tree : IsTree (as_document S)) (T : List Spot) (q b : ℕ) where
  -- the first node of a segment
  head : {a x : ℕ} {xs : List ℕ} (v n : ℕ) → Child (as_document S) a x → Way (as_document S) b x xs → spot_at T v ≡ a
      → Segment T q v n (x ∷ xs) → n + suc (length xs) ≤ length T → SegmentNode S T q b v n (suc (length xs)) n
  head {a} {x} {xs} v n c w e s fits =
      let here : get_or T n root_spot ≡ chain_spot q v x = s.0 in
      let on : spot_at T n ≡ x = ap (λ (z : Spot). z.at) here in
      let under : spot_parent T n ≡ v = ap (λ (z : Spot). z.parent) here in
      let rest : chain S (spot_at T n) b ≡ xs = ap (λ (z : ℕ). chain S z b) on ∙ chain-way S tree w in
      let up : spot_at T (spot_parent T n) ≡ a = ap (λ (z : ℕ). spot_at T z) under ∙ e in
      let lt : a < x = child-lt tree c in
      let le : x ≤ b = way-bound tree w in
      record {
        owner = ap (λ (z : Spot). z.owner) here;
        unfilled = ap (λ (z : Spot). z.filled) here;
        hangs = inl (refl, under);
        edge = rw (up, on) c;
        chained = ap (λ (z : ℕ). chain S z b) up ∙ (chain-way S tree (step c w) ∙ (cc (on, rest)));
        next = λ y ys p. next_of y ys (sym rest ∙ p);
        above = rw (e, on) lt;
        last = λ p. last_of w (sym on ∙ p);
        ends = λ p. on ∙ ends_of w p;
        lowest = λ p. on ∙ lowest-of w (sym rest ∙ p);
      }
    where
      next_of : (y : ℕ) (ys : List ℕ) → xs ≡ y ∷ ys → ChainChild T n q y
      next_of y ys p =
          let t : Segment T q n (suc n) (y ∷ ys) = subst (λ (l : List ℕ). Segment T q n (suc n) l) p s.1 in
          let z : length xs ≡ suc (length ys) = ap (λ (l : List ℕ). length l) p in
          chain-spot-child (suc n) t.0 (omega arith) (omega arith)

      last_of : {ys : List ℕ} → Way (as_document S) b x ys → x ≡ b → suc n ≡ n + suc (length ys)
      last_of (end p) h = omega arith
      last_of (step {x = y} k u) h =
          let lt : x < y = child-lt tree k in
          let le : y ≤ b = way-bound tree u in
          absurd (omega arith)

      ends_of : {ys : List ℕ} → Way (as_document S) b x ys → suc n ≡ n + suc (length ys) → x ≡ b
      ends_of (end p) h = p
      ends_of (step k u) h = absurd (omega arith)

      lowest-of : {ys : List ℕ} → Way (as_document S) b x ys → ys ≡ [] → x ≡ b
      lowest-of (end p) h = p
      lowest-of (step k u) h = absurd (nil≢cons (sym h))

  -- each node of a segment
  pub segment-node : {a : ℕ} {xs : List ℕ} (v n : ℕ) → Way (as_document S) b a xs → spot_at T v ≡ a → Segment T q v n xs → n + length xs ≤ length T
      → (i : ℕ) → n ≤ i → i < n + length xs → SegmentNode S T q b v n (length xs) i
  segment-node v n (end p) e s fits i l h = absurd (omega arith)
  segment-node v n (step {x = x} {xs = xs} c w) e s fits i l h =
      go (eqb i n) refl (λ p. segment-node n (suc n) w (ap (λ (z : Spot). z.at) s.0) s.1 (omega arith) i p (omega arith))
    where
      lower : SegmentNode S T q b n (suc n) (length xs) i → SegmentNode S T q b v n (suc (length xs)) i
      lower r =
          let first = head v n c w e s fits in
          record {
            owner = r.owner;
            unfilled = r.unfilled;
            hangs = hung r.hangs;
            edge = r.edge;
            chained = r.chained;
            next = r.next;
            above = let p = r.above in let k = first.above in omega arith;
            last = λ p. let k = r.last p in omega arith;
            ends = λ p. r.ends (omega arith);
            lowest = r.lowest;
          }
        where
          hung : Hangs T n (suc n) i → Hangs T v n i
          hung (inl p) = let a = p.0 in let b' = p.1 in inr (omega arith, omega arith)
          hung (inr p) = let a = p.0 in inr (omega arith, p.1)

      go : (t : Bool) → eqb i n ≡ t → (n < i → SegmentNode S T q b n (suc n) (length xs) i) → SegmentNode S T q b v n (suc (length xs)) i
      go true p rec = subst (λ (k : ℕ). SegmentNode S T q b v n (suc (length xs)) k) (sym (eqb-true i n p)) (head v n c w e s fits)
      go false p rec = let ne : i ≡ n → ⊥ = eqb-false i n p in lower (rec (omega arith))

  -- further down a segment the summary nodes are greater
  pub segment-rises : {a : ℕ} {xs : List ℕ} (v n : ℕ) → Way (as_document S) b a xs → spot_at T v ≡ a → Segment T q v n xs → n + length xs ≤ length T
      → (i j : ℕ) → n ≤ i → i < j → j < n + length xs → spot_at T i < spot_at T j
  segment-rises v n (end p) e s fits i j l k h = absurd (omega arith)
  segment-rises v n (step {x = x} {xs = xs} c w) e s fits i j l k h =
      go (eqb i n) refl (λ p. segment-rises n (suc n) w on s.1 (omega arith) i j p k (omega arith))
    where
      on : spot_at T n ≡ x
      on = ap (λ (z : Spot). z.at) s.0

      go : (t : Bool) → eqb i n ≡ t → (n < i → spot_at T i < spot_at T j) → spot_at T i < spot_at T j
      go true p rec =
          let r = segment-node n (suc n) w on s.1 (omega arith) j (let m = eqb-true i n p in omega arith) (omega arith) in
          subst (λ (z : ℕ). spot_at T z < spot_at T j) (sym (eqb-true i n p)) r.above
      go false p rec = let ne : i ≡ n → ⊥ = eqb-false i n p in rec (omega arith)
