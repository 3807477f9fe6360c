-- A chain climbed from its lower end fills a mask whose members in ascending order are the chain, top first, since a parent has a
-- smaller number than its child; and the members are appended one by one. Assumes nothing.
use Prim.Native.Nat.{ℕ, suc, ◌+◌, ◌^◌, ◌≤◌, ◌<◌}
use mathlib.Core.Path.{◌≡◌, refl, sym, ap, ap₂, ◌∙◌, subst}
use mathlib.Core.Bool.{Bool, false, ◌||◌}
use mathlib.Core.Logic.{◌⊎◌, inl, inr}
use mathlib.Core.List.Memᴰ
use mathlib.Core.List.{List, [], ◌∷◌, ◌++◌, append-nil, append_assoc, Memᴰ}
use native.Mathlib.Omega.{arith}
use lib.Bits.{bit_or}
use lib.ListN.{length}
use borrow.Author.Tests.{ne_eqb}
use Rattle.model.specs.Limits.{max_summary, max_canonical}
use Rattle.model.specs.Lists.{has, members}
use Rattle.model.specs.Tree.{Document, IsTree, Child, Below, parent_of, AtOrBelow}
use Rattle.model.specs.Summary.{Summary, as_document, summary_parent}
use Rattle.model.specs.Canonical.{Spot, chain, append_chain}
use Rattle.model.proofs.TreeLaws.{below-cases, child-lt, length-as_document}
use Rattle.model.proofs.Chains.{Way, end, step, way-append, at-or-below-way, chain-way, chain-self}
use Rattle.model.proofs.Segment.{chain_spot, append-chain}
use Rattle.bits.proofs.MaskLaws.{has-none, has-insert}
use Rattle.bits.proofs.MaskMembers.{members-none, members-insert}
use Rattle.canonical.specs.Draft.{Tables, Drafted, appended}
use Rattle.canonical.specs.Given.{Hanging, Hung}
use Rattle.canonical.proofs.DraftLaws.{SameLengths, appended-same, drafted-by, drafted-append}

-- ---- a chain from its lower end

-- the chain down to a child of b is the chain down to b and the child
chain_snoc : (S : Summary) (a b c : ℕ) → IsTree (as_document S) → AtOrBelow (as_document S) a b → Child (as_document S) b c → chain S a c ≡ chain S a b ++ c ∷ []
chain_snoc S a b c t r k =
    let w = at-or-below-way r in
    chain-way S t (way-append w.1 (step k (end refl))) ∙ ap (λ (xs : List ℕ). xs ++ c ∷ []) (sym (chain-way S t w.1))

-- what is below a node is reached from its parent
climb : {D : Document} {a b : ℕ} → AtOrBelow D a b → (b ≡ a → ⊥) → AtOrBelow D a (parent_of D b) × Child D (parent_of D b) b
climb (inl p) ne = absurd (ne (sym p))
climb {D} {a} {b} (inr d) ne = go (below-cases d)
  where
    go : Child D a b ⊎ (Below D a (parent_of D b) × (0 < b) × (b < length D)) → AtOrBelow D a (parent_of D b) × Child D (parent_of D b) b
    go (inl c) = (inl (sym c.is_parent), record { not_root = c.not_root; inside = c.inside; is_parent = refl })
    go (inr r) = (inr r.0, record { not_root = r.1; inside = r.2; is_parent = refl })

-- the nodes of a chain are the summary's
way-inside : {D : Document} {b a x : ℕ} {xs : List ℕ} → Way D b a xs → Memᴰ x xs → x < length D
way-inside (end p) m = absurd (Memᴰ.not-nil m)
way-inside {D} {x = x} (step {x = y} {xs = ys} c w) m = go (Memᴰ.cases_cons m) (λ k. way-inside w k)
  where
    go : (x ≡ y) ⊎ Memᴰ x ys → (Memᴰ x ys → x < length D) → x < length D
    go (inl p) f = subst (λ (k : ℕ). k < length D) (sym p) c.inside
    go (inr k) f = f k

chain-inside : (S : Summary) {a b x : ℕ} → IsTree (as_document S) → AtOrBelow (as_document S) a b → Memᴰ x (chain S a b) → x < length S
chain-inside S {x = x} t r m =
    let w = at-or-below-way r in
    subst (λ (n : ℕ). x < n) (length-as_document S) (way-inside w.1 (subst (λ (l : List ℕ). Memᴰ x l) (chain-way S t w.1) m))

-- ---- the climb from b up to a

-- the nodes below x are in the mask
pub record Climbing (S : Summary) (a b x nodes : ℕ) : Type 0 where
  pub reach : AtOrBelow (as_document S) a x
  pub below : (i : ℕ) → i ≤ x → has nodes i ≡ false
  pub whole : chain S a x ++ members nodes ≡ chain S a b

module _ {S : Summary} {a b : ℕ} where
  pub climbing-start : AtOrBelow (as_document S) a b → Climbing S a b b 0
  climbing-start r = record { reach = r; below = λ i h. has-none i; whole = ap (λ (l : List ℕ). chain S a b ++ l) members-none ∙ append-nil (chain S a b) }

  module _ {x nodes : ℕ} (g : Climbing S a b x nodes) where
    pub climbing-end : x ≡ a → members nodes ≡ chain S a b
    climbing-end p = sym (ap (λ (l : List ℕ). l ++ members nodes) (ap (chain S a) p ∙ chain-self S a)) ∙ g.whole

    module _ (ne : x ≡ a → ⊥) where
      pub climbing-inside : x < length S
      climbing-inside = subst (λ (n : ℕ). x < n) (length-as_document S) (climb g.reach ne).1.inside

      -- from here on, with the parent that is read
      module _ (tree : IsTree (as_document S)) {up : ℕ} (e : up ≡ summary_parent S x) where
        pub climbing-less : up < x
        climbing-less = subst (λ (k : ℕ). k < x) (sym e) (child-lt tree (climb g.reach ne).1)

        pub climbing-next : {more : ℕ} → length S ≤ max_summary → more ≡ bit_or nodes (2 ^ x) → Climbing S a b up more
        climbing-next {more} few m =
            record {
              reach = subst (λ (k : ℕ). AtOrBelow (as_document S) a k) (sym e) r.0;
              below = λ i h.
                  ap (λ (k : ℕ). has k i) m ∙ has-insert nodes x i
                  ∙ ap₂ (λ (b c : Bool). b || c) (g.below i (let l = climbing-less in omega arith)) (ne_eqb i x (λ p. let l = climbing-less in omega arith));
              whole =
                  ap₂ (λ (xs ys : List ℕ). xs ++ ys) (ap (chain S a) e) (ap members m ∙ members-insert nodes x (let l = climbing-inside in omega arith) g.below)
                  ∙ sym (append_assoc (chain S a (summary_parent S x)) (x ∷ []) (members nodes))
                  ∙ ap (λ (xs : List ℕ). xs ++ members nodes) (sym (chain_snoc S a (summary_parent S x) x tree r.0 r.1)) ∙ g.whole;
            }
          where
            r : AtOrBelow (as_document S) a (summary_parent S x) × Child (as_document S) (summary_parent S x) x
            r = climb g.reach ne

-- ---- a chain appended

pub append-length : (q : ℕ) (spots : List Spot) (v : ℕ) (xs : List ℕ) → length (append_chain q spots v xs) ≡ length spots + length xs
append-length q spots v xs = (append-chain q spots v xs).size

-- nodes that lead to the whole when xs are hung from v
pub record Leading (S : Summary) (q : ℕ) (base now : Tables) (v total : ℕ) (xs : List ℕ) (whole : List Spot) : Type 0 where
  pub spots : List Spot
  pub drafted : Drafted S spots base now total
  pub leads : append_chain q spots v xs ≡ whole

-- the nodes xs are hung from w, one from the other, but for those left, the first of which is to hang from v
pub record Chaining (S : Summary) (xs : List ℕ) (w count : ℕ) (before now : Tables) (v total : ℕ) (left : List ℕ) : Type 0 where
  pub hangs : v < total
  pub same : SameLengths now before
  pub counted : total + length left ≡ count + length xs
  pub room : total + length left ≤ max_canonical
  pub inside : (x : ℕ) → Memᴰ x left → x < length S
  pub grown : (q : ℕ) (spots : List Spot) (base : Tables) → Drafted S spots base before count → Leading S q base now v total left (append_chain q spots w xs)

pub chaining-start : {S : Summary} {a b w count : ℕ} {xs : List ℕ} {before : Tables} → IsTree (as_document S) → Hanging S a b w count → xs ≡ chain S a b
    → Chaining S xs w count before before w count xs
chaining-start {S} {count = count} t h e =
    record {
      hangs = h.hangs;
      same = record { bytes = refl; on = refl; kids = refl };
      counted = refl;
      room = subst (λ (l : List ℕ). count + length l ≤ max_canonical) (sym e) h.room;
      inside = λ x m. chain-inside S t h.reach (subst (λ (l : List ℕ). Memᴰ x l) e m);
      grown = λ q spots base c. record { spots = spots; drafted = c; leads = refl };
    }

module _ {S : Summary} {xs : List ℕ} {w count : ℕ} {before now : Tables} {v total : ℕ} {left : List ℕ} (g : Chaining S xs w count before now v total left) where
  pub chaining-end : {a b : ℕ} → xs ≡ chain S a b → left ≡ [] → Hung S a b w count before now total
  unfolding append_chain
  chaining-end {a} {b} e none =
      let n : length left ≡ 0 = ap (λ (l : List ℕ). length l) none in
      let m : length xs ≡ length (chain S a b) = ap (λ (l : List ℕ). length l) e in
      record {
        counted = let k = g.counted in omega arith;
        grown = λ q spots base c.
            let l = g.grown q spots base c in
            subst (λ (T : List Spot). Drafted S T base now total) (ap (append_chain q l.spots v) (sym none) ∙ l.leads ∙ ap (append_chain q spots w) e) l.drafted;
      }

  -- x is the next
  module _ {x : ℕ} {others : List ℕ} (next : left ≡ x ∷ others) where
    pub chaining-inside : x < length S
    chaining-inside = g.inside x (subst (λ (l : List ℕ). Memᴰ x l) (sym next) (Memᴰ.head refl))

    pub chaining-room : total < max_canonical
    chaining-room =
        let n : length left ≡ suc (length others) = ap (λ (l : List ℕ). length l) next in
        let r = g.room in
        omega arith

    -- and is appended
    pub chaining-next : {n : ℕ} {after : Tables} → length S ≤ max_summary → n ≡ total + 1 → after ≡ appended S now total v x → Chaining S xs w count before after total n others
    unfolding append_chain
    chaining-next {n} {after} few en ea =
        let k : length left ≡ suc (length others) = ap (λ (l : List ℕ). length l) next in
        record {
          hangs = omega arith;
          same = subst (λ (t : Tables). SameLengths t before) (sym ea) (let s = appended-same S now total v x in let t = g.same in omega arith);
          counted = let c = g.counted in omega arith;
          room = let r = g.room in omega arith;
          inside = λ y m. g.inside y (subst (λ (l : List ℕ). Memᴰ y l) (sym next) (Memᴰ.tail m));
          grown = λ q spots base c.
              let l = g.grown q spots base c in
              let d = l.drafted in
              record {
                spots = l.spots ++ chain_spot q v x ∷ [];
                drafted = drafted-by ea en (drafted-append d (chain_spot q v x) g.hangs chaining-inside few chaining-room);
                leads = ap (λ (k : ℕ). append_chain q (l.spots ++ chain_spot q v x ∷ []) k others) d.counted ∙ ap (append_chain q l.spots v) (sym next) ∙ l.leads;
              };
        }
