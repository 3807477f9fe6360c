-- The way down from a node to one at or below it, child by child: there is one to every descendant, and the chain of a summary
-- is that way. So a chain from a node to itself is empty, and any other begins with the child through which it goes. Assumes
-- nothing.
use Prim.Native.Nat.{ℕ, zero, suc, ◌≤◌, ◌<◌}
use mathlib.Core.Path.{◌≡◌, refl, sym, ap, ◌∙◌, subst}
use mathlib.Core.Logic.{inl, inr}
use mathlib.Core.List.{List, [], ◌∷◌, ◌++◌, append-nil, append_assoc}
use native.Mathlib.Omega.{arith}
use native.Mathlib.Nat.{le_refl}
use borrow.Author.Tests.{eq-eqb, ne_eqb}
use Rattle.model.specs.Tree.{Document, IsTree, Child, Below, once, down, AtOrBelow, Hom}
use Rattle.model.specs.Summary.{Summary, as_document}
use Rattle.model.specs.Canonical.{chain_in, chain}
use Rattle.model.proofs.TreeLaws.{child-lt, below-trans, hom-below}

-- ---- at or below

pub hom-at-or-below : {W D : Document} {h : ℕ → ℕ} {a b : ℕ} → Hom W D h → AtOrBelow W a b → AtOrBelow D (h a) (h b)
hom-at-or-below {h = h} m (inl p) = inl (ap h p)
hom-at-or-below m (inr d) = inr (hom-below m d)

pub child-below : {W : Document} {a c b : ℕ} → Child W a c → AtOrBelow W c b → Below W a b
child-below {W} {a} k (inl p) = once (subst (Child W a) p k)
child-below k (inr d) = below-trans (once k) d

-- ---- ways

-- the nodes xs lead from a down to b, child by child
pub data Way (D : Document) (b : ℕ) : ℕ → List ℕ → Type 0 where
  end : {a : ℕ} → a ≡ b → Way D b a []
  step : {a x : ℕ} {xs : List ℕ} → Child D a x → Way D b x xs → Way D b a (x ∷ xs)

-- a way goes on below where another ends
pub way-append : {D : Document} {b a c : ℕ} {xs ys : List ℕ} → Way D b a xs → Way D c b ys → Way D c a (xs ++ ys)
way-append {D} {c = c} {ys = ys} (end p) w = subst (λ (x : ℕ). Way D c x ys) (sym p) w
way-append (step k v) w = step k (way-append v w)

-- a descendant is reached through a child
pub below-way : {D : Document} {a b : ℕ} → Below D a b → (x : ℕ) × (xs : List ℕ) × Child D a x × Way D b x xs
below-way {b = b} (once c) = (b, [], c, end refl)
below-way {D} {a} (down {b = m} {c = b} d c) =
    let r : (x : ℕ) × (xs : List ℕ) × Child D a x × Way D m x xs = below-way d in
    (r.0, r.1 ++ b ∷ [], r.2, way-append r.3 (step c (end refl)))

pub at-or-below-way : {D : Document} {a b : ℕ} → AtOrBelow D a b → (xs : List ℕ) × Way D b a xs
at-or-below-way (inl p) = ([], end p)
at-or-below-way (inr d) = let r = below-way d in (r.0 ∷ r.1, step r.2 r.3)

way-at-or-below : {D : Document} {b a : ℕ} {xs : List ℕ} → Way D b a xs → AtOrBelow D a b
way-at-or-below (end p) = inl p
way-at-or-below (step c w) = inr (child-below c (way-at-or-below w))

-- the way down to a descendant begins with a child
pub first_step : {W : Document} {a b : ℕ} → Below W a b → (c : ℕ) × Child W a c × AtOrBelow W c b
first_step d = let r = below-way d in (r.0, r.2, way-at-or-below r.3)

-- the lower end has no smaller number
pub way-bound : {D : Document} {b a : ℕ} {xs : List ℕ} → IsTree D → Way D b a xs → a ≤ b
way-bound {b = b} {a = a} t (end p) = omega arith
way-bound {b = b} {a = a} t (step {x = x} c w) =
    let h : a < x = child-lt t c in
    let k : x ≤ b = way-bound t w in
    omega arith

-- ---- a way read from its lower end, as chains are computed

data Up (D : Document) (a : ℕ) : ℕ → List ℕ → Type 0 where
  top : {b : ℕ} → a ≡ b → Up D a b []
  under : {b c : ℕ} {xs : List ℕ} → Up D a c xs → Child D c b → Up D a b (xs ++ b ∷ [])

up-bound : {D : Document} {a b : ℕ} {xs : List ℕ} → IsTree D → Up D a b xs → a ≤ b
up-bound {a = a} {b} t (top p) = omega arith
up-bound {a = a} {b} t (under {c = c} u k) =
    let h : c < b = child-lt t k in
    let l : a ≤ c = up-bound t u in
    omega arith

up_way : {D : Document} {a c b : ℕ} {xs ys : List ℕ} → Up D a b xs → Way D c b ys → Up D a c (xs ++ ys)
up_way {D} {a} {c = c} {xs} u (end p) = subst (λ (l : List ℕ). Up D a c l) (sym (append-nil xs)) (subst (λ (x : ℕ). Up D a x xs) p u)
up_way {D} {a} {c = c} {xs} u (step {x = x} {xs = zs} k w) = subst (λ (l : List ℕ). Up D a c l) (append_assoc xs (x ∷ []) zs) (up_way (under u k) w)

-- ---- chains

chain-stays : (n : ℕ) (D : Document) (a b : ℕ) → a ≡ b → chain_in n D a b ≡ []
unfolding chain_in
chain-stays zero D a b p = refl
chain-stays (suc n) D a b p = rw (eq-eqb a b p, chain_in)

chain-climbs : {D : Document} {a b : ℕ} {xs : List ℕ} (n : ℕ) → IsTree D → Up D a b xs → b ≤ n → chain_in n D a b ≡ xs
unfolding chain_in
chain-climbs {D} {a} {b} n t (top p) h = chain-stays n D a b p
chain-climbs zero t (under u k) h = let l = k.not_root in absurd (omega arith)
chain-climbs {D} {a} {b} (suc n) t (under {c = c} {xs = xs} u k) h =
    let l : a ≤ c = up-bound t u in
    let m : c < b = child-lt t k in
    let ne : a ≡ b → ⊥ = λ q. omega arith in
    let r : chain_in n D a c ≡ xs = chain-climbs n t u (omega arith) in
    rw (ne_eqb a b ne, chain_in, k.is_parent, r)

-- the chain is the way down
pub chain-way : (S : Summary) {a b : ℕ} {xs : List ℕ} → IsTree (as_document S) → Way (as_document S) b a xs → chain S a b ≡ xs
unfolding chain
chain-way S {a} {b} t w = chain-climbs b t (up_way (top refl) w) (le_refl b)

-- from a node down to itself
pub chain-self : (S : Summary) (a : ℕ) → chain S a a ≡ []
unfolding chain
chain-self S a = chain-stays a (as_document S) a a refl

-- from a node down through its child c
pub chain-step : (S : Summary) (a c b : ℕ) → IsTree (as_document S) → Child (as_document S) a c → AtOrBelow (as_document S) c b → chain S a b ≡ c ∷ chain S c b
chain-step S a c b t k d =
    let w = at-or-below-way d in
    chain-way S t (step k w.1) ∙ ap (λ (l : List ℕ). c ∷ l) (sym (chain-way S t w.1))
