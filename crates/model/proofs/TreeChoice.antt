-- A map out of a tree can be had node by node: where a good image of each node's parent gives a good image of the node, linked
-- to the parent's, one map does so for all nodes, since parents come earlier. Assumes nothing.
use Prim.Native.Nat.{ℕ, zero, suc, ◌≤◌, ◌<◌}
use mathlib.Core.Path.{◌≡◌, refl, sym, ◌∙◌, subst, subst₂}
use mathlib.Core.Bool.{true, false}
use mathlib.Core.Logic.{◌⊎◌, inl, inr}
use native.Mathlib.Omega.{arith}
use native.Mathlib.Nat.{le_of_suc-le-suc, eq-or-lt_of_le}
use lib.Dec.{eqb}
use borrow.Author.Tests.{eq-eqb, ne_eqb}
use Rattle.model.specs.Tree.{Rooted}

-- a map on the first m nodes, by Good for a node and its image, and Link for a node, its parent's image and its own
pub record Chosen (parent : ℕ → ℕ) (Good : ℕ → ℕ → Type 0) (Link : ℕ → ℕ → ℕ → Type 0) (m : ℕ) : Type 0 where
  pub image : ℕ → ℕ
  pub root : image 0 ≡ 0
  pub good : (i : ℕ) → i < m → Good i (image i)
  pub link : (i : ℕ) → 0 < i → i < m → Link i (image (parent i)) (image i)

-- a map with the image of m set to y
put : (ℕ → ℕ) → ℕ → ℕ → ℕ → ℕ
put f m y i = elim (eqb i m) [ true ↦ y | false ↦ f i ]

put_same : (f : ℕ → ℕ) (m y : ℕ) → put f m y m ≡ y
unfolding put
put_same f m y = rw (eq-eqb m m refl, put) refl

put-before : (f : ℕ → ℕ) (m y i : ℕ) → i < m → put f m y i ≡ f i
unfolding put
put-before f m y i h = let ne : (i ≡ m) → ⊥ = λ (q : i ≡ m). omega arith in rw (ne_eqb i m ne, put) refl

module _ {parent : ℕ → ℕ} {Good : ℕ → ℕ → Type 0} {Link : ℕ → ℕ → ℕ → Type 0} where
  -- one node more
  choose-next : (m y : ℕ) → 0 < m → parent m < m → ((i : ℕ) → 0 < i → i < m → parent i < i) → (c : Chosen parent Good Link m)
      → Good m y → Link m (c.image (parent m)) y → Chosen parent Good Link (suc m)
  choose-next m y p k earlier c g l =
      record {
        image = f;
        root = put-before c.image m y 0 p ∙ c.root;
        good = λ i h. good i (eq-or-lt_of_le (le_of_suc-le-suc h));
        link = λ i q h. link i q (eq-or-lt_of_le (le_of_suc-le-suc h));
      }
    where
      f : ℕ → ℕ
      f = put c.image m y

      good : (i : ℕ) → (i ≡ m) ⊎ (i < m) → Good i (f i)
      good i (inr h) = subst (Good i) (sym (put-before c.image m y i h)) (c.good i h)
      good i (inl e) = subst (λ (x : ℕ). Good x (f x)) (sym e) (subst (Good m) (sym (put_same c.image m y)) g)

      link : (i : ℕ) → 0 < i → (i ≡ m) ⊎ (i < m) → Link i (f (parent i)) (f i)
      link i q (inr h) =
          let e : parent i < i = earlier i q h in
          subst₂ (Link i) (sym (put-before c.image m y (parent i) (omega arith))) (sym (put-before c.image m y i h)) (c.link i q h)
      link i q (inl e) =
          subst (λ (x : ℕ). Link x (f (parent x)) (f x)) (sym e) (subst₂ (Link m) (sym (put-before c.image m y (parent m) k)) (sym (put_same c.image m y)) l)

  choose-below : (n : ℕ) → Rooted n parent → Good 0 0
      → ((i x : ℕ) → 0 < i → i < n → Good (parent i) x → (y : ℕ) × Good i y × Link i x y) → (m : ℕ) → suc m ≤ n → Chosen parent Good Link (suc m)
  choose-below n t g step zero h =
      record {
        image = λ i. 0;
        root = refl;
        good = λ i k. let e : 0 ≡ i = omega arith in subst (λ (x : ℕ). Good x 0) e g;
        link = λ i p k. absurd (omega arith);
      }
  choose-below n t g step (suc m) h = go (choose-below n t g step m (omega arith))
    where
      go : Chosen parent Good Link (suc m) → Chosen parent Good Link (suc (suc m))
      go c =
          let e : parent (suc m) < suc m = t.earlier (suc m) (omega arith) h in
          let r : (y : ℕ) × Good (suc m) y × Link (suc m) (c.image (parent (suc m))) y = step (suc m) (c.image (parent (suc m))) (omega arith) h (c.good (parent (suc m)) e) in
          choose-next (suc m) r.0 (omega arith) e (λ i p k. t.earlier i p (omega arith)) c r.1 r.2

  -- node 0 goes to node 0, which is good
  pub choose : (n : ℕ) → Rooted n parent → Good 0 0 → ((i x : ℕ) → 0 < i → i < n → Good (parent i) x → (y : ℕ) × Good i y × Link i x y)
      → Chosen parent Good Link n
  choose zero t g step = absurd (let h : 0 < 0 = t.inhabited in omega arith)
  choose (suc n) t g step = choose-below (suc n) t g step n (omega arith)
