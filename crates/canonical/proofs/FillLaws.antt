-- Filling up node by node: a visit takes the strong children off their mask in order, and each visit leaves the visits to come to
-- reach the same end. No table on the way is longer than the last. Assumes nothing.
use Prim.Native.Nat.{ℕ, zero, suc, ◌+◌, ◌-◌, ◌≤◌, ◌<◌}
use mathlib.Core.Path.{◌≡◌, refl, sym, ap, ◌∙◌, subst}
use mathlib.Core.Bool.{Bool, true, false}
use mathlib.Core.List.Memᴰ
use mathlib.Core.List.{List, [], ◌∷◌, ◌++◌, append-nil, append_assoc, Memᴰ}
use native.Mathlib.Omega.{arith}
use native.Mathlib.Numerals.{add-one}
use lib.Dec.{ltb}
use lib.ListN.{length, get_or}
use borrow.Author.Tests.{lt-ltb, le-ltb}
use Rattle.model.specs.Limits.{max_summary, max_canonical}
use Rattle.model.specs.Lists.{has, members}
use Rattle.model.specs.Summary.{Summary}
use Rattle.model.specs.Fitting.{strong_children}
use Rattle.model.specs.Strong.{strong_table}
use Rattle.model.specs.Canonical.{Spot, root_spot, spot_at, has_child_on, add_missing, add_all, fill_node, fill_from}
use Rattle.model.proofs.ListLaws.{length-snoc}
use Rattle.model.proofs.TreeLaws.{length-as_document}
use Rattle.model.proofs.Fitting.{strong-children-exact}
use Rattle.model.proofs.Strong.{strong-members}
use Rattle.canonical.specs.Draft.{Tables, Drafted, appended}
use Rattle.canonical.specs.Given.{Missing, Visitable, Fillable}
use Rattle.canonical.proofs.DraftLaws.{drafted-on, drafted-child, drafted-append}

-- ---- missing children

add-append : (spots : List Spot) (v : ℕ) (xs ys : List ℕ) → add_all spots v (xs ++ ys) ≡ add_all (add_all spots v xs) v ys
unfolding add_all
add-append spots v [] ys = refl
add-append spots v (x ∷ xs) ys = add-append (add_missing spots v x) v xs ys

missing-grows : (spots : List Spot) (v t : ℕ) → length spots ≤ length (add_missing spots v t)
unfolding add_missing
missing-grows spots v t = go (has_child_on spots v t)
  where
    new : List Spot
    new = spots ++ record { parent = v; at = t; owner = (get_or spots v root_spot).owner; filled = true } ∷ []

    go : (b : Bool) → length spots ≤ length {A = Spot} (elim b as (λ _. List Spot) [ true ↦ spots | false ↦ new ])
    go true = omega arith
    go false = omega (arith, length-snoc spots (record { parent = v; at = t; owner = (get_or spots v root_spot).owner; filled = true }))

add-grows : (spots : List Spot) (v : ℕ) (ts : List ℕ) → length spots ≤ length (add_all spots v ts)
unfolding add_all
add-grows spots v [] = omega arith
add-grows spots v (t ∷ ts) =
    let a : length spots ≤ length (add_missing spots v t) = missing-grows spots v t in
    let b : length (add_missing spots v t) ≤ length (add_all (add_missing spots v t) v ts) = add-grows (add_missing spots v t) v ts in
    omega arith

fill-node-grows : (S : Summary) (spots : List Spot) (v : ℕ) → length spots ≤ length (fill_node S spots v)
unfolding fill_node
fill-node-grows S spots v = add-grows spots v (strong_children S (spot_at spots v))

pub fill-grows : (k : ℕ) (S : Summary) (spots : List Spot) (v : ℕ) → length spots ≤ length (fill_from k S spots v)
unfolding fill_from
fill-grows zero S spots v = omega arith
fill-grows (suc k) S spots v = go (ltb v (length spots)) (fill-node-grows S spots v) (fill-grows k S (fill_node S spots v) (suc v))
  where
    next : List Spot
    next = fill_from k S (fill_node S spots v) (suc v)

    go : (b : Bool) → length spots ≤ length (fill_node S spots v) → length (fill_node S spots v) ≤ length next
        → length spots ≤ length {A = Spot} (elim b as (λ _. List Spot) [ true ↦ next | false ↦ spots ])
    go true h l = omega arith
    go false h l = omega arith

-- ---- one child

module _ (spots : List Spot) (v t : ℕ) where
  -- there already
  add-there : has_child_on spots v t ≡ true → add_missing spots v t ≡ spots
  unfolding add_missing
  add-there h = rw (h, add_missing)

  -- missing
  add-new : has_child_on spots v t ≡ false → add_missing spots v t ≡ spots ++ record { parent = v; at = t; owner = (get_or spots v root_spot).owner; filled = true } ∷ []
  unfolding add_missing
  add-new h = rw (h, add_missing)

module _ {S : Summary} (few : length S ≤ max_summary) {spots : List Spot} {base now : Tables} {count : ℕ} (c : Drafted S spots base now count) (v t : ℕ) (inside : v < count)
    (small : t < length S) where
  there : {b : Bool} → has (get_or now.kids v 0) t ≡ b → has_child_on spots v t ≡ b
  there h = sym (drafted-child c v t inside (omega arith)) ∙ h

  pub there-drafted : has (get_or now.kids v 0) t ≡ true → Drafted S (add_missing spots v t) base now count
  there-drafted h = subst (λ (x : List Spot). Drafted S x base now count) (sym (add-there spots v t (there h))) c

  pub new-room : has (get_or now.kids v 0) t ≡ false → length (add_missing spots v t) ≤ max_canonical → count < max_canonical
  new-room h r =
      let s : Spot = record { parent = v; at = t; owner = (get_or spots v root_spot).owner; filled = true } in
      let n : length (add_missing spots v t) ≡ length (spots ++ s ∷ []) = ap (λ (x : List Spot). length x) (add-new spots v t (there h)) in
      let m : length (spots ++ s ∷ []) ≡ suc (length spots) = length-snoc spots s in
      let q = c.counted in
      omega arith

  pub new-drafted : has (get_or now.kids v 0) t ≡ false → count < max_canonical → Drafted S (add_missing spots v t) base (appended S now count v t) (count + 1)
  new-drafted h r =
      let s : Spot = record { parent = v; at = t; owner = (get_or spots v root_spot).owner; filled = true } in
      subst (λ (x : List Spot). Drafted S x base (appended S now count v t) (count + 1)) (sym (add-new spots v t (there h))) (drafted-append c s inside small few r)

-- ---- one visit

-- the summary node of a node that is visited
pub visitable-on : {S : Summary} {spots : List Spot} {base now : Tables} {v count : ℕ} → Visitable S spots base now v count → (s : ℕ) → s ≡ get_or now.on v 0 → s < length S
visitable-on {S} {spots} {v = v} m s e =
    let q = m.drafted.counted in
    let i = m.inside in
    subst (λ (x : ℕ). x < length S) (sym (e ∙ drafted-on m.drafted v i)) (m.drafted.inside v (omega arith)).1

-- v has its children on the strong children `done`; the others are left
pub record Visiting (S : Summary) (v count : ℕ) (before now : Tables) (total : ℕ) (left : List ℕ) : Type 0 where
  pub done : List ℕ
  pub all : done ++ left ≡ strong_children S (get_or before.on v 0)
  pub drafted : (spots : List Spot) (base : Tables) → Drafted S spots base before count → Drafted S (add_all spots v done) base now total

-- s is the summary node that is read
pub visiting-start : {S : Summary} {v count s rest : ℕ} {before : Tables} {left : List ℕ} → length S ≤ max_summary → s < length S → s ≡ get_or before.on v 0
    → rest ≡ get_or (strong_table S) s 0 → left ≡ members rest → Visiting S v count before before count left
unfolding add_all
visiting-start {S} {s = s} few h e r l =
    record {
      done = [];
      all = l ∙ ap members r ∙ strong-members S s (omega arith) few ∙ ap (strong_children S) e;
      drafted = λ spots base c. c;
    }

module _ {S : Summary} {v count : ℕ} {before now : Tables} {total : ℕ} {left : List ℕ} (g : Visiting S v count before now total left) where
  -- a visit of v asks for all of them
  asked : {spots : List Spot} {base : Tables} → Drafted S spots base before count → v < count → strong_children S (get_or before.on v 0) ≡ strong_children S (spot_at spots v)
  asked c inside = ap (strong_children S) (drafted-on c v inside)

  -- t is the next
  module _ {t : ℕ} {others : List ℕ} (first : left ≡ t ∷ others) where
    next : g.done ++ t ∷ others ≡ strong_children S (get_or before.on v 0)
    next = ap (λ (l : List ℕ). g.done ++ l) (sym first) ∙ g.all

    pub visiting-inside : t < length S
    visiting-inside =
        subst (λ (n : ℕ). t < n) (length-as_document S)
        ((strong-children-exact S (get_or before.on v 0) t).0 (subst (λ (l : List ℕ). Memᴰ t l) next (Memᴰ.append_right g.done (Memᴰ.head refl)))).child.inside

    -- the draft has room for it
    pub visiting-missing : {spots : List Spot} {base : Tables} → Visitable S spots base before v count → Missing S (add_all spots v g.done) base now v t total
    unfolding fill_node add_all
    visiting-missing {spots} {base} m =
        let d : Drafted S (add_all spots v g.done) base now total = g.drafted spots base m.drafted in
        let a : length spots ≤ length (add_all spots v g.done) = add-grows spots v g.done in
        let b : length (add_missing (add_all spots v g.done) v t) ≤ length (add_all (add_all spots v g.done) v (t ∷ others)) =
        add-grows (add_missing (add_all spots v g.done) v t) v others in
        let n : length (add_all (add_all spots v g.done) v (t ∷ others)) ≡ length (fill_node S spots v) =
        ap (λ (x : List Spot). length x) (sym (add-append spots v g.done (t ∷ others)) ∙ ap (add_all spots v) (next ∙ asked m.drafted m.inside)) in
        let i = m.inside in
        let r = m.room in
        let p = m.drafted.counted in
        let q = d.counted in
        record { drafted = d; inside = omega arith; room = omega arith }

    pub visiting-next : {m : ℕ} {after : Tables} → ((spots : List Spot) (base : Tables) → Drafted S spots base now total → Drafted S (add_missing spots v t) base after m)
        → Visiting S v count before after m others
    unfolding add_all
    visiting-next {m} {after} f =
        record {
          done = g.done ++ t ∷ [];
          all = append_assoc g.done (t ∷ []) others ∙ next;
          drafted = λ spots base c.
              subst (λ (x : List Spot). Drafted S x base after m) (sym (add-append spots v g.done (t ∷ []))) (f (add_all spots v g.done) base (g.drafted spots base c));
        }

  pub visiting-end : v < count → left ≡ [] → (spots : List Spot) (base : Tables) → Drafted S spots base before count → Drafted S (fill_node S spots v) base now total
  unfolding fill_node
  visiting-end inside none spots base c =
      subst (λ (ts : List ℕ). Drafted S (add_all spots v ts) base now total)
      (sym (append-nil g.done) ∙ ap (λ (l : List ℕ). g.done ++ l) (sym none) ∙ g.all ∙ asked c inside) (g.drafted spots base c)

-- ---- all visits

-- nodes below v are visited; the visits to come reach the end
pub record Filling (S : Summary) (spots₀ : List Spot) (base now : Tables) (k v count : ℕ) : Type 0 where
  pub spots : List Spot
  pub drafted : Drafted S spots base now count
  pub visited : v ≤ count
  pub rest : fill_from (k - v) S spots v ≡ fill_from k S spots₀ 0

pub filling-start : (S : Summary) {spots : List Spot} {base now : Tables} {count : ℕ} (k : ℕ) → Drafted S spots base now count → Filling S spots base now k 0 count
filling-start S {spots} k c =
    record { spots = spots; drafted = c; visited = omega arith; rest = ap (λ (j : ℕ). fill_from j S spots 0) (let z : k - 0 ≡ k = omega arith in z) }

fill-visit : (k : ℕ) (S : Summary) (spots : List Spot) (v : ℕ) → v < length spots → fill_from (suc k) S spots v ≡ fill_from k S (fill_node S spots v) (suc v)
unfolding fill_from
fill-visit k S spots v h = rw (lt-ltb v (length spots) h, fill_from)

fill-over : (k : ℕ) (S : Summary) (spots : List Spot) (v : ℕ) → length spots ≤ v → fill_from k S spots v ≡ spots
unfolding fill_from
fill-over zero S spots v h = refl
fill-over (suc k) S spots v h = rw (le-ltb v (length spots) h, fill_from)

module _ {S : Summary} {spots₀ : List Spot} {base before now : Tables} {count₀ k v count : ℕ}
    (given : Fillable S spots₀ base before count₀ k) (f : Filling S spots₀ base now k v count) where
  pub filling-end : count ≤ v → Drafted S (fill_from k S spots₀ 0) base now count
  filling-end h =
      subst (λ (x : List Spot). Drafted S x base now count) (sym (fill-over (k - v) S f.spots v (let q = f.drafted.counted in omega arith)) ∙ f.rest) f.drafted

  module _ (inside : v < count) where
    not_last : v < k
    not_last =
        let a : length f.spots ≤ length (fill_from (k - v) S f.spots v) = fill-grows (k - v) S f.spots v in
        let b : length (fill_from (k - v) S f.spots v) ≡ length (fill_from k S spots₀ 0) = ap (λ (x : List Spot). length x) f.rest in
        let c = given.ends in
        let q = f.drafted.counted in
        omega arith

    next-rest : fill_from (k - (v + 1)) S (fill_node S f.spots v) (v + 1) ≡ fill_from k S spots₀ 0
    next-rest =
        let h = not_last in
        let q = f.drafted.counted in
        let one : suc (k - (v + 1)) ≡ k - v = omega arith in
        ap (λ (j : ℕ). fill_from (k - (v + 1)) S (fill_node S f.spots v) j) (add-one v)
        ∙ sym (fill-visit (k - (v + 1)) S f.spots v (omega arith)) ∙ ap (λ (j : ℕ). fill_from j S f.spots v) one ∙ f.rest

    -- the next visit
    pub filling-visitable : Visitable S f.spots base now v count
    filling-visitable =
        let a : length (fill_node S f.spots v) ≤ length (fill_from (k - (v + 1)) S (fill_node S f.spots v) (v + 1)) =
        fill-grows (k - (v + 1)) S (fill_node S f.spots v) (v + 1) in
        let b : length (fill_from (k - (v + 1)) S (fill_node S f.spots v) (v + 1)) ≡ length (fill_from k S spots₀ 0) = ap (λ (x : List Spot). length x) next-rest in
        let r = given.room in
        record { drafted = f.drafted; inside = inside; room = omega arith }

    pub filling-next : {after : Tables} {m : ℕ} → Drafted S (fill_node S f.spots v) base after m → Filling S spots₀ base after k (v + 1) m
    filling-next c =
        let g : length f.spots ≤ length (fill_node S f.spots v) = fill-node-grows S f.spots v in
        let p = f.drafted.counted in
        let q = c.counted in
        record { spots = fill_node S f.spots v; drafted = c; visited = omega arith; rest = next-rest }
