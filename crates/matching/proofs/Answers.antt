-- What the calls of document 01 ask, read off the matching tables: a list is a result where the whole pattern embeds at the root
-- with its return nodes pinned to the list and least figures asked; the nodes at a position and the paths of a node are where it stands.
-- Each pair of tests says the same of embeddings, which figures have no part in: they are pins. Assumes nothing.
use Prim.Native.Nat.{ℕ, ◌-◌, ◌≤◌, ◌<◌}
use mathlib.Core.Path.{◌≡◌, refl, sym, ap, ap₂, ◌∙◌, subst}
use mathlib.Core.Bool.{Bool, true, false, ◌&&◌}
use mathlib.Core.Logic.{◌⊎◌, inl, inr, ◌↔◌}
use mathlib.Core.List.{List, [], ◌∷◌, map, Memᴰ}
use native.Mathlib.Omega.{arith}
use lib.Dec.{eqb}
use lib.ListN.{length, get_or}
use borrow.Author.Tests.{eqb-true, eq-eqb}
use Rattle.model.specs.Lists.{up_from, keep, any_of, mask_below, has}
use Rattle.model.specs.Tree.{Document, IsTree}
use Rattle.model.specs.Summary.{Summary, as_document}
use Rattle.model.specs.Pattern.{Pattern, IsPatternTree, arity, position, node_at, Result, AtPosition, SummaryEmbedding}
use Rattle.model.specs.Embeddings.{summary_embeddings, image_in, is_result, is_at, nodes_at, is_path, path_mask}
use Rattle.model.specs.Facts.{PatternFacts}
use Rattle.model.specs.Bytes.{written_at_front}
use Rattle.model.proofs.ListLaws.{bool-ext, and_intro, and_left, and_right, or_cases, or_left, or_right, up_from-mem}
use Rattle.model.proofs.TreeLaws.{length-as_document}
use Rattle.model.proofs.Embeddings.{embeddings-sound, embeddings-complete}
use Rattle.model.proofs.Masks.{mask_below_lem}
use Rattle.model.proofs.NodeByNode.{Can, can, Pinned, PinnedIn, result-can}
use Rattle.model.proofs.Results.{takes-exact, result-exact, at-position-exact, path-mask-of}
use Rattle.bits.proofs.MaskLaws.{mask-agree}
use Rattle.matching.specs.Matching.{part_at, stands_at, result_pin, figure_pin}
use Rattle.matching.specs.declared.wanted.Wanted.{Wanted}
use Rattle.matching.specs.Wanted.{Wants, Unmarked, Unasked, Marked, WantsFigured, pin_of}
use Rattle.matching.specs.Tables.{part_table, stand_table, HoldsParts, HoldsStands}
use Rattle.matching.specs.Outcomes.{in_mask, Written}
use Rattle.matching.proofs.Parts.{Pin, part-exact}
use Rattle.matching.proofs.Stands.{Standing, stands-exact}
use Rattle.matching.proofs.TurnLaws.{front-entry}
use Rattle.matching.proofs.WantedLaws.{marked-pin, unmarked-pin, free-pin}

-- ---- tests that agree

keep-agree : (f g : ℕ → Bool) (xs : List ℕ) → ((x : ℕ) → Memᴰ x xs → f x ≡ g x) → keep f xs ≡ keep g xs
unfolding keep
keep-agree f g [] h = refl
keep-agree f g (x ∷ xs) h =
    ap₂ (λ (b : Bool) (l : List ℕ). elim b as (λ _. List ℕ) [ true ↦ x ∷ l | false ↦ l ]) (h x (Memᴰ.head refl)) (keep-agree f g xs (λ y m. h y (Memᴰ.tail m)))

-- ---- is it a result

-- from one pin to another
can-into : {Q : Pattern} {W : Document} (A B : ℕ → ℕ → Type 0) → ((p v : ℕ) → p < length Q → v < length W → A p v → B p v) → {p v : ℕ} → p < length Q → Can Q W A p v → Can Q W B p v
can-into {Q} A B g {p} {v} h (can i l k f es cs) = can i l (g p v h i k) f es (λ c u. can-into A B g u.inside (cs c u))

pinned-pin : (Q : Pattern) (r : List ℕ) (p v : ℕ) → Pinned Q r p v → result_pin Q r p v ≡ true
unfolding result_pin
pinned-pin Q r p v (inl e) = or_left (eqb v (get_or r (position Q p - 1) 0)) (eq-eqb (position Q p) 0 e)
pinned-pin Q r p v (inr e) = or_right (eqb (position Q p) 0) (eq-eqb v (get_or r (position Q p - 1) 0) e)

pin-pinned : (Q : Pattern) (r : List ℕ) (p v : ℕ) → result_pin Q r p v ≡ true → Pinned Q r p v
unfolding result_pin
pin-pinned Q r p v e = go (or_cases (eqb (position Q p) 0) (eqb v (get_or r (position Q p - 1) 0)) e)
  where
    go : (eqb (position Q p) 0 ≡ true) ⊎ (eqb v (get_or r (position Q p - 1) 0) ≡ true) → Pinned Q r p v
    go (inl k) = inl (eqb-true (position Q p) 0 k)
    go (inr k) = inr (eqb-true v (get_or r (position Q p - 1) 0) k)

-- a document's pins: the return nodes', and the least figures
module _ (Q : Pattern) (W : Document) (pin : ℕ → ℕ → Bool) (T : IsPatternTree Q) (t : IsTree W) where
  -- a list of k entries is a result exactly when the root's bit at the root is set, with the return nodes pinned to the list
  pub result-part : (r : List ℕ) → PatternFacts Q → length r ≡ arity Q → ((p v : ℕ) → p < length Q → pin p v ≡ (result_pin Q r p v && figure_pin Q W p v))
      → is_result Q W r ≡ part_at Q W pin 0 0
  unfolding figure_pin
  result-part r F n same =
      bool-ext (is_result Q W r) (part_at Q W pin 0 0)
      (λ e. exact.1 (can-into (PinnedIn Q W r) (Pin pin) (λ p v h i k. same p v h ∙ and_intro (pinned-pin Q r p v k.0) k.1) T.inhabited (cans.0 ((result-exact r F t).0 e))))
      (λ e. (result-exact r F t).1 (cans.1 (can-into (Pin pin) (PinnedIn Q W r) (λ p v h i k. back p v (sym (same p v h) ∙ k)) T.inhabited (exact.0 e))))
    where
      exact : (part_at Q W pin 0 0 ≡ true) ↔ Can Q W (Pin pin) 0 0
      exact = part-exact Q W pin t 0 0 t.inhabited

      cans : Result Q W r ↔ Can Q W (PinnedIn Q W r) 0 0
      cans = result-can F n

      back : (p v : ℕ) → (result_pin Q r p v && figure_pin Q W p v) ≡ true → PinnedIn Q W r p v
      back p v e = (pin-pinned Q r p v (and_left (result_pin Q r p v) (figure_pin Q W p v) e), and_right (result_pin Q r p v) (figure_pin Q W p v) e)

  -- v is at a position exactly when the node that holds it stands at v, figures alone being pins
  pub at-stands : (p v : ℕ) → PatternFacts Q → 1 ≤ p → p ≤ arity Q → v < length W → ((q w : ℕ) → q < length Q → pin q w ≡ figure_pin Q W q w)
      → is_at Q W p v ≡ stands_at Q W pin v (node_at Q p)
  unfolding figure_pin
  at-stands p v F low top h same =
      bool-ext (is_at Q W p v) (stands_at Q W pin v (node_at Q p))
      (λ e. (let m = at.0 e in exact.1 (record { image = m.image; embeds = m.embeds; pinned = λ q l. same q (m.image q) l ∙ m.figures q l; takes = m.takes })))
      (λ e. (let m = exact.0 e in at.1 (record { image = m.image; embeds = m.embeds; figures = λ q l. sym (same q (m.image q) l) ∙ m.pinned q l; takes = m.takes })))
    where
      exact : (stands_at Q W pin v (node_at Q p) ≡ true) ↔ Standing Q W pin (node_at Q p) v
      exact = stands-exact Q W pin T t (node_at Q p) v (F.holds p low top) h

      at : (is_at Q W p v ≡ true) ↔ AtPosition Q W p v
      at = at-position-exact p v F t low top

  -- the nodes at a position are those where the node that holds it stands
  pub nodes-stand : (p : ℕ) (test : ℕ → Bool) → ((v : ℕ) → v < length W → test v ≡ is_at Q W p v) → keep test (up_from 0 (length W)) ≡ nodes_at Q W p
  unfolding nodes_at
  nodes-stand p test same = keep-agree test (is_at Q W p) (up_from 0 (length W)) (λ v m. (let k = up_from-mem 0 (length W) v m in same v (omega arith)))

-- a summary node is a path of q exactly when q stands there, in the summary read as a document, where no pin holds a node back
pub path-stands : (S : Summary) (Q : Pattern) (pin : ℕ → ℕ → Bool) → IsPatternTree Q → IsTree (as_document S) → ((p v : ℕ) → p < length Q → pin p v ≡ true)
    → (q : ℕ) (test : ℕ → Bool) → q < length Q → ((v : ℕ) → v < length (as_document S) → test v ≡ stands_at Q (as_document S) pin v q)
    → mask_below test (length (as_document S)) ≡ path_mask S Q q
unfolding is_path
path-stands S Q pin T t free q test h same =
    mask-agree test (is_path S Q q) (length (as_document S)) (λ v k. same v k ∙ sym (takes-stands v k))
    ∙ ap (mask_below (is_path S Q q)) (length-as_document S) ∙ sym (path-mask-of S Q q h)
  where
    -- q stands at v exactly when some listed embedding takes q to v
    takes-stands : (v : ℕ) → v < length (as_document S) → any_of (λ es. eqb (image_in es q) v) (summary_embeddings S Q) ≡ stands_at Q (as_document S) pin v q
    takes-stands v k =
        let exact = stands-exact Q (as_document S) pin T t q v h k in
        let takes = takes-exact Q (SummaryEmbedding S Q) (summary_embeddings S Q) q v h (λ es m. (embeddings-sound T t m).1) (λ e m. embeddings-complete T t m) in
        bool-ext (any_of (λ es. eqb (image_in es q) v) (summary_embeddings S Q)) (stands_at Q (as_document S) pin v q)
        (λ e. (let m = takes.0 e in exact.1 (record { image = m.0; embeds = m.1; pinned = λ p l. free p (m.0 p) l; takes = m.2 })))
        (λ e. (let m = exact.0 e in takes.1 (m.image, m.embeds, m.takes)))

-- ---- read off the tables

-- the bits of an entry
module _ {Q : Pattern} {w : Wanted} (K : Wants Q w) (W : Document) (before : List ℕ) {after : List ℕ} where
  entry-bit : (f : ℕ → ℕ → Bool) → after ≡ written_at_front (map (λ v. mask_below (f v) (length Q)) (up_from 0 (length W))) before → (v q : ℕ) → v < length W → q < length Q
      → in_mask after q v ≡ f v q
  entry-bit f e v q h l = ap (λ (x : ℕ). has x q) (front-entry (λ v. mask_below (f v) (length Q)) (length W) before e v h) ∙ mask_below_lem (f v) (length Q) q l

  stand-bit : HoldsStands W w before after → (v q : ℕ) → v < length W → q < length Q → in_mask after q v ≡ stands_at Q W (pin_of w W) v q
  unfolding stand_table
  stand-bit H = entry-bit (stands_at Q W (pin_of w W)) (H Q K)

  part-bit : HoldsParts W w before after → (v q : ℕ) → v < length W → q < length Q → in_mask after q v ≡ part_at Q W (pin_of w W) v q
  unfolding part_table
  part-bit H = entry-bit (part_at Q W (pin_of w W)) (H Q K)

-- over a document
module _ {Q : Pattern} {w₀ w : Wanted} (B : WantsFigured Q w₀ w) (W : Document) (before : List ℕ) {after : List ℕ} (F : PatternFacts Q) (T : IsTree W) where
  -- is it a result
  pub result-read : (list : List ℕ) {r : Bool} → Marked Q list w₀ → length list ≡ arity Q → HoldsParts W w before after → r ≡ has (get_or after 0 0) 0 → r ≡ is_result Q W list
  result-read list M n H e =
      let K = B.wants in
      e ∙ part-bit K W before H 0 0 T.inhabited K.tree.inhabited
      ∙ sym (result-part Q W (pin_of w W) K.tree T list F n (λ p v h. marked-pin Q W w list (λ q l. B.marks q (omega (arith, K.few)) ∙ M q l) B.asked p v h))

  -- nodes at a position
  pub nodes-read : {n p q r : ℕ} {out : List ℕ} (out₀ : List ℕ) → Unmarked w₀ → 1 ≤ p → p ≤ arity Q → HoldsStands W w before after → q ≡ node_at Q p → n ≡ length W
      → Written (keep (in_mask after q) (up_from 0 n)) out₀ out r → Written (nodes_at Q W p) out₀ out r
  nodes-read {n} {p} {q} {r} {out} out₀ U low top H e s = subst (λ (l : List ℕ). Written l out₀ out r) listed
    where
      K : Wants Q w
      K = B.wants

      here : (v : ℕ) → v < length W → in_mask after (node_at Q p) v ≡ is_at Q W p v
      here v h =
          stand-bit K W before H v (node_at Q p) h (F.holds p low top)
          ∙ sym (at-stands Q W (pin_of w W) K.tree T p v F low top h (λ i x l. unmarked-pin Q W w K.few (λ j m. B.marks j m ∙ U j m) B.asked i x l))

      listed : keep (in_mask after q) (up_from 0 n) ≡ nodes_at Q W p
      listed =
          ap₂ (λ (x y : ℕ). keep (in_mask after x) (up_from 0 y)) e s
          ∙ nodes-stand Q W (pin_of w W) K.tree T p (in_mask after (node_at Q p)) here

-- paths
pub path-read : (S : Summary) {Q : Pattern} {w : Wanted} → Wants Q w → (before : List ℕ) {after : List ℕ} {n q : ℕ} → Unmarked w → Unasked w → IsTree (as_document S)
    → HoldsStands (as_document S) w before after → n ≡ length S → q < length Q → mask_below (in_mask after q) n ≡ path_mask S Q q
path-read S {Q} {w} K before {after} {n} {q} U A T H e h =
    ap (mask_below (in_mask after q)) (e ∙ sym (length-as_document S))
    ∙ path-stands S Q (pin_of w (as_document S)) K.tree T (λ p v l. free-pin w (as_document S) U A p v (omega (arith, K.few))) q (in_mask after q) h
    (λ v l. stand-bit K (as_document S) before H v q l h)
