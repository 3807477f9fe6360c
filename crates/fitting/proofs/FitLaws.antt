-- What the tables say of fitting: a row's bits are the paths of a node's children or a summary node's strong children, so the test
-- of one row within the other is the test of strong edges. Assumes nothing.
use Prim.Native.Nat.{ℕ, ◌^◌, ◌≤◌, ◌<◌}
use mathlib.Core.Path.{◌≡◌, refl, sym, ap, ◌∙◌, subst}
use mathlib.Core.Bool.{Bool, true, false, ◌&&◌}
use mathlib.Core.List.{List}
use native.Mathlib.Omega.{arith}
use lib.Bits.{bit_and}
use lib.Dec.{eqb, ltb}
use lib.ListN.{length, get_or}
use borrow.Author.Tests.{eqb-true, eq-eqb}
use Rattle.model.specs.Limits.{max_summary}
use Rattle.model.specs.Lists.{up_from, all_of, has}
use Rattle.model.specs.Tree.{Document, IsTree, parent_of}
use Rattle.model.specs.Summary.{Summary, as_document, no_summary_record, StrongEdge}
use Rattle.model.specs.Fitting.{strong_test, path_map, strong_kept, fits, path_in}
use Rattle.model.specs.Strong.{strong_table}
use Rattle.model.proofs.ListLaws.{bool-ext, all-agree, up_from-mem}
use Rattle.model.proofs.Masks.{mask_lt}
use Rattle.model.proofs.TreeLaws.{length-as_document, test-child-and, child-and-test}
use Rattle.model.proofs.Fitting.{rooted-exact, paths-inside-exact, strong-kept-exact}
use Rattle.model.proofs.Strong.{strong-entry, strong-bit}
use Rattle.bits.proofs.MaskLaws.{subset-members, members-subset}
use Rattle.fitting.specs.Steps.{OnPaths, Gathered, strong_kept_in}
use Rattle.fitting.proofs.GatherLaws.{gathered-exact}

module _ (S : Summary) (W : Document) (tree : IsTree W) where
  -- whether every node has a summary node decides, or the strong edges do
  decided : (b : Bool) → all_of (λ m. ltb m (length S)) (path_map S W) ≡ b → (b && all_of (strong_kept S W) (up_from 0 (length W))) ≡ fits S W
  unfolding fits
  decided b e =
      sym (ap (λ (r : Bool). r && all_of (λ m. ltb m (length S)) (path_map S W) && all_of (strong_kept S W) (up_from 0 (length W))) ((rooted-exact (length W) (parent_of W)).1 tree)
      ∙ ap (λ (r : Bool). r && all_of (strong_kept S W) (up_from 0 (length W))) e)

  pub not-inside : (v : ℕ) × (v < length W) × (length S ≤ path_in S W v) → false ≡ fits S W
  not-inside r = decided false (go (all_of (λ m. ltb m (length S)) (path_map S W)) refl)
    where
      go : (b : Bool) → all_of (λ m. ltb m (length S)) (path_map S W) ≡ b → b ≡ false
      go true e =
          let h : path_in S W r.0 < length S = (paths-inside-exact S W).0 e r.0 r.1 in
          let k : length S ≤ path_in S W r.0 = r.2 in
          absurd (omega arith)
      go false e = refl

  module _ {path : List ℕ} (few : length S ≤ max_summary) (on : OnPaths S W path (length W)) {kids : List ℕ} (rows : Gathered W path kids) where
    -- one row within another
    row_kept : (v : ℕ) → v < length W → strong_kept_in path kids (strong_table S) v ≡ strong_kept S W v
    row_kept v h =
        ap (λ (s : ℕ). eqb (bit_and (get_or (strong_table S) s 0) b) (get_or (strong_table S) s 0)) (on.same v h) ∙ bool-ext (eqb (bit_and a b) a) (strong_kept S W v) forth back
      where
        s : ℕ
        s = path_in S W v

        inside : s < max_summary
        inside = omega (arith, subst (λ (x : ℕ). x < length S) (on.same v h) (on.inside v h))

        a : ℕ
        a = get_or (strong_table S) s 0

        b : ℕ
        b = get_or kids v 0

        -- a bit of the summary node's row is a strong edge
        edge : (t : ℕ) → t < max_summary → has a t ≡ true → StrongEdge S s t
        edge t l e =
            let r = test-child-and (as_document S) s t (get_or S t no_summary_record).strong 1 (sym (strong-bit S s inside t l) ∙ e) in
            record { child = r.0; strong = r.1 }

        bit : (t : ℕ) → StrongEdge S s t → has a t ≡ true
        bit t g =
            let l : t < max_summary = omega (arith, g.child.inside, length-as_document S) in
            strong-bit S s inside t l ∙ child-and-test (get_or S t no_summary_record).strong 1 g.child g.strong

        forth : eqb (bit_and a b) a ≡ true → strong_kept S W v ≡ true
        forth e =
            (strong-kept-exact S W v).1 (λ t g.
            let r = (gathered-exact rows v t).0 (subset-members a b (eqb-true (bit_and a b) a e) t (bit t g)) in
            (r.0, r.1, sym (r.2 ∙ on.same r.0 r.1.inside)))

        low : a < 2 ^ max_summary
        low = subst (λ (x : ℕ). x < 2 ^ max_summary) (sym (strong-entry S s inside)) (mask_lt (strong_test S s) max_summary)

        back : strong_kept S W v ≡ true → eqb (bit_and a b) a ≡ true
        back e =
            eq-eqb (bit_and a b) a (members-subset max_summary a b low (λ t l m.
            let r = (strong-kept-exact S W v).0 e t (edge t l m) in
            (gathered-exact rows v t).1 (r.0, r.1, sym (on.same r.0 r.1.inside ∙ r.2))))

    pub all-inside : {r : Bool} → r ≡ all_of (strong_kept_in path kids (strong_table S)) (up_from 0 (length W)) → r ≡ fits S W
    all-inside e =
        e ∙ all-agree (strong_kept_in path kids (strong_table S)) (strong_kept S W) (up_from 0 (length W)) (λ v m. let h = up_from-mem 0 (length W) v m in row_kept v (omega arith))
        ∙ decided true ((paths-inside-exact S W).1 (λ v h. subst (λ (s : ℕ). s < length S) (on.same v h) (on.inside v h)))
