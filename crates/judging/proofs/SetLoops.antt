-- What the loops over a summary ask of it. Assumes nothing.
use Prim.Native.Nat.{ℕ, zero, suc, ◌<◌}
use mathlib.Core.Path.{◌≡◌, sym, subst}
use native.Mathlib.Omega.{arith}
use lib.ListN.{length, replicate}
use Rattle.model.specs.Tree.{Rooted, IsTree}
use Rattle.model.specs.Summary.{Summary, as_document, summary_parent}
use Rattle.model.proofs.TreeLaws.{length-as_document}
use Rattle.format.specs.Given.{SummaryKept}
use Rattle.judging.proofs.GivenLoop.{Gathering, gathering-start}

pub summary-rooted : (S : Summary) → IsTree (as_document S) → Rooted (length S) (summary_parent S)
summary-rooted S t = subst (λ (n : ℕ). Rooted n (summary_parent S)) (length-as_document S) t

module _ {S : Summary} (G : SummaryKept S) where
  -- a parent is a node
  pub parent-small : {x j : ℕ} → x < length S → j ≡ summary_parent S x → j < 64
  parent-small {x} {j} h e = subst (λ (i : ℕ). i < 64) (sym e) (go x h)
    where
      go : (x : ℕ) → x < length S → summary_parent S x < 64
      go zero h = let r : summary_parent S 0 ≡ 0 = G.tree.root in omega arith
      go (suc x) h =
          let r : summary_parent S (suc x) < suc x = (summary-rooted S G.tree).earlier (suc x) (omega arith) h in
          let f = G.few in
          omega arith

  -- where gathering begins
  pub summary-start : {F : ℕ → ℕ → ℕ} {n : ℕ} → n ≡ length S → Gathering (summary_parent S) F (length S) (replicate 64 0) n (replicate 64 0)
  summary-start e = gathering-start e (summary-rooted S G.tree).inhabited
