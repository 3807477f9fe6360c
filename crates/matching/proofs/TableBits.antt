-- What each bit of the tables says, exactly: bit q of the mask at v, that the part of the pattern from q down embeds at v; or that q
-- stands at v in some whole embedding; each node where its pin lets it. Assumes nothing.
use Prim.Native.Nat.{ℕ, ◌<◌}
use mathlib.Core.Path.{◌≡◌, sym, ap, ◌∙◌}
use mathlib.Core.Bool.{Bool, true}
use mathlib.Core.Logic.{◌↔◌}
use mathlib.Core.List.{map}
use lib.ListN.{length, get_or}
use Rattle.model.specs.Lists.{up_from, mask_below, has}
use Rattle.model.specs.Tree.{Document, IsTree}
use Rattle.model.specs.Pattern.{Pattern, IsPatternTree}
use Rattle.model.proofs.NodeByNode.{Can}
use Rattle.model.proofs.Masks.{mask_below_lem}
use Rattle.format.proofs.RangeLaws.{get_or-map-below}
use Rattle.matching.specs.Matching.{part_at, stands_at}
use Rattle.matching.specs.Tables.{part_table, stand_table}
use Rattle.matching.proofs.Parts.{Pin, part-exact}
use Rattle.matching.proofs.Stands.{Standing, stands-exact}

module _ (Q : Pattern) (W : Document) (pin : ℕ → ℕ → Bool) (t : IsTree W) (q v : ℕ) (h : q < length Q) (l : v < length W) where
  bit-of : (f : ℕ → ℕ → Bool) → has (get_or (map (λ v. mask_below (f v) (length Q)) (up_from 0 (length W))) v 0) q ≡ f v q
  bit-of f = ap (λ (x : ℕ). has x q) (get_or-map-below (λ v. mask_below (f v) (length Q)) (length W) v 0 l) ∙ mask_below_lem (f v) (length Q) q h

  pub part-bit : (has (get_or (part_table Q W pin) v 0) q ≡ true) ↔ Can Q W (Pin pin) q v
  unfolding part_table
  part-bit =
      let e = bit-of (part_at Q W pin) in
      let x = part-exact Q W pin t q v l in
      (λ b. x.0 (sym e ∙ b), λ c. e ∙ x.1 c)

  pub stand-bit : IsPatternTree Q → (has (get_or (stand_table Q W pin) v 0) q ≡ true) ↔ Standing Q W pin q v
  unfolding stand_table
  stand-bit T =
      let e = bit-of (stands_at Q W pin) in
      let x = stands-exact Q W pin T t q v h l in
      (λ b. x.0 (sym e ∙ b), λ c. e ∙ x.1 c)
