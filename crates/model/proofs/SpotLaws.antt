-- A canonical document's table read as a document, with whatever figures: parents, labels and children are those of the table, and the map
-- to the summary nodes is a homomorphism. Assumes nothing.
use Prim.Native.Nat.{ℕ, zero, suc, ◌<◌}
use mathlib.Core.Path.{◌≡◌, sym, ap, ◌∙◌, subst}
use mathlib.Core.List.{List}
use native.Mathlib.Omega.{arith}
use native.Mathlib.Nat.{zero-add}
use lib.ListN.{length, get_or}
use Rattle.model.specs.Tree.{DocumentRecord, no_document_record, IsTree, parent_of, label_of, figure_of, Child, Hom}
use Rattle.model.specs.Summary.{Summary, as_document, summary_label}
use Rattle.model.specs.Pattern.{Pattern}
use Rattle.model.specs.Canonical.{Spot, spot_parent, spot_at, spot_record, spot_records}
use Rattle.model.proofs.ListLaws.{length-map-up_from, get_or-map-up_from}
use Rattle.model.proofs.Laid.{SpotChild, Laid}

-- it has the table's nodes
pub length-spots : (S : Summary) (f : ℕ → ℕ) (spots : List Spot) → length (spot_records S f spots) ≡ length spots
unfolding spot_records
length-spots S f spots = length-map-up_from (spot_record S f spots) 0 (length spots)

pub in_table : (S : Summary) (f : ℕ → ℕ) (spots : List Spot) (i : ℕ) → i < length (spot_records S f spots) → i < length spots
in_table S f spots i = subst (λ (n : ℕ). i < n) (length-spots S f spots)

pub in-document : (S : Summary) (f : ℕ → ℕ) (spots : List Spot) (i : ℕ) → i < length spots → i < length (spot_records S f spots)
in-document S f spots i = subst (λ (n : ℕ). i < n) (sym (length-spots S f spots))

pub spot-record : (S : Summary) (f : ℕ → ℕ) (spots : List Spot) (i : ℕ) → i < length spots → get_or (spot_records S f spots) i no_document_record ≡ spot_record S f spots i
unfolding spot_records
spot-record S f spots i h = get_or-map-up_from (spot_record S f spots) 0 (length spots) i no_document_record h ∙ ap (spot_record S f spots) (zero-add i)

pub spot-parent : (S : Summary) (f : ℕ → ℕ) (spots : List Spot) (i : ℕ) → i < length spots → parent_of (spot_records S f spots) i ≡ spot_parent spots i
spot-parent S f spots i h = ap (λ (r : DocumentRecord). r.parent) (spot-record S f spots i h)

pub spot-label : (S : Summary) (f : ℕ → ℕ) (spots : List Spot) (i : ℕ) → i < length spots → label_of (spot_records S f spots) i ≡ summary_label S (spot_at spots i)
spot-label S f spots i h = ap (λ (r : DocumentRecord). r.label) (spot-record S f spots i h)

pub spot-figure : (S : Summary) (f : ℕ → ℕ) (spots : List Spot) (i : ℕ) → i < length spots → figure_of (spot_records S f spots) i ≡ f i
spot-figure S f spots i h = ap (λ (r : DocumentRecord). r.figure) (spot-record S f spots i h)

-- ---- children

pub spot-child : (S : Summary) (f : ℕ → ℕ) (spots : List Spot) (a b : ℕ) → SpotChild spots a b → Child (spot_records S f spots) a b
spot-child S f spots a b c =
    record {
      not_root = c.not_root;
      inside = in-document S f spots b c.inside;
      is_parent = spot-parent S f spots b c.inside ∙ c.is_parent;
    }

pub child-spot : (S : Summary) (f : ℕ → ℕ) (spots : List Spot) (a b : ℕ) → Child (spot_records S f spots) a b → SpotChild spots a b
child-spot S f spots a b c =
    let l : b < length spots = in_table S f spots b c.inside in
    record { not_root = c.not_root; inside = l; is_parent = sym (spot-parent S f spots b l) ∙ c.is_parent }

-- ---- a laid-out table

module _ {S : Summary} {P : Pattern} {es : List ℕ} {spots : List Spot} {own : List ℕ} where
  pub laid-tree : (f : ℕ → ℕ) → Laid S P es spots own → IsTree (spot_records S f spots)
  laid-tree f d =
      record {
        inhabited = in-document S f spots 0 d.some;
        root = spot-parent S f spots 0 d.some ∙ d.root_parent;
        earlier = λ i p h. let l : i < length spots = in_table S f spots i h in subst (λ (n : ℕ). n < i) (sym (spot-parent S f spots i l)) (d.earlier i p l);
      }

  -- a node's path is one of the summary
  pub laid-inside : IsTree (as_document S) → Laid S P es spots own → (i : ℕ) → i < length spots → spot_at spots i < length (as_document S)
  laid-inside t d zero h = subst (λ (n : ℕ). n < length (as_document S)) (sym d.root_at) t.inhabited
  laid-inside t d (suc i) h = (d.edges (suc i) (omega arith) h).inside

  pub laid-summary : (f : ℕ → ℕ) → IsTree (as_document S) → Laid S P es spots own → Hom (spot_records S f spots) (as_document S) (spot_at spots)
  laid-summary f t d =
      record {
        root = d.root_at;
        inside = λ i h. laid-inside t d i (in_table S f spots i h);
        labels = λ i h. sym (spot-label S f spots i (in_table S f spots i h));
        children = λ a b c. go a b (child-spot S f spots a b c);
      }
    where
      go : (a b : ℕ) → SpotChild spots a b → Child (as_document S) (spot_at spots a) (spot_at spots b)
      go a b c = subst (λ (x : ℕ). Child (as_document S) (spot_at spots x) (spot_at spots b)) c.is_parent (d.edges b c.not_root c.inside)
