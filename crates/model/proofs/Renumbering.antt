-- Renumbering, of tables of any records: a table is a renumbering of itself, going back is one and one after another is one; two such tables
-- are equally long, and a test that looks at no parent counts as many in both. An outline is renumbered as the selection that it is read as.
-- Assumes nothing.
use Prim.Native.Nat.{ℕ, ◌≤◌, ◌<◌}
use mathlib.Core.Path.{◌≡◌, refl, sym, ap, ap₂, ◌∙◌, subst}
use mathlib.Core.Bool.{Bool}
use mathlib.Core.List.{List, [], ◌∷◌}
use native.Mathlib.Omega.{arith}
use lib.ListN.{length, get_or, length-map, get_or-map}
use Rattle.model.specs.Lists.{count_of}
use Rattle.model.specs.Tree.{Rooted, DocumentRecord, IsTree}
use Rattle.model.specs.Summary.{Summary, no_summary_record, without_strong, as_document, summary_parent, summary_label}
use Rattle.model.specs.Pattern.{Pattern, PatternRecord, no_pattern_record}
use Rattle.model.specs.Renumbering.{Renumbering, pattern_others, SummaryRenumbering, PatternRenumbering}
use Rattle.model.specs.Normal.{read_as, as_pattern}
use Rattle.model.proofs.TreeLaws.{length-as_document, rooted-inside}
use Rattle.model.proofs.Counting.{pigeonhole}
use Rattle.model.proofs.Distinct.{passing, count-passing, passing-distinct, passing-elim, passing-intro, no_longer}

module _ {A : Type 0} {none : A} {parent : A → ℕ} {others : A → List ℕ} where
  -- a table as it is
  pub renumbering-self : (P : List A) → Renumbering none parent others P P
  renumbering-self P =
      record {
        to = λ i. i;
        from = λ i. i;
        inside = λ i h. h;
        inside_back = λ i h. h;
        back = λ i h. refl;
        forth = λ i h. refl;
        root = refl;
        parents = λ i h. refl;
        fields = λ i h. refl;
      }

  -- one after another
  pub renumbering-after : {P Q R : List A} → Renumbering none parent others P Q → Renumbering none parent others Q R → Renumbering none parent others P R
  renumbering-after f g =
      record {
        to = λ i. g.to (f.to i);
        from = λ j. f.from (g.from j);
        inside = λ i h. g.inside (f.to i) (f.inside i h);
        inside_back = λ j h. f.inside_back (g.from j) (g.inside_back j h);
        back = λ i h. ap f.from (g.back (f.to i) (f.inside i h)) ∙ f.back i h;
        forth = λ j h. ap g.to (f.forth (g.from j) (g.inside_back j h)) ∙ g.forth j h;
        root = ap g.to f.root ∙ g.root;
        parents = λ i h. g.parents (f.to i) (f.inside i h) ∙ ap g.to (f.parents i h);
        fields = λ i h. g.fields (f.to i) (f.inside i h) ∙ f.fields i h;
      }

  module _ {P Q : List A} (r : Renumbering none parent others P Q) where
    -- no two nodes go to one
    pub renumbered-apart : (i j : ℕ) → i < length P → j < length P → r.to i ≡ r.to j → i ≡ j
    renumbered-apart i j h k e = sym (r.back i h) ∙ ap r.from e ∙ r.back j k

    -- nor on the way back
    pub renumbered-apart-back : (i j : ℕ) → i < length Q → j < length Q → r.from i ≡ r.from j → i ≡ j
    renumbered-apart-back i j h k e = sym (r.forth i h) ∙ ap r.to e ∙ r.forth j k

    pub renumbered-length : length P ≡ length Q
    renumbered-length =
        let one : length P ≤ length Q = pigeonhole (length P) (length Q) r.to r.inside renumbered-apart in
        let two : length Q ≤ length P = pigeonhole (length Q) (length P) r.from r.inside_back renumbered-apart-back in
        omega arith

    -- what stands at a node of the second table, as it stands in the first
    pub fields_back : (j : ℕ) → j < length Q → others (get_or P (r.from j) none) ≡ others (get_or Q j none)
    fields_back j h = sym (r.fields (r.from j) (r.inside_back j h)) ∙ ap (λ (k : ℕ). others (get_or Q k none)) (r.forth j h)

    -- a node other than the root goes to one
    pub renumbered-not-root : (i : ℕ) → 0 < i → i < length P → 0 < r.to i
    renumbered-not-root i z h =
        let other : r.to i ≡ 0 → ⊥ = λ e. (let k : i ≡ 0 = renumbered-apart i 0 h (omega arith) (e ∙ sym r.root) in omega arith) in
        omega arith

    module _ (tree : Rooted (length P) (λ i. parent (get_or P i none))) where
      pub root-back : r.from 0 ≡ 0
      root-back = ap r.from (sym r.root) ∙ r.back 0 tree.inhabited

      -- there and back
      unfoldable pub renumbering-back : Renumbering none parent others Q P
      renumbering-back =
          record {
            to = r.from;
            from = r.to;
            inside = r.inside_back;
            inside_back = r.inside;
            back = r.forth;
            forth = r.back;
            root = root-back;
            parents = λ j h. (
                let i : ℕ = r.from j in
                let l : i < length P = r.inside_back j h in
                sym (r.back (parent (get_or P i none)) (rooted-inside tree i l)) ∙ ap r.from (sym (r.parents i l) ∙ ap (λ (k : ℕ). parent (get_or Q k none)) (r.forth j h))
                );
            fields = fields_back;
          }

    -- a test that looks at the other fields alone counts as many in both
    module _ (test : A → Bool) (alike : (x y : A) → others x ≡ others y → test x ≡ test y) where
      pub renumbered-passes : (i : ℕ) → i < length P → test (get_or Q (r.to i) none) ≡ test (get_or P i none)
      renumbered-passes i h = alike (get_or Q (r.to i) none) (get_or P i none) (r.fields i h)

      pub passes-back : (j : ℕ) → j < length Q → test (get_or P (r.from j) none) ≡ test (get_or Q j none)
      passes-back j h = alike (get_or P (r.from j) none) (get_or Q j none) (fields_back j h)

      pub renumbered-count : count_of test P ≡ count_of test Q
      renumbered-count =
          let there : length (passing test none P) ≤ length (passing test none Q) =
          no_longer 0 0 (passing test none P) (passing test none Q) r.to
          (λ i m. (let k = passing-elim test none P i m in passing-intro test none Q (r.to i) (r.inside i k.0) (renumbered-passes i k.0 ∙ k.1)))
          (passing-distinct test none P)
          (λ i j m n e. renumbered-apart i j (passing-elim test none P i m).0 (passing-elim test none P j n).0 e) in
          let back : length (passing test none Q) ≤ length (passing test none P) =
          no_longer 0 0 (passing test none Q) (passing test none P) r.from
          (λ i m. (let k = passing-elim test none Q i m in passing-intro test none P (r.from i) (r.inside_back i k.0) (passes-back i k.0 ∙ k.1)))
          (passing-distinct test none Q)
          (λ i j m n e. renumbered-apart-back i j (passing-elim test none Q i m).0 (passing-elim test none Q j n).0 e) in
          let p = count-passing test none P in
          let q = count-passing test none Q in
          omega arith

-- ---- outlines and selections, field by field

module _ (S : Summary) (i : ℕ) where
  -- the outline's record, read as a volume's
  as-document : (r : DocumentRecord → ℕ) → r (get_or (as_document S) i (without_strong no_summary_record)) ≡ r (without_strong (get_or S i no_summary_record))
  as-document r = ap r (get_or-map without_strong S i no_summary_record)

  pub parent_of : summary_parent S i ≡ (get_or S i no_summary_record).parent
  parent_of = as-document (λ x. x.parent)

  pub label_of : summary_label S i ≡ (get_or S i no_summary_record).label
  label_of = as-document (λ x. x.label)

-- an outline that is a tree is one by its own records
pub summary-rooted : (S : Summary) → IsTree (as_document S) → Rooted (length S) (λ i. (get_or S i no_summary_record).parent)
summary-rooted S t =
    let n : length (as_document S) ≡ length S = length-as_document S in
    record {
      inhabited = subst (λ (k : ℕ). 0 < k) n t.inhabited;
      root = sym (parent_of S 0) ∙ t.root;
      earlier = λ i z h. subst (λ (p : ℕ). p < i) (parent_of S i) (t.earlier i z (subst (λ (k : ℕ). i < k) (sym n) h));
    }

pub rooted-summary : (S : Summary) → Rooted (length S) (λ i. (get_or S i no_summary_record).parent) → IsTree (as_document S)
rooted-summary S t =
    let n : length (as_document S) ≡ length S = length-as_document S in
    record {
      inhabited = subst (λ (k : ℕ). 0 < k) (sym n) t.inhabited;
      root = parent_of S 0 ∙ t.root;
      earlier = λ i z h. subst (λ (p : ℕ). p < i) (sym (parent_of S i)) (t.earlier i z (subst (λ (k : ℕ). i < k) n h));
    }

-- a member of a list of fields
field_of : (k : ℕ) {xs ys : List ℕ} → xs ≡ ys → get_or xs k 0 ≡ get_or ys k 0
field_of k e = ap (λ (l : List ℕ). get_or l k 0) e

module _ {S T : Summary} (r : SummaryRenumbering S T) where
  pub renumbered-label : (i : ℕ) → i < length S → (get_or T (r.to i) no_summary_record).label ≡ (get_or S i no_summary_record).label
  renumbered-label i h = field_of 0 (r.fields i h)

  pub renumbered-strong : (i : ℕ) → i < length S → (get_or T (r.to i) no_summary_record).strong ≡ (get_or S i no_summary_record).strong
  renumbered-strong i h = field_of 1 (r.fields i h)

module _ {P Q : Pattern} (r : PatternRenumbering P Q) where
  pub pattern-label : (i : ℕ) → i < length P → (get_or Q (r.to i) no_pattern_record).label ≡ (get_or P i no_pattern_record).label
  pattern-label i h = field_of 0 (r.fields i h)

  pub pattern-edge : (i : ℕ) → i < length P → (get_or Q (r.to i) no_pattern_record).edge ≡ (get_or P i no_pattern_record).edge
  pattern-edge i h = field_of 1 (r.fields i h)

  pub pattern-position : (i : ℕ) → i < length P → (get_or Q (r.to i) no_pattern_record).position ≡ (get_or P i no_pattern_record).position
  pattern-position i h = field_of 2 (r.fields i h)

  pub pattern-figure : (i : ℕ) → i < length P → (get_or Q (r.to i) no_pattern_record).figure ≡ (get_or P i no_pattern_record).figure
  pattern-figure i h = field_of 3 (r.fields i h)

-- ---- an outline read as a selection

module _ (S : Summary) where
  pub length-as_pattern : length (as_pattern S) ≡ length S
  length-as_pattern = length-map S read_as

  pub record-as_pattern : (i : ℕ) → get_or (as_pattern S) i no_pattern_record ≡ read_as (get_or S i no_summary_record)
  record-as_pattern i = get_or-map read_as S i no_summary_record

module _ (S T : Summary) where
  -- the renumberings of outlines are those of the selections that they are read as
  pub pattern-renumbering : SummaryRenumbering S T → PatternRenumbering (as_pattern S) (as_pattern T)
  pattern-renumbering r =
      record {
        to = r.to;
        from = r.from;
        inside = λ i h. subst (λ (k : ℕ). r.to i < k) (sym (length-as_pattern T)) (r.inside i (here h));
        inside_back = λ j h. subst (λ (k : ℕ). r.from j < k) (sym (length-as_pattern S)) (r.inside_back j (there h));
        back = λ i h. r.back i (here h);
        forth = λ j h. r.forth j (there h);
        root = r.root;
        parents = λ i h. ap (λ (x : PatternRecord). x.parent) (record-as_pattern T (r.to i)) ∙ r.parents i (here h) ∙ ap (λ (x : PatternRecord). r.to x.parent) (sym (record-as_pattern S i));
        fields = λ i h.
            ap pattern_others (record-as_pattern T (r.to i)) ∙ ap₂ (λ (l e : ℕ). l ∷ e ∷ 0 ∷ 0 ∷ []) (renumbered-label r i (here h)) (renumbered-strong r i (here h))
            ∙ ap pattern_others (sym (record-as_pattern S i));
      }
    where
      here : {i : ℕ} → i < length (as_pattern S) → i < length S
      here {i} h = subst (λ (k : ℕ). i < k) (length-as_pattern S) h

      there : {i : ℕ} → i < length (as_pattern T) → i < length T
      there {i} h = subst (λ (k : ℕ). i < k) (length-as_pattern T) h

  pub summary-renumbering : PatternRenumbering (as_pattern S) (as_pattern T) → SummaryRenumbering S T
  summary-renumbering r =
      record {
        to = r.to;
        from = r.from;
        inside = λ i h. subst (λ (k : ℕ). r.to i < k) (length-as_pattern T) (r.inside i (here h));
        inside_back = λ j h. subst (λ (k : ℕ). r.from j < k) (length-as_pattern S) (r.inside_back j (there h));
        back = λ i h. r.back i (here h);
        forth = λ j h. r.forth j (there h);
        root = r.root;
        parents = λ i h. ap (λ (x : PatternRecord). x.parent) (sym (record-as_pattern T (r.to i))) ∙ r.parents i (here h) ∙ ap (λ (x : PatternRecord). r.to x.parent) (record-as_pattern S i);
        fields = λ i h. (
            let e : pattern_others (read_as (get_or T (r.to i) no_summary_record)) ≡ pattern_others (read_as (get_or S i no_summary_record)) =
            ap pattern_others (sym (record-as_pattern T (r.to i))) ∙ r.fields i (here h) ∙ ap pattern_others (record-as_pattern S i) in
            ap₂ (λ (l s : ℕ). l ∷ s ∷ []) (field_of 0 e) (field_of 1 e)
            );
      }
    where
      here : {i : ℕ} → i < length S → i < length (as_pattern S)
      here {i} h = subst (λ (k : ℕ). i < k) (sym (length-as_pattern S)) h

      there : {i : ℕ} → i < length T → i < length (as_pattern T)
      there {i} h = subst (λ (k : ℕ). i < k) (sym (length-as_pattern T)) h
