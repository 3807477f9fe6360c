-- What a renumbering keeps of a case: inclusion, and every question on its tables, because sizes and counts stay, parents are asked for by the
-- rule of trees alone, and all other fields stay with their nodes. Assumes nothing.
use Prim.Native.Nat.{ℕ, ◌<◌}
use mathlib.Core.Path.{◌≡◌, refl, sym, ap, ◌∙◌, subst}
use mathlib.Core.Bool.{Bool, true, false, ◌&&◌, ◌||◌, not}
use mathlib.Core.Logic.{◌⊎◌, inl, inr, ◌↔◌}
use mathlib.Core.List.{List, []}
use native.Mathlib.Omega.{arith}
use native.Mathlib.Nat.{eq-zero-or-pos}
use lib.Dec.{eqb, leb, ltb}
use lib.ListN.{length, get_or}
use borrow.Author.Tests.{eqb-true, ltb-true, eq-eqb, lt-ltb}
use Rattle.model.specs.Lists.{up_from, all_of, count_of}
use Rattle.model.specs.Limits.{max_summary, max_pattern, max_members, max_position}
use Rattle.model.specs.Tree.{IsTree}
use Rattle.model.specs.Summary.{Summary, no_summary_record, as_document, summary_parent, summary_label}
use Rattle.model.specs.Pattern.{PatternRecord, Pattern, no_pattern_record, IsPatternTree, pattern_parent, arity, Result, Contained, pattern_figure}
use Rattle.model.specs.Fitting.{parent_rule}
use Rattle.model.specs.Bytes.{Case}
use Rattle.model.specs.Questions.{between, count_in_range, counts_in_range, set_in_range, summary_record_kept, summary_kept, alike, siblings_differ, pattern_record_kept, pattern_kept, patterns_kept, positions_once, positions_kept, figure_in_range, pattern_figures, figures_kept}
use Rattle.model.specs.Renumbering.{SummaryRenumbering, PatternRenumbering, CaseRenumbering}
use Rattle.model.specs.Facts.{SummaryFacts, CaseFacts}
use Rattle.model.proofs.ListLaws.{true-or-false, and_intro, and_left, and_right, or_left, mem-at, at_mem, all-intro, all-elim, all-agree, all-below, below_all}
use Rattle.model.proofs.TreeLaws.{length-as_document}
use Rattle.model.proofs.Fitting.{rooted-rule}
use Rattle.model.proofs.CaseFacts.{between-facts, summary-facts}
use Rattle.model.proofs.Renumbering.{renumbering-self, renumbering-after, renumbering-back, renumbered-length, fields_back, root-back, summary-rooted, pattern-figure}
use Rattle.model.proofs.RenumberedTables.{renumbered-arity, renumbered-holders, renumbered-result, renumbered-fits, renumbered-summary-facts}

-- each table of the case is a rooted tree
pub record CaseTrees (c : Case) : Type 0 where
  pub summary : IsTree (as_document c.summary)
  pub first : IsPatternTree c.first
  pub members : (i : ℕ) → i < length c.members → IsPatternTree (get_or c.members i [])

pub case-trees : {c : Case} → CaseFacts c → CaseTrees c
case-trees {c} f =
    record {
      summary = f.summary.tree;
      first = f.first.tree;
      members = λ i h. (f.members (get_or c.members i []) (mem-at c.members i [] h)).pattern.tree;
    }

-- ---- itself, one after another, there and back

pub case-renumbering-self : (c : Case) → CaseRenumbering c c
case-renumbering-self c =
    record {
      summary = renumbering-self c.summary;
      first = renumbering-self c.first;
      count = refl;
      members = λ i h. renumbering-self (get_or c.members i []);
    }

pub case-renumbering-after : {c d e : Case} → CaseRenumbering c d → CaseRenumbering d e → CaseRenumbering c e
case-renumbering-after r s =
    record {
      summary = renumbering-after r.summary s.summary;
      first = renumbering-after r.first s.first;
      count = r.count ∙ s.count;
      members = λ i h. renumbering-after (r.members i h) (s.members i (subst (λ (n : ℕ). i < n) r.count h));
    }

pub case-renumbering-back : {c d : Case} → CaseTrees c → CaseRenumbering c d → CaseRenumbering d c
case-renumbering-back {c} {d} t r =
    record {
      summary = renumbering-back r.summary (summary-rooted c.summary t.summary);
      first = renumbering-back r.first t.first;
      count = sym r.count;
      members = λ i h. (let l : i < length c.members = subst (λ (n : ℕ). i < n) (sym r.count) h in renumbering-back (r.members i l) (t.members i l));
    }

-- ---- inclusion

contained-on : {c d : Case} → CaseRenumbering c d → CaseFacts c → CaseFacts d → Contained c.summary c.first c.members → Contained d.summary d.first d.members
contained-on {c} {d} r f g h W fit rs k =
    let some = h W ((renumbered-fits r.summary f.summary.tree g.summary.tree).1 fit) rs ((renumbered-result r.first f.first g.first.tree).1 k) in
    let at = at_mem c.members some.pattern [] some.among in
    let i : ℕ = at.0 in
    let inside : i < length d.members = subst (λ (n : ℕ). i < n) r.count at.1 in
    record {
      pattern = get_or d.members i [];
      among = mem-at d.members i [] inside;
      result =
          (renumbered-result (r.members i at.1) (f.members (get_or c.members i []) (mem-at c.members i [] at.1)).pattern ((case-trees g).members i inside)).0
          (subst (λ (Q : Pattern). Result Q W rs) (sym at.2) some.result);
    }

pub renumbered-contained : {c d : Case} → CaseRenumbering c d → CaseFacts c → CaseFacts d
    → Contained c.summary c.first c.members ↔ Contained d.summary d.first d.members
renumbered-contained r f g = (λ h. contained-on r f g h, λ h. contained-on (case-renumbering-back (case-trees f) r) g f h)

-- ---- the outline's questions

-- the rule for the root's edge goes along
root_kept : (i j v w : ℕ) → (j ≡ 0 → i ≡ 0) → v ≡ w → (ltb 0 i || eqb v 0) ≡ true → (ltb 0 j || eqb w 0) ≡ true
root_kept i j v w root e k = go (eq-zero-or-pos j)
  where
    go : (j ≡ 0) ⊎ (0 < j) → (ltb 0 j || eqb w 0) ≡ true
    go (inl z) = subst (λ (x : ℕ). (ltb 0 j || eqb x 0) ≡ true) e (subst (λ (x : ℕ). (ltb 0 x || eqb v 0) ≡ true) (root z ∙ sym z) k)
    go (inr p) = or_left (eqb w 0) (lt-ltb 0 j p)

module _ {S T : Summary} (r : SummaryRenumbering S T) (some : IsTree (as_document S)) (tree : IsTree (as_document T)) where
  pub renumbered-summary-kept : summary_kept S ≡ true → summary_kept T ≡ true
  unfolding summary_kept summary_record_kept
  renumbered-summary-kept kept = below_all (summary_record_kept T) (length T) at
    where
      at : (j : ℕ) → j < length T → summary_record_kept T j ≡ true
      at j h =
          let i : ℕ = r.from j in
          let k : summary_record_kept S i ≡ true = all-below (summary_record_kept S) (length S) kept i (r.inside_back j h) in
          let e = fields_back r j h in
          let strong : (get_or S i no_summary_record).strong ≡ (get_or T j no_summary_record).strong = ap (λ (l : List ℕ). get_or l 1 0) e in
          and_intro
          (and_intro
          (and_intro (rooted-rule (summary-rooted T tree) j h)
          (sym (ap (λ (l : List ℕ). ltb 0 (get_or l 0 0)) e) ∙ and_right (parent_rule i (get_or S i no_summary_record).parent) _ (and_left _ _ (and_left _ _ k))))
          (sym (ap (λ (x : ℕ). leb x 1) strong) ∙ and_right (parent_rule i (get_or S i no_summary_record).parent && ltb 0 (get_or S i no_summary_record).label) _ (and_left _ _ k)))
          (root_kept i j (get_or S i no_summary_record).strong (get_or T j no_summary_record).strong (λ z. ap r.from z ∙ root-back r (summary-rooted S some)) strong
          (and_right (parent_rule i (get_or S i no_summary_record).parent && ltb 0 (get_or S i no_summary_record).label && leb (get_or S i no_summary_record).strong 1) _ k))

-- siblings differ wherever the rule says so
pub siblings-differ : (S : Summary) → SummaryFacts S → siblings_differ S ≡ true
unfolding siblings_differ alike
siblings-differ S f = below_all (λ j. all_of (λ i. not (alike S i j)) (up_from 0 j)) (length S) (λ j h. below_all (λ i. not (alike S i j)) j (λ i l. ap not (go i j h l (true-or-false (alike S i j)))))
  where
    inside : {i : ℕ} → i < length S → i < length (as_document S)
    inside {i} h = subst (λ (n : ℕ). i < n) (sym (length-as_document S)) h

    go : (i j : ℕ) → j < length S → i < j → (alike S i j ≡ true) ⊎ (alike S i j ≡ false) → alike S i j ≡ false
    go i j h l (inr e) = e
    go i j h l (inl e) =
        let first : 0 < i = ltb-true 0 i (and_left _ _ (and_left _ _ e)) in
        let parents : summary_parent S i ≡ summary_parent S j = eqb-true (summary_parent S i) (summary_parent S j) (and_right (ltb 0 i) _ (and_left _ _ e)) in
        let labels : summary_label S i ≡ summary_label S j = eqb-true (summary_label S i) (summary_label S j) (and_right (ltb 0 i && eqb (summary_parent S i) (summary_parent S j)) _ e) in
        let same : i ≡ j =
        f.siblings (summary_parent S j) i j (record { not_root = first; inside = inside (omega arith); is_parent = parents }) (record { not_root = omega arith; inside = inside h; is_parent = refl }) labels in
        absurd (omega arith)

-- ---- the selections' questions

module _ {P Q : Pattern} (r : PatternRenumbering P Q) where
  pub renumbered-pattern-kept : IsPatternTree P → IsPatternTree Q → pattern_kept P ≡ true → pattern_kept Q ≡ true
  unfolding pattern_kept pattern_record_kept
  renumbered-pattern-kept some tree kept = below_all (pattern_record_kept Q) (length Q) at
    where
      at : (j : ℕ) → j < length Q → pattern_record_kept Q j ≡ true
      at j h =
          let i : ℕ = r.from j in
          let k : pattern_record_kept P i ≡ true = all-below (pattern_record_kept P) (length P) kept i (r.inside_back j h) in
          let e = fields_back r j h in
          let edge : (get_or P i no_pattern_record).edge ≡ (get_or Q j no_pattern_record).edge = ap (λ (l : List ℕ). get_or l 1 0) e in
          and_intro
          (and_intro
          (and_intro (rooted-rule tree j h)
          (sym (ap (λ (x : ℕ). leb x 1) edge) ∙ and_right (parent_rule i (pattern_parent P i)) _ (and_left _ _ (and_left _ _ k))))
          (root_kept i j (get_or P i no_pattern_record).edge (get_or Q j no_pattern_record).edge (λ z. ap r.from z ∙ root-back r some) edge
          (and_right (parent_rule i (pattern_parent P i) && leb (get_or P i no_pattern_record).edge 1) _ (and_left _ _ k))))
          (sym (ap (λ (l : List ℕ). leb (get_or l 2 0) max_position) e)
          ∙ and_right (parent_rule i (pattern_parent P i) && leb (get_or P i no_pattern_record).edge 1 && (ltb 0 i || eqb (get_or P i no_pattern_record).edge 0)) _ k)

  pub renumbered-positions : positions_once P ≡ positions_once Q
  unfolding positions_once
  renumbered-positions =
      ap (λ (b : Bool). leb 1 (arity P) && b)
      (all-agree (λ p. eqb (count_of (λ (x : PatternRecord). eqb x.position p) P) 1) (λ p. eqb (count_of (λ (x : PatternRecord). eqb x.position p) Q) 1) (up_from 1 (arity P))
      (λ p m. ap (λ (n : ℕ). eqb n 1) (renumbered-holders r p)))
      ∙ ap (λ (n : ℕ). leb 1 n && all_of (λ p. eqb (count_of (λ (x : PatternRecord). eqb x.position p) Q) 1) (up_from 1 n)) (renumbered-arity r)

  renumbered-figures : pattern_figures P ≡ true → pattern_figures Q ≡ true
  unfolding pattern_figures
  renumbered-figures e =
      below_all (λ q. figure_in_range (pattern_figure Q q)) (length Q)
      (λ j h. (
      let k = all-below (λ q. figure_in_range (pattern_figure P q)) (length P) e (r.from j) (r.inside_back j h) in
      ap figure_in_range (ap (pattern_figure Q) (sym (r.forth j h)) ∙ pattern-figure r (r.from j) (r.inside_back j h)) ∙ k
      ))

  renumbered-count-range : count_in_range P ≡ count_in_range Q
  renumbered-count-range = ap (λ (n : ℕ). between 1 max_pattern n) (renumbered-length r)

-- ---- the questions on the tables

-- each is answered yes: 4, 14, 5, 6, 7, 17, 8
pub record TablesKept (c : Case) : Type 0 where
  pub counts : counts_in_range c ≡ true
  pub few : set_in_range c ≡ true
  pub summary : summary_kept c.summary ≡ true
  pub siblings : siblings_differ c.summary ≡ true
  pub patterns : patterns_kept c ≡ true
  pub figures : figures_kept c ≡ true
  pub positions : positions_kept c ≡ true

module _ {c d : Case} (r : CaseRenumbering c d) where
  -- a test of every member, by places
  members_kept : (s t : Pattern → Bool) → ((i : ℕ) → i < length c.members → s (get_or c.members i []) ≡ true → t (get_or d.members i []) ≡ true)
      → all_of s c.members ≡ true → all_of t d.members ≡ true
  members_kept s t each all =
      all-intro t d.members (λ Q m. (
      let at = at_mem d.members Q [] m in
      let l : at.0 < length c.members = subst (λ (n : ℕ). at.0 < n) (sym r.count) at.1 in
      ap t (sym at.2) ∙ each at.0 l (all-elim s c.members all (get_or c.members at.0 []) (mem-at c.members at.0 [] l))
      ))

  pub renumbered-kept : CaseTrees c → CaseTrees d → TablesKept c → TablesKept d
  unfolding counts_in_range set_in_range patterns_kept figures_kept positions_kept
  renumbered-kept some trees k =
      record {
        counts =
            and_intro
            (and_intro (sym (ap (λ (n : ℕ). between 1 max_summary n) (renumbered-length r.summary)) ∙ and_left _ _ (and_left _ _ k.counts))
            (sym (renumbered-count-range r.first) ∙ and_right (between 1 max_summary (length c.summary)) _ (and_left _ _ k.counts)))
            (members_kept count_in_range count_in_range (λ i h e. sym (renumbered-count-range (r.members i h)) ∙ e)
            (and_right (between 1 max_summary (length c.summary) && count_in_range c.first) _ k.counts));
        few = sym (ap (λ (n : ℕ). between 1 max_members n) r.count) ∙ k.few;
        summary = renumbered-summary-kept r.summary some.summary trees.summary k.summary;
        siblings = siblings-differ d.summary (renumbered-summary-facts r.summary facts trees.summary);
        patterns =
            and_intro (renumbered-pattern-kept r.first some.first trees.first (and_left _ _ k.patterns))
            (members_kept pattern_kept pattern_kept
            (λ i h e. renumbered-pattern-kept (r.members i h) (some.members i h) (trees.members i (subst (λ (n : ℕ). i < n) r.count h)) e)
            (and_right (pattern_kept c.first) _ k.patterns));
        figures =
            and_intro (renumbered-figures r.first (and_left _ _ k.figures))
            (members_kept pattern_figures pattern_figures (λ i h e. renumbered-figures (r.members i h) e) (and_right (pattern_figures c.first) _ k.figures));
        positions =
            and_intro (sym (renumbered-positions r.first) ∙ and_left _ _ k.positions)
            (members_kept (λ Q. positions_once Q && eqb (arity c.first) (arity Q)) (λ Q. positions_once Q && eqb (arity d.first) (arity Q))
            (λ i h e. (
            let P : Pattern = get_or c.members i [] in
            let Q : Pattern = get_or d.members i [] in
            let same : arity c.first ≡ arity P = eqb-true (arity c.first) (arity P) (and_right (positions_once P) _ e) in
            and_intro (sym (renumbered-positions (r.members i h)) ∙ and_left _ _ e)
            (eq-eqb (arity d.first) (arity Q) (sym (renumbered-arity r.first) ∙ same ∙ renumbered-arity (r.members i h)))
            ))
            (and_right (positions_once c.first) _ k.positions));
      }
    where
      facts : SummaryFacts c.summary
      facts = summary-facts c.summary (between-facts 1 max_summary (length c.summary) (and_left _ _ (and_left _ _ k.counts))).0 k.summary k.siblings
