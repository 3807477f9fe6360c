-- What questions 3 to 8 establish of a case. A position beyond k is shut out by counting: k nodes hold one, and 1 to k take one node
-- each. Assumes nothing.
use Prim.Native.Nat.{ℕ, ◌+◌, ◌-◌, ◌≤◌, ◌<◌}
use mathlib.Core.Path.{◌≡◌, refl, sym, ap, ◌∙◌}
use mathlib.Core.Bool.{Bool, true, false, ◌&&◌, ◌||◌, not}
use mathlib.Core.Logic.{◌⊎◌, inl, inr, ◌≢◌}
use mathlib.Core.List.{List, [], ◌++◌, Memᴰ}
use native.Mathlib.Omega.{arith}
use native.Mathlib.Nat.{le_refl}
use lib.Dec.{eqb, leb, ltb}
use lib.ListN.{length, get_or, get_or-map}
use borrow.Author.Tests.{eqb-true, eqb-false, leb-true, ltb-true, ltb-false, eq-eqb, lt-ltb, not-true}
use Rattle.model.specs.Lists.{up_from, all_of, count_of}
use Rattle.model.specs.Limits.{max_summary, max_pattern, max_members, max_position, max_figure}
use Rattle.model.specs.Tree.{DocumentRecord, IsTree, Child}
use Rattle.model.specs.Summary.{Summary, no_summary_record, without_strong, as_document, summary_parent, summary_label}
use Rattle.model.specs.Pattern.{PatternRecord, Pattern, no_pattern_record, IsPatternTree, pattern_parent, position, pattern_figure, arity, node_at}
use Rattle.model.specs.Fitting.{parent_rule}
use Rattle.model.specs.Bytes.{Case, case_of}
use Rattle.model.specs.Questions.{between, case_whole, count_in_range, counts_in_range, set_in_range, summary_record_kept, summary_kept, alike, siblings_differ, pattern_record_kept, pattern_kept, patterns_kept, figure_in_range, pattern_figures, figures_kept, positions_once, positions_kept, pattern_given, selected, Question, refusal, case_questions}
use Rattle.model.specs.Facts.{SummaryFacts, PatternFacts, FewFigures, MemberFacts, CaseFacts, AcceptedCase}
use Rattle.model.proofs.ListLaws.{mem-at, and_intro, and_left, and_right, not-both, true-or-false, all-elim, all-below, mem-up_from, up_from-mem, first-hit}
use Rattle.model.proofs.TreeLaws.{length-as_document}
use Rattle.model.proofs.Fitting.{rooted}
use Rattle.model.proofs.Bytes.{whole-case}
use Rattle.model.proofs.CountLaws.{count-some, some-count, count-once, count-beyond}
use Rattle.model.proofs.Refusals.{AllYes, Numbered, accepted-all-yes, all-yes-left, all-yes-right, numbered-append}

-- ---- the outline

module _ (S : Summary) where
  parent-as_document : (i : ℕ) → summary_parent S i ≡ (get_or S i no_summary_record).parent
  parent-as_document i = ap (λ (r : DocumentRecord). r.parent) (get_or-map without_strong S i no_summary_record)

  summary-tree : 1 ≤ length S → summary_kept S ≡ true → IsTree (as_document S)
  unfolding summary_kept summary_record_kept
  summary-tree some kept = rooted (length (as_document S)) (summary_parent S) (let e = length-as_document S in omega arith) rule
    where
      rule : (i : ℕ) → i < length (as_document S) → parent_rule i (summary_parent S i) ≡ true
      rule i h =
          let k : summary_record_kept S i ≡ true = all-below (summary_record_kept S) (length S) kept i (let e = length-as_document S in omega arith) in
          ap (parent_rule i) (parent-as_document i) ∙ and_left _ _ (and_left _ _ (and_left _ _ k))

  -- two siblings with one label, the first before the second: there are none
  no-alike : siblings_differ S ≡ true → (s t u : ℕ) → Child (as_document S) s t → Child (as_document S) s u → summary_label S t ≡ summary_label S u → t < u → ⊥
  unfolding siblings_differ alike
  no-alike differ s t u ct cu same h =
      let inside : u < length S = let e = length-as_document S in let k = cu.inside in omega arith in
      let outer = all-below (λ j. all_of (λ i. not (alike S i j)) (up_from 0 j)) (length S) differ u inside in
      let inner : not (alike S t u) ≡ true = all-below (λ i. not (alike S i u)) u outer t h in
      not-both (alike S t u)
      (and_intro (and_intro (lt-ltb 0 t ct.not_root) (eq-eqb (summary_parent S t) (summary_parent S u) (ct.is_parent ∙ sym cu.is_parent)))
      (eq-eqb (summary_label S t) (summary_label S u) same))
      (not-true (alike S t u) inner)

  siblings-one : siblings_differ S ≡ true → (s t u : ℕ) → Child (as_document S) s t → Child (as_document S) s u → summary_label S t ≡ summary_label S u → t ≡ u
  siblings-one differ s t u ct cu same =
      let before : t < u → ⊥ = no-alike differ s t u ct cu same in
      let after : u < t → ⊥ = no-alike differ s u t cu ct (sym same) in
      omega arith

  pub summary-facts : 1 ≤ length S → summary_kept S ≡ true → siblings_differ S ≡ true → SummaryFacts S
  summary-facts some kept differ = record { tree = summary-tree some kept; siblings = siblings-one differ }

-- ---- a selection

module _ (P : Pattern) where
  pattern-tree : 1 ≤ length P → pattern_kept P ≡ true → IsPatternTree P
  unfolding pattern_kept pattern_record_kept
  pattern-tree some kept =
      rooted (length P) (pattern_parent P) some (λ i h. and_left _ _ (and_left _ _ (and_left _ _ (all-below (pattern_record_kept P) (length P) kept i h))))

  position-bound : pattern_kept P ≡ true → (q : ℕ) → q < length P → position P q ≤ max_position
  unfolding pattern_kept pattern_record_kept
  position-bound kept q h =
      leb-true (position P q) max_position
      (and_right
      (parent_rule q (pattern_parent P q) && leb (get_or P q no_pattern_record).edge 1 && (ltb 0 q || eqb (get_or P q no_pattern_record).edge 0)) _
      (all-below (pattern_record_kept P) (length P) kept q h))

  edge-bound : pattern_kept P ≡ true → (q : ℕ) → q < length P → (get_or P q no_pattern_record).edge ≤ 1
  unfolding pattern_kept pattern_record_kept
  edge-bound kept q h =
      leb-true (get_or P q no_pattern_record).edge 1
      (and_right (parent_rule q (pattern_parent P q)) _ (and_left _ _ (and_left _ _ (all-below (pattern_record_kept P) (length P) kept q h))))

  some-positions : positions_once P ≡ true → 1 ≤ arity P
  unfolding positions_once
  some-positions once = leb-true 1 (arity P) (and_left _ _ once)

  -- each position is held by one node
  held-once : positions_once P ≡ true → (p : ℕ) → 1 ≤ p → p ≤ arity P → count_of (λ (r : PatternRecord). eqb r.position p) P ≡ 1
  unfolding positions_once
  held-once once p l u =
      eqb-true (count_of (λ (r : PatternRecord). eqb r.position p) P) 1
      (all-elim (λ n. eqb (count_of (λ (r : PatternRecord). eqb r.position n) P) 1) (up_from 1 (arity P)) (and_right (leb 1 (arity P)) _ once) p
      (mem-up_from 1 (arity P) p l (omega arith)))

  -- which is its node
  node-holds : positions_once P ≡ true → (p : ℕ) → 1 ≤ p → p ≤ arity P → (node_at P p < length P) × (position P (node_at P p) ≡ p)
  node-holds once p l u =
      let c = held-once once p l u in
      let s = some-count (λ (r : PatternRecord). eqb r.position p) P no_pattern_record (omega arith) in
      let inside : s.0 < length P = s.1 in
      let hit = first-hit (λ q. eqb (position P q) p) (length P) (up_from 0 (length P)) s.0 (mem-up_from 0 (length P) s.0 (omega arith) (omega arith)) s.2 in
      let range = up_from-mem 0 (length P) (node_at P p) hit.0 in
      (omega arith, eqb-true (position P (node_at P p)) p hit.1)

  -- no node holds a position beyond k
  none-beyond : positions_once P ≡ true → (q : ℕ) → q < length P → position P q ≤ arity P
  none-beyond once q h = go (true-or-false (ltb (0 + arity P) (position P q)))
    where
      go : (ltb (0 + arity P) (position P q) ≡ true) ⊎ (ltb (0 + arity P) (position P q) ≡ false) → position P q ≤ arity P
      go (inl y) =
          let all = count-beyond (λ (r : PatternRecord). r.position) (arity P) 0 P (λ p l u. held-once once p l (omega arith)) in
          let some = count-some (λ (r : PatternRecord). ltb (0 + arity P) r.position) P no_pattern_record q h y in
          absurd (omega arith)
      go (inr n) = let l = ltb-false (0 + arity P) (position P q) n in omega arith

  node-once : positions_once P ≡ true → (q : ℕ) → q < length P → 0 < position P q → node_at P (position P q) ≡ q
  node-once once q h l =
      let u = none-beyond once q h in
      let c = held-once once (position P q) l u in
      let n = node-holds once (position P q) l u in
      count-once (λ (r : PatternRecord). eqb r.position (position P q)) P no_pattern_record (omega arith) (node_at P (position P q)) q n.0 h
      (eq-eqb (position P (node_at P (position P q))) (position P q) n.1)
      (eq-eqb (position P q) (position P q) refl)

  pub pattern-facts : 1 ≤ length P → pattern_kept P ≡ true → positions_once P ≡ true → PatternFacts P
  pattern-facts some kept once =
      record {
        tree = pattern-tree some kept;
        holds = λ p l u. (node-holds once p l u).0;
        held = λ p l u. (node-holds once p l u).1;
        once = node-once once;
        range = none-beyond once;
      }

  -- the last position is held, so there are at most 8
  arity-bound : pattern_kept P ≡ true → positions_once P ≡ true → arity P ≤ max_position
  arity-bound kept once =
      let n = node-holds once (arity P) (some-positions once) (le_refl (arity P)) in
      let at : position P (node_at P (arity P)) ≡ arity P = n.1 in
      let b : position P (node_at P (arity P)) ≤ max_position = position-bound kept (node_at P (arity P)) n.0 in
      omega arith

-- ---- the case

pub between-facts : (low high n : ℕ) → between low high n ≡ true → (low ≤ n) × (n ≤ high)
between-facts low high n e = (leb-true low n (and_left _ _ e), leb-true n high (and_right (leb low n) _ e))

few-figures : (P : Pattern) → pattern_figures P ≡ true → FewFigures P
unfolding pattern_figures figure_in_range
few-figures P e q h = leb-true (pattern_figure P q) max_figure (all-below (λ p. figure_in_range (pattern_figure P p)) (length P) e q h)

member-facts : (c : Case) → all_of count_in_range c.members ≡ true → all_of pattern_kept c.members ≡ true
    → all_of (λ Q. positions_once Q && eqb (arity c.first) (arity Q)) c.members ≡ true → (Q : Pattern) → Memᴰ Q c.members → MemberFacts c.first Q
member-facts c counts patterns positions Q m =
    let n = between-facts 1 max_pattern (length Q) (all-elim count_in_range c.members counts Q m) in
    let p : (positions_once Q && eqb (arity c.first) (arity Q)) ≡ true = all-elim (λ R. positions_once R && eqb (arity c.first) (arity R)) c.members positions Q m in
    record {
      pattern = pattern-facts Q n.0 (all-elim pattern_kept c.members patterns Q m) (and_left _ _ p);
      same_arity = eqb-true (arity c.first) (arity Q) (and_right (positions_once Q) _ p);
      size = n.1;
    }

kept-facts : (c : Case) → counts_in_range c ≡ true → set_in_range c ≡ true → summary_kept c.summary ≡ true → siblings_differ c.summary ≡ true → patterns_kept c ≡ true → figures_kept c ≡ true → positions_kept c ≡ true → CaseFacts c
unfolding counts_in_range set_in_range patterns_kept figures_kept positions_kept
kept-facts c counts few kept differ patterns figures positions =
    let s = between-facts 1 max_summary (length c.summary) (and_left _ _ (and_left _ _ counts)) in
    let f = between-facts 1 max_pattern (length c.first) (and_right (between 1 max_summary (length c.summary)) _ (and_left _ _ counts)) in
    let m = between-facts 1 max_members (length c.members) few in
    let kept_first : pattern_kept c.first ≡ true = and_left _ _ patterns in
    let once_first : positions_once c.first ≡ true = and_left _ _ positions in
    record {
      summary = summary-facts c.summary s.0 kept differ;
      first = pattern-facts c.first f.0 kept_first once_first;
      members =
          member-facts c (and_right (between 1 max_summary (length c.summary) && count_in_range c.first) _ counts)
          (and_right (pattern_kept c.first) _ patterns) (and_right (positions_once c.first) _ positions);
      some_members = m.0;
      few_members = m.1;
      some_arity = some-positions c.first once_first;
      arity_bound = arity-bound c.first kept_first once_first;
      summary_size = s.1;
      first_size = f.1;
      first_figures = few-figures c.first (and_left _ _ figures);
      member_figures = λ Q m. few-figures Q (all-elim pattern_figures c.members (and_right (pattern_figures c.first) _ figures) Q m);
    }

all-yes-case : (b : List ℕ) → AllYes (case_questions b) → CaseFacts (case_of b)
unfolding case_questions
all-yes-case b y = kept-facts (case_of b) y.1.0 y.1.1.0 y.1.1.1.0 y.1.1.1.1.0 y.1.1.1.1.1.0 y.1.1.1.1.1.1.0 y.1.1.1.1.1.1.1.0

numbered-case : (b : List ℕ) → Numbered (case_questions b)
unfolding case_questions
numbered-case b = (omega arith, (omega arith, (omega arith, (omega arith, (omega arith, (omega arith, (omega arith, (omega arith, tt))))))))

-- a case that questions 3 to 8 accept has the facts of an accepted case
pub accepted-case : (b : List ℕ) → refusal (case_questions b) ≡ 0 → CaseFacts (case_of b)
accepted-case b e = all-yes-case b (accepted-all-yes (case_questions b) (numbered-case b) e)

pub case-accepted : (b : List ℕ) → AllYes (case_questions b) → AcceptedCase b
unfolding case_questions case_whole
case-accepted b y = record { whole = (whole-case b).0 y.0; facts = all-yes-case b y }

-- the case questions by themselves
pub case-all-yes : (b : List ℕ) → refusal (case_questions b) ≡ 0 → AllYes (case_questions b)
case-all-yes b e = accepted-all-yes (case_questions b) (numbered-case b) e

-- the case questions between others: all are answered yes
pub all_asked : (b : List ℕ) (before after : List Question) → Numbered before → Numbered after → refusal (before ++ (case_questions b ++ after)) ≡ 0
    → AllYes before × AllYes (case_questions b) × AllYes after
all_asked b before after k l e =
    let y : AllYes (before ++ (case_questions b ++ after)) =
    accepted-all-yes (before ++ (case_questions b ++ after)) (numbered-append before (case_questions b ++ after) k (numbered-append (case_questions b) after (numbered-case b) l)) e in
    let z : AllYes (case_questions b ++ after) = all-yes-right before (case_questions b ++ after) y in
    (all-yes-left before (case_questions b ++ after) y, all-yes-left (case_questions b) after z, all-yes-right (case_questions b) after z)

-- so the case is accepted
pub asked : (b : List ℕ) (before after : List Question) → Numbered before → Numbered after → refusal (before ++ (case_questions b ++ after)) ≡ 0
    → AllYes before × AcceptedCase b × AllYes after
asked b before after k l e = let y = all_asked b before after k l e in (y.0, case-accepted b y.1, y.2)

-- an outline's labels are not 0
label-some : (S : Summary) → summary_kept S ≡ true → (s : ℕ) → s < length S → 0 < summary_label S s
unfolding summary_kept summary_record_kept
label-some S kept s h =
    let k : summary_record_kept S s ≡ true = all-below (summary_record_kept S) (length S) kept s h in
    let e : summary_label S s ≡ (get_or S s no_summary_record).label = ap (λ (r : DocumentRecord). r.label) (get_or-map without_strong S s no_summary_record) in
    let l : 0 < (get_or S s no_summary_record).label = ltb-true 0 (get_or S s no_summary_record).label (and_right (parent_rule s (get_or S s no_summary_record).parent) _ (and_left _ _ (and_left _ _ k))) in
    omega arith

pub labels-some : (b : List ℕ) → AllYes (case_questions b) → (s : ℕ) → s < length (case_of b).summary → 0 < summary_label (case_of b).summary s
unfolding case_questions
labels-some b y = label-some (case_of b).summary y.1.1.1.0

-- the first selection's edges are 0 or 1, and its positions at most 8
pub first-bounds : (b : List ℕ) → AllYes (case_questions b) → (q : ℕ) → q < length (case_of b).first
    → ((get_or (case_of b).first q no_pattern_record).edge ≤ 1) × (position (case_of b).first q ≤ max_position)
unfolding case_questions patterns_kept
first-bounds b y q h =
    let kept : pattern_kept (case_of b).first ≡ true = and_left _ _ y.1.1.1.1.1.0 in
    (edge-bound (case_of b).first kept q h, position-bound (case_of b).first kept q h)

-- what holds of the first selection and of every member holds of the one that a number gives
selected-each : (Ok : Pattern → Type 0) (c : Case) (s : ℕ) → Ok c.first → ((Q : Pattern) → Memᴰ Q c.members → Ok Q) → pattern_given c s ≡ true → Ok (selected c s)
unfolding pattern_given
selected-each Ok c s first members e = go (eqb s 1) refl (between-facts 1 (length c.members + 1) s e)
  where
    go : (t : Bool) → eqb s 1 ≡ t → (1 ≤ s) × (s ≤ length c.members + 1) → Ok (elim t as (λ _. Pattern) [ true ↦ c.first | false ↦ get_or c.members (s - 2) [] ])
    go true k r = first
    go false k r = let n : s ≢ 1 = eqb-false s 1 k in members (get_or c.members (s - 2) []) (mem-at c.members (s - 2) [] (omega arith))

-- so a selection of an accepted case keeps the rules, is as large as it may be, and has small figures, whichever it is
pub selected-facts : (c : Case) (s : ℕ) → CaseFacts c → pattern_given c s ≡ true → MemberFacts c.first (selected c s)
selected-facts c s f e = selected-each (MemberFacts c.first) c s (record { pattern = f.first; same_arity = refl; size = f.first_size }) f.members e

pub selected-figures : (c : Case) (s : ℕ) → CaseFacts c → pattern_given c s ≡ true → FewFigures (selected c s)
selected-figures c s f e = selected-each FewFigures c s f.first_figures f.member_figures e
