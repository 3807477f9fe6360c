-- What the blocks hold when they are those of a summary, a first pattern and the members of a set.
use Rattle.std.specs.Prelude.{ℕ, ◌≤◌, ◌<◌, ◌≡◌, Bool, List, [], length, get_or}
use Rattle.model.specs.Lists.{mask_below}
use Rattle.model.specs.Tree.{Rooted}
use Rattle.model.specs.Summary.{Summary, as_document, summary_label, summary_parent}
use Rattle.model.specs.Pattern.{Pattern, IsPatternTree, pattern_label, descends, label_fits}
use Rattle.model.specs.Facts.{SummaryFacts}
use Rattle.model.specs.Embeddings.{child_test, below_test, is_path}
use Rattle.model.specs.Quick.{Held, held_by, unheld, may_hold, closed}
use Rattle.format.specs.Given.{SummaryKept}
use Rattle.matching.specs.Matching.{children_in}
use Rattle.judging.specs.declared.member.Member.{Member}
use Rattle.judging.specs.declared.masks.Masks.{Masks}
use Rattle.judging.specs.Blocks.{no_member, up_in, cap_in, last_in, sets_in, candidates_in}
use Rattle.judging.specs.Judging.{nobody, full_by, Sets}
use Rattle.judging.specs.Sets.{path_table}
use Rattle.judging.specs.Stepping.{Candidates}

-- entry n has the nodes of Q that may stand where h is held
abbrev pub Allows : Pattern → Sets → ℕ → Held → Type 0
Allows Q T n h = T.allowed n ≡ mask_below (may_hold Q h) (length Q)

-- what one node takes; P is the first pattern
pub record NodeSets (S : Summary) (P Q : Pattern) (T : Sets) : Type 0 where
  pub fits : (x : ℕ) → x < length S → T.fitting x ≡ mask_below (λ p. label_fits (pattern_label Q p) (summary_label S x)) (length Q)
  pub may : (c : ℕ) → c < length P → Allows Q T c (held_by P c)
  pub free : Allows Q T nobody unheld
  pub full : (acc : ℕ → Bool) → full_by T (mask_below acc (length Q)) ≡ mask_below (children_in Q acc) (length Q)
  pub deeps : T.deep ≡ mask_below (descends Q) (length Q)

-- and what a chain takes
pub record ChainSets (S : Summary) (P Q : Pattern) (T : Sets) : Type 0 where
  pub node : NodeSets S P Q T
  pub ups : (x : ℕ) → x < length S → T.up x ≡ summary_parent S x
  pub closes : (x : ℕ) → x < length S → T.closed x ≡ mask_below (closed S Q x) (length Q)

-- what stepping takes
pub record StepSets (S : Summary) (P : Pattern) (M : Candidates) : Type 0 where
  pub child : (a : ℕ) → a < length S → M.children a ≡ mask_below (child_test (as_document S) a) (length S)
  pub below : (a : ℕ) → a < length S → M.descendants a ≡ mask_below (below_test (as_document S) a) (length S)
  pub part : (q : ℕ) → q < length P → M.parts q ≡ mask_below (is_path S P q) (length S)

-- ---- blocks that are made

-- the block of a summary, a first pattern and a member holds what one node takes, and the summary's parents, with zeros after them
pub record SetsMade (S : Summary) (P Q : Pattern) (t : Member) : Type 0 where
  pub tree : Rooted 64 (up_in t)
  pub ups : (x : ℕ) → x < length S → up_in t x ≡ summary_parent S x
  pub node : NodeSets S P Q (sets_in t)

-- and what a chain takes
pub record MemberMade (S : Summary) (P Q : Pattern) (t : Member) : Type 0 where
  pub tree : Rooted 64 (up_in t)
  pub sets : ChainSets S P Q (sets_in t)

-- one for each member, in the set's order
pub record MembersMade (S : Summary) (P : Pattern) (Qs : List Pattern) (ts : List Member) : Type 0 where
  pub count : length ts ≡ length Qs
  pub each : (i : ℕ) → i < length Qs → MemberMade S P (get_or Qs i []) (get_or ts i no_member)

-- the block of a summary and a first pattern holds what stepping takes, if `parts` has the pattern's paths; no ways are counted yet
pub record MasksMade (S : Summary) (parts lasts : List ℕ) (cap : ℕ) (m : Masks) : Type 0 where
  pub sets : (P : Pattern) → length P ≤ 16 → parts ≡ path_table S P → StepSets S P (candidates_in m)
  pub ends : (c : ℕ) → c < 16 → last_in m c ≡ get_or lasts c 0
  pub most : cap_in m ≡ cap
  pub cells : (i : ℕ) → i < 1024 → get_or m.counts i 0 ≡ 0

-- if the summary is a tree of few enough nodes
abbrev pub MadeFrom : Summary → List ℕ → List ℕ → ℕ → Masks → Type 0
MadeFrom S parts lasts cap m = SummaryKept S → MasksMade S parts lasts cap m

-- ---- what skipping takes

-- the blocks are those of a summary, of the members of a set and of the first pattern P
pub record Made (ts : List Member) (m : Masks) (P : Pattern) : Type 0 where
  pub summary : Summary
  pub members : List Pattern
  pub facts : SummaryFacts summary
  pub narrow : length summary ≤ 64
  pub chains : (i : ℕ) → i < length ts → ChainSets summary P (get_or members i []) (sets_in (get_or ts i no_member))
  pub some : (i : ℕ) → i < length ts → 0 < length (get_or members i [])
  pub steps : StepSets summary P (candidates_in m)
  pub tree : IsPatternTree P
  pub small : length P ≤ 16
