-- An accepted call has every fact that its questions ask for: all of its questions are answered yes, and each answer is a test of that
-- fact. Assumes nothing.
use Prim.Native.Nat.{ℕ, ◌+◌, ◌*◌, ◌≤◌, ◌<◌}
use mathlib.Core.Path.{◌≡◌, sym, subst}
use mathlib.Core.Bool.{true, ◌&&◌}
use mathlib.Core.List.{List, [], ◌∷◌, ◌++◌, Memᴰ}
use native.Mathlib.Omega.{arith}
use lib.Dec.{eqb, ltb}
use lib.ListN.{length}
use borrow.Author.Tests.{eqb-true, leb-true, ltb-true}
use Rattle.model.specs.Lists.{same_list}
use Rattle.model.specs.Limits.{max_limit, max_tally, max_verdicts, callers, min_buffer, min_table, max_document, max_figure}
use Rattle.model.specs.Tree.{parent_of, label_of, figure_of}
use Rattle.model.specs.Pattern.{arity}
use Rattle.model.specs.Embeddings.{summary_embeddings}
use Rattle.model.specs.Fitting.{parent_rule}
use Rattle.model.specs.Bytes.{Case, case_of, document_of, list_of, is_whole_document, is_whole_list}
use Rattle.model.specs.Questions.{refusal, charged_questions, minimise_refusal, between, limit_in_range, buffer_large_enough, table_large_enough, caller_in_range, tally_in_range, document_record_kept, document_kept, figure_in_range, document_figures, list_in_range, pattern_given, selected, position_given, is_summary_embedding, ask, case_questions, document_questions, verdict_refusal, fits_refusal, result_refusal, nodes_refusal, paths_refusal, layout_refusal}
use Rattle.model.specs.Facts.{AcceptedCase, DocumentFacts, ListFacts}
use Rattle.model.proofs.ListLaws.{and_left, and_right, all-elim, all-below, any-elim, same-eq}
use Rattle.model.proofs.Fitting.{rooted}
use Rattle.model.proofs.CaseFacts.{between-facts, case-accepted, all_asked, asked}
use Rattle.model.proofs.Refusals.{AllYes}

-- ---- the other questions

-- 10 and 17: the volume
pub document-facts : (w : List ℕ) → document_kept w ≡ true → document_figures (document_of w) ≡ true → DocumentFacts w
unfolding document_kept document_record_kept document_figures figure_in_range
document-facts w kept few =
    let size = between-facts 1 max_document (length (document_of w)) (and_right (is_whole_document w) _ (and_left _ _ kept)) in
    let every : (i : ℕ) → i < length (document_of w) → document_record_kept (document_of w) i ≡ true =
    all-below (document_record_kept (document_of w)) (length (document_of w))
    (and_right (is_whole_document w && between 1 max_document (length (document_of w))) _ kept) in
    record {
      whole = and_left _ _ (and_left _ _ kept);
      some_nodes = size.0;
      size = size.1;
      tree = rooted (length (document_of w)) (parent_of (document_of w)) size.0 (λ i h. and_left _ _ (every i h));
      labels = λ i h. ltb-true 0 (label_of (document_of w) i) (and_right (parent_rule i (parent_of (document_of w) i)) _ (every i h));
      figures = λ i h. leb-true (figure_of (document_of w) i) max_figure (all-below (λ j. figure_in_range (figure_of (document_of w) j)) (length (document_of w)) few i h);
    }

-- 11: the list
pub list-facts : (k n : ℕ) (r : List ℕ) → list_in_range k n r ≡ true → ListFacts k n r
unfolding list_in_range
list-facts k n r e =
    record {
      whole = and_left _ _ (and_left _ _ e);
      count = eqb-true (length (list_of r)) k (and_right (is_whole_list r) _ (and_left _ _ e));
      below = λ v m. ltb-true v n (all-elim (λ x. ltb x n) (list_of r) (and_right (is_whole_list r && eqb (length (list_of r)) k) _ e) v m);
    }

-- 13: the placement
pub embedding-given : (c : Case) (s : ℕ) (l : List ℕ) → is_summary_embedding c s l ≡ true → Memᴰ (list_of l) (summary_embeddings c.summary (selected c s))
unfolding is_summary_embedding
embedding-given c s l e =
    let all : List (List ℕ) = summary_embeddings c.summary (selected c s) in
    let r = any-elim (same_list (list_of l)) all (and_right (is_whole_list l) _ e) in
    subst (λ (x : List ℕ). Memᴰ x all) (sym (same-eq (list_of l) r.0 r.2)) r.1

-- ---- what each accepted call has

-- of a call that goes to its caller's tally and tries at most `most`
pub record ChargedFacts (b : List ℕ) (L most caller tally buffer_bytes : ℕ) : Type 0 where
  pub asked : AllYes (case_questions b)
  pub case : AcceptedCase b
  pub limit_low : 1 ≤ L
  pub limit_high : L ≤ max_limit
  pub buffer : min_buffer ≤ buffer_bytes
  pub known : caller < callers
  pub tallied : tally + most ≤ max_tally

accepted-charged : (b : List ℕ) (L most caller tally buffer_bytes : ℕ) → refusal (ask 1 (limit_in_range L) ∷ charged_questions b most caller tally buffer_bytes) ≡ 0 → ChargedFacts b L most caller tally buffer_bytes
unfolding limit_in_range buffer_large_enough caller_in_range tally_in_range
accepted-charged b L most caller tally buffer_bytes e =
    let y =
    all_asked b (ask 1 (limit_in_range L) ∷ ask 2 (buffer_large_enough buffer_bytes) ∷ []) (ask 16 (caller_in_range caller) ∷ ask 9 (tally_in_range tally most) ∷ [])
    (omega arith, (omega arith, tt)) (omega arith, (omega arith, tt)) e in
    let limit = between-facts 1 max_limit L y.0.0 in
    record {
      asked = y.1;
      case = case-accepted b y.1;
      limit_low = limit.0;
      limit_high = limit.1;
      buffer = leb-true min_buffer buffer_bytes y.0.1.0;
      known = ltb-true caller callers y.2.0;
      tallied = leb-true (tally + most) max_tally y.2.1.0;
    }

pub accepted-verdict : (b : List ℕ) (L caller tally buffer_bytes : ℕ) → verdict_refusal b L caller tally buffer_bytes ≡ 0 → ChargedFacts b L L caller tally buffer_bytes
unfolding verdict_refusal
accepted-verdict b L caller tally buffer_bytes e = accepted-charged b L L caller tally buffer_bytes e

pub accepted-minimise : (b : List ℕ) (L caller tally buffer_bytes : ℕ) → minimise_refusal b L caller tally buffer_bytes ≡ 0 → ChargedFacts b L (max_verdicts * L) caller tally buffer_bytes
unfolding minimise_refusal
accepted-minimise b L caller tally buffer_bytes e = accepted-charged b L (max_verdicts * L) caller tally buffer_bytes e

pub record FitsFacts (b w : List ℕ) : Type 0 where
  pub case : AcceptedCase b
  pub document : DocumentFacts w

pub accepted-fits : (b w : List ℕ) → fits_refusal b w ≡ 0 → FitsFacts b w
unfolding fits_refusal
accepted-fits b w e =
    let y = asked b [] (document_questions w) tt (omega arith, (omega arith, tt)) e in
    record { case = y.1; document = document-facts w y.2.0 y.2.1.0 }

pub record ResultFacts (b : List ℕ) (s : ℕ) (w r : List ℕ) : Type 0 where
  pub case : AcceptedCase b
  pub document : DocumentFacts w
  pub number : pattern_given (case_of b) s ≡ true
  pub list : ListFacts (arity (selected (case_of b) s)) (length (document_of w)) r

pub accepted-result : (b : List ℕ) (s : ℕ) (w r : List ℕ) → result_refusal b s w r ≡ 0 → ResultFacts b s w r
unfolding result_refusal
accepted-result b s w r e =
    let k : ℕ = arity (selected (case_of b) s) in
    let y =
    asked b [] (document_questions w ++ ask 12 (pattern_given (case_of b) s) ∷ ask 11 (list_in_range k (length (document_of w)) r) ∷ [])
    tt (omega arith, (omega arith, (omega arith, (omega arith, tt)))) e in
    record {
      case = y.1;
      document = document-facts w y.2.0 y.2.1.0;
      number = y.2.1.1.0;
      list = list-facts k (length (document_of w)) r y.2.1.1.1.0;
    }

pub record NodesFacts (b : List ℕ) (s : ℕ) (w : List ℕ) (p buffer_bytes : ℕ) : Type 0 where
  pub case : AcceptedCase b
  pub buffer : min_buffer ≤ buffer_bytes
  pub document : DocumentFacts w
  pub number : pattern_given (case_of b) s ≡ true
  pub position_low : 1 ≤ p
  pub position_high : p ≤ arity (selected (case_of b) s)

pub accepted-nodes : (b : List ℕ) (s : ℕ) (w : List ℕ) (p buffer_bytes : ℕ) → nodes_refusal b s w p buffer_bytes ≡ 0 → NodesFacts b s w p buffer_bytes
unfolding nodes_refusal buffer_large_enough position_given
accepted-nodes b s w p buffer_bytes e =
    let y =
    asked b (ask 2 (buffer_large_enough buffer_bytes) ∷ []) (document_questions w ++ ask 12 (position_given (case_of b) s p) ∷ [])
    (omega arith, tt) (omega arith, (omega arith, (omega arith, tt))) e in
    let given : position_given (case_of b) s p ≡ true = y.2.1.1.0 in
    let range = between-facts 1 (arity (selected (case_of b) s)) p (and_right (pattern_given (case_of b) s) _ given) in
    record {
      case = y.1;
      buffer = leb-true min_buffer buffer_bytes y.0.0;
      document = document-facts w y.2.0 y.2.1.0;
      number = and_left _ _ given;
      position_low = range.0;
      position_high = range.1;
    }

pub record PathsFacts (b : List ℕ) (s : ℕ) : Type 0 where
  pub case : AcceptedCase b
  pub number : pattern_given (case_of b) s ≡ true

pub accepted-paths : (b : List ℕ) (s : ℕ) → paths_refusal b s ≡ 0 → PathsFacts b s
unfolding paths_refusal
accepted-paths b s e =
    let y = asked b [] (ask 12 (pattern_given (case_of b) s) ∷ []) tt (omega arith, tt) e in
    record { case = y.1; number = y.2.0 }

pub record LayoutFacts (b : List ℕ) (s : ℕ) (l : List ℕ) (table_records : ℕ) : Type 0 where
  pub case : AcceptedCase b
  pub table : min_table ≤ table_records
  pub number : pattern_given (case_of b) s ≡ true
  pub whole_list : is_whole_list l ≡ true
  pub embedding : Memᴰ (list_of l) (summary_embeddings (case_of b).summary (selected (case_of b) s))

pub accepted-layout : (b : List ℕ) (s : ℕ) (l : List ℕ) (table_records : ℕ) → layout_refusal b s l table_records ≡ 0 → LayoutFacts b s l table_records
unfolding layout_refusal table_large_enough is_summary_embedding
accepted-layout b s l table_records e =
    let y =
    asked b (ask 2 (table_large_enough table_records) ∷ []) (ask 12 (pattern_given (case_of b) s) ∷ ask 13 (is_summary_embedding (case_of b) s l) ∷ [])
    (omega arith, tt) (omega arith, (omega arith, tt)) e in
    record {
      case = y.1;
      table = leb-true min_table table_records y.0.0;
      number = y.2.0;
      whole_list = and_left _ _ y.2.1.0;
      embedding = embedding-given (case_of b) s l y.2.1.0;
    }
