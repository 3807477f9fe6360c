-- The layout by value: the records that are read off a document are the model's, a refusal lays out none, and what is laid out for a
-- table of 1,024 records is what is laid out for any larger one, since its size is asked only to be large enough. Assumes nothing.
use Prim.Native.Nat.{ℕ, ◌≤◌, ◌<◌}
use mathlib.Core.Path.{◌≡◌, sym, ap, ◌∙◌, subst}
use mathlib.Core.Bool.{Bool, true, false}
use mathlib.Core.List.{List, [], ◌∷◌, ◌++◌, map, map-map, map-id}
use native.Mathlib.Omega.{arith}
use lib.ListN.{length, get_or, take, length-map, length-replicate}
use borrow.Author.Tests.{eq-eqb, ne_eqb, le-leb}
use Rattle.std.proofs.Common.{Result, Ok, Err, IsErrAnd}
use Rattle.std.proofs.lemmas.Result.{err_from_is_err_and}
use Rattle.model.specs.Lists.{up_from}
use Rattle.model.specs.Limits.{min_table, max_canonical}
use Rattle.model.specs.Tree.{Document, parent_of, label_of, figure_of}
use Rattle.model.specs.Summary.{Summary}
use Rattle.model.specs.Pattern.{Pattern}
use Rattle.model.specs.Canonical.{Spot, root_spot, spot_at, canonical_spots, canonical, own_nodes, own_figure}
use Rattle.model.specs.Bytes.{case_of, list_of, written_at_front}
use Rattle.model.specs.Questions.{selected, table_large_enough, pattern_given, is_summary_embedding, ask, refusal, case_questions, layout_refusal}
use Rattle.model.specs.Calls.{LaidRecord, laid_record, laid_records, LayoutOutcome, layout_accepted, layout_call}
use Rattle.model.proofs.ListLaws.{get_or_map, length-map-up_from}
use Rattle.model.proofs.Bytes.{front-written, front-none}
use Rattle.model.proofs.Calls.{by_number, layout-refused, layout-accepted}
use Rattle.model.proofs.Demands.{length-laid, layout-answered}
use Rattle.model.proofs.SpotLaws.{spot-parent, spot-label, spot-figure}
use Rattle.model.proofs.Canonical.{length-canonical, canonical-small}
use Rattle.model.proofs.CallFacts.{accepted-layout}
use Rattle.model.proofs.CaseFacts.{selected-facts}
use Rattle.model.proofs.Embeddings.{embeddings-sound}
use Rattle.format.proofs.RangeLaws.{map-below-ext}
use Rattle.format.proofs.FrontLaws.{front-get_or}
use Rattle.questions.specs.declared.refusal.Refusal.{Refusal}
use Rattle.questions.specs.Refusal.{number_of, asked}
use Rattle.questions.proofs.RefusalLaws.{number-not_zero}
use Rattle.refusals.proofs.AcceptedLaws.{selected-size}
use Rattle.laying.specs.declared.laid.NodeRecord.{NodeRecord}
use Rattle.laying.specs.Records.{node_record, record_of, laid_at, laid_in, blank_nodes, at_front, laid_nodes, laid_for, laid, outcome_for, LaidBy}
use Rattle.laying.specs.Array.{records_in, IsFilled}

-- ---- records read off a document

-- what a number past the last record reads as
abbrev no_record : LaidRecord
no_record = record { parent = 0; summary_node = 0; label = 0; figure = 0 }

pub length-blank : length blank_nodes ≡ min_table
unfolding blank_nodes
length-blank = length-replicate min_table (node_record no_record)

pub at_front_lem : (w : Document) (on : List ℕ) (n : ℕ) → written_at_front (map (λ i. node_record (laid_at w on i)) (up_from 0 n)) blank_nodes ≡ at_front (laid_in w on n)
unfolding at_front
at_front_lem w on n = ap (λ (rs : List NodeRecord). written_at_front rs blank_nodes) (sym (map-map node_record (laid_at w on) (up_from 0 n)))

-- an array's front is what was put there
pub front-records : (rs : List LaidRecord) (count : ℕ) → count ≡ length rs → records_in count (at_front rs) ≡ rs
unfolding at_front
front-records rs count e =
    ap (λ (k : ℕ). map record_of (take k (written_at_front (map node_record rs) blank_nodes))) (e ∙ sym (length-map rs node_record))
    ∙ ap (map record_of) (front-written (map node_record rs) blank_nodes) ∙ map-map record_of node_record rs ∙ map-id rs

module _ (rs : List LaidRecord) {count : ℕ} {nodes : List NodeRecord} (front : nodes ≡ at_front rs) (counted : count ≡ length rs) where
  pub filled-records : records_in count nodes ≡ rs
  filled-records = ap (records_in count) front ∙ front-records rs count counted

  pub filled-array : count ≤ min_table → IsFilled count nodes
  filled-array h = record { few = h; front = front ∙ ap at_front (sym filled-records) }

-- as many records are read as are asked for
pub laid-length : (w : Document) (on : List ℕ) (n : ℕ) → n ≡ length (laid_in w on n)
laid-length w on n = sym (length-map-up_from (laid_at w on) 0 n)

-- of a canonical document and its nodes' summary nodes they are the model's
pub records-laid : (S : Summary) (P : Pattern) (es : List ℕ) (w : Document) (on on₀ : List ℕ) → w ≡ canonical S P es → on ≡ written_at_front (map (λ s. s.at) (canonical_spots S P es)) on₀
    → laid_in w on (length (canonical_spots S P es)) ≡ laid_records S P es
unfolding canonical laid_records
records-laid S P es w on on₀ d o = map-below-ext (laid_at w on) (laid_record S F T) (length T) each
  where
    T : List Spot
    T = canonical_spots S P es

    F : ℕ → ℕ
    F = own_figure P (own_nodes S P es)

    on-node : (j : ℕ) → j < length T → get_or on j 0 ≡ spot_at T j
    on-node j k =
        let n : length (map (λ (s : Spot). s.at) T) ≡ length T = length-map T (λ s. s.at) in
        ap (λ (x : List ℕ). get_or x j 0) o ∙ front-get_or (map (λ (s : Spot). s.at) T) on₀ j 0 (omega arith) ∙ get_or_map (λ (s : Spot). s.at) T j root_spot 0 k

    each : (j : ℕ) → j < length T → laid_at w on j ≡ laid_record S F T j
    each j k =
        let p = ap (λ (W : Document). parent_of W j) d ∙ spot-parent S F T j k in
        let l = ap (λ (W : Document). label_of W j) d ∙ spot-label S F T j k in
        let f = ap (λ (W : Document). figure_of W j) d ∙ spot-figure S F T j k in
        let a = on-node j k in
        λ i. record { parent = p i; summary_node = a i; label = l i; figure = f i }

-- ---- the layout

module _ (b : List ℕ) (s : ℕ) (l : List ℕ) where
  -- a table's size is asked only to be large enough
  by_size : (n : ℕ) → min_table ≤ n → layout_refusal b s l n ≡ layout_refusal b s l min_table
  unfolding layout_refusal table_large_enough
  by_size n h =
      ap (λ (t : Bool). refusal (ask 2 t ∷ case_questions b ++ ask 12 (pattern_given (case_of b) s) ∷ ask 13 (is_summary_embedding (case_of b) s l) ∷ []))
      (le-leb min_table n h ∙ sym (le-leb min_table min_table (omega arith)))

  pub accepted-larger : (n : ℕ) → layout_refusal b s l n ≡ 0 → layout_refusal b s l min_table ≡ 0
  accepted-larger n e = sym (by_size n (accepted-layout b s l n e).table) ∙ e

  module _ (n : ℕ) where
    chosen : Bool → List LaidRecord
    chosen x = elim x [ true ↦ laid_records (case_of b).summary (selected (case_of b) s) (list_of l) | false ↦ [] ]

    pub laid-nothing : (layout_refusal b s l n ≡ 0 → ⊥) → laid_for b s l n ≡ []
    unfolding laid_for chosen
    laid-nothing z = ap chosen (ne_eqb (layout_refusal b s l n) 0 z)

    module _ (e : layout_refusal b s l n ≡ 0) where
      pub laid-records : laid_for b s l n ≡ laid_records (case_of b).summary (selected (case_of b) s) (list_of l)
      unfolding laid_for chosen
      laid-records = ap chosen (eq-eqb (layout_refusal b s l n) 0 e)

      pub laid-number : length (laid_for b s l n) ≡ length (laid_nodes b s l)
      laid-number = ap length laid-records ∙ length-laid (case_of b).summary (selected (case_of b) s) (list_of l)

      -- at most 1,009 nodes
      pub nodes-few : length (laid_nodes b s l) ≤ max_canonical
      nodes-few =
          let f = accepted-layout b s l n e in
          let p = (selected-facts (case_of b) s f.case.facts f.number).pattern.tree in
          subst (λ (k : ℕ). k ≤ max_canonical) (length-canonical (case_of b).summary (selected (case_of b) s) (list_of l))
          (canonical-small (case_of b).summary (selected (case_of b) s) (list_of l) f.case.facts.summary.tree p (embeddings-sound p f.case.facts.summary.tree f.embedding).1
          f.case.facts.summary_size (selected-size f.case s f.number))

  -- what is laid out is the model's records, so at the front of a table it is the model's outcome
  module _ (n : ℕ) (r : Result (List LaidRecord) Refusal) (refusal : asked r ≡ layout_refusal b s l n) (nodes : laid r ≡ laid_for b s l n) where
    outcome-laid : (before : List LaidRecord) → length before ≡ n → outcome_for r before ≡ layout_call b s l before
    unfolding layout_accepted
    outcome-laid before size =
        by_number (layout_refusal b s l n)
        (λ e.
        let rs = nodes ∙ laid-records n e in
        let z = refusal ∙ e in
        (λ i. record { answer = record { refused = z i; count = length (rs i) }; table = written_at_front (rs i) before }) ∙ sym (layout-accepted b s l before (same ∙ e)))
        (λ f.
        let rs = nodes ∙ laid-nothing n f in
        let z = refusal ∙ sym same in
        (λ i. record { answer = record { refused = z i; count = length (rs i) }; table = written_at_front (rs i) before })
        ∙ ap {B = LayoutOutcome} (λ (t : List LaidRecord). record { answer = record { refused = layout_refusal b s l (length before); count = 0 }; table = t }) (front-none before)
        ∙ sym (layout-refused b s l before (λ e. f (sym same ∙ e))))
      where
        same : layout_refusal b s l (length before) ≡ layout_refusal b s l n
        same = ap (layout_refusal b s l) size

    laid_by : LaidBy b s l n r
    laid_by = record { refusal = refusal; nodes = nodes; answered = λ before size. layout-answered b s l before (outcome-laid before size) }

  -- a refusal is passed on as it is, and lays out none
  pub laid-refused : (n : ℕ) (r : Refusal) (a : Result (List LaidRecord) Refusal) → number_of r ≡ layout_refusal b s l n → IsErrAnd a (λ t. t ≡ r) → LaidBy b s l n a
  laid-refused n r a e h =
      let p = err_from_is_err_and a h in
      subst (LaidBy b s l n) (sym (p.1 ∙ ap Err p.2)) (laid_by n (Err r) e (sym (laid-nothing n (λ z. number-not_zero r (e ∙ z)))))

  -- an accepted call lays out the model's records
  pub laid-accepted : (n : ℕ) {rs : List LaidRecord} → layout_refusal b s l n ≡ 0 → rs ≡ laid_records (case_of b).summary (selected (case_of b) s) (list_of l) → LaidBy b s l n (Ok rs)
  laid-accepted n {rs} e f = laid_by n (Ok rs) (sym e) (f ∙ sym (laid-records n e))

  -- ---- what a caller has of it: the nodes fit the array and the table
  pub laid-fits : (n : ℕ) {r : Result (List LaidRecord) Refusal} → LaidBy b s l n r → (length (laid r) ≤ min_table) × (length (laid r) ≤ n)
  laid-fits n g =
      subst (λ (rs : List LaidRecord). (length rs ≤ min_table) × (length rs ≤ n)) (sym g.nodes)
      (by_number (layout_refusal b s l n)
      (λ e.
      let c = laid-number n e in
      let f = nodes-few n e in
      let t = (accepted-layout b s l n e).table in
      (omega arith, omega arith))
      (λ z. let none = ap length (laid-nothing n z) in (omega arith, omega arith)))
