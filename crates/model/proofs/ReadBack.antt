-- What "not included" shows reads back: the section and the list stand where a reader takes them, all their numbers fit a field
-- (a label is a field of the case, whose bytes are below 256), so decoding gives the document and the result; these pass questions
-- 10 and 11, and as a counter-example they answer the calls. Assumes nothing.
use Prim.Native.Nat.{ℕ, suc, ◌+◌, ◌-◌, ◌*◌, ◌%◌, ◌≤◌, ◌<◌}
use mathlib.Core.Path.{◌≡◌, sym, ap, ap₂, ◌∙◌, subst}
use mathlib.Core.Bool.{Bool, true, false}
use mathlib.Core.Logic.{◌⊎◌, inl, inr}
use mathlib.Core.List.Memᴰ
use mathlib.Core.List.{List, [], ◌∷◌, ◌++◌, flat_map, append_assoc, Memᴰ}
use native.Mathlib.Omega.{arith}
use native.Mathlib.Nat.{add-zero}
use lib.Dec.{ltb}
use lib.ListN.{length, get_or, take, drop, length-map, get_or-map, get_or-append}
use lib.Seq.{get_or-append-add, take_at, drop-append-add}
use borrow.Author.Tests.{eq-eqb, ne_eqb, lt-ltb, le-leb}
use Rattle.model.specs.Lists.{up_from, all_of}
use Rattle.model.specs.Limits.{summary_width, document_width, max_document, max_canonical, max_figure}
use Rattle.model.specs.Tree.{DocumentRecord, Document, IsTree, parent_of, label_of, figure_of}
use Rattle.model.specs.Summary.{Summary, SummaryRecord, no_summary_record, without_strong, as_document, summary_label}
use Rattle.model.specs.Pattern.{Pattern, IsPatternTree, arity, return_nodes, Result, SummaryEmbedding, CounterExample, pattern_figure}
use Rattle.model.specs.Embeddings.{image_in, is_result}
use Rattle.model.specs.Fitting.{fits}
use Rattle.model.specs.Canonical.{canonical_spots, canonical, spot_at, own_nodes, own_figure, spot_records}
use Rattle.model.specs.Bytes.{field, field_bytes, bytes_of, records_at, summary_record_at, section, section_end, case_of, document_of, list_of, is_whole_list, document_fields, section_fields, encode_document, encode_list, encode_counted, written_at_front, shown_section, shown_list, AreBytes}
use Rattle.model.specs.Questions.{between, document_record_kept, document_kept, list_in_range, pattern_given, selected, ask, refusal, case_questions, fits_refusal, result_refusal, figure_in_range, document_figures, document_questions, Question}
use Rattle.model.specs.Calls.{TestAnswer, yes_answer, no_answer, fits_call, result_call}
use Rattle.model.specs.Facts.{PatternFacts, MemberFacts, CaseFacts, FewFigures}
use Rattle.model.specs.Demands.{ReadsBack}
use Rattle.model.proofs.ListLaws.{mem-at, true-or-false, and_intro, below_all, all-intro, length-map-up_from, get_or-map-up_from}
use Rattle.model.proofs.TreeLaws.{rooted-inside, length-as_document}
use Rattle.model.proofs.Fitting.{rooted-rule, fits-exact}
use Rattle.model.proofs.ReturnNodes.{length-return_nodes, return-inside}
use Rattle.model.proofs.Results.{result-exact}
use Rattle.model.proofs.Figures.{own-figure-cases}
use Rattle.model.proofs.SpotLaws.{in_table, spot-label, laid-tree, laid-inside, spot-figure}
use Rattle.model.proofs.Canonical.{canonical-laid}
use Rattle.model.proofs.Bytes.{FitFields, length-bytes, field-bytes, length-document, document-back, document-whole, list_back}
use Rattle.model.proofs.Refusals.{AllYes, refusal-yes, refusal-after}
use Rattle.model.proofs.Calls.{fits-accepted, result-accepted}

-- ---- what fits a field

pub field_fits : (b : List ℕ) → AreBytes b → (i : ℕ) → field b i < 65_536
unfolding field
field_fits b h i =
    let low = h (2 * i) in
    let high = h (2 * i + 1) in
    omega arith

-- a label is a field of the case
pub label_small : (b : List ℕ) → AreBytes b → (s : ℕ) → s < length (case_of b).summary → summary_label (case_of b).summary s < 65_536
unfolding case_of section records_at
label_small b h s l =
    let read : ℕ → SummaryRecord = λ i. summary_record_at b (0 + 1 + summary_width * i) in
    let n : length (case_of b).summary ≡ field b 0 = length-map-up_from read 0 (field b 0) in
    let e : summary_label (case_of b).summary s ≡ (read (0 + s)).label =
    ap (λ (r : DocumentRecord). r.label) (get_or-map without_strong (case_of b).summary s no_summary_record)
    ∙ ap (λ (r : SummaryRecord). r.label) (get_or-map-up_from read 0 (field b 0) s no_summary_record (subst (λ (k : ℕ). s < k) n l)) in
    subst (λ (x : ℕ). x < 65_536) (sym e) (field_fits b h (0 + 1 + summary_width * (0 + s) + 1))

-- the fields of a document's section fit, if its count does and of each node the parent, the label and the figure do
abbrev FieldsFit : Document → Type 0
FieldsFit W = (i : ℕ) → i < length W → (parent_of W i < 65_536) × (label_of W i < 65_536) × (figure_of W i < 65_536)

records-fit : (W : Document) → FieldsFit W → FitFields (flat_map document_fields W)
unfolding flat_map
records-fit [] h f m = elim m [ ]
records-fit (r ∷ W) h f (Memᴰ.head e) = subst (λ (x : ℕ). x < 65_536) (sym e) (h 0 (omega arith)).0
records-fit (r ∷ W) h f (Memᴰ.tail (Memᴰ.head e)) = subst (λ (x : ℕ). x < 65_536) (sym e) (h 0 (omega arith)).1
records-fit (r ∷ W) h f (Memᴰ.tail (Memᴰ.tail (Memᴰ.head e))) = subst (λ (x : ℕ). x < 65_536) (sym e) (h 0 (omega arith)).2
records-fit (r ∷ W) h f (Memᴰ.tail (Memᴰ.tail (Memᴰ.tail m))) = records-fit W (λ i l. h (suc i) (omega arith)) f m

fields_fit : (W : Document) → length W < 65_536 → FieldsFit W → FitFields (section_fields document_fields W)
unfolding section_fields
fields_fit W n h f (Memᴰ.head e) = subst (λ (x : ℕ). x < 65_536) (sym e) n
fields_fit W n h f (Memᴰ.tail m) = records-fit W h f m

-- a tree's parents are its nodes
pub parent-inside : (W : Document) → IsTree W → (i : ℕ) → i < length W → parent_of W i < length W
parent-inside W t = rooted-inside t

-- ---- a canonical document

module _ (S : Summary) (P : Pattern) (es : List ℕ) (tree : IsTree (as_document S)) (ordered : IsPatternTree P) (placed : SummaryEmbedding S P (image_in es)) where
  abbrev figures : ℕ → ℕ
  figures = own_figure P (own_nodes S P es)

  canonical-tree : IsTree (canonical S P es)
  unfolding canonical
  canonical-tree = laid-tree figures (canonical-laid S P es tree ordered placed)

  -- its labels are the summary's
  canonical-label : (i : ℕ) → i < length (canonical S P es) → (s : ℕ) × (s < length S) × (label_of (canonical S P es) i ≡ summary_label S s)
  unfolding canonical
  canonical-label i h =
      let l : i < length (canonical_spots S P es) = in_table S figures (canonical_spots S P es) i h in (
        spot_at (canonical_spots S P es) i,
        subst (λ (k : ℕ). spot_at (canonical_spots S P es) i < k) (length-as_document S) (laid-inside tree (canonical-laid S P es tree ordered placed) i l),
        spot-label S figures (canonical_spots S P es) i l,
      )

  pub canonical-labels : (Ok : ℕ → Type 0) → ((s : ℕ) → s < length S → Ok (summary_label S s)) → (i : ℕ) → i < length (canonical S P es) → Ok (label_of (canonical S P es) i)
  canonical-labels Ok each i h = let k = canonical-label i h in subst Ok (sym k.2) (each k.0 k.1)

  -- its figures are the pattern's least ones, or 0
  pub canonical-figures : FewFigures P → (i : ℕ) → i < length (canonical S P es) → figure_of (canonical S P es) i ≤ max_figure
  unfolding canonical
  canonical-figures few i h = go (own-figure-cases P (own_nodes S P es) i)
    where
      same : figure_of (spot_records S figures (canonical_spots S P es)) i ≡ figures i
      same = spot-figure S figures (canonical_spots S P es) i (in_table S figures (canonical_spots S P es) i h)

      go : ((q : ℕ) × (q < length P) × (image_in (own_nodes S P es) q ≡ i) × (figures i ≡ pattern_figure P q)) ⊎ (figures i ≡ 0) → figure_of (spot_records S figures (canonical_spots S P es)) i ≤ max_figure
      go (inl (q, k, at, e)) = let b : pattern_figure P q ≤ max_figure = few q k in omega (arith, same)
      go (inr z) = omega (arith, same)

  pub canonical-fields : ((s : ℕ) → s < length S → summary_label S s < 65_536) → FewFigures P → length (canonical S P es) ≤ max_canonical → FitFields (section_fields document_fields (canonical S P es))
  canonical-fields each low few =
      fields_fit (canonical S P es) (omega arith)
      (λ i h. (let k = parent-inside (canonical S P es) canonical-tree i h in omega arith, canonical-labels (λ l. l < 65_536) each i h, let k = canonical-figures low i h in omega arith))

-- ---- a result

pub result_count : {P : Pattern} {W : Document} {r : List ℕ} → Result P W r → length r ≡ arity P
result_count {P} k = ap length k.returns ∙ length-map (return_nodes P) k.image ∙ length-return_nodes P

pub result-inside : {P : Pattern} {W : Document} {r : List ℕ} → PatternFacts P → Result P W r → (v : ℕ) → Memᴰ v r → v < length W
result-inside {P} {W} f k v m =
    let q = Memᴰ.of_map k.image (return_nodes P) (subst (λ (l : List ℕ). Memᴰ v l) k.returns m) in
    subst (λ (x : ℕ). x < length W) q.2 (k.embeds.inside q.0 (return-inside f q.0 q.1))

-- ---- where a reader takes the section and the list

pub field-before : (w t : List ℕ) (i : ℕ) → 2 * i + 1 < length w → field (w ++ t) i ≡ field w i
unfolding field
field-before w t i h = ap₂ (λ (x y : ℕ). x + 256 * y) (get_or-append w t 0 (2 * i) (omega arith)) (get_or-append w t 0 (2 * i + 1) h)

pub field-behind : (w t : List ℕ) (n i : ℕ) → length w ≡ 2 * n → field (w ++ t) (n + i) ≡ field t i
unfolding field
field-behind w t n i e =
    let low : 2 * (n + i) ≡ length w + 2 * i = omega arith in
    let high : 2 * (n + i) + 1 ≡ length w + (2 * i + 1) = omega arith in
    ap₂ (λ (x y : ℕ). x + 256 * y)
    (ap (λ (j : ℕ). get_or (w ++ t) j 0) low ∙ get_or-append-add w t (2 * i) 0)
    (ap (λ (j : ℕ). get_or (w ++ t) j 0) high ∙ get_or-append-add w t (2 * i + 1) 0)

module _ (W : Document) (r t : List ℕ) (fit_w : FitFields (section_fields document_fields W)) (fit_r : FitFields (length r ∷ r)) where
  abbrev all : List ℕ
  all = encode_document W ++ (encode_counted r ++ t)

  count-front : field all 0 ≡ length W
  unfolding encode_document section_fields
  count-front =
      field-before (encode_document W) (encode_counted r ++ t) 0 (let l = length-document W in omega arith) ∙ field-bytes (section_fields document_fields W) fit_w 0

  section-ends : section_end document_width all 0 ≡ 1 + document_width * length W
  section-ends = let e = count-front in omega arith

  section-read : shown_section all ≡ encode_document W
  section-read = take_at (encode_document W) (encode_counted r ++ t) (2 * section_end document_width all 0) (length-document W ∙ ap (λ (n : ℕ). 2 * n) (sym section-ends))

  count_next : field all (section_end document_width all 0) ≡ length r
  unfolding encode_counted
  count_next =
      ap (field all) (section-ends ∙ sym (add-zero (1 + document_width * length W)))
      ∙ field-behind (encode_document W) (encode_counted r ++ t) (1 + document_width * length W) 0 (length-document W)
      ∙ field-before (encode_counted r) t 0 (let l = length-bytes (length r ∷ r) in omega arith) ∙ field-bytes (length r ∷ r) fit_r 0

  list-follows : drop (2 * (section_end document_width all 0 + 1)) all ≡ encode_list r ++ t
  unfolding encode_counted encode_list bytes_of flat_map field_bytes
  list-follows =
      let e = section-ends in
      let l : length (encode_document W) ≡ 2 * (1 + document_width * length W) = length-document W in
      let at : 2 * (section_end document_width all 0 + 1) ≡ length (encode_document W) + 2 = omega arith in
      ap (λ (n : ℕ). drop n all) at ∙ drop-append-add (encode_document W) (encode_counted r ++ t) 2

  list_read : shown_list all ≡ encode_list r
  unfolding encode_list
  list_read =
      ap₂ (λ (n : ℕ) (l : List ℕ). take (2 * n) l) count_next list-follows ∙ take_at (encode_list r) t (2 * length r) (length-bytes r)

-- ---- questions 10, 17 and 11

document-kept : (W : Document) → FitFields (section_fields document_fields W) → IsTree W → length W ≤ max_document → ((i : ℕ) → i < length W → 0 < label_of W i)
    → document_kept (encode_document W) ≡ true
unfolding document_kept document_record_kept
document-kept W fit tree few some =
    let e = document-back W fit in
    let n : 1 ≤ length W = tree.inhabited in
    and_intro
    (and_intro (document-whole W fit)
    (ap (λ (D : Document). between 1 max_document (length D)) e ∙ and_intro (le-leb 1 (length W) n) (le-leb (length W) max_document few)))
    (ap (λ (D : Document). all_of (document_record_kept D) (up_from 0 (length D))) e
    ∙ below_all (document_record_kept W) (length W) (λ i h. and_intro (rooted-rule tree i h) (lt-ltb 0 (label_of W i) (some i h))))

figures-kept : (W : Document) → FitFields (section_fields document_fields W) → ((i : ℕ) → i < length W → figure_of W i ≤ max_figure) → document_figures (document_of (encode_document W)) ≡ true
unfolding document_figures figure_in_range
figures-kept W fit low =
    ap document_figures (document-back W fit) ∙ below_all (λ i. figure_in_range (figure_of W i)) (length W) (λ i h. le-leb (figure_of W i) max_figure (low i h))

list-kept : (k n : ℕ) (r : List ℕ) → FitFields r → length r ≡ k → ((v : ℕ) → Memᴰ v r → v < n) → list_in_range k n (encode_list r) ≡ true
unfolding list_in_range is_whole_list encode_list
list-kept k n r fit e below =
    let l : length (bytes_of r) ≡ 2 * length r = length-bytes r in
    let b : list_of (encode_list r) ≡ r = list_back r fit in
    and_intro
    (and_intro (eq-eqb (length (bytes_of r) % 2) 0 (omega arith)) (eq-eqb (length (list_of (encode_list r))) k (ap length b ∙ e)))
    (subst (λ (l : List ℕ). all_of (λ v. ltb v n) l ≡ true) (sym b) (all-intro (λ v. ltb v n) r (λ v m. lt-ltb v n (below v m))))

-- ---- the calls

-- an answer that holds what the test says
answer-says : {a : TestAnswer} (test : Bool) {v : Bool} → a ≡ record { refused = 0; holds = elim test [ true ↦ 1 | false ↦ 0 ] } → test ≡ v
    → a ≡ record { refused = 0; holds = elim v as (λ _. ℕ) [ true ↦ 1 | false ↦ 0 ] }
answer-says test e p = e ∙ ap {B = TestAnswer} (λ (t : Bool). record { refused = 0; holds = elim t as (λ _. ℕ) [ true ↦ 1 | false ↦ 0 ] }) p

-- a counter-example of an accepted case, small enough, of labels that are not 0 and of figures that are not too great, answers the calls
module _ (b : List ℕ) (asked : AllYes (case_questions b)) (f : CaseFacts (case_of b)) {W : Document} {r : List ℕ}
    (k : CounterExample (case_of b).summary (case_of b).first (case_of b).members W r) (few : length W ≤ max_document)
    (some : (i : ℕ) → i < length W → 0 < label_of W i) (low : (i : ℕ) → i < length W → figure_of W i ≤ max_figure) (fit : FitFields (section_fields document_fields W)) where
  abbrev w : List ℕ
  w = encode_document W

  back : document_of w ≡ W
  back = document-back W fit

  kept : document_kept w ≡ true
  kept = document-kept W fit k.fits.tree few some

  in_range : document_figures (document_of w) ≡ true
  in_range = figures-kept W fit low

  asked-document : (after : List Question) → refusal (case_questions b ++ (document_questions w ++ after)) ≡ refusal after
  asked-document after = refusal-after (case_questions b) (document_questions w ++ after) asked ∙ refusal-after (document_questions w) after (kept, (in_range, tt))

  fits-asked : fits_refusal b w ≡ 0
  unfolding fits_refusal refusal
  fits-asked = asked-document []

  fits-says : fits_call b w ≡ yes_answer
  fits-says =
      answer-says (fits (case_of b).summary (document_of w)) (fits-accepted b w fits-asked)
      (ap (fits (case_of b).summary) back ∙ (fits-exact f.summary W).1 k.fits)

  count : length r ≡ arity (case_of b).first
  count = result_count k.of_first

  inside : (v : ℕ) → Memᴰ v r → v < length W
  inside = result-inside f.first k.of_first

  result_fits : FitFields (length r ∷ r)
  result_fits v (Memᴰ.head e) = let n = f.arity_bound in let c = count in subst (λ (x : ℕ). x < 65_536) (sym e) (omega arith)
  result_fits v (Memᴰ.tail m) = let l = inside v m in omega arith

  fit-list : FitFields r
  fit-list v m = result_fits v (Memᴰ.tail m)

  list-says : list_of (encode_list r) ≡ r
  list-says = list_back r fit-list

  result-asked : (s : ℕ) → pattern_given (case_of b) s ≡ true → length r ≡ arity (selected (case_of b) s) → result_refusal b s w (encode_list r) ≡ 0
  unfolding result_refusal refusal
  result-asked s given same =
      let n : ℕ = arity (selected (case_of b) s) in
      let list : list_in_range n (length (document_of w)) (encode_list r) ≡ true =
      subst (λ (D : Document). list_in_range n (length D) (encode_list r) ≡ true) (sym back) (list-kept n (length W) r fit-list same inside) in
      let q11 = ask 11 (list_in_range n (length (document_of w)) (encode_list r)) in
      asked-document (ask 12 (pattern_given (case_of b) s) ∷ q11 ∷ []) ∙ refusal-yes (ask 12 (pattern_given (case_of b) s)) (q11 ∷ []) given
      ∙ refusal-yes q11 [] list

  result_says : (s : ℕ) {v : Bool} → pattern_given (case_of b) s ≡ true → length r ≡ arity (selected (case_of b) s) → is_result (selected (case_of b) s) W r ≡ v
      → result_call b s w (encode_list r) ≡ record { refused = 0; holds = elim v as (λ _. ℕ) [ true ↦ 1 | false ↦ 0 ] }
  result_says s given same e =
      answer-says (is_result (selected (case_of b) s) (document_of w) (list_of (encode_list r))) (result-accepted b s w (encode_list r) (result-asked s given same))
      (ap₂ (is_result (selected (case_of b) s)) back list-says ∙ e)

  given : (s : ℕ) → 1 ≤ s → s ≤ length (case_of b).members + 1 → pattern_given (case_of b) s ≡ true
  unfolding pattern_given
  given s l h = and_intro (le-leb 1 s l) (le-leb s (length (case_of b).members + 1) h)

  first_says : result_call b 1 w (encode_list r) ≡ yes_answer
  first_says = result_says 1 (given 1 (omega arith) (omega arith)) count ((result-exact r f.first k.fits.tree).1 k.of_first)

  -- a number from 2 on gives a member
  member-given : (s : ℕ) → 2 ≤ s → s ≤ length (case_of b).members + 1 → Memᴰ (selected (case_of b) s) (case_of b).members
  member-given s l h =
      subst (λ (t : Bool). Memᴰ (elim t as (λ _. Pattern) [ true ↦ (case_of b).first | false ↦ get_or (case_of b).members (s - 2) [] ]) (case_of b).members) (sym (ne_eqb s 1 (omega arith)))
      (mem-at (case_of b).members (s - 2) [] (omega arith))

  none-says : (s : ℕ) → 2 ≤ s → s ≤ length (case_of b).members + 1 → result_call b s w (encode_list r) ≡ no_answer
  none-says s l h = result_says s (given s (omega arith) h) (count ∙ g.same_arity) (go (true-or-false (is_result Q W r)))
    where
      Q : Pattern
      Q = selected (case_of b) s

      g : MemberFacts (case_of b).first Q
      g = f.members Q (member-given s l h)

      go : (is_result Q W r ≡ true) ⊎ (is_result Q W r ≡ false) → is_result Q W r ≡ false
      go (inl y) = absurd (k.of_none (record { pattern = Q; among = member-given s l h; result = (result-exact r g.pattern k.fits.tree).0 y }))
      go (inr n) = n

  -- so what is written at a buffer's front reads back
  pub reads-back : (before : List ℕ) {after : List ℕ} → after ≡ written_at_front (w ++ encode_counted r) before → ReadsBack b after W r
  unfolding written_at_front
  reads-back before e = subst (λ (x : List ℕ). ReadsBack b x W r) (sym (e ∙ append_assoc w (encode_counted r) t)) there
    where
      t : List ℕ
      t = drop (length (w ++ encode_counted r)) before

      section : shown_section (w ++ (encode_counted r ++ t)) ≡ w
      section = section-read W r t fit result_fits

      list : shown_list (w ++ (encode_counted r ++ t)) ≡ encode_list r
      list = list_read W r t fit result_fits

      there : ReadsBack b (w ++ (encode_counted r ++ t)) W r
      there =
          record {
            nodes = count-front W r t fit result_fits;
            positions = count_next W r t fit result_fits;
            document = ap document_of section ∙ back;
            result = ap list_of list ∙ list-says;
            fits = ap (fits_call b) section ∙ fits-says;
            of_first = ap₂ (result_call b 1) section list ∙ first_says;
            of_none = λ s l h. ap₂ (result_call b s) section list ∙ none-says s l h;
          }
