-- Demands 1, 2 and 3, each sentence a theorem about the outcome of a call, and separation and sum over runs of calls, proved by citing
-- the layers below; and of each call, that whoever has the model's outcome has the record of its contract. Assumes nothing.
use Prim.Native.Nat.{ℕ, ◌≤◌, ◌<◌}
use mathlib.Core.Path.{◌≡◌, refl, sym, ap, ◌∙◌, subst}
use mathlib.Core.Bool.{Bool, true, false, not, true≢false}
use mathlib.Core.Logic.Iff
use mathlib.Core.Logic.{◌⊎◌, ⊎_elim, ◌↔◌}
use mathlib.Core.List.Memᴰ
use mathlib.Core.List.{List, map, Memᴰ}
use native.Mathlib.Omega.{arith}
use native.Mathlib.Nat.{zero-add}
use lib.Count.{ones}
use lib.Dec.{eqb}
use lib.ListN.{length, get_or}
use lib.Seq.{set-get_or, get_or-set_same, get_or-set_other}
use borrow.Author.Tests.{lt-ltb, eq-eqb, ne_eqb}
use Rattle.model.specs.Lists.{up_from}
use Rattle.model.specs.Limits.{callers, max_verdicts, max_pattern, max_canonical, min_buffer, max_figure}
use Rattle.model.specs.Tree.{Document, label_of, figure_of}
use Rattle.model.specs.Summary.{Summary}
use Rattle.model.specs.Pattern.{Pattern, pattern_parent, position, SummaryEmbedding}
use Rattle.model.specs.Embeddings.{image_in, is_result, nodes_at, path_mask, path_count}
use Rattle.model.specs.Fitting.{fits}
use Rattle.model.specs.Canonical.{canonical, canonical_spots, own_nodes, own_figure}
use Rattle.model.specs.Verdict.{Verdict, verdict}
use Rattle.model.specs.Bytes.{AreBytes, Case, case_of, document_of, list_of, document_fields, section_fields, written_at_front}
use Rattle.model.specs.Questions.{selected, case_questions, verdict_refusal, minimise_refusal, fits_refusal, result_refusal, nodes_refusal, paths_refusal, layout_refusal}
use Rattle.model.specs.Calls.{Received, OnEight, VerdictOutcome, verdict_accepted, verdict_call, tally_of, charged, tallied_call, TestAnswer, fits_call, result_call, CountOutcome, nodes_accepted, nodes_call, PathsAnswer, paths_accepted, paths_call, LaidRecord, laid_record, LayoutOutcome, layout_accepted, layout_call, laid_records}
use Rattle.model.specs.Striking.{childless, may_go, verdict_without, Struck, strike_all, MinimiseOutcome, minimise_accepted, minimise_call, tallied_minimise}
use Rattle.model.specs.Runs.{Call, of_one, of_other, given, after, receipts, tallies_after, calls_of, received_by}
use Rattle.model.specs.Facts.{SummaryFacts, PatternFacts, MemberFacts, CaseFacts}
use Rattle.model.specs.Moving.{upgrade_refusal, downgrade_refusal, upgraded, downgraded, moved_accepted, moved_call, upgrade_call, downgrade_call}
use Rattle.model.specs.Normal.{InOrder, normalise_refusal, normalised, normalise_call}
use Rattle.model.specs.Demands.{TestTold, FitsTold, ResultTold, NodesTold, PathsTold, LayoutTold, Shown, ReadsBack, Demand3, FitsAnswered, ResultAnswered, NodesAnswered, PathsAnswered, LayoutAnswered, ChargedAnswered, VerdictAnswered, TalliedAnswered, MayGo, Shortened, StruckTold, MinimiseAnswered, TalliedMinimised, Separated, Summed, MoveAnswered, UpgradeAnswered, DowngradeAnswered, Normalised, NormaliseAnswered}
use Rattle.model.proofs.Normal.{accepted-normalise, normalise-accepted, normal-bytes, alike-exact, normal-twice, case-order, case-small}
use Rattle.model.proofs.RenumberedVerdict.{same_kind_lem}
use Rattle.model.proofs.ListLaws.{and_intro, below_all, length-map-up_from, get_or-map-up_from}
use Rattle.model.proofs.Results.{result-exact, nodes-at-exact, nodes-at-ascending, path-mask-exact, path-mask-beyond, path-count-ones}
use Rattle.model.proofs.Fitting.{fits-exact}
use Rattle.model.proofs.Decision.{placed as placed-listed, listed-fits, listed-result, listed_small, contained-or-counter}
use Rattle.model.proofs.Verdict.{verdict-tried}
use Rattle.model.proofs.Refusals.{AllYes}
use Rattle.model.proofs.CallFacts.{accepted-verdict, accepted-minimise, accepted-fits, accepted-result, accepted-nodes, accepted-paths, accepted-layout}
use Rattle.model.proofs.CaseFacts.{selected-facts, labels-some, case-accepted, case-all-yes}
use Rattle.model.proofs.Calls.{verdict-refused, verdict-accepted, minimise-refused, minimise-accepted, fits_refused, fits-accepted, result-refused, result-accepted, nodes-refused, nodes-accepted, paths-refused, paths-accepted, layout-refused, layout-accepted, verdict-length}
use Rattle.model.proofs.Bytes.{FitFields, front-none}
use Rattle.model.proofs.Runs.{VerdictRun, verdict-joins, MinimiseRun, minimise-joins, separated, summed}
use Rattle.model.proofs.Removing.{not_root_lem, no-position, no-children}
use Rattle.model.proofs.StruckBack.{struck-back}
use Rattle.model.proofs.Rounds.{each-limited}
use Rattle.model.proofs.Striking.{LoopFacts, all-facts, struck-shortened, few-verdicts}
use Rattle.model.proofs.Moving.{moved-accepted, moved-refused, upgrade-moved, downgrade-moved}
use Rattle.model.proofs.Canonical.{length-canonical}
use Rattle.model.proofs.ReadBack.{label_small, canonical-labels, canonical-fields, reads-back, canonical-figures}
use Rattle.model.proofs.Shown.{kind-included, kind-not-included, kind-stopped, shown-nothing, few-counter, few-contained, more-stops, more-fails, more-never, stops-more, accepted-shows, stops-tried, includes, includes-tried, shown-small}

-- ---- Demand 2: fits, results, nodes at a position and paths are told exactly by the definitions

-- a test answers 1 or 0
told : {Holds : Type 0} {a : TestAnswer} (test : Bool) → (test ≡ true) ↔ Holds → a ≡ record { refused = 0; holds = elim test [ true ↦ 1 | false ↦ 0 ] } → TestTold Holds a
told {Holds} test exact e = subst (TestTold Holds) (sym e) (go test exact)
  where
    go : (t : Bool) → (t ≡ true) ↔ Holds → TestTold Holds (record { refused = 0; holds = elim t as (λ _. ℕ) [ true ↦ 1 | false ↦ 0 ] })
    go true x = record { accepted = refl; says_yes = (λ h. x.0 refl, λ h. refl); says_no = (λ h. absurd (omega arith), λ n. absurd (n (x.0 refl))) }
    go false x = record { accepted = refl; says_yes = (λ h. absurd (omega arith), λ h. absurd (true≢false (sym (x.1 h)))); says_no = (λ h k. true≢false (sym (x.1 k)), λ n. refl) }

pub fits_told : (b w : List ℕ) → fits_refusal b w ≡ 0 → FitsTold (case_of b).summary (document_of w) (fits_call b w)
fits_told b w e =
    told (fits (case_of b).summary (document_of w)) (fits-exact (accepted-fits b w e).case.facts.summary (document_of w)) (fits-accepted b w e)

pub result-told : (b : List ℕ) (s : ℕ) (w r : List ℕ) → result_refusal b s w r ≡ 0 → ResultTold (selected (case_of b) s) (document_of w) (list_of r) (result_call b s w r)
result-told b s w r e =
    let f = accepted-result b s w r e in
    told (is_result (selected (case_of b) s) (document_of w) (list_of r)) (result-exact (list_of r) (selected-facts (case_of b) s f.case.facts f.number).pattern f.document.tree) (result-accepted b s w r e)

pub nodes-told : (b : List ℕ) (s : ℕ) (w : List ℕ) (p : ℕ) (buffer : List ℕ) → nodes_refusal b s w p (length buffer) ≡ 0
    → NodesTold (selected (case_of b) s) (document_of w) p buffer (nodes_call b s w p buffer)
unfolding nodes_accepted
nodes-told b s w p buffer e =
    let f = accepted-nodes b s w p (length buffer) e in
    let P : Pattern = selected (case_of b) s in
    let q : nodes_call b s w p buffer ≡ nodes_accepted (nodes_at P (document_of w) p) buffer = nodes-accepted b s w p buffer e in
    record {
      accepted = ap (λ (o : CountOutcome). o.answer.refused) q;
      nodes = nodes_at P (document_of w) p;
      exact = λ v. nodes-at-exact p v (selected-facts (case_of b) s f.case.facts f.number).pattern f.document.tree f.position_low f.position_high;
      ascending = nodes-at-ascending P (document_of w) p;
      count = ap (λ (o : CountOutcome). o.answer.count) q;
      written = ap (λ (o : CountOutcome). o.buffer) q;
    }

entry : (f : ℕ → ℕ) (q : ℕ) → q < max_pattern → get_or (map f (up_from 0 max_pattern)) q 0 ≡ f q
entry f q h = get_or-map-up_from f 0 max_pattern q 0 h ∙ ap f (zero-add q)

paths-accepted-told : {S : Summary} {P : Pattern} → SummaryFacts S → PatternFacts P → PathsTold S P (paths_accepted S P)
unfolding paths_accepted
paths-accepted-told {S} {P} s p =
    record {
      accepted = refl;
      masks = λ q i l h. rw (entry (path_mask S P) q h) (path-mask-exact q i p.tree s l);
      counts = λ q h. entry (path_count S P) q h ∙ (path-count-ones S P q ∙ ap ones (sym (entry (path_mask S P) q h)));
      past = λ q l h. entry (path_mask S P) q h ∙ path-mask-beyond S P q l;
      sizes = (length-map-up_from (path_mask S P) 0 max_pattern, length-map-up_from (path_count S P) 0 max_pattern);
    }

pub paths-told : (b : List ℕ) (s : ℕ) → paths_refusal b s ≡ 0 → PathsTold (case_of b).summary (selected (case_of b) s) (paths_call b s)
paths-told b s e =
    let f = accepted-paths b s e in
    subst (PathsTold (case_of b).summary (selected (case_of b) s)) (sym (paths-accepted b s e))
    (paths-accepted-told f.case.facts.summary (selected-facts (case_of b) s f.case.facts f.number).pattern)

-- as many records as the table has nodes
pub length-laid : (S : Summary) (P : Pattern) (es : List ℕ) → length (laid_records S P es) ≡ length (canonical_spots S P es)
unfolding laid_records
length-laid S P es = length-map-up_from (laid_record S (own_figure P (own_nodes S P es)) (canonical_spots S P es)) 0 (length (canonical_spots S P es))

pub layout-told : (b : List ℕ) (s : ℕ) (l : List ℕ) (table : List LaidRecord) → layout_refusal b s l (length table) ≡ 0
    → LayoutTold (case_of b).summary (selected (case_of b) s) (list_of l) table (layout_call b s l table)
unfolding layout_accepted
layout-told b s l table e =
    let f = accepted-layout b s l (length table) e in
    let S : Summary = (case_of b).summary in
    let P : Pattern = selected (case_of b) s in
    let es : List ℕ = list_of l in
    let m : MemberFacts (case_of b).first P = selected-facts (case_of b) s f.case.facts f.number in
    let g : PatternFacts P = m.pattern in
    let q : layout_call b s l table ≡ layout_accepted S P es table = layout-accepted b s l table e in
    let n : (layout_call b s l table).answer.count ≡ length (canonical S P es) =
    ap (λ (o : LayoutOutcome). o.answer.count) q
    ∙ (length-laid S P es ∙ sym (length-canonical S P es)) in
    let k : length (canonical S P es) ≤ max_canonical = listed_small f.case.facts.summary g f.embedding f.case.facts.summary_size m.size in
    record {
      accepted = ap (λ (o : LayoutOutcome). o.answer.refused) q;
      fitting = listed-fits f.case.facts.summary g f.embedding;
      own = listed-result f.case.facts.summary g f.embedding;
      small = subst (λ (x : ℕ). x ≤ max_canonical) (sym n) k;
      count = n;
      written = ap (λ (o : LayoutOutcome). o.table) q;
    }

-- ---- Demand 3: the verdict is exact over fitting volumes of any size

-- what is shown of bytes that every question on the case accepts reads back
shown-back : (b : List ℕ) → AreBytes b → AllYes (case_questions b) → CaseFacts (case_of b) → {L n : ℕ} {before after : List ℕ}
    → (s : Shown (case_of b).summary (case_of b).first (case_of b).members L n before after) → ReadsBack b after s.document s.result
shown-back b small asked f {L} {n} {before} {after} s =
    reads-back b asked f s.counter_example (let few : length s.document ≤ max_canonical = s.small in omega arith)
    (subst (λ (W : Document). (i : ℕ) → i < length W → 0 < label_of W i) (sym s.trial) (canonical-labels S P es f.summary.tree f.first.tree placed (λ l. 0 < l) (labels-some b asked)))
    (subst (λ (W : Document). (i : ℕ) → i < length W → figure_of W i ≤ max_figure) (sym s.trial) (canonical-figures S P es f.summary.tree f.first.tree placed f.first_figures))
    (subst (λ (W : Document). FitFields (section_fields document_fields W)) (sym s.trial)
    (canonical-fields S P es f.summary.tree f.first.tree placed (label_small b small) f.first_figures (subst (λ (W : Document). length W ≤ max_canonical) s.trial s.small)))
    before s.written
  where
    S : Summary
    S = (case_of b).summary

    P : Pattern
    P = (case_of b).first

    es : List ℕ
    es = s.placement

    placed : SummaryEmbedding S P (image_in es)
    placed = (placed-listed f.summary f.first (subst (λ (l : List (List ℕ)). Memᴰ es l) (sym s.ordered) (Memᴰ.append_right s.earlier (Memᴰ.head refl)))).1

accepted-demand : (b : List ℕ) → AreBytes b → AllYes (case_questions b) → CaseFacts (case_of b) → (L tally : ℕ) (buffer : List ℕ) → Demand3 b L tally buffer (verdict_accepted (case_of b) L tally buffer)
unfolding verdict_accepted
accepted-demand b small asked f L tally buffer =
    let c : Case = case_of b in
    let v : Verdict = verdict c.summary c.first c.members L in
    record {
      accepted = refl;
      not_included = λ h. Iff.trans (kind-not-included v) (few-counter c f L h);
      included = λ h. Iff.trans (kind-included v) (Iff.trans (few-contained c f L h) (contained-or-counter f.summary f.first f.members));
      inclusion = λ h. Iff.trans (kind-included v) (few-contained c f L h);
      stopped = λ h. Iff.trans (kind-stopped v) (more-stops c f L h);
      failing = λ h. Iff.trans (kind-not-included v) (more-fails c f L);
      never_included = λ h e. more-never c f L h ((kind-included v).0 e);
      only_stopped = λ e. stops-more c f L ((kind-stopped v).0 e);
      stopped_tried = λ e. stops-tried c f L ((kind-stopped v).0 e);
      only_included = λ e. (includes c f L ((kind-included v).0 e)).1.pass;
      included_tried = λ e. includes-tried c f L ((kind-included v).0 e);
      shown = accepted-shows c f L tally buffer;
      reads_back = λ e. shown-back b small asked f (accepted-shows c f L tally buffer e);
      silent = λ h. ap (λ (w : List ℕ). written_at_front w buffer) (shown-nothing c.summary c.first v h) ∙ front-none buffer;
      tallied = refl;
      limited = verdict-tried c.summary c.first c.members L;
    }

-- the verdict call keeps demand 3
pub demand-3 : (b : List ℕ) → AreBytes b → (L caller tally : ℕ) (buffer : List ℕ) → verdict_refusal b L caller tally (length buffer) ≡ 0
    → Demand3 b L tally buffer (verdict_call b L caller tally buffer)
demand-3 b small L caller tally buffer e =
    let f = accepted-verdict b L caller tally (length buffer) e in
    subst (Demand3 b L tally buffer) (sym (verdict-accepted b L caller tally buffer e)) (accepted-demand b small f.asked f.case.facts L tally buffer)

-- ---- Striking out: the same results, no such leaf left, all trials counted

-- the test for a leaf that may go says what it is to say
pub may-go-exact : (P : Pattern) (q : ℕ) → (q < length P) × (may_go P q ≡ true) ↔ MayGo P q
unfolding may_go childless
may-go-exact P q = (
  λ h. record { inside = h.0; not_root = not_root_lem P q h.0 h.1; no_position = no-position P q h.0 h.1; leaf = no-children P q h.0 h.1 },
  λ m. (
    m.inside,
    and_intro (and_intro (lt-ltb 0 q m.not_root) (eq-eqb (position P q) 0 m.no_position))
        (below_all (λ i. not (eqb (pattern_parent P i) q)) (length P) (λ i h. ap not (ne_eqb (pattern_parent P i) q (m.leaf i h)))),
  ),
)

-- of bytes that every question on the case accepts: what the loop comes to keeps all that is demanded
strike-told : (b : List ℕ) → AreBytes b → AllYes (case_questions b) → CaseFacts (case_of b) → (L tally : ℕ) (buffer : List ℕ) → StruckTold b L tally buffer (minimise_accepted (case_of b) L tally buffer)
unfolding minimise_accepted
strike-told b small asked f L tally buffer =
    let c : Case = case_of b in
    let P : Pattern = c.first in
    let s : Struck = strike_all c.summary L P in
    let l : LoopFacts c.summary L P (up_from 0 (length P)) s = all-facts f.summary L f.first f.first_size in
    let short : Shortened P s.struck s.pattern = struck-shortened f.summary L f.first f.first_size in
    let few : length s.tried ≤ max_verdicts = (let a = l.few in let b = few-verdicts (length P) f.first_size in omega arith) in
    record {
      accepted = refl;
      count = refl;
      shortened = short;
      written = refl;
      reads_back = struck-back b small asked f L buffer refl;
      same_results = l.same;
      none_left = λ q m k. (let g = (may-go-exact s.pattern q).1 m in l.none q g.0 g.1 ((kind-included (verdict_without c.summary L s.pattern q)).0 k));
      few_struck = let n = short.count in let i : 0 < length s.pattern = l.facts.tree.inhabited in let k : length P ≤ max_pattern = f.first_size in omega arith;
      few_verdicts = few;
      summed = refl;
      tallied = refl;
      limited = each-limited L s.tried max_verdicts few l.each;
    }

-- the call keeps it
pub strike-demand : (b : List ℕ) → AreBytes b → (L caller tally : ℕ) (buffer : List ℕ) → minimise_refusal b L caller tally (length buffer) ≡ 0
    → StruckTold b L tally buffer (minimise_call b L caller tally buffer)
strike-demand b small L caller tally buffer e =
    let f = accepted-minimise b L caller tally (length buffer) e in
    subst (StruckTold b L tally buffer) (sym (minimise-accepted b L caller tally buffer e)) (strike-told b small f.asked f.case.facts L tally buffer)

-- ---- Callers: over any run of calls that name one, each in whatever order and refused ones among them

-- a verdict is such a call, and on the eight tallies its outcome is what it gives its caller and the tallies after it
pub verdict-in-run : (b : List ℕ) (L caller : ℕ) (buffer tallies : List ℕ)
    → let c : VerdictRun = verdict-joins b L caller buffer in tallied_call b L caller tallies buffer ≡ record { answer = (given tallies c).answer; buffer = (given tallies c).buffer; tallies = after tallies c }
unfolding tallied_call verdict-joins
verdict-in-run b L caller buffer tallies = refl

-- and so is striking out
pub minimise-in-run : (b : List ℕ) (L caller : ℕ) (buffer tallies : List ℕ)
    → let c : MinimiseRun = minimise-joins b L caller buffer in tallied_minimise b L caller tallies buffer ≡ record { answer = (given tallies c).answer; buffer = (given tallies c).buffer; tallies = after tallies c }
unfolding tallied_minimise minimise-joins
minimise-in-run b L caller buffer tallies = refl

-- so verdicts and strikings, in whatever order, are calls of one run: separation and sum hold of them together
abbrev pub BothRun : Type 0
BothRun = Call (VerdictOutcome ⊎ MinimiseOutcome) (⊎_elim (λ (o : VerdictOutcome). o.tally) (λ (o : MinimiseOutcome). o.tally)) (⊎_elim (λ (o : VerdictOutcome). o.answer.tried) (λ (o : MinimiseOutcome). o.answer.tried))

abbrev pub verdict-of-both : (b : List ℕ) (L caller : ℕ) (buffer : List ℕ) → BothRun
verdict-of-both b L caller buffer = of_one (verdict-joins b L caller buffer)

abbrev pub minimise-of-both : (b : List ℕ) (L caller : ℕ) (buffer : List ℕ) → BothRun
minimise-of-both b L caller buffer = of_other (minimise-joins b L caller buffer)

-- separation: what a caller receives is what it receives from its own calls alone, from its own tally's start, whatever the other seven are
pub separation : {R : Type 0} {tally tried : R → ℕ} (i : ℕ) (ts us : List ℕ) → length ts ≡ callers → length us ≡ callers → tally_of ts i ≡ tally_of us i
    → (cs : List (Call R tally tried)) → Separated i ts us cs
separation i ts us k l e cs = separated i ts us k l e cs

-- so it is the same in two runs in which its own calls are the same, whichever calls the others make
pub separation-of-two : {R : Type 0} {tally tried : R → ℕ} (i : ℕ) (ts us : List ℕ) → length ts ≡ callers → length us ≡ callers → tally_of ts i ≡ tally_of us i
    → (cs ds : List (Call R tally tried)) → calls_of i cs ≡ calls_of i ds
    → (received_by i (receipts ts cs) ≡ received_by i (receipts us ds)) × (tally_of (tallies_after ts cs) i ≡ tally_of (tallies_after us ds) i)
separation-of-two i ts us k l e cs ds same =
    let a = separation i ts us k l e cs in
    let b = separation i us us l l refl ds in (
      a.received ∙ ap (receipts us) same ∙ sym b.received,
      a.left ∙ ap (λ (xs : List _). tally_of (tallies_after us xs) i) same ∙ sym b.left,
    )

-- sum: the eight together are their start plus the sum of tried over all calls, each its own start plus the sum over its own
pub sum : {R : Type 0} {tally tried : R → ℕ} (ts : List ℕ) → length ts ≡ callers → (cs : List (Call R tally tried)) → Summed ts cs
sum ts k cs = summed ts k cs

pub separation-of-both : (i : ℕ) (ts us : List ℕ) → length ts ≡ callers → length us ≡ callers → tally_of ts i ≡ tally_of us i → (cs : List BothRun) → Separated i ts us cs
separation-of-both i ts us k l e cs = separation i ts us k l e cs

pub sum-of-both : (ts : List ℕ) → length ts ≡ callers → (cs : List BothRun) → Summed ts cs
sum-of-both ts k cs = sum ts k cs

-- ---- The calls: from the model's outcome to the record of the contract

pub fits-answered : (b w : List ℕ) {a : TestAnswer} → a ≡ fits_call b w → FitsAnswered b w a
fits-answered b w e =
    record {
      outcome = e;
      demand1 = λ f. e ∙ fits_refused b w f;
      demand2 = λ z. subst (FitsTold (case_of b).summary (document_of w)) (sym e) (fits_told b w z);
    }

pub result-answered : (b : List ℕ) (s : ℕ) (w r : List ℕ) {a : TestAnswer} → a ≡ result_call b s w r → ResultAnswered b s w r a
result-answered b s w r e =
    record {
      outcome = e;
      demand1 = λ f. e ∙ result-refused b s w r f;
      demand2 = λ z. subst (ResultTold (selected (case_of b) s) (document_of w) (list_of r)) (sym e) (result-told b s w r z);
    }

pub nodes-answered : (b : List ℕ) (s : ℕ) (w : List ℕ) (p : ℕ) (before : List ℕ) {o : CountOutcome} → o ≡ nodes_call b s w p before → NodesAnswered b s w p before o
nodes-answered b s w p before e =
    record {
      outcome = e;
      demand1 = λ f. e ∙ nodes-refused b s w p before f;
      demand2 = λ z. subst (NodesTold (selected (case_of b) s) (document_of w) p before) (sym e) (nodes-told b s w p before z);
    }

pub paths-answered : (b : List ℕ) (s : ℕ) {a : PathsAnswer} → a ≡ paths_call b s → PathsAnswered b s a
paths-answered b s e =
    record {
      outcome = e;
      demand1 = λ f. e ∙ paths-refused b s f;
      demand2 = λ z. subst (PathsTold (case_of b).summary (selected (case_of b) s)) (sym e) (paths-told b s z);
    }

pub layout-answered : (b : List ℕ) (s : ℕ) (l : List ℕ) (before : List LaidRecord) {o : LayoutOutcome} → o ≡ layout_call b s l before → LayoutAnswered b s l before o
layout-answered b s l before e =
    record {
      outcome = e;
      demand1 = λ f. e ∙ layout-refused b s l before f;
      demand2 = λ z. subst (LayoutTold (case_of b).summary (selected (case_of b) s) (list_of l) before) (sym e) (layout-told b s l before z);
    }

pub verdict-answered : (b : List ℕ) → AreBytes b → (L caller tally : ℕ) (before : List ℕ) {o : VerdictOutcome} → o ≡ verdict_call b L caller tally before
    → VerdictAnswered b L caller tally before o
verdict-answered b small L caller tally before e =
    record {
      outcome = e;
      demand1 = λ f. e ∙ verdict-refused b L caller tally before f;
      demand3 = λ z. subst (Demand3 b L tally before) (sym e) (demand-3 b small L caller tally before z);
    }

-- from what the caller receives to the eight tallies; an accepted call's caller is one of the eight
charged-answered : {A : Type 0} {number caller : ℕ} {call : Received A} {refused : ℕ → A} {Kept : Received A → Type 0} (tallies : List ℕ) → length tallies ≡ callers → (before : List ℕ) {o : Received A}
    → (number ≡ 0 → caller < callers) → o ≡ call → ((number ≡ 0 → ⊥) → o ≡ record { answer = refused number; buffer = before; tally = tally_of tallies caller }) → (number ≡ 0 → Kept o)
    → ChargedAnswered number (charged tallies caller call) refused Kept caller tallies before (charged tallies caller o)
charged-answered {A} {number} {caller} {call} {refused} {Kept} tallies size before {o} known outcome demand1 demand3 =
    record {
      outcome = ap (charged tallies caller) outcome;
      demand1 = λ f.
          ap (charged tallies caller) (demand1 f)
          ∙ ap {B = OnEight A} (λ (ts : List ℕ). record { answer = refused number; buffer = before; tallies = ts }) (set-get_or tallies caller 0);
      demand3 = λ z.
          let k : caller < callers = known z in
          subst Kept (ap {B = Received A} (λ (n : ℕ). record { answer = o.answer; buffer = o.buffer; tally = n }) (sym (get_or-set_same tallies caller o.tally 0 (omega arith)))) (demand3 z);
      others = λ i h. get_or-set_other tallies caller i o.tally 0 h;
    }

pub tallied-answered : (b : List ℕ) (L caller : ℕ) (tallies : List ℕ) → length tallies ≡ callers → (before : List ℕ) {o : VerdictOutcome}
    → VerdictAnswered b L caller (tally_of tallies caller) before o → TalliedAnswered b L caller tallies before (charged tallies caller o)
unfolding tallied_call
tallied-answered b L caller tallies size before a =
    charged-answered tallies size before (λ z. (accepted-verdict b L caller (tally_of tallies caller) (length before) z).known) a.outcome a.demand1 a.demand3

pub minimise-answered : (b : List ℕ) → AreBytes b → (L caller tally : ℕ) (before : List ℕ) {o : MinimiseOutcome} → o ≡ minimise_call b L caller tally before → MinimiseAnswered b L caller tally before o
minimise-answered b small L caller tally before e =
    record {
      outcome = e;
      demand1 = λ f. e ∙ minimise-refused b L caller tally before f;
      demand3 = λ z. subst (StruckTold b L tally before) (sym e) (strike-demand b small L caller tally before z);
    }

pub tallied-minimised : (b : List ℕ) (L caller : ℕ) (tallies : List ℕ) → length tallies ≡ callers → (before : List ℕ) {o : MinimiseOutcome}
    → MinimiseAnswered b L caller (tally_of tallies caller) before o → TalliedMinimised b L caller tallies before (charged tallies caller o)
unfolding tallied_minimise
tallied-minimised b L caller tallies size before a = charged-answered tallies size before (λ z. (accepted-minimise b L caller (tally_of tallies caller) (length before) z).known) a.outcome a.demand1 a.demand3

pub move-answered : (number : ℕ) (written : List ℕ) {Kept : CountOutcome → Type 0} (before : List ℕ) {o : CountOutcome} → (number ≡ 0 → Kept (moved_call number written before))
    → o ≡ moved_call number written before → MoveAnswered number written Kept before o
move-answered number written {Kept} before keeps e =
    record {
      outcome = e;
      demand1 = λ f. e ∙ moved-refused number written before f;
      moved = λ z. subst Kept (sym e) (keeps z);
    }

pub upgrade-answered : (b : List ℕ) → AreBytes b → (before : List ℕ) {o : CountOutcome} → o ≡ upgrade_call b before → UpgradeAnswered b before o
upgrade-answered b small before e = move-answered (upgrade_refusal b (length before)) (upgraded b) before (upgrade-moved b small before) e

pub downgrade-answered : (b : List ℕ) → AreBytes b → (before : List ℕ) {o : CountOutcome} → o ≡ downgrade_call b before → DowngradeAnswered b before o
downgrade-answered b small before e = move-answered (downgrade_refusal b (length before)) (downgraded b) before (downgrade-moved b small before) e

-- ---- One way of writing a case

-- an accepted call keeps what document 02 asks of it
pub normalise-demand : (b : List ℕ) → AreBytes b → (before : List ℕ) → normalise_refusal b (length before) ≡ 0 → Normalised b before (normalise_call b before)
unfolding moved_accepted normalised
normalise-demand b small before e =
    let f = accepted-normalise b (length before) e in
    let n = normal-bytes b small f.asked in
    let w : List ℕ = normalised b in
    let q : normalise_call b before ≡ moved_accepted w before = moved-accepted (normalise_refusal b (length before)) w before e in
    let few : length b ≤ min_buffer = case-small b small f.asked in
    let room = f.buffer in
    record {
      accepted = ap (λ (o : CountOutcome). o.answer.refused) q;
      count = ap (λ (o : CountOutcome). o.answer.count) q ∙ n.size;
      size = n.size;
      whole = omega arith;
      buffer = ap (λ (o : CountOutcome). o.buffer) q;
      in_order = subst InOrder (sym n.back) (case-order (case_of b) (case-accepted b f.asked).facts);
      again = n.accepted;
      renumbered = n.renumbered;
      alike = λ a s k. alike-exact a b s small (case-all-yes a k) f.asked;
      twice = λ lent h. moved-accepted (normalise_refusal w (length lent)) (normalised w) lent (normalise-accepted w (length lent) n.again h) ∙ ap (λ (x : List ℕ). moved_accepted x lent) (normal-twice b small f.asked);
      same_kind = λ L caller tally buffer k l.
          same_kind_lem b w L caller tally buffer n.again n.renumbered k l (demand-3 b small L caller tally buffer k) (λ x. demand-3 w n.bytes L caller tally buffer x);
    }

pub normalise-answered : (b : List ℕ) → AreBytes b → (before : List ℕ) {o : CountOutcome} → o ≡ normalise_call b before → NormaliseAnswered b before o
normalise-answered b small before e = move-answered (normalise_refusal b (length before)) (normalised b) before (normalise-demand b small before) e

-- ---- What is lent keeps its length: what a call writes fits

pub verdict-keeps-length : (b : List ℕ) (L caller tally : ℕ) (buffer : List ℕ) → length (verdict_call b L caller tally buffer).buffer ≡ length buffer
verdict-keeps-length b L caller tally buffer =
    verdict-length b L caller tally buffer (λ e. shown-small (case_of b) (accepted-verdict b L caller tally (length buffer) e).case.facts L)
