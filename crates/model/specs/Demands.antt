-- What the demands on the calls say, in the demands' own words over the declarative definitions; then, of each call, one record that
-- holds its outcome and its demands, and is what its contract promises. proofs/Demands.antt shows that every call keeps them.
use Rattle.std.specs.Prelude.{ℕ, ◌+◌, ◌*◌, ◌≤◌, ◌<◌, ◌≡◌, true, false, ◌⊎◌, ◌↔◌, length, get_or, take, replicate}
use mathlib.Core.List.{List, ◌∷◌, ◌++◌, Memᴰ}
use Rattle.std.specs.Int.Count.{ones}
use Rattle.model.specs.Lists.{Ascending, has, total}
use Rattle.model.specs.Limits.{min_buffer, max_pattern, max_canonical, max_verdicts, pattern_width, document_width}
use Rattle.model.specs.Tree.{Document}
use Rattle.model.specs.Summary.{Summary, Fits}
use Rattle.model.specs.Pattern.{Pattern, pattern_parent, position, Result, AtPosition, PathOf, Contained, CounterExample, Carries}
use Rattle.model.specs.Embeddings.{summary_embeddings}
use Rattle.model.specs.Canonical.{canonical, own_result, covered}
use Rattle.model.specs.Bytes.{AreBytes, field, pattern_record_at, section, section_end, counted_at, case_of, document_of, list_of, encode_document, encode_counted, written_at_front, shown_section, shown_list}
use Rattle.model.specs.Questions.{refusal, case_questions, selected, verdict_refusal, minimise_refusal, fits_refusal, result_refusal, nodes_refusal, paths_refusal, layout_refusal}
use Rattle.model.specs.Calls.{Received, OnEight, refused_answer, VerdictOutcome, kind_included, kind_not_included, kind_stopped, kind_of, verdict_call, tally_of, TalliedOutcome, tallied_call, TestAnswer, yes_answer, no_answer, fits_call, result_call, CountOutcome, nodes_call, PathsAnswer, paths_call, LaidRecord, laid_records, LayoutOutcome, layout_call}
use Rattle.model.specs.Striking.{verdict_without, Struck, strike_all, MinimiseAnswer, refused_strike, MinimiseOutcome, struck_bytes, minimise_call, tallied_minimise}
use Rattle.model.specs.Runs.{Call, receipts, tallies_after, calls_of, received_by, tried_over}
use Rattle.model.specs.OldForm.{SetOfOne}
use Rattle.model.specs.Renumbering.{CaseRenumbering}
use Rattle.model.specs.Normal.{InOrder, normalise_refusal, normalised, normalise_call}
use Rattle.model.specs.Moving.{upgrade_refusal, downgrade_refusal, upgraded, downgraded, moved_accepted, moved_call, upgrade_call, downgrade_call}

-- ---- Demand 1

-- where a question refuses the call, whose number is then not 0, the outcome is the refusal with that number; each call's record
-- says which that is: the number, zero in every other field, and every lent byte, record and tally as before
abbrev pub Demand1 : {A : Type 0} → ℕ → A → (ℕ → A) → Type 0
Demand1 number o refusal = (number ≡ 0 → ⊥) → o ≡ refusal number

-- ---- Demand 2, of an accepted call other than the verdict

-- yes exactly when it holds, no exactly when it does not
pub record TestTold (Holds : Type 0) (a : TestAnswer) : Type 0 where
  pub accepted : a.refused ≡ 0
  pub says_yes : (a.holds ≡ 1) ↔ Holds
  pub says_no : (a.holds ≡ 0) ↔ (Holds → ⊥)

-- Fits: whether the volume fits the outline
abbrev pub FitsTold : Summary → Document → TestAnswer → Type 0
FitsTold S W a = TestTold (Fits S W) a

-- Is it a result: whether the list is a result of the selection in the volume
abbrev pub ResultTold : Pattern → Document → List ℕ → TestAnswer → Type 0
ResultTold P W r a = TestTold (Result P W r) a

-- Nodes at a position: exactly the nodes at that position in any result are written, ascending, after their count
pub record NodesTold (P : Pattern) (W : Document) (p : ℕ) (before : List ℕ) (o : CountOutcome) : Type 0 where
  pub accepted : o.answer.refused ≡ 0
  pub nodes : List ℕ
  pub exact : (v : ℕ) → Memᴰ v nodes ↔ AtPosition P W p v
  pub ascending : Ascending ◌<◌ nodes
  pub count : o.answer.count ≡ length nodes
  pub written : o.buffer ≡ written_at_front (encode_counted nodes) before

-- Paths of each node: bit i of a node's mask exactly when outline node i is one of its paths, and how many there are; entries
-- past the last node are 0
pub record PathsTold (S : Summary) (P : Pattern) (a : PathsAnswer) : Type 0 where
  pub accepted : a.refused ≡ 0
  pub masks : (q i : ℕ) → q < length P → q < max_pattern → (has (get_or a.masks q 0) i ≡ true) ↔ PathOf S P q i
  pub counts : (q : ℕ) → q < max_pattern → get_or a.counts q 0 ≡ ones (get_or a.masks q 0)
  pub past : (q : ℕ) → length P ≤ q → q < max_pattern → get_or a.masks q 0 ≡ 0
  pub sizes : (length a.masks ≡ max_pattern) × (length a.counts ≡ max_pattern)

-- Lay out a trial: the table's front is the trial volume of the placement, which fits and has at most 1,009 nodes
pub record LayoutTold (S : Summary) (P : Pattern) (es : List ℕ) (before : List LaidRecord) (o : LayoutOutcome) : Type 0 where
  pub accepted : o.answer.refused ≡ 0
  pub fitting : Fits S (canonical S P es)
  pub own : Result P (canonical S P es) (own_result S P es)
  pub small : o.answer.count ≤ max_canonical
  pub count : o.answer.count ≡ length (canonical S P es)
  pub written : o.table ≡ written_at_front (laid_records S P es) before

-- ---- Demand 3, of an accepted verdict call

-- some fitting volume of any size has a result of the first selection that no member has
abbrev pub SomeCounterExample : Summary → Pattern → List Pattern → Type 0
SomeCounterExample S P Qs = (W : Document) × (r : List ℕ) × CounterExample S P Qs W r

-- every one of these trials passes; one does not
abbrev pub AllEmbeddingsPass : Summary → Pattern → List Pattern → List (List ℕ) → Type 0
AllEmbeddingsPass S P Qs ess = (es : List ℕ) → Memᴰ es ess → covered S P Qs es ≡ true

abbrev pub SomeEmbeddingFails : Summary → Pattern → List Pattern → List (List ℕ) → Type 0
SomeEmbeddingFails S P Qs ess = (es : List ℕ) × Memᴰ es ess × (covered S P Qs es ≡ false)

-- the earliest trial that does not pass, as one of the first L, and tried as its rank, from 1; its volume and the first selection's
-- own nodes there, a result of the first selection that no member has; both written at the buffer's front
pub record Shown (S : Summary) (P : Pattern) (Qs : List Pattern) (L tried : ℕ) (before after : List ℕ) : Type 0 where
  pub earlier : List (List ℕ)
  pub placement : List ℕ
  pub later : List (List ℕ)
  pub ordered : summary_embeddings S P ≡ earlier ++ placement ∷ later
  pub earlier_pass : AllEmbeddingsPass S P Qs earlier
  pub fails : covered S P Qs placement ≡ false
  pub rank : tried ≡ length earlier + 1
  pub among_first : tried ≤ L
  pub document : Document
  pub result : List ℕ
  pub trial : document ≡ canonical S P placement
  pub own : result ≡ own_result S P placement
  pub counter_example : CounterExample S P Qs document result
  pub small : length document ≤ max_canonical
  pub written : after ≡ written_at_front (encode_document document ++ encode_counted result) before

-- what is shown of case b reads back from the buffer: the counts are the volume's and the result's, the section is the volume and the
-- list the result; of these Fits says yes, and Is it a result says yes of the first selection and no of each member
pub record ReadsBack (b after : List ℕ) (W : Document) (r : List ℕ) : Type 0 where
  pub nodes : field after 0 ≡ length W
  pub positions : field after (section_end document_width after 0) ≡ length r
  pub document : document_of (shown_section after) ≡ W
  pub result : list_of (shown_list after) ≡ r
  pub fits : fits_call b (shown_section after) ≡ yes_answer
  pub of_first : result_call b 1 (shown_section after) (shown_list after) ≡ yes_answer
  pub of_none : (s : ℕ) → 2 ≤ s → s ≤ length (case_of b).members + 1 → result_call b s (shown_section after) (shown_list after) ≡ no_answer

-- Demand 3, of the case with bytes b, outline S, first selection P and set Qs, and of the limit L, from the tally and the buffer before
pub record Demand3Of (b : List ℕ) (S : Summary) (P : Pattern) (Qs : List Pattern) (L tally : ℕ) (buffer : List ℕ) (o : VerdictOutcome) : Type 0 where
  pub accepted : o.answer.refused ≡ 0
  -- at most L placements: "not included" exactly when some fitting volume of any size has a result of the first selection that
  -- no member has, "included" exactly when there is none
  pub not_included : length (summary_embeddings S P) ≤ L → (o.answer.kind ≡ kind_not_included) ↔ SomeCounterExample S P Qs
  pub included : length (summary_embeddings S P) ≤ L → (o.answer.kind ≡ kind_included) ↔ (SomeCounterExample S P Qs → ⊥)
  -- which is inclusion: in every fitting volume, each result of the first selection is a result of some member
  pub inclusion : length (summary_embeddings S P) ≤ L → (o.answer.kind ≡ kind_included) ↔ Contained S P Qs
  -- more than L: "stopped" exactly when the first L trials all pass, "not included" exactly when one does not, "included" never
  pub stopped : L < length (summary_embeddings S P) → (o.answer.kind ≡ kind_stopped) ↔ AllEmbeddingsPass S P Qs (take L (summary_embeddings S P))
  pub failing : L < length (summary_embeddings S P) → (o.answer.kind ≡ kind_not_included) ↔ SomeEmbeddingFails S P Qs (take L (summary_embeddings S P))
  pub never_included : L < length (summary_embeddings S P) → o.answer.kind ≡ kind_included → ⊥
  -- "stopped" only then, and tried is the limit
  pub only_stopped : o.answer.kind ≡ kind_stopped → L < length (summary_embeddings S P)
  pub stopped_tried : o.answer.kind ≡ kind_stopped → o.answer.tried ≡ L
  -- "included" only where every trial passes, and tried is how many there are, 0 where there are none
  pub only_included : o.answer.kind ≡ kind_included → AllEmbeddingsPass S P Qs (summary_embeddings S P)
  pub included_tried : o.answer.kind ≡ kind_included → o.answer.tried ≡ length (summary_embeddings S P)
  -- "not included" shows the earliest trial that does not pass, and tried is its rank, from 1; what is shown reads back; the
  -- others write nothing
  pub shown : o.answer.kind ≡ kind_not_included → Shown S P Qs L o.answer.tried buffer o.buffer
  pub reads_back : (k : o.answer.kind ≡ kind_not_included) → ReadsBack b o.buffer (shown k).document (shown k).result
  pub silent : (o.answer.kind ≡ kind_not_included → ⊥) → o.buffer ≡ buffer
  -- the tally grows by tried, which is at most L
  pub tallied : o.tally ≡ tally + o.answer.tried
  pub limited : o.answer.tried ≤ L

-- of the tables that the case's bytes hold
abbrev pub Demand3 : List ℕ → ℕ → ℕ → List ℕ → VerdictOutcome → Type 0
Demand3 b L tally buffer o = Demand3Of b (case_of b).summary (case_of b).first (case_of b).members L tally buffer o

-- ---- Striking out, of an accepted call

-- node q is one that may go: a leaf without a position, root excepted
pub record MayGo (P : Pattern) (q : ℕ) : Type 0 where
  pub inside : q < length P
  pub not_root : 0 < q
  pub no_position : position P q ≡ 0
  pub leaf : (i : ℕ) → i < length P → pattern_parent P i ≡ q → ⊥

-- Q is what is left of P without the nodes `gone`: the others, each as it was, in their old order, parents renumbered
pub record Shortened (P : Pattern) (gone : List ℕ) (Q : Pattern) : Type 0 where
  pub old : ℕ → ℕ
  pub carried : Carries Q P old
  pub ordered : (i j : ℕ) → i < j → j < length Q → old i < old j
  pub stays : (i : ℕ) → i < length Q → Memᴰ (old i) gone → ⊥
  pub goes : (x : ℕ) → Memᴰ x gone → x < length P
  pub all : (x : ℕ) → x < length P → Memᴰ x gone ⊎ ((i : ℕ) × (i < length Q) × (old i ≡ x))
  pub count : length Q + length gone ≡ length P

-- what is written of s reads back from the buffer: the section is the shortened selection, and the counted list after it the struck numbers
pub record StruckReadsBack (after : List ℕ) (s : Struck) : Type 0 where
  pub nodes : field after 0 ≡ length s.pattern
  pub pattern : section pattern_record_at pattern_width after 0 ≡ s.pattern
  pub count : field after (section_end pattern_width after 0) ≡ length s.struck
  pub struck : counted_at after (section_end pattern_width after 0) ≡ s.struck

-- of outline S, first selection P and limit L, from the tally and the buffer before. The loop comes to s
pub record StruckOf (S : Summary) (P : Pattern) (L : ℕ) (s : Struck) (tally : ℕ) (before : List ℕ) (o : MinimiseOutcome) : Type 0 where
  pub accepted : o.answer.refused ≡ 0
  -- the shortened selection's section, then the count and the struck numbers, as given, in striking order; what lies after stays
  pub count : o.answer.struck ≡ length s.struck
  pub shortened : Shortened P s.struck s.pattern
  pub written : o.buffer ≡ written_at_front (struck_bytes s) before
  pub reads_back : StruckReadsBack o.buffer s
  -- the two selections have the same results in every fitting volume, of any size
  pub same_results : (W : Document) → Fits S W → (r : List ℕ) → Result P W r ↔ Result s.pattern W r
  -- no remaining such leaf would be struck: the verdict on it is not "included" within the limit
  pub none_left : (q : ℕ) → MayGo s.pattern q → kind_of (verdict_without S L s.pattern q) ≡ kind_included → ⊥
  -- it ends: at most 15 strikings and 120 verdicts
  pub few_struck : length s.struck < max_pattern
  pub few_verdicts : length s.tried ≤ max_verdicts
  -- the tally grows by the sum of tried over all verdicts made, at most 120 times the limit
  pub summed : o.answer.tried ≡ total s.tried
  pub tallied : o.tally ≡ tally + o.answer.tried
  pub limited : o.answer.tried ≤ max_verdicts * L

-- of the tables that the case's bytes hold
abbrev pub StruckTold : List ℕ → ℕ → ℕ → List ℕ → MinimiseOutcome → Type 0
StruckTold b L tally before o = StruckOf (case_of b).summary (case_of b).first L (strike_all (case_of b).summary L (case_of b).first) tally before o

-- ---- Callers, over a run of calls that name them

module _ {R : Type 0} {tally tried : R → ℕ} where
  -- what caller i receives over the run, answers, buffers and tally, is what it receives from its own calls alone, in their order, on
  -- tallies us
  pub record Separated (i : ℕ) (ts us : List ℕ) (cs : List (Call R tally tried)) : Type 0 where
    pub received : received_by i (receipts ts cs) ≡ receipts us (calls_of i cs)
    pub left : tally_of (tallies_after ts cs) i ≡ tally_of (tallies_after us (calls_of i cs)) i

  -- after the run the eight together are their start plus the sum of tried over all calls, and each is its own start plus the sum over
  -- its caller's own
  pub record Summed (ts : List ℕ) (cs : List (Call R tally tried)) : Type 0 where
    pub together : total (tallies_after ts cs) ≡ total ts + tried_over tried (receipts ts cs)
    pub each : (i : ℕ) → tally_of (tallies_after ts cs) i ≡ tally_of ts i + tried_over tried (received_by i (receipts ts cs))

-- ---- Moving the filed cases over, of an accepted call

-- what is written, whole, at the buffer's front is the given case in the other form, by `Same`; the call the other way accepts it, and
-- whatever buffer it is lent gets the bytes of the given case, every one and no more
pub record Moved (Same : List ℕ → Type 0) (back : List ℕ → List ℕ → CountOutcome) (b before : List ℕ) (o : CountOutcome) : Type 0 where
  pub accepted : o.answer.refused ≡ 0
  pub written : List ℕ
  pub count : o.answer.count ≡ length written
  pub buffer : o.buffer ≡ written_at_front written before
  pub whole : length written ≤ length before
  pub same : Same written
  pub returns : (lent : List ℕ) → min_buffer ≤ length lent → back written lent ≡ moved_accepted b lent

-- old to new: what is written is the old case with a set of one; and back
abbrev pub Upgraded : List ℕ → List ℕ → CountOutcome → Type 0
Upgraded b before o = Moved (λ w. SetOfOne b w) downgrade_call b before o

-- new to old: what is written is an old case, with a set of one the given one; and back
abbrev pub Downgraded : List ℕ → List ℕ → CountOutcome → Type 0
Downgraded b before o = Moved (λ w. SetOfOne w b) upgrade_call b before o

-- ---- One way of writing a case, of an accepted call

-- a verdict with a limit of at least the number of placements, of w in place of b: accepted too, of the same kind, and where it is "included"
-- with the same tried
pub record SameKind (b w : List ℕ) (L caller tally : ℕ) (buffer : List ℕ) : Type 0 where
  pub accepted : verdict_refusal w L caller tally (length buffer) ≡ 0
  pub kind : (verdict_call w L caller tally buffer).answer.kind ≡ (verdict_call b L caller tally buffer).answer.kind
  pub tried : (verdict_call b L caller tally buffer).answer.kind ≡ kind_included → (verdict_call w L caller tally buffer).answer.tried ≡ (verdict_call b L caller tally buffer).answer.tried

-- what is written of the case b
pub record Normalised (b before : List ℕ) (o : CountOutcome) : Type 0 where
  pub accepted : o.answer.refused ≡ 0
  -- at the buffer's front, as many bytes as the case has
  pub count : o.answer.count ≡ length b
  pub size : length (normalised b) ≡ length b
  pub whole : length b ≤ length before
  pub buffer : o.buffer ≡ written_at_front (normalised b) before
  -- every tree is in preorder, outline siblings by label and selection siblings by their subtrees
  pub in_order : InOrder (case_of (normalised b))
  -- it is an accepted case, and a renumbering of what was given
  pub again : refusal (case_questions (normalised b)) ≡ 0
  pub renumbered : CaseRenumbering (case_of b) (case_of (normalised b))
  -- two accepted cases are written alike exactly when renumbering nodes turns one into the other
  pub alike : (a : List ℕ) → AreBytes a → refusal (case_questions a) ≡ 0 → (normalised a ≡ normalised b) ↔ CaseRenumbering (case_of a) (case_of b)
  -- writing twice changes nothing
  pub twice : (lent : List ℕ) → min_buffer ≤ length lent → normalise_call (normalised b) lent ≡ moved_accepted (normalised b) lent
  -- the kind of verdict with a limit of at least the number of placements stays
  pub same_kind : (L caller tally : ℕ) (buffer : List ℕ) → verdict_refusal b L caller tally (length buffer) ≡ 0
      → length (summary_embeddings (case_of b).summary (case_of b).first) ≤ L → SameKind b (normalised b) L caller tally buffer

-- ---- The calls: the outcome is document 01's, a refusal keeps demand 1, an accepted call demand 2 or 3

-- Fits: case, volume
pub record FitsAnswered (b w : List ℕ) (a : TestAnswer) : Type 0 where
  pub outcome : a ≡ fits_call b w
  pub demand1 : Demand1 (fits_refusal b w) a (λ n. record { refused = n; holds = 0 })
  pub demand2 : fits_refusal b w ≡ 0 → FitsTold (case_of b).summary (document_of w) a

-- Is it a result: case, selection, volume, list
pub record ResultAnswered (b : List ℕ) (s : ℕ) (w r : List ℕ) (a : TestAnswer) : Type 0 where
  pub outcome : a ≡ result_call b s w r
  pub demand1 : Demand1 (result_refusal b s w r) a (λ n. record { refused = n; holds = 0 })
  pub demand2 : result_refusal b s w r ≡ 0 → ResultTold (selected (case_of b) s) (document_of w) (list_of r) a

-- Nodes at a position: case, selection, volume, position, answer buffer
pub record NodesAnswered (b : List ℕ) (s : ℕ) (w : List ℕ) (p : ℕ) (before : List ℕ) (o : CountOutcome) : Type 0 where
  pub outcome : o ≡ nodes_call b s w p before
  pub demand1 : Demand1 (nodes_refusal b s w p (length before)) o (λ n. record { answer = record { refused = n; count = 0 }; buffer = before })
  pub demand2 : nodes_refusal b s w p (length before) ≡ 0 → NodesTold (selected (case_of b) s) (document_of w) p before o

-- Paths of each node: case, selection
pub record PathsAnswered (b : List ℕ) (s : ℕ) (a : PathsAnswer) : Type 0 where
  pub outcome : a ≡ paths_call b s
  pub demand1 : Demand1 (paths_refusal b s) a (λ n. record { refused = n; masks = replicate max_pattern 0; counts = replicate max_pattern 0 })
  pub demand2 : paths_refusal b s ≡ 0 → PathsTold (case_of b).summary (selected (case_of b) s) a

-- Lay out a trial: case, selection, placement list, lent table
pub record LayoutAnswered (b : List ℕ) (s : ℕ) (l : List ℕ) (before : List LaidRecord) (o : LayoutOutcome) : Type 0 where
  pub outcome : o ≡ layout_call b s l before
  pub demand1 : Demand1 (layout_refusal b s l (length before)) o (λ n. record { answer = record { refused = n; count = 0 }; table = before })
  pub demand2 : layout_refusal b s l (length before) ≡ 0 → LayoutTold (case_of b).summary (selected (case_of b) s) (list_of l) before o

-- Verdict: case, limit, caller, that caller's tally, answer buffer
pub record VerdictAnswered (b : List ℕ) (L caller tally : ℕ) (before : List ℕ) (o : VerdictOutcome) : Type 0 where
  pub outcome : o ≡ verdict_call b L caller tally before
  pub demand1 : Demand1 (verdict_refusal b L caller tally (length before)) o (λ n. record { answer = refused_answer n; buffer = before; tally = tally })
  pub demand3 : verdict_refusal b L caller tally (length before) ≡ 0 → Demand3 b L tally before o

-- Striking out: case, limit, caller, that caller's tally, answer buffer
pub record MinimiseAnswered (b : List ℕ) (L caller tally : ℕ) (before : List ℕ) (o : MinimiseOutcome) : Type 0 where
  pub outcome : o ≡ minimise_call b L caller tally before
  pub demand1 : Demand1 (minimise_refusal b L caller tally (length before)) o (λ n. record { answer = refused_strike n; buffer = before; tally = tally })
  pub demand3 : minimise_refusal b L caller tally (length before) ≡ 0 → StruckTold b L tally before o

-- what the caller receives, of an outcome on all eight tallies
abbrev pub own_outcome : {Answer : Type 0} → ℕ → OnEight Answer → Received Answer
own_outcome caller o = record { answer = o.answer; buffer = o.buffer; tally = tally_of o.tallies caller }

-- A call that goes to its caller's tally, on all eight: `number` is its refusal or 0, `call` the outcome, `refused` a refusal's answer, and an
-- accepted call keeps `Kept`. Of the tallies the caller's own alone decides and alone may alter
pub record ChargedAnswered {Answer : Type 0} (number : ℕ) (call : OnEight Answer) (refused : ℕ → Answer) (Kept : Received Answer → Type 0) (caller : ℕ) (tallies before : List ℕ) (o : OnEight Answer) : Type 0 where
  pub outcome : o ≡ call
  pub demand1 : Demand1 number o (λ n. record { answer = refused n; buffer = before; tallies = tallies })
  pub demand3 : number ≡ 0 → Kept (own_outcome caller o)
  pub others : (i : ℕ) → (i ≡ caller → ⊥) → tally_of o.tallies i ≡ tally_of tallies i

-- Verdict: case, limit, caller, the eight tallies, answer buffer
abbrev pub TalliedAnswered : List ℕ → ℕ → ℕ → List ℕ → List ℕ → TalliedOutcome → Type 0
TalliedAnswered b L caller tallies before o =
    let t : ℕ = tally_of tallies caller in
    ChargedAnswered (verdict_refusal b L caller t (length before)) (tallied_call b L caller tallies before) refused_answer (Demand3 b L t before) caller tallies before o

-- Striking out: case, limit, caller, the eight tallies, answer buffer
abbrev pub TalliedMinimised : List ℕ → ℕ → ℕ → List ℕ → List ℕ → OnEight MinimiseAnswer → Type 0
TalliedMinimised b L caller tallies before o =
    let t : ℕ = tally_of tallies caller in
    ChargedAnswered (minimise_refusal b L caller t (length before)) (tallied_minimise b L caller tallies before) refused_strike (StruckTold b L t before) caller tallies before o

-- A tool that writes a case: its refusal has this number, or 0, and then it writes this and keeps that
pub record MoveAnswered (number : ℕ) (written : List ℕ) (Kept : CountOutcome → Type 0) (before : List ℕ) (o : CountOutcome) : Type 0 where
  pub outcome : o ≡ moved_call number written before
  pub demand1 : Demand1 number o (λ n. record { answer = record { refused = n; count = 0 }; buffer = before })
  pub moved : number ≡ 0 → Kept o

-- Old to new: case, answer buffer
abbrev pub UpgradeAnswered : List ℕ → List ℕ → CountOutcome → Type 0
UpgradeAnswered b before o = MoveAnswered (upgrade_refusal b (length before)) (upgraded b) (Upgraded b before) before o

-- New to old: case, answer buffer
abbrev pub DowngradeAnswered : List ℕ → List ℕ → CountOutcome → Type 0
DowngradeAnswered b before o = MoveAnswered (downgrade_refusal b (length before)) (downgraded b) (Downgraded b before) before o

-- One way of writing: case, answer buffer
abbrev pub NormaliseAnswered : List ℕ → List ℕ → CountOutcome → Type 0
NormaliseAnswered b before o = MoveAnswered (normalise_refusal b (length before)) (normalised b) (Normalised b before) before o
