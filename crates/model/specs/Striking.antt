-- Striking out what a selection need not say (document 02, #105): the loop itself, and the refusal and whole outcome of the call.
use Rattle.std.specs.Prelude.{ℕ, zero, suc, ◌+◌, ◌-◌, Bool, true, false, ◌&&◌, not, List, [], ◌∷◌, ◌++◌, map, eqb, ltb, length, get_or}
use Rattle.std.proofs.Math.Option.{Option, none, some}
use Rattle.model.specs.Lists.{up_from, keep, all_of, total}
use Rattle.model.specs.Summary.{Summary}
use Rattle.model.specs.Pattern.{PatternRecord, Pattern, pattern_parent, position}
use Rattle.model.specs.Verdict.{Verdict, included, not_included, stopped, verdict}
use Rattle.model.specs.Bytes.{Case, case_of, encode_pattern, encode_counted, written_at_front}
use Rattle.model.specs.Questions.{minimise_refusal}
use Rattle.model.specs.Calls.{Received, OnEight, tally_of, charged}

-- a list without its element q
unfoldable pub removed : {A : Type 0} → ℕ → List A → List A
removed q [] = []
removed zero (x ∷ xs) = xs
removed (suc q) (x ∷ xs) = x ∷ removed q xs

-- the number that node i has when node q is gone
abbrev pub lowered : ℕ → ℕ → ℕ
lowered q i = elim (ltb q i) [ true ↦ i - 1 | false ↦ i ]

-- and the number that what is now node i had while node q was there
abbrev pub raised : ℕ → ℕ → ℕ
raised q i = elim (ltb i q) [ true ↦ i | false ↦ suc i ]

abbrev pub relinked : ℕ → PatternRecord → PatternRecord
relinked q r = record { parent = lowered q r.parent; label = r.label; edge = r.edge; position = r.position; figure = r.figure }

-- the selection without node q: records in their old order, parents renumbered
unfoldable pub without : Pattern → ℕ → Pattern
without P q = map (relinked q) (removed q P)

-- no node has q as its parent
unfoldable pub childless : Pattern → ℕ → Bool
childless P q = all_of (λ i. not (eqb (pattern_parent P i) q)) (up_from 0 (length P))

-- a leaf without a position, root excepted
unfoldable pub may_go : Pattern → ℕ → Bool
may_go P q = ltb 0 q && eqb (position P q) 0 && childless P q

-- those of the present selection, lowest number first
abbrev pub may_go_of : Pattern → List ℕ
may_go_of P = keep (may_go P) (up_from 0 (length P))

-- the verdict that decides on leaf q: is the selection without it included in the present one, a set of one, within the limit?
abbrev pub verdict_without : Summary → ℕ → Pattern → ℕ → Verdict
verdict_without S L P q = verdict S (without P q) (P ∷ []) L

-- a round: the leaf that it strikes, if any, and tried of each verdict that it makes, in their order
pub record Round : Type 0 where
  pub struck : Option ℕ
  pub tried : List ℕ

-- leaf q has this verdict: "included" strikes it and ends the round, the others keep it, and the round goes on
unfoldable pub judged : ℕ → Verdict → Round → Round
judged q (included n) rest = record { struck = some q; tried = n ∷ [] }
judged q (not_included n es) rest = record { struck = rest.struck; tried = n ∷ rest.tried }
judged q (stopped n) rest = record { struck = rest.struck; tried = n ∷ rest.tried }

-- the leaves in turn, up to the first that is struck
unfoldable pub round : (ℕ → Verdict) → List ℕ → Round
round verdict_on [] = record { struck = none; tried = [] }
round verdict_on (q ∷ qs) = judged q (verdict_on q) (round verdict_on qs)

-- what striking comes to: the shortened selection, the struck leaves in striking order, each by its number in the selection as given, and
-- tried of each verdict made
pub record Struck : Type 0 where
  pub pattern : Pattern
  pub struck : List ℕ
  pub tried : List ℕ

-- leaf `name` was struck by a round that tried ns; then the rest
abbrev pub also_struck : ℕ → List ℕ → Struck → Struck
also_struck name ns rest = record { pattern = rest.pattern; struck = name ∷ rest.struck; tried = ns ++ rest.tried }

-- from the present selection P, whose nodes were numbered `names` as given: a round that strikes a leaf, and from the start again; until one
-- strikes none. At most n rounds
unfoldable pub strike_from : ℕ → Summary → ℕ → Pattern → List ℕ → Struck
strike_from zero S L P names = record { pattern = P; struck = []; tried = [] }
strike_from (suc n) S L P names =
    let r : Round = round (verdict_without S L P) (may_go_of P) in
    elim r.struck [
      | none ↦ record { pattern = P; struck = []; tried = r.tried }
      | some q ↦ also_struck (get_or names q 0) r.tried (strike_from n S L (without P q) (removed q names))
    ]

-- of a selection: one of n nodes has at most n - 1 to strike, since the root stays, so n rounds are enough
unfoldable pub strike_all : Summary → ℕ → Pattern → Struck
strike_all S L P = strike_from (length P) S L P (up_from 0 (length P))

-- ---- the call

-- its answer: the refusal's number or 0, how many leaves were struck, and the sum of tried over all verdicts made
pub record MinimiseAnswer : Type 0 where
  pub refused : ℕ
  pub struck : ℕ
  pub tried : ℕ

abbrev pub refused_strike : ℕ → MinimiseAnswer
refused_strike number = record { refused = number; struck = 0; tried = 0 }

abbrev pub MinimiseOutcome : Type 0
MinimiseOutcome = Received MinimiseAnswer

-- what goes to the buffer's front: the shortened selection's section, then a count and the struck numbers
abbrev pub struck_bytes : Struck → List ℕ
struck_bytes s = encode_pattern s.pattern ++ encode_counted s.struck

-- the outcome of an accepted call that comes to s
abbrev pub struck_outcome : Struck → ℕ → List ℕ → MinimiseOutcome
struck_outcome s tally buffer =
    record {
      answer = record { refused = 0; struck = length s.struck; tried = total s.tried };
      buffer = written_at_front (struck_bytes s) buffer;
      tally = tally + total s.tried;
    }

-- the set is asked about and not used
unfoldable pub minimise_accepted : Case → ℕ → ℕ → List ℕ → MinimiseOutcome
minimise_accepted c L tally buffer = struck_outcome (strike_all c.summary L c.first) tally buffer

unfoldable pub minimise_refused : ℕ → ℕ → List ℕ → MinimiseOutcome
minimise_refused number tally buffer = record { answer = refused_strike number; buffer = buffer; tally = tally }

-- Striking out: case, limit, caller, that caller's tally, answer buffer
unfoldable pub minimise_call : List ℕ → ℕ → ℕ → ℕ → List ℕ → MinimiseOutcome
minimise_call b L caller tally buffer =
    let number : ℕ = minimise_refusal b L caller tally (length buffer) in
    elim (eqb number 0) [ true ↦ minimise_accepted (case_of b) L tally buffer | false ↦ minimise_refused number tally buffer ]

-- Striking out: case, limit, caller, the eight tallies, answer buffer
unfoldable pub tallied_minimise : List ℕ → ℕ → ℕ → List ℕ → List ℕ → OnEight MinimiseAnswer
tallied_minimise b L caller tallies buffer = charged tallies caller (minimise_call b L caller (tally_of tallies caller) buffer)
