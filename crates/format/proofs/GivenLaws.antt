-- What the questions establish of an accepted call's bytes gives what the readers of its tables ask for. Assumes nothing.
use Prim.Native.Nat.{ℕ, ◌*◌, ◌<◌}
use mathlib.Core.Path.{◌≡◌, subst}
use mathlib.Core.Bool.{true}
use mathlib.Core.List.{List, []}
use native.Mathlib.Omega.{arith}
use lib.ListN.{length, get_or}
use borrow.Author.Tests.{eqb-true}
use Rattle.model.specs.Limits.{document_width}
use Rattle.model.specs.Bytes.{first_at, set_at, member_at, set_of, section_end, case_of, document_of, WholeSection, is_whole_document}
use Rattle.model.specs.Facts.{MemberFacts, DocumentFacts, AcceptedCase}
use Rattle.model.proofs.ListLaws.{mem-at}
use Rattle.format.specs.Given.{pattern_at, SummaryGiven, PatternGiven, SetGiven, DocumentGiven, SummaryKept, PatternKept, SetKept, DocumentKept}
use Rattle.format.proofs.SectionLaws.{set_below, set-member}

-- ---- accepted bytes

pub given-summary : {b : List ℕ} → AcceptedCase b → SummaryGiven b
given-summary A = record { whole = A.whole.summary; tree = A.facts.summary.tree; few = A.facts.summary_size }

pub given-first : {b : List ℕ} → AcceptedCase b → PatternGiven b (first_at b)
unfolding case_of
given-first A = record { whole = A.whole.first; tree = A.facts.first.tree; few = A.facts.first_size }

-- of each member, by the field that holds its count
pub member-facts : {b : List ℕ} → AcceptedCase b → (i : ℕ) → i < length (set_of b (set_at b)) → MemberFacts (case_of b).first (pattern_at b (member_at b (set_at b) i))
unfolding case_of
member-facts {b} A i h =
    subst (MemberFacts (case_of b).first) (set-member b (set_at b) i h) (A.facts.members (get_or (set_of b (set_at b)) i []) (mem-at (set_of b (set_at b)) i [] h))

pub given-set : {b : List ℕ} → AcceptedCase b → SetGiven b (set_at b)
unfolding case_of
given-set {b} A =
    record {
      whole = A.whole.members;
      few = A.facts.few_members;
      members = λ i h. (let m : MemberFacts (case_of b).first (pattern_at b (member_at b (set_at b) i)) = member-facts A i h in
          record { whole = A.whole.members.sections i (set_below b (set_at b) i h); tree = m.pattern.tree; few = m.size });
    }

pub whole-document : (w : List ℕ) → is_whole_document w ≡ true → WholeSection document_width w 0
unfolding is_whole_document
whole-document w e =
    let p = eqb-true (length w) (2 * section_end document_width w 0) e in
    record { count = omega arith; records = omega arith }

pub given-document : {w : List ℕ} → DocumentFacts w → DocumentGiven w
given-document {w} D = record { whole = whole-document w D.whole; tree = D.tree; few = D.size }

-- ---- the same of the values that are read off them

pub kept-summary : {b : List ℕ} → AcceptedCase b → SummaryKept (case_of b).summary
kept-summary A = record { tree = A.facts.summary.tree; few = A.facts.summary_size }

pub kept-first : {b : List ℕ} → AcceptedCase b → PatternKept (case_of b).first
kept-first A = record { tree = A.facts.first.tree; few = A.facts.first_size }

pub kept-set : {b : List ℕ} → AcceptedCase b → SetKept (case_of b).members
kept-set {b} A =
    record {
      few = A.facts.few_members;
      members = λ i h. (let m = A.facts.members (get_or (case_of b).members i []) (mem-at (case_of b).members i [] h) in record { tree = m.pattern.tree; few = m.size });
    }

pub kept-document : {w : List ℕ} → DocumentFacts w → DocumentKept (document_of w)
kept-document D = record { tree = D.tree; few = D.size }
