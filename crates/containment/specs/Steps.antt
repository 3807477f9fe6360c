-- What stepping through the embeddings comes to, as the model's fold over them.
use Rattle.std.specs.Prelude.{ℕ, ◌-◌, ◌≤◌, ◌<◌, ◌≡◌, Bool, List, Option, Result, Ok, Err, IfSome, length, get_or, take}
use Rattle.model.specs.Pattern.{Pattern, pattern_parent}
use Rattle.model.specs.Verdict.{Progress, going, failed, halted, run}
use Rattle.std.specs.Borrow.{Bor}
use Rattle.judging.specs.declared.member.Member.{Member}
use Rattle.judging.specs.declared.masks.Masks.{Masks}
use Rattle.judging.specs.Blocks.{candidates_in, cap_in, last_in}
use Rattle.judging.specs.Prepared.{Made}
use Rattle.judging.specs.Room.{Capped}
use Rattle.judging.specs.Settling.{Lasts}
use Rattle.judging.specs.Skipping.{Counts}
use Rattle.judging.specs.Stepping.{Candidates, step_from, sites_by, all_by}
use Rattle.alternatives.specs.declared.judges.Judges.{Judges}
use Rattle.alternatives.specs.declared.table.Table.{Table}
use Rattle.alternatives.specs.Judged.{RightFor}
use Rattle.alternatives.specs.Members.{judged_by_some}
use Rattle.containment.specs.declared.Budget.{Budget}
use Rattle.containment.specs.declared.Halt.{Halt}
use Rattle.containment.specs.declared.Halt.TheVariants.{Failed, Stopped}

-- the trials that may still be made, and those made
abbrev pub going_by : Budget → Progress
going_by n = going n.left n.tried

-- the embedding that failed is what the images are left as
abbrev pub progress_of : List ℕ → Result Budget Halt → Progress
progress_of es (Ok n) = going_by n
progress_of es (Err (Failed tried)) = failed tried es
progress_of es (Err (Stopped tried)) = halted tried

-- stepping from node q on: the images of the nodes before q are kept, all images are summary nodes, and the run is the fold over the
-- extensions by the test of a whole embedding
pub record Stepped (test : List ℕ → Bool) (P : Pattern) (M : Candidates) (q : ℕ) (n : Budget) (entry exit : List ℕ) (r : Result Budget Halt) : Type 0 where
  pub kept : take q exit ≡ take q entry
  pub inside : (c : ℕ) → c < length P → get_or exit c 0 < 64
  pub same : progress_of exit r ≡ run test (going_by n) (step_from (sites_by P M) (length P - q) (take q entry))

-- what stepping takes: what judging takes is made, with where parts end and in how many ways nodes can be placed
pub record Runnable (ts : List Member) (m : Masks) (P : Pattern) : Type 0 where
  pub capped : Capped m
  pub lasts : Lasts (length P) (pattern_parent P) (last_in m)
  pub made : Made ts m P
  pub counts : Counts P (candidates_in m) m.counts (cap_in m)

-- all embeddings: all images are summary nodes, and the run is the fold over the embeddings
pub record SteppedAll (ts : List Member) (m : Masks) (P : Pattern) (limit : ℕ) (exit : List ℕ) (r : Result Budget Halt) : Type 0 where
  pub inside : (c : ℕ) → c < length P → get_or exit c 0 < 64
  pub same : progress_of exit r ≡ run (judged_by_some ts P) (going limit 0) (all_by P (candidates_in m))

-- ---- at those who judge

abbrev pub RunnableFor : Judges → Type 0
RunnableFor J = Runnable J.members.now J.masks.now J.pattern.now

-- where a table of alternatives was made, it is right
abbrev pub RightIf : Judges → Option (Bor Table) → Type 0
RightIf J table = IfSome table (λ t. RightFor J t.now)

-- what a run begins with: stepping can begin, and no more summary nodes are counted than there are
pub record Startable (J : Judges) : Type 0 where
  pub runnable : RunnableFor J
  pub nodes : J.nodes ≤ length runnable.made.summary

abbrev pub SteppedAllFor : Judges → ℕ → List ℕ → Result Budget Halt → Type 0
SteppedAllFor J limit exit r = SteppedAll J.members.now J.masks.now J.pattern.now limit exit r
