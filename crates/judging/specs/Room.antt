-- What keeps every access inside: numbers in the tables are indices into one another, and counts multiply in 64 bits.
use Rattle.std.specs.Prelude.{ℕ, ◌≤◌, ◌<◌, ◌≡◌, List, length, get_or}
use Rattle.model.specs.Limits.{max_members}
use Rattle.model.specs.Tree.{Rooted}
use Rattle.model.specs.Summary.{Summary}
use Rattle.model.specs.Pattern.{Pattern}
use Rattle.format.specs.Given.{PatternKept}
use Rattle.judging.specs.declared.member.Member.{Member}
use Rattle.judging.specs.declared.masks.Masks.{Masks}
use Rattle.judging.specs.Blocks.{no_member, up_in, cap_in}
use Rattle.judging.specs.Sets.{parent_of}

-- what is known of a member, with the summary's parents, and the first pattern
pub record Climbable (t : Member) (P : Pattern) : Type 0 where
  pub tree : Rooted 64 (up_in t)
  pub pattern : PatternKept P

-- and images of its nodes
pub record Judgeable (t : Member) (P : Pattern) (images : List ℕ) : Type 0 where
  pub base : Climbable t P
  pub placed : length images ≡ length P
  pub inside : (c : ℕ) → c < length P → get_or images c 0 < 64

-- of few enough members, and the first pattern
pub record MembersGiven (ts : List Member) (P : Pattern) : Type 0 where
  pub few : length ts ≤ max_members
  pub each : (i : ℕ) → i < length ts → Climbable (get_or ts i no_member) P

-- the first pattern with images of its nodes
pub record Placed (P : Pattern) (images : List ℕ) : Type 0 where
  pub pattern : PatternKept P
  pub placed : length images ≡ length P
  pub inside : (c : ℕ) → c < length P → get_or images c 0 < 64

-- with the members
pub record Steppable (ts : List Member) (P : Pattern) (images : List ℕ) : Type 0 where
  pub base : MembersGiven ts P
  pub stands : Placed P images

-- counts by cells, none above the cap
pub record Capped (m : Masks) : Type 0 where
  pub some : 0 < cap_in m
  pub small : cap_in m < 4_294_967_296
  pub bounded : (i : ℕ) → i < 1024 → get_or m.counts i 0 ≤ cap_in m

-- with the summary's parents, and the first pattern
pub record Widenable (m : Masks) (S : Summary) (P : Pattern) : Type 0 where
  pub counts : Capped m
  pub tree : Rooted 64 (parent_of S)
  pub pattern : PatternKept P

-- the first pattern with images of its nodes, and counts for those that are not placed
pub record Countable (m : Masks) (P : Pattern) (images : List ℕ) : Type 0 where
  pub counts : Capped m
  pub stands : Placed P images
