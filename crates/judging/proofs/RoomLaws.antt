-- Numbers that the lent tables hold are indices into one another. Assumes nothing.
use Prim.Native.Nat.{ℕ, ◌<◌}
use mathlib.Core.Path.{◌≡◌, sym, subst}
use mathlib.Core.List.{List}
use native.Mathlib.Omega.{arith}
use lib.ListN.{length, get_or}
use Rattle.model.specs.Pattern.{Pattern, pattern_parent}
use Rattle.format.specs.Given.{PatternKept}
use Rattle.judging.specs.declared.member.Member.{Member}
use Rattle.judging.specs.Blocks.{no_member}
use Rattle.judging.specs.Room.{Judgeable, Placed, Steppable}

-- a parent comes before its children
pub parent-lt : {P : Pattern} {c j : ℕ} → PatternKept P → 0 < c → c < length P → j ≡ pattern_parent P c → j < c
parent-lt {P} {c} {j} R z h e = let l : pattern_parent P c < c = R.tree.earlier c z h in omega arith

module _ {P : Pattern} {images : List ℕ} (R : Placed P images) where
  -- a parent has an image, and an image is a summary node
  pub parent-placed : {c j : ℕ} → 0 < c → c < length P → j ≡ pattern_parent P c → j < length images
  parent-placed {c} {j} z h e =
      let l : j < c = parent-lt R.pattern z h e in
      let n : length images ≡ length P = R.placed in
      omega arith

  pub image-lt : {c b : ℕ} → c < length images → b ≡ get_or images c 0 → b < 64
  image-lt {c} h e = subst (λ (x : ℕ). x < 64) (sym e) (R.inside c (subst (λ (n : ℕ). c < n) R.placed h))

pub judge-member : {ts : List Member} {P : Pattern} {images : List ℕ} → Steppable ts P images → (i : ℕ) → i < length ts → Judgeable (get_or ts i no_member) P images
judge-member R i h = record { base = R.base.each i h; placed = R.stands.placed; inside = R.stands.inside }
