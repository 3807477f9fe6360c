-- A text put on a page: there is room for it; where it ends, and the whole slice afterwards. And a text printed at a buffer's front.
use Rattle.std.specs.Prelude.{ℕ, ◌+◌, ◌≤◌, ◌≡◌, List, length}
use Rattle.std.proofs.Math.Seq.{paste}
use Rattle.model.specs.Bytes.{written_at_front}
use Rattle.text.specs.declared.page.Page.{Page}

pub record Room (text : List ℕ) (page : Page) : Type 0 where
  pub fits : page.at + length text ≤ length page.out.now

-- the page is the same lent slice
pub record Put (text : List ℕ) (before after : Page) : Type 0 where
  pub same : after.out.ghost_name ≡ before.out.ghost_name
  pub ends : after.at ≡ before.at + length text
  pub buffer : after.out.now ≡ paste before.out.now before.at text (length text)

-- the whole buffer afterwards, and how many of its bytes are text
pub record Printed (text before after : List ℕ) (count : ℕ) : Type 0 where
  pub bytes : after ≡ written_at_front text before
  pub counted : count ≡ length text
  pub fits : count ≤ length after
