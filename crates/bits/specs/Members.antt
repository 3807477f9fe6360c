-- What an iterator over a set's members has left.
use Rattle.std.specs.Prelude.{ℕ, List}
use Rattle.model.specs.Lists.{members}
use Rattle.bits.specs.declared.Members.{Members}

-- the members that are still to come
abbrev pub members_left : Members → List ℕ
members_left s = members s.0
