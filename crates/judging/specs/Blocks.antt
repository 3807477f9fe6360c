-- What is worked out once a case: of the summary and the first pattern, and of each member of the set. Where a summary or a pattern has
-- fewer nodes than a table has entries, zeros follow.
use Rattle.std.specs.Prelude.{ℕ, ◌+◌, ◌*◌, [], get_or}
use Rattle.judging.specs.declared.member.Member.{Member}
use Rattle.judging.specs.declared.masks.Masks.{Masks}
use Rattle.judging.specs.Judging.{Sets}
use Rattle.judging.specs.Stepping.{Candidates}

-- tables by first-pattern node, in rows of 64, and by the summary node on which its parent stands
abbrev pub cell : ℕ → ℕ → ℕ
cell c x = 64 * c + x

-- ---- the summary and a member of the set

-- past the last member there is nothing
abbrev pub no_member : Member
no_member = record { up = []; fitting = []; closed = []; allowed = []; deep = 0; low = []; high = [] }

-- by summary node: its parent, the pattern nodes whose labels fit it, what its filled-up children offer
abbrev pub up_in : Member → ℕ → ℕ
up_in t x = get_or t.up x 0

abbrev pub fitting_in : Member → ℕ → ℕ
fitting_in t x = get_or t.fitting x 0

abbrev pub closed_set_in : Member → ℕ → ℕ
closed_set_in t x = get_or t.closed x 0

-- by holder: the pattern nodes that may stand where it holds
abbrev pub allowed_in : Member → ℕ → ℕ
allowed_in t n = get_or t.allowed n 0

-- the pattern nodes that hang by a descendant edge
abbrev pub deep_set_in : Member → ℕ
deep_set_in t = t.deep

-- by byte: the pattern nodes all of whose children among the first eight nodes, or the other eight, are in it
abbrev pub low_half_in : Member → ℕ → ℕ
low_half_in t b = get_or t.low b 0

abbrev pub high_half_in : Member → ℕ → ℕ
high_half_in t b = get_or t.high b 0

abbrev pub sets_in : Member → Sets
sets_in t =
    record { up = up_in t; fitting = fitting_in t; closed = closed_set_in t; allowed = allowed_in t; low = low_half_in t; high = high_half_in t; deep = deep_set_in t }

-- ---- the summary and the first pattern. `counts` has by cell in how many ways a node and all below it can be placed, cut at the cap

-- by summary node: its children, its descendants
abbrev pub child_in : Masks → ℕ → ℕ
child_in m x = get_or m.children x 0

abbrev pub below_in : Masks → ℕ → ℕ
below_in m x = get_or m.descendants x 0

-- by pattern node: its paths
abbrev pub part_in : Masks → ℕ → ℕ
part_in m q = get_or m.parts q 0

-- the cap
abbrev pub cap_in : Masks → ℕ
cap_in m = m.cap

-- by pattern node: the last node of its part
abbrev pub last_in : Masks → ℕ → ℕ
last_in m c = get_or m.lasts c 0

abbrev pub candidates_in : Masks → Candidates
candidates_in m = record { children = child_in m; descendants = below_in m; parts = part_in m }
