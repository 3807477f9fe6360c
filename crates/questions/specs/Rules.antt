-- A rule that several questions share.
use Rattle.std.specs.Prelude.{ℕ, Bool, ◌&&◌, ◌||◌, leb, ltb, eqb}

-- a record's flag, strong or edge, is 0 or 1, and the root's is 0
abbrev pub flag_rule : ℕ → ℕ → Bool
flag_rule i flag = leb flag 1 && (ltb 0 i || eqb flag 0)
