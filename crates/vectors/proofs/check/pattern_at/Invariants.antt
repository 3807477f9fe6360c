use Rattle.std.proofs.Common.{◌+◌, ◌*◌, ◌≤◌}
use Rattle.vectors.proofs.check.pattern_at.Given as goal

-- a section has at most 65,535 records, so eight of them end below the bound
abbrev pub invariant-loop : goal.invariant-loop
invariant-loop l = (l.counter ≤ 9) × (l.at ≤ 530000 + 327676 * l.counter)
