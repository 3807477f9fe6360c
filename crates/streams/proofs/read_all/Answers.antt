use Rattle.std.proofs.Common.{rules, sym, subst}
use Rattle.std.proofs.KnownBytes.{Consumes-trans}
use Rattle.std.specs.Io.KnownBytes.{Consumes}
use Rattle.streams.proofs.ReadLaws.{take-put_mid-on}
use Rattle.streams.proofs.read_all.Goals as goal

pub loop-done-preserved : goal.loop-done-preserved
loop-done-preserved g c = record {
  within = search rules;
  taken =
      subst (Consumes _ _) (sym (take-put_mid-on _ _ _ _ _ c.loop-done.invariant.within c.in-Ok.ensures.bound.0))
      (Consumes-trans _ _ _ _ _ c.loop-done.invariant.taken c.in-Ok.ensures.bytes.0);
}
