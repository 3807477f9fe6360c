-- What striking comes to, as the code leaves it.
use Rattle.std.specs.Prelude.{◌≡◌}
use Rattle.model.specs.Lists.{total}
use Rattle.model.specs.Pattern.{Pattern}
use Rattle.model.specs.Striking.{Struck}
use Rattle.striking.specs.declared.strike.Strikes.{Strikes}

-- the shortened pattern, the struck numbers and how many were tried
pub record StruckBy (s : Struck) (present : Pattern) (r : Strikes) : Type 0 where
  pub pattern : present ≡ s.pattern
  pub struck : r.struck ≡ s.struck
  pub tried : r.tried ≡ total s.tried
