-- `fitting::fits` meets its contract: the tables' laws say what the three tests of fitting say. Assumes nothing.
use mathlib.Core.Path.{ap, subst, ◌∙◌}
use lib.ListN.{length}
use Rattle.model.specs.Summary.{Summary}
use Rattle.model.specs.Fitting.{fits as fits_of}
use Rattle.fitting.specs.Steps.{OnPaths}
use Rattle.fitting.proofs.FitLaws.{not-inside, all-inside}
use Rattle.fitting.proofs.fits.Goals as goal

pub returns-in_default : goal.returns-in_default
returns-in_default c = not-inside _ _ c.requires.tree c.in_default.ensures ∙ ap (λ (S : Summary). fits_of S c.args.w.now) c.summary.ensures.0

pub returns : goal.returns
returns c =
    let W = c.args.w.now in
    let on = subst (λ (S : Summary). OnPaths S W c.in-Some.path (length W)) c.summary.ensures.0 c.in-Some.ensures in
    all-inside _ _ c.requires.tree c.summary.ensures.1.few on c.child_paths-kids.ensures c.all_kept.ensures
