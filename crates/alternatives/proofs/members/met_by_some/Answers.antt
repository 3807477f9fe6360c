-- `alternatives::members::met_by_some` meets its contract: the root of some member says yes. Assumes nothing.
use Rattle.std.proofs.Common.{arith, rules, tests, ◌∙◌}
use Rattle.std.proofs.lemmas.Iterator.{YieldsList-from_slice, YieldsList-from_zip}
use Rattle.std.proofs.lemmas.Iterator.Search.{any_from_yields_List}
use Rattle.alternatives.proofs.JoinLaws.{pair_met, pairs-met}
use Rattle.alternatives.proofs.members.met_by_some.Goals as goal

pub returns : goal.returns
returns c =
    let ts = c.args.t.now in
    let a = c.args.a.now in
    any_from_yields_List pair_met c.any.new.self _ c.any.result c.any.ensures.ran
    (YieldsList-from_zip {s = c.zip.result} (YieldsList-from_slice ts cc) (YieldsList-from_slice a cc)) (λ x t q k. search (rules, tests))
    ∙ pairs-met ts a (omega (arith, c.told-a, c.requires))
