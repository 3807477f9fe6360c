-- `cover::lists::Offers::some_inside` meets its contract: a set that passes the test is inside a. Assumes nothing.
use Rattle.std.proofs.Common.{rules, tests, sym, ◌∙◌}
use Rattle.std.proofs.lemmas.Iterator.{YieldsList-from_slice}
use Rattle.std.proofs.lemmas.Iterator.Search.{any_from_yields_List}
use Rattle.cover.specs.Cover.{inside_by}
use Rattle.cover.proofs.CoverLaws.{covers-any}
use Rattle.cover.proofs.lists.Offers.some_inside.Goals as goal

pub returns : goal.returns
returns c e n f =
    covers-any c.args.self.now c.args.a.now
    (sym (any_from_yields_List (λ b. inside_by b c.args.a.now) _ _ c.any.result c.any.ensures.ran (YieldsList-from_slice c.args.self.now cc) (λ x b q k. search (rules, tests))) ∙ e)
