-- `striking::round::verdict_without` meets its contract: the pattern without the leaf and the set of one are an accepted case beside the
-- summary, and its verdict is the one asked for. Assumes nothing.
use Rattle.std.proofs.Common.{◌∙◌, ◌≡◌}
use Rattle.model.specs.Striking.{without}
use Rattle.striking.proofs.CaseLaws.{kept-without, few-without}
use Rattle.striking.proofs.round.verdict_without.Goals as goal

pub verdict-requires : goal.verdict-requires
verdict-requires c =
    let first : c.pattern.result ≡ without c.args.present.now c.args.q = c.pattern.ensures.0 ∙ c.without-shorter.ensures in
    let few = few-without c.requires.strikable.0 c.args.q c.requires.leaf.0 c.requires.leaf.1 in
    record {
      case_given = (rw (first, c.requires.strikable.1) (kept-without c.requires.strikable.0 c.args.q c.requires.leaf.0 c.requires.leaf.1), c.requires.strikable.0.limited);
      room = rw first few;
    }

pub returns : goal.returns
returns c =
    let first : c.pattern.result ≡ without c.args.present.now c.args.q = c.pattern.ensures.0 ∙ c.without-shorter.ensures in
    rw (first, c.requires.strikable.1) at c.verdict.ensures.answer
