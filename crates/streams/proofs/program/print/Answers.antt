-- A text is told for standard output. Assumes nothing.
use Rattle.std.proofs.Common.{rules, None}
use Rattle.streams.proofs.ReadLaws.{OnOk-first, printed-filed}
use Rattle.streams.proofs.program.print.Goals as goal

pub returns-clause-told : goal.returns-clause-told
returns-clause-told g c = λ printed k.
    OnOk-first c.file.result (g.R.Read.remaining c.args.input.now) _ (g.W.Write.contents c.args.output.now) (g.W.Write.contents c.file.new.output) None None
    (c.file.ensures.told (λ bytes. record { stream = 1; bytes = printed bytes }) (λ case out out' r h. search (rules, printed-filed)))
