-- What was read is told, and what is told is written. Assumes nothing.
use Rattle.std.proofs.Common.{ℕ, List, arith}
use Rattle.streams.specs.Sent.{Sent}
use Rattle.streams.proofs.ReadLaws.{OnOk-read, OnOk-told}
use Rattle.streams.proofs.program.file.Goals as goal

pub returns-in-Ok-clause-told : goal.returns-in-Ok-clause-told
returns-in-Ok-clause-told g c = λ told k.
    let S = λ (stream : ℕ) (bytes : List ℕ). Sent stream bytes (g.W.Write.contents c.args.output.now) (g.W.Write.contents c.write_to.new.output)
    (g.E.Write.contents c.args.errors.now) (g.E.Write.contents c.write_to.new.errors) in
    OnOk-read c.write_to.result (λ bytes. S (told bytes).stream (told bytes).bytes) (g.R.Read.remaining c.args.input.now) _ _ 65537 (omega arith)
    c.in_ok-count.ensures.whole (OnOk-told _ S (rw c.in-Ok.is at (k _ _ _ _ c.tell-told.ensures)) (rw c.as_slice-text.ensures at c.write_to.ensures.ok))

pub returns-clause-told : goal.returns-clause-told
returns-clause-told g c = λ told k.
    let S = λ (stream : ℕ) (bytes : List ℕ). Sent stream bytes (g.W.Write.contents c.args.output.now) (g.W.Write.contents c.write_to-in-Err.new.output)
    (g.E.Write.contents c.args.errors.now) (g.E.Write.contents c.write_to-in-Err.new.errors) in
    OnOk-read c.write_to-in-Err.result (λ bytes. S (told bytes).stream (told bytes).bytes) (g.R.Read.remaining c.args.input.now) _ _ 65537 (omega arith)
    c.in_ok-count.ensures.whole (OnOk-told _ S (rw c.in-Err.is at (k _ _ _ _ c.tell-told.ensures)) (rw c.as_slice-text.ensures at c.write_to-in-Err.ensures.ok))
