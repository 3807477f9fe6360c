-- `questions::case::front_end` meets its contract: each test is one of the definition's, in its order. Assumes nothing.
use Rattle.questions.proofs.CaseLaws.{front}
use Rattle.questions.proofs.case.front_end.Goals as goal

pub returns-then-bytes-gt-MAX_CASE_BYTES : goal.returns-then-bytes-gt-MAX_CASE_BYTES
returns-then-bytes-gt-MAX_CASE_BYTES c = search front

pub returns-then-bytes-ne0 : goal.returns-then-bytes-ne0
returns-then-bytes-ne0 c = search front

pub returns-then-fields-eq0 : goal.returns-then-fields-eq0
returns-then-fields-eq0 c = search front

pub returns-then-fields-first : goal.returns-then-fields-first
returns-then-fields-first c = search front

pub returns : goal.returns
returns c = search front
